use Rattle.std.proofs.Common.{◌≡◌, Bor, List, ℕ, drop, map}
use Rattle.std.specs.List.{position_from}
use Rattle.std.specs.Str.{bytes_eq}
use Rattle.csv_ingest.proofs.wanted.index_of.Given as goal

abbrev pub invariant-loop-i : goal.invariant-loop-i
invariant-loop-i l =
    position_from (bytes_eq l.topic) 0 (map (λ (name : Bor (List ℕ)). name.now) l.names)
    ≡ position_from (bytes_eq l.topic) l.i (drop l.i (map (λ (name : Bor (List ℕ)). name.now) l.names))
