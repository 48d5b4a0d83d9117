-- Key numbers with their counts, as they are ranked.
use Rattle.std.specs.Prelude.{◌≡◌, ℕ, List, length, map}
use Rattle.std.specs.List.{zip}
use Rattle.std.specs.declared.cmp.Reverse.{Reverse}
use Rattle.partition_log.specs.Keys.{Key, key_at}
use Rattle.report_rows.specs.CountRows.{ranked_by}

-- a key number behind its count, by which it is ranked
abbrev pub Numbered : Type 0
Numbered = Reverse ℕ × ℕ

-- the key of a number, with its count
abbrev pub named : List Key → Numbered → Key × ℕ
named keys numbered = (key_at keys numbered.1, numbered.0.0)

-- these are the key numbers by count: whatever the keys are, they name the keys by count
abbrev pub AreRanked : List ℕ → List Numbered → Type 0
AreRanked counts ranked = (keys : List Key) → length keys ≡ length counts
    → map (named keys) ranked ≡ ranked_by (λ counted. counted.1) (zip keys counts)
