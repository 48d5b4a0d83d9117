use Rattle.std.proofs.Common.{◌≡◌, ℕ, ◌<◌, ◌≤◌, length}
use Rattle.std.specs.Prelude.{slice_index_or}
use Rattle.keycount_c.specs.Owners.{holder_in}
use Rattle.keycount_c.proofs.owners.put_holders.Given as goal

abbrev pub invariant-loop-q : goal.invariant-loop-q
invariant-loop-q l = record {
  len : length l.out ≡ length l.fn.out;
  held : (k : ℕ) → k < l.q → slice_index_or l.out k 0 ≡ holder_in l.rows l.members k;
  rest : (k : ℕ) → l.q ≤ k → slice_index_or l.out k 0 ≡ slice_index_or l.fn.out k 0;
}
