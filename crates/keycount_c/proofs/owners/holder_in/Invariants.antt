use Rattle.std.proofs.Common.{◌≡◌, drop, find}
use Rattle.bit_planes.specs.PartitionSet.{is_in}
use Rattle.bit_planes.specs.SetRows.{set_of}
use Rattle.keycount_c.proofs.owners.holder_in.Given as goal

abbrev pub invariant-loop-i : goal.invariant-loop-i
invariant-loop-i l = find (λ m. is_in (set_of l.rows m) l.q) l.members ≡ find (λ m. is_in (set_of l.rows m) l.q) (drop l.i l.members)
