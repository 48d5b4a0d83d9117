use Rattle.std.proofs.Common.{◌≡◌, take}
use Rattle.keycount_c.specs.Owners.{rows_in}
use Rattle.keycount_c.proofs.owners.rows_in.Given as goal

abbrev pub invariant-loop-i : goal.invariant-loop-i
invariant-loop-i l = l.rows ≡ rows_in (take l.i l.members) l.owners
