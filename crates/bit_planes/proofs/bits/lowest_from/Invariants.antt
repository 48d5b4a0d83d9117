use Rattle.std.proofs.Common.{◌≤◌, ◌*◌}
use Rattle.bit_planes.proofs.Words.{AreClearTo}
use Rattle.bit_planes.proofs.bits.lowest_from.Given as goal

abbrev pub invariant-loop-i : goal.invariant-loop-i
invariant-loop-i l = record { not_below : l.from ≤ 64 * l.i; before : AreClearTo l.words l.from (64 * l.i) }
