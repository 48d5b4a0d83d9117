use Rattle.std.proofs.Common.{◌≡◌, ◌++◌, take}
use Rattle.timeline_svg.specs.Markup.{markup}
use Rattle.timeline_svg.proofs.pieces.put.Given as goal

abbrev pub invariant-loop-piece : goal.invariant-loop-piece
invariant-loop-piece l = l.out.items ≡ l.initial.out.items ++ markup (take l.piece-index l.pieces)
