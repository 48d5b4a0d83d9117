use Rattle.std.proofs.Common.{◌∙◌, ap, None, slice_index_or}
use Rattle.std.specs.Option.{option_map}
use Rattle.group_machine.specs.Moves.{move_of}
use Rattle.group_machine.proofs.MovesLemmas.{moves_more, moves_same}
use Rattle.group_machine.proofs.group.moves.moves_of.Goals as goal
use Rattle.group_machine.proofs.group.moves.moves_of.Goals.{in-Some+in_ok-push, in_default}

pub loop-partition-preserved : goal.loop-partition-preserved
loop-partition-preserved c =
    let at = c.loop-partition.partition in
    let last = slice_index_or c.args.last.now at None in
    elim c.match-taker.branch [
      | in-Some+in_ok-push w ↦
          ap (λ v. v.items) w.moves-is ∙ w.in_ok-push.ensures.items
          ∙ moves_more _ c.loop-partition.moves.items at _ c.loop-partition.invariant (ap (option_map (move_of c.args.generation at last)) w.in-Some.is)
      | in_default w ↦
          ap (λ v. v.items) w.moves-is
          ∙ moves_same _ c.loop-partition.moves.items at c.loop-partition.invariant (ap (option_map (move_of c.args.generation at last)) w.in_default.is)
    ]
