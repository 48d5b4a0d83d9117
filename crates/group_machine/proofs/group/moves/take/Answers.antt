use Rattle.std.proofs.Common.{None, length}
use Rattle.std.proofs.lemmas.List.FromFn.{fill_by_all}
use Rattle.group_machine.specs.Private.Walks.{taken_by}
use Rattle.group_machine.proofs.group.moves.take.Goals as goal

pub returns : goal.returns
returns c = fill_by_all (taken_by c.args.member c.args.granted.now c.args.last.now) c.take_added.new.takers (length c.args.last.now) None c.take_added.ensures.len c.take_added.ensures.value
