use Rattle.std.proofs.Common.{◌≡◌}
use Rattle.std.specs.List.{list_all}
use Rattle.group_machine.specs.State.{is_synced, members}
use Rattle.world.proofs.world.World.has_everybody_synced.Given as goal

abbrev pub invariant-loop-member : goal.invariant-loop-member
invariant-loop-member l = list_all (is_synced l.fn.self.cluster.group) (members l.fn.self.cluster.group) ≡ list_all (is_synced l.fn.self.cluster.group) l.member-iterator
