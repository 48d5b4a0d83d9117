-- The texts of a row's cells.
use Rattle.std.specs.Prelude.{◌≡◌, List, drop, filter, map, not}
use Rattle.group_machine.specs.State.{is_joined, members}
use Rattle.partitioner.specs.declared.topic.Topic.{Topic}
use Rattle.replay_steps.specs.Steps.{name_of_member}
use Rattle.trace_report.specs.Cells.{waiting_cell}
use Rattle.trace_report.specs.Sets.{each_after, granted_cell, unread_cell}
use Rattle.trace_report.specs.declared.rows.Texts.{Texts}
use Rattle.world.specs.World.{WorldState}

-- without the characters before them, they are the cells of this world
pub record AreTextsOf (topics : List Topic) (w : WorldState) (texts : Texts) : Type 0 where
  pub waiting : drop 1 texts.waiting.items ≡ waiting_cell w
  pub granted : drop 1 texts.granted.items ≡ granted_cell topics w
  pub unread : drop 1 texts.unread.items ≡ unread_cell topics w
