-- The timeline of the steps so far, and of all.
use Rattle.std.specs.Prelude.{ℕ, ◌==◌, ◌&&◌, ◌||◌, Bool, true, false, List, [], ◌∷◌, ◌++◌, Option, Some, None, fold, is_some, length, replicate, if◌then◌else◌}
use Rattle.group_machine.specs.Cluster.{ClusterState}
use Rattle.replay_steps.specs.Lines.{world_after}
use Rattle.replay_steps.specs.Steps.{StepTaken}
use Rattle.replay_steps.specs.declared.step.StepEvent.{StepEvent}
use Rattle.replay_steps.specs.declared.step.StepEvent.TheVariants as what
use Rattle.report_rows.specs.ReplayRows.{appended_total, committed_total}
use Rattle.timeline.specs.Timelines.{TimelineState}
use Rattle.timeline.specs.declared.parts.Column.{Column}
use Rattle.timeline.specs.declared.parts.Figures.{Figures}
use Rattle.timeline.specs.declared.parts.Mark.{Mark}
use Rattle.timeline.specs.declared.parts.Mark.TheVariants as mark
use Rattle.timeline.specs.declared.parts.Sent.{Sent}
use Rattle.timeline.specs.declared.parts.Span.{Span}
use Rattle.timeline_recorder.specs.Courses.{extended_courses, is_changed}
use Rattle.timeline_recorder.specs.Marks.{counted_by, joined_by, mark_of, sent_in}
use Rattle.timeline_recorder.specs.Reads.{read_again}
use Rattle.world.specs.World.{WorldState}

-- What the steps so far have shown: the parts of a timeline, and the generation and the number of
-- counted records after them
pub record Recording : Type 0 where
  pub columns : List Column
  pub lanes : List (List Span)
  pub names : List (List ℕ)
  pub commits : List Sent
  pub generation : ℕ
  pub counted : ℕ

-- before the first step, of this many partitions
abbrev pub opening_recording : ℕ → Recording
opening_recording partitions = record {
  columns = [];
  lanes = replicate partitions [];
  names = [];
  commits = [];
  generation = 0;
  counted = 0;
}

-- an event after which a partition may have another owner or reader. The others leave the group
-- and what present members' consumers hold as they are
abbrev pub may_move : StepEvent → Bool
may_move what.Join = true
may_move what.Keep = true
may_move what.Return = true
may_move what.Rejoin = true
may_move what.Sync = true
may_move what.Leave = true
may_move what.Lose = true
may_move other = false

-- the holders are looked at in the first step, and where they may change
abbrev pub is_watched : Recording → StepTaken → Bool
is_watched r step = (length r.columns == 0) || may_move step.event

abbrev pub generation_begun : ℕ → ℕ → Option ℕ
generation_begun before now = if before == now then None else Some now

abbrev pub is_marked : Mark → Bool
is_marked mark.Empty = false
is_marked other = true

-- the column of a step
abbrev pub column_of : ℕ → ℕ → StepTaken → Column
column_of generation counted step = record {
  line = step.line;
  step = step.number;
  generation = generation_begun generation step.after.cluster.group.generation;
  mark = mark_of counted step;
}

-- A step has a column if a holder changes in it, if a generation begins in it, if it has a mark, or
-- if it is the first of its line
abbrev pub is_shown : Bool → Column → Bool
is_shown changed column =
    changed || (column.step == 1) || is_some column.generation || is_marked column.mark

abbrev pub column_if : Bool → Column → List Column
column_if changed column = if is_shown changed column then column ∷ [] else []

-- one more step
unfoldable pub recorded : Recording → StepTaken → Recording
recorded r step = record {
  columns =
      r.columns
      ++ column_if (is_watched r step && is_changed step.after r.lanes)
      (column_of r.generation r.counted step);
  lanes =
      if is_watched r step then extended_courses (length r.columns) step.after r.lanes
      else r.lanes;
  names = r.names ++ joined_by step.name step.reply;
  commits = r.commits ++ sent_in (length r.columns) step;
  generation = step.after.cluster.group.generation;
  counted = counted_by r.counted step step.event;
}

-- the sums of a timeline with these columns, in the cluster after its last step
abbrev pub figures_of : List Column → ℕ → ClusterState → Figures
figures_of columns partitions s = record {
  read_again = read_again partitions columns;
  counted = committed_total s;
  appended = appended_total s;
  moves = length s.group.moves;
}

-- the timeline of what was recorded, in the cluster after the last step
abbrev pub finished : Recording → ClusterState → TimelineState
finished r s = record {
  columns = r.columns;
  lanes = r.lanes;
  names = r.names;
  commits = r.commits;
  figures = figures_of r.columns (length r.lanes) s;
}

-- the timeline of these steps, which begin in a world
unfoldable pub timeline_of : WorldState → List StepTaken → TimelineState
timeline_of w steps =
    finished (fold recorded (opening_recording w.cluster.group.partitions) steps)
    (world_after w steps).cluster
