-- A timeline: what a replay shows, column by column and partition by partition.
use Rattle.std.specs.Prelude.{ℕ, List, [], slice_index_or}
use Rattle.timeline.specs.declared.parts.Column.{Column}
use Rattle.timeline.specs.declared.parts.Figures.{Figures}
use Rattle.timeline.specs.declared.parts.Sent.{Sent}
use Rattle.timeline.specs.declared.parts.Span.{Span}

-- The steps that show, in order; the course of each partition, which is a list of spans; the name
-- of each member that ever joined, and the commits that were sent, in the order of their numbers;
-- and the sums of all
pub record TimelineState : Type 0 where
  pub columns : List Column
  pub lanes : List (List Span)
  pub names : List (List ℕ)
  pub commits : List Sent
  pub figures : Figures

-- the course of a partition
abbrev pub course_of : List (List Span) → ℕ → List Span
course_of lanes p = slice_index_or lanes p []
