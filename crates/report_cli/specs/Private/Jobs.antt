-- A job on its way.
use Rattle.std.specs.Prelude.{Bool, Result}
use Rattle.lane_words.specs.declared.Refusal.{Refusal}
use Rattle.command_line.specs.Options.{AreInRange, IsCheckInRange, IsPlaceInRange}
use Rattle.command_line.specs.declared.words.Job.{Job}
use Rattle.command_line.specs.declared.words.Job.TheVariants.{Count, Place, Check, Replay, Trace, Draw, Run, Explain}
use Rattle.report_cli.specs.Files.{Files}
use Rattle.report_cli.specs.Input.{HasNoCode}
use Rattle.report_cli.specs.Program.{Change, HasAnswer}

-- the options of a job are within their bounds
abbrev pub IsJobInRange : Job → Type 0
IsJobInRange (Count file options) = AreInRange options
IsJobInRange (Place file options place) = AreInRange options × IsPlaceInRange place
IsJobInRange (Check file script options check) = AreInRange options × IsCheckInRange check
IsJobInRange (Replay file script options) = AreInRange options
IsJobInRange (Trace file script options) = AreInRange options
IsJobInRange (Draw file script options) = AreInRange options
IsJobInRange (Run file script options) = AreInRange options
IsJobInRange (Explain code) = Unit {0}

-- a job has this answer, and explains no number that no refusal has
abbrev pub IsDone : Files → Job → Change → Result Bool Refusal → Type 0
IsDone files job out answer = (HasNoCode job → ⊥) × HasAnswer files job out answer
