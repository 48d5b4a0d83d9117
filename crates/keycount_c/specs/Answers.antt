-- What a call returns to C, and what it writes.
use Rattle.std.specs.Prelude.{ℕ, Bool, true, false, Result, Ok, Err}
use Rattle.lane_words.specs.declared.Refusal.{Refusal}
use Rattle.lane_words.specs.declared.Refusal.TheVariants as r
use Rattle.lane_words.specs.Refusal.{code_of}
use Rattle.group_machine.specs.declared.group.Phase.{Phase}
use Rattle.group_machine.specs.declared.group.Phase.TheVariants.{Empty, Preparing, Stable}
use Rattle.group_machine.specs.declared.cluster.next_step.NextStep.{NextStep}
use Rattle.group_machine.specs.declared.cluster.next_step.NextStep.TheVariants as step
use Rattle.keycount_c.specs.declared.answers.TheConstants.{DONE}

-- the number of an answer: 0, or that of the refusal
abbrev pub number_of : {V : Type 0} → Result V Refusal → ℕ
number_of (Ok value) = DONE
number_of (Err refusal) = code_of refusal

-- an output after a call: what was answered, or as it was
abbrev pub value_of : {V : Type 0} → Result V Refusal → V → V
value_of (Ok value) out = value
value_of (Err refusal) out = out

-- the committed offset after a commit: also that of which a mismatch tells
abbrev pub offset_of : Result ℕ Refusal → ℕ → ℕ
offset_of (Ok committed) out = committed
offset_of (Err (r.OffsetMismatch committed)) out = committed
offset_of (Err refusal) out = out

-- the number of a phase
abbrev pub number_of_phase : Phase → ℕ
number_of_phase Empty = 0
number_of_phase Preparing = 1
number_of_phase Stable = 2

-- the number of what a member does next
abbrev pub number_of_step : NextStep → ℕ
number_of_step step.Sync = 0
number_of_step step.Rejoin = 1
number_of_step step.Read = 2

-- 1 for true, 0 for false
abbrev pub number_of_truth : Bool → ℕ
number_of_truth true = 1
number_of_truth false = 0
