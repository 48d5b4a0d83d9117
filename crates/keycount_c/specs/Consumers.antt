-- The forms of a call on the consumer behind a handle, as those of a cluster (Calls.antt).
use Rattle.std.specs.Prelude.{◌≡◌, ℕ, ◌==◌, ◌⊎◌, Option, None, Some, Result, Ok, Err, List, if◌then◌else◌, unwrap_or}
use Rattle.lane_words.specs.declared.Refusal.{Refusal}
use Rattle.lane_words.specs.declared.Refusal.TheVariants as r
use Rattle.bit_planes.specs.PartitionSet.{PartitionSet, set_where}
use Rattle.consumer.specs.Consumer.{ConsumerState, base_of, is_held, out_of_group, position_of, sendable_answer}
use Rattle.keycount_c.specs.Answers.{number_of}
use Rattle.keycount_c.specs.Lists.{IsListed}
use Rattle.keycount_c.specs.Places.{AreFew}
use Rattle.keycount_c.specs.declared.answers.TheConstants.{BAD_ARGUMENT, DONE, HAS_VALUE, MEMORY, NO_VALUE}

-- a call that puts a new consumer of this many partitions behind a handle
abbrev pub BeginsConsumer : ℕ → Option ConsumerState → ℕ → Option ConsumerState → Type 0
BeginsConsumer partitions None number (Some c) =
    (number ≡ DONE) × AreFew partitions × (c ≡ out_of_group partitions)
BeginsConsumer partitions None number None =
    ((number ≡ MEMORY) × AreFew partitions) ⊎ ((number ≡ BAD_ARGUMENT) × (AreFew partitions → ⊥))
BeginsConsumer partitions (Some c) number after = (number ≡ HAS_VALUE) × (after ≡ Some c)

-- a call that frees it
abbrev pub FreesConsumer : Option ConsumerState → ℕ → Type 0
FreesConsumer None number = number ≡ NO_VALUE
FreesConsumer (Some c) number = number ≡ DONE

-- a call that changes it, if there is one
abbrev pub Changes : (ConsumerState → ConsumerState) → Option ConsumerState → ℕ
    → Option ConsumerState → Type 0
Changes next None number after = (number ≡ NO_VALUE) × (after ≡ None)
Changes next (Some c) number after = (number ≡ DONE) × (after ≡ Some (next c))

-- a call that reads a value of it, if there is one
abbrev pub ReadsConsumer : {V : Type 0} → (ConsumerState → V) → Option ConsumerState → V → ℕ → V
    → Type 0
ReadsConsumer value None out number out' = (number ≡ NO_VALUE) × (out' ≡ out)
ReadsConsumer value (Some c) out number out' = (number ≡ DONE) × (out' ≡ value c)

-- the partitions that it holds
abbrev pub held_by : ConsumerState → PartitionSet
held_by c = set_where c.partitions (is_held c)

-- a call that lists numbers of it, if there is one
abbrev pub ListsConsumer : (ConsumerState → List ℕ) → Option ConsumerState → List ℕ × ℕ → ℕ
    → List ℕ × ℕ → Type 0
ListsConsumer items None out number out' = (number ≡ NO_VALUE) × (out' ≡ out)
ListsConsumer items (Some c) out number out' = IsListed (items c) out.0 number out'.0 out'.1

-- the reply that a commit got, by its number and the committed offset
abbrev pub reply_of : ℕ → ℕ → Result ℕ Refusal
reply_of number committed =
    if number == 0 then Ok committed
    else if number == 1 then Err r.UnknownMember
    else if number == 11 then Err (r.OffsetMismatch committed)
    else Err r.Memory

-- a commit to be sent: its member, its generation, and the offsets from which and up to which its
-- records are
abbrev pub Pending : Type 0
Pending = ℕ × ℕ × ℕ × ℕ

abbrev pub pending_of : ConsumerState → ℕ → Result (Unit {0}) Refusal → Pending → Pending
pending_of c partition (Err refusal) out = out
pending_of c partition (Ok ready) out =
    (unwrap_or c.member 0, c.generation, base_of c partition, position_of c partition)

-- a call that reads the commit of all pending records of a partition
abbrev pub ReadsCommit : ℕ → Option ConsumerState → Pending → ℕ → Pending → Type 0
ReadsCommit partition None out number out' = (number ≡ NO_VALUE) × (out' ≡ out)
ReadsCommit partition (Some c) out number out' =
    (number ≡ number_of (sendable_answer c partition))
    × (out' ≡ pending_of c partition (sendable_answer c partition) out)
