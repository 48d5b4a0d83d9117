-- A worker's consumer stays within the logs that it reads.
use Rattle.std.proofs.Common.{ℕ, ◌≡◌, ◌≢◌, ◌≤◌, ◌==◌, Bool, true, false, ◌||◌, List, [], ◌∷◌, Option, Some, None, Result, Ok, Err, length, nat_le, refl, ap, sym, subst, ◌∙◌, inl, inr, arith}
use Rattle.std.specs.Prelude.{max, if◌then◌else◌}
use Rattle.std.proofs.lemmas.Bool.{cases_lt, false≢true}
use Rattle.std.proofs.lemmas.Bool.Decides.{nat_tests}
use Rattle.lane_words.specs.declared.Refusal.{Refusal}
use Rattle.lane_words.specs.declared.Refusal.TheVariants as r
use Rattle.bit_planes.specs.PartitionSet.{elements, is_in}
use Rattle.bit_planes.proofs.Listed.{is_listed, listed_elements}
use Rattle.partition_log.specs.Logs.{PartitionLogs, log_at}
use Rattle.group_machine.specs.Cluster.{LeaseTerms, start_of}
use Rattle.consumer.specs.declared.held.Held.{Held}
use Rattle.consumer.specs.Consumer.{ConsumerState, IsWithinLogs, answered_by, given_up, held_at, leased, leased_slot, out_of_group, realigned, realigned_held, realigned_slot}
use Rattle.consumer.proofs.Changed.{position_out, with_position}
use Rattle.consumer.proofs.Valid.{slot_by, slot_past, slot_position}
use Rattle.workers.specs.Private.Reading.{BeginsWithin, IsReplyWithin}

-- ---- the walk through a lease
-- the partitions of a lease that were walked through start within their logs
pub record HaveBegun (lease : LeaseTerms) (l : PartitionLogs) (left : List ℕ) : Type 0 where
  pub done : (k : ℕ) → is_in lease.assigned k ≡ true → is_listed k left ≡ false → start_of lease k ≤ length (log_at l k)
  pub within : (k : ℕ) → is_listed k left ≡ true → is_in lease.assigned k ≡ true

pub none_begun : (lease : LeaseTerms) (l : PartitionLogs) (left : List ℕ) → left ≡ elements lease.assigned → HaveBegun lease l left
none_begun lease l left all = record {
  done = λ k mine h. absurd (false≢true (sym h ∙ listed k ∙ mine));
  within = λ k h. sym (listed k) ∙ h;
}
  where
    listed : (k : ℕ) → is_listed k left ≡ is_in lease.assigned k
    listed k = ap (is_listed k) all ∙ listed_elements lease.assigned k

this : (p : ℕ) (b : Bool) → ((p == p) || b) ≡ true
this p true = grind (arith, nat_tests)
this p false = grind (arith, nat_tests)

later : (x b : Bool) → b ≡ true → (x || b) ≡ true
later true b e = refl
later false b e = e

neither : (k p : ℕ) (b : Bool) → k ≢ p → b ≡ false → ((k == p) || b) ≡ false
neither k p b ne e = grind (arith, nat_tests, e)

pub next_in : (lease : LeaseTerms) (l : PartitionLogs) (left : List ℕ) (p : ℕ) (next : List ℕ) → left ≡ p ∷ next → HaveBegun lease l left → is_in lease.assigned p ≡ true
next_in lease l left p next steps was = was.within p (ap (is_listed p) steps ∙ this p (is_listed p next))

-- ---- positions
leased_position : (lease : LeaseTerms) (p most : ℕ) (o : Option Held) → slot_position o ≤ most → (is_in lease.assigned p ≡ true → start_of lease p ≤ most) → slot_position (leased_slot lease p o) ≤ most
leased_position lease p most (Some h) old new = old
leased_position lease p most None old new = go (is_in lease.assigned p) refl
  where
    go : (b : Bool) → is_in lease.assigned p ≡ b → slot_position (if b then Some (record { base = start_of lease p; position = start_of lease p }) else None) ≤ most
    go true e = new e
    go false e = omega arith

pub leased_within : (c : ConsumerState) (l : PartitionLogs) (lease : LeaseTerms) → IsWithinLogs c l → BeginsWithin lease l → IsWithinLogs (leased c lease) l
leased_within c l lease was begins p =
    elim (cases_lt p (length c.held)) [
      | inl lt ↦ rw (slot_by (λ q. leased_slot lease q (held_at c q)) (length c.held) p lt) (leased_position lease p (length (log_at l p)) (held_at c p) (was p) (begins p))
      | inr le ↦ rw (slot_past (λ q. leased_slot lease q (held_at c q)) (length c.held) p le) (omega arith)
    ]

retained_position : (b : Bool) (o : Option Held) (most : ℕ) → slot_position o ≤ most → slot_position (if b then o else None) ≤ most
retained_position true o most le = le
retained_position false o most le = omega arith

abbrev retained_slot : ConsumerState → ℕ → Option Held
retained_slot c p = if is_in c.assigned p then held_at c p else None

pub given_up_within : (c : ConsumerState) (l : PartitionLogs) → IsWithinLogs c l → IsWithinLogs (given_up c) l
given_up_within c l was p =
    elim (cases_lt p (length c.held)) [
      | inl lt ↦ rw (slot_by (retained_slot c) (length c.held) p lt) (retained_position (is_in c.assigned p) (held_at c p) (length (log_at l p)) (was p))
      | inr le ↦ rw (slot_past (retained_slot c) (length c.held) p le) (omega arith)
    ]

pub out_within : (n : ℕ) (l : PartitionLogs) → IsWithinLogs (out_of_group n) l
out_within n l p = omega (arith, position_out n p)

realigned_position : (h : Held) (k most : ℕ) → h.position ≤ most → k ≤ most → (realigned_held h k).position ≤ most
realigned_position h k most old new = go (nat_le h.base k)
  where
    go : (b : Bool) → (if b then max h.position k else k) ≤ most
    go true = omega arith
    go false = new

realigned_within : (c : ConsumerState) (l : PartitionLogs) (p k : ℕ) → IsWithinLogs c l → k ≤ length (log_at l p) → IsWithinLogs (realigned c p k) l
realigned_within c l p k was replied = go (held_at c p) refl
  where
    go : (o : Option Held) → held_at c p ≡ o → IsWithinLogs (realigned_slot c p k o) l
    go None is = was
    go (Some h) is = with_position c p h (realigned_held h k) is (λ q. length (log_at l q)) (realigned_position h k (length (log_at l p)) (subst (λ (o : Option Held). slot_position o ≤ length (log_at l p)) is (was p)) replied) was

realigned_partitions : (c : ConsumerState) (p k : ℕ) → (realigned c p k).partitions ≡ c.partitions
realigned_partitions c p k = go (held_at c p)
  where
    go : (o : Option Held) → (realigned_slot c p k o).partitions ≡ c.partitions
    go None = refl
    go (Some h) = refl

pub answered_within : (c : ConsumerState) (l : PartitionLogs) (p : ℕ) (reply : Result ℕ Refusal) → IsWithinLogs c l → IsReplyWithin p reply l → IsWithinLogs (answered_by c p reply) l
answered_within c l p (Ok k) was replied = realigned_within c l p k was replied
answered_within c l p (Err (r.OffsetMismatch k)) was replied = realigned_within c l p k was replied
answered_within c l p (Err r.UnknownMember) was replied = out_within c.partitions l
answered_within c l p (Err r.StaleGeneration) was replied = was
answered_within c l p (Err r.RebalanceInProgress) was replied = was
answered_within c l p (Err r.NothingToGive) was replied = was
answered_within c l p (Err r.SyncFirst) was replied = was
answered_within c l p (Err r.ClaimDiffers) was replied = was
answered_within c l p (Err r.AlreadyJoined) was replied = was
answered_within c l p (Err r.NameUsed) was replied = was
answered_within c l p (Err r.TooManyMembers) was replied = was
answered_within c l p (Err r.NotOwner) was replied = was
answered_within c l p (Err r.PastEnd) was replied = was
answered_within c l p (Err r.WrongRecords) was replied = was
answered_within c l p (Err r.EmptyCommit) was replied = was
answered_within c l p (Err r.NotHeld) was replied = was
answered_within c l p (Err r.OutOfGroup) was replied = was
answered_within c l p (Err r.NoSuchCommit) was replied = was
answered_within c l p (Err r.NotSettled) was replied = was
answered_within c l p (Err r.NobodyPresent) was replied = was
answered_within c l p (Err r.KeyTooLong) was replied = was
answered_within c l p (Err r.LogFull) was replied = was
answered_within c l p (Err r.ReadFailed) was replied = was
answered_within c l p (Err r.WriteFailed) was replied = was
answered_within c l p (Err r.Differs) was replied = was
answered_within c l p (Err r.GateLimit) was replied = was
answered_within c l p (Err r.MailFull) was replied = was
answered_within c l p (Err r.GenerationsOver) was replied = was
answered_within c l p (Err r.Memory) was replied = was
answered_within c l p (Err (r.BadLine line)) was replied = was
answered_within c l p (Err (r.NoSuchColumn nth)) was replied = was
answered_within c l p (Err (r.BadCsv nth)) was replied = was
answered_within c l p (Err (r.NobodyLeft line)) was replied = was
answered_within c l p (Err (r.NoSuchTopic nth)) was replied = was
answered_within c l p (Err r.NotKept) was replied = was

pub answered_partitions : (c : ConsumerState) (p : ℕ) (reply : Result ℕ Refusal) → (answered_by c p reply).partitions ≡ c.partitions
answered_partitions c p (Ok k) = realigned_partitions c p k
answered_partitions c p (Err (r.OffsetMismatch k)) = realigned_partitions c p k
answered_partitions c p (Err r.UnknownMember) = refl
answered_partitions c p (Err r.StaleGeneration) = refl
answered_partitions c p (Err r.RebalanceInProgress) = refl
answered_partitions c p (Err r.NothingToGive) = refl
answered_partitions c p (Err r.SyncFirst) = refl
answered_partitions c p (Err r.ClaimDiffers) = refl
answered_partitions c p (Err r.AlreadyJoined) = refl
answered_partitions c p (Err r.NameUsed) = refl
answered_partitions c p (Err r.TooManyMembers) = refl
answered_partitions c p (Err r.NotOwner) = refl
answered_partitions c p (Err r.PastEnd) = refl
answered_partitions c p (Err r.WrongRecords) = refl
answered_partitions c p (Err r.EmptyCommit) = refl
answered_partitions c p (Err r.NotHeld) = refl
answered_partitions c p (Err r.OutOfGroup) = refl
answered_partitions c p (Err r.NoSuchCommit) = refl
answered_partitions c p (Err r.NotSettled) = refl
answered_partitions c p (Err r.NobodyPresent) = refl
answered_partitions c p (Err r.KeyTooLong) = refl
answered_partitions c p (Err r.LogFull) = refl
answered_partitions c p (Err r.ReadFailed) = refl
answered_partitions c p (Err r.WriteFailed) = refl
answered_partitions c p (Err r.Differs) = refl
answered_partitions c p (Err r.GateLimit) = refl
answered_partitions c p (Err r.MailFull) = refl
answered_partitions c p (Err r.GenerationsOver) = refl
answered_partitions c p (Err r.Memory) = refl
answered_partitions c p (Err (r.BadLine line)) = refl
answered_partitions c p (Err (r.NoSuchColumn nth)) = refl
answered_partitions c p (Err (r.BadCsv nth)) = refl
answered_partitions c p (Err (r.NobodyLeft line)) = refl
answered_partitions c p (Err (r.NoSuchTopic nth)) = refl
answered_partitions c p (Err r.NotKept) = refl
