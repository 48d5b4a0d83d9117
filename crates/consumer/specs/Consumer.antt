-- A consumer: what it holds, how far it has read, and what is pending.
use Rattle.std.specs.Prelude.{◌≡◌, ℕ, ◌+◌, ◌-◌, ◌≤◌, Bool, true, false, not, nat_le, ◌==◌, min, max, List, Option, Some, None, is_none, is_some, Result, Ok, Err, length, map, replicate, slice_index_or, slice_range, slice_set, if◌then◌else◌}
use Rattle.std.specs.List.{range_with_len}
use Rattle.std.specs.Option.{option_map, option_map_or, unwrap_or}
use Rattle.std.specs.Result.{result_and}
use Rattle.lane_words.specs.declared.limits.TheConstants.{MOST_PARTITIONS}
use Rattle.lane_words.specs.declared.Refusal.{Refusal}
use Rattle.lane_words.specs.declared.Refusal.TheVariants as r
use Rattle.bit_planes.specs.PartitionSet.{PartitionSet, empty_set, is_in, partitions_of}
use Rattle.partition_log.specs.Logs.{PartitionLogs, log_at}
use Rattle.group_machine.specs.Cluster.{CommitTerms, LeaseTerms, start_of}
use Rattle.consumer.specs.declared.held.Held.{Held}

-- A consumer: its member number if it is in the group; the generation and the partitions of its
-- last lease; and for each partition that it holds, the base, below which its records are
-- committed, and the position, at which it reads on
pub record ConsumerState : Type 0 where
  pub partitions : ℕ
  pub member : Option ℕ
  pub generation : ℕ
  pub assigned : PartitionSet
  pub held : List (Option Held)

-- out of the group: no member, and nothing held
abbrev pub out_of_group : ℕ → ConsumerState
out_of_group partitions = record {
  partitions = partitions;
  member = None;
  generation = 0;
  assigned = empty_set partitions;
  held = replicate partitions None;
}

-- the offsets of a partition, if it is held
abbrev pub held_at : ConsumerState → ℕ → Option Held
held_at c p = slice_index_or c.held p None

abbrev pub is_held : ConsumerState → ℕ → Bool
is_held c p = is_some (held_at c p)

-- the base of a partition; 0 if it is not held
abbrev pub base_of : ConsumerState → ℕ → ℕ
base_of c p = option_map_or (λ h. h.base) (held_at c p) 0

-- the position in a partition; 0 if it is not held
abbrev pub position_of : ConsumerState → ℕ → ℕ
position_of c p = option_map_or (λ h. h.position) (held_at c p) 0

-- the invariant of a consumer
pub record IsValidConsumer (c : ConsumerState) : Type 0 where
  pub some_partitions : 1 ≤ c.partitions
  pub few_partitions : c.partitions ≤ MOST_PARTITIONS
  pub one_each : length c.held ≡ c.partitions
  pub assigned_below : partitions_of c.assigned ≡ c.partitions
  pub ordered : (p : ℕ) → base_of c p ≤ position_of c p
  pub out : c.member ≡ None → c ≡ out_of_group c.partitions

-- ---- joining, and leases
abbrev pub joined_as : ConsumerState → ℕ → ConsumerState
joined_as c member = record (out_of_group c.partitions) { member = Some member }

-- a newly leased partition is read from the committed offset on; what was held stays as it was
abbrev pub leased_slot : LeaseTerms → ℕ → Option Held → Option Held
leased_slot lease p (Some h) = Some h
leased_slot lease p None =
    if is_in lease.assigned p
    then Some (record { base = start_of lease p; position = start_of lease p })
    else None

-- the consumer with a lease: it gives nothing up yet (KIP-429: it reads on during a rebalance)
abbrev pub leased : ConsumerState → LeaseTerms → ConsumerState
leased c lease = record c {
  generation = lease.generation;
  assigned = lease.assigned;
  held = map (λ p. leased_slot lease p (held_at c p)) (range_with_len 0 (length c.held));
}

-- ---- polling
-- whether a partition can be read: the consumer may be out of the group, or not hold it
abbrev pub hold_answer : ConsumerState → ℕ → Result (Unit {0}) Refusal
hold_answer c p =
    if is_none c.member then Err r.OutOfGroup
    else if not (is_held c p) then Err r.NotHeld
    else Ok tt

-- the number of records that a poll of at most n reads
abbrev pub polled_count : ConsumerState → PartitionLogs → ℕ → ℕ → ℕ
polled_count c l p n = min n (length (log_at l p) - position_of c p)

abbrev pub poll_answer : ConsumerState → PartitionLogs → ℕ → ℕ → Result ℕ Refusal
poll_answer c l p n = result_and (hold_answer c p) (Ok (polled_count c l p n))

-- the consumer with these offsets for a partition
abbrev pub with_held : ConsumerState → ℕ → Held → ConsumerState
with_held c p h = record c { held = slice_set c.held p (Some h) }

-- the consumer after a poll: only the position moves
abbrev pub polled : ConsumerState → PartitionLogs → ℕ → ℕ → ConsumerState
polled c l p n =
    with_held c p (record { base = base_of c p; position = position_of c p + polled_count c l p n })

-- no position is past its log's end
abbrev pub IsWithinLogs : ConsumerState → PartitionLogs → Type 0
IsWithinLogs c l = (p : ℕ) → position_of c p ≤ length (log_at l p)

-- ---- sending
-- whether a partition has pending records
abbrev pub sendable_answer : ConsumerState → ℕ → Result (Unit {0}) Refusal
sendable_answer c p =
    result_and (hold_answer c p)
    (if base_of c p == position_of c p then Err r.EmptyCommit else Ok tt)

-- the key numbers of the pending records: the log's from the base to the position
abbrev pub pending : ConsumerState → PartitionLogs → ℕ → List ℕ
pending c l p = slice_range (log_at l p) (base_of c p) (position_of c p)

-- the commit of all pending records
abbrev pub commit_of : ConsumerState → PartitionLogs → ℕ → CommitTerms
commit_of c l p = record {
  member = unwrap_or c.member 0;
  generation = c.generation;
  partition = p;
  from = base_of c p;
  ids = pending c l p;
}

abbrev pub send_answer : ConsumerState → PartitionLogs → ℕ → Result CommitTerms Refusal
send_answer c l p = result_and (sendable_answer c p) (Ok (commit_of c l p))

-- ---- answers
-- the offsets once this one is known to be committed: committed records are no longer pending, and
-- a base that was past it goes back
abbrev pub realigned_held : Held → ℕ → Held
realigned_held h committed = record {
  base = committed;
  position = if nat_le h.base committed then max h.position committed else committed;
}

abbrev pub realigned_slot : ConsumerState → ℕ → ℕ → Option Held → ConsumerState
realigned_slot c p committed None = c
realigned_slot c p committed (Some h) = with_held c p (realigned_held h committed)

abbrev pub realigned : ConsumerState → ℕ → ℕ → ConsumerState
realigned c p committed = realigned_slot c p committed (held_at c p)

-- the consumer after the reply to a commit of a partition: it is out if its member is unknown; the
-- offset of an accepted commit or of a mismatch realigns it; any other reply changes nothing
abbrev pub answered_by : ConsumerState → ℕ → Result ℕ Refusal → ConsumerState
answered_by c p (Ok committed) = realigned c p committed
answered_by c p (Err r.UnknownMember) = out_of_group c.partitions
answered_by c p (Err (r.OffsetMismatch committed)) = realigned c p committed
answered_by c p (Err refusal) = c

-- ---- giving up
-- what is not assigned is dropped, with its pending records
abbrev pub given_up : ConsumerState → ConsumerState
given_up c = record c {
  held = map (λ p. if is_in c.assigned p then held_at c p else None)
      (range_with_len 0 (length c.held));
}
