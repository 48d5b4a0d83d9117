-- Leases and replies that fit the logs that a worker reads.
use Rattle.std.specs.Prelude.{◌≡◌, ℕ, ◌≤◌, ⊤, true, length, Some, Result, Ok, Err}
use Rattle.lane_words.specs.declared.Refusal.{Refusal}
use Rattle.lane_words.specs.declared.Refusal.TheVariants as r
use Rattle.bit_planes.specs.PartitionSet.{is_in, partitions_of}
use Rattle.partition_log.specs.Logs.{PartitionLogs, log_at}
use Rattle.group_machine.specs.Cluster.{LeaseTerms, start_of}
use Rattle.consumer.specs.Consumer.{ConsumerState}

-- a lease starts at no offset past the end of a log
abbrev pub BeginsWithin : LeaseTerms → PartitionLogs → Type 0
BeginsWithin lease l =
    (p : ℕ) → is_in lease.assigned p ≡ true → start_of lease p ≤ length (log_at l p)

-- a lease is this consumer's and fits these logs
pub record IsLeaseOver (c : ConsumerState) (l : PartitionLogs) (lease : LeaseTerms) : Type 0 where
  pub member : c.member ≡ Some lease.member
  pub partitions : partitions_of lease.assigned ≡ l.partitions
  pub within : BeginsWithin lease l

-- the committed offset in a reply, the new one or that of a mismatch, is at most the end of the log
abbrev pub IsReplyWithin : ℕ → Result ℕ Refusal → PartitionLogs → Type 0
IsReplyWithin p (Ok committed) l = committed ≤ length (log_at l p)
IsReplyWithin p (Err (r.OffsetMismatch committed)) l = committed ≤ length (log_at l p)
IsReplyWithin p (Err refusal) l = ⊤
