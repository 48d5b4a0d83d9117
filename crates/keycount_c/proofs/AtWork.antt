-- A consumer that has read no further than the logs go has read nothing where there is no log.
use Rattle.std.proofs.Common.{◌≡◌, ℕ, ◌≤◌, None, ap, arith, inl, inr, length}
use Rattle.std.proofs.lemmas.Bool.{cases_lt}
use Rattle.std.proofs.lemmas.List.{get_or_past}
use Rattle.std.specs.Option.{option_map_or}
use Rattle.partition_log.specs.Logs.{log_at}
use Rattle.group_machine.specs.Cluster.{ClusterState}
use Rattle.consumer.specs.Consumer.{ConsumerState, IsValidConsumer, held_at, position_of}
use Rattle.keycount_c.specs.Members.{IsAtWork}

pub within_logs : (c : ConsumerState) (s : ClusterState) → IsValidConsumer c → IsAtWork c s → (p : ℕ) → position_of c p ≤ length (log_at s.logs p)
within_logs c s valid w p = elim (cases_lt p s.group.partitions) [
  | inl lt ↦ w.within p lt
  | inr le ↦
      let none : held_at c p ≡ None = get_or_past c.held p None (omega (arith, le, w.partitions, valid.one_each)) in
      let zero : position_of c p ≡ 0 = ap (λ h. option_map_or (λ x. x.position) h 0) none in
      omega (arith, zero)
]
