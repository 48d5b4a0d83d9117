use Rattle.std.proofs.Common.{◌≡◌, ◌≤◌, length, ap, arith, rules, sym, subst}
use Rattle.partition_log.specs.Keys.{with_key}
use Rattle.group_machine.specs.Cluster.{ClusterState, IsValidLogs, IsValidCluster, IsPlaceOf, appended_at, without_capacity}
use Rattle.group_machine.specs.Private.ClusterView.{cluster_view}
use Rattle.group_machine.proofs.ClusterLemmas.{append-valid, interned-appended}
use Rattle.group_machine.proofs.cluster.Cluster.append_at.Goals as goal

pub invariant_of-self-then-keys : goal.invariant_of-self-then-keys
invariant_of-self-then-keys c =
    let old = cluster_view c.self.inside in
    let key = c.args.key.now in
    let at = c.args.place in
    let goes = subst (λ (s : ClusterState). IsPlaceOf s.logs key at) (sym c.self.view_is) c.requires in
    let logs = subst IsValidLogs c.in_ok-at.ensures.ok c.in_ok-at.ensures.valid in
    let new : cluster_view (record { alloc = c.self.inside.alloc; group = c.self.inside.group; logs = c.append_at.new.self; store = c.add_key.new.self }) ≡ appended_at old at key = search rules in
    subst IsValidCluster (sym new) (append-valid old at key c.self.invariant goes logs)

pub invariant_of-self-else-keys : goal.invariant_of-self-else-keys
invariant_of-self-else-keys c =
    let old = cluster_view c.self.inside in
    let key = c.args.key.now in
    let at = c.args.place in
    let goes = subst (λ (s : ClusterState). IsPlaceOf s.logs key at) (sym c.self.view_is) c.requires in
    let logs = subst IsValidLogs c.in_ok-at.ensures.ok c.in_ok-at.ensures.valid in
    let counters = ap (λ s. length s.counts) c.reserve_key.ensures.same in
    let keys = ap (λ l. length l.keys) c.in_ok-at.ensures.ok in
    let few : length (with_key old.logs.keys key) ≤ length old.logs.keys = omega (arith, c.keys.ensures, c.keys-2.ensures, c.if-keys.false, counters, keys, c.self.invariant.a_counter_each) in
    let new = interned-appended old at key c.append_at.new.self (without_capacity c.reserve_key.new.self) c.in_ok-at.ensures.ok (ap without_capacity c.reserve_key.ensures.same) few in
    subst IsValidCluster (sym new) (append-valid old at key c.self.invariant goes logs)

pub returns-then-keys-clause-valid : goal.returns-then-keys-clause-valid
returns-then-keys-clause-valid c = invariant_of-self-then-keys c

pub returns-else-keys-clause-valid : goal.returns-else-keys-clause-valid
returns-else-keys-clause-valid c = invariant_of-self-else-keys c

pub returns-then-keys-clause-answer : goal.returns-then-keys-clause-answer
returns-then-keys-clause-answer c = search rules

pub returns-else-keys-clause-answer : goal.returns-else-keys-clause-answer
returns-else-keys-clause-answer c = search rules
