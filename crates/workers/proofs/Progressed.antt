-- Each step of a `Planned` keeps its invariant.
use Rattle.std.proofs.Common.{ℕ, zero, suc, ◌≡◌, ◌+◌, ◌<◌, true, ◌&&◌, List, [], ◌∷◌, Some, Result, Ok, Err, OnOk, OnErr, length, take, slice_get, get_or, nat_lt, is_some, refl, ap, sym, ◌∙◌, subst, inl, inr, arith, cond}
use Rattle.std.proofs.lemmas.Bool.Decides.{nat_tests}
use Rattle.lane_words.specs.Answers.{Answers}
use Rattle.lane_words.specs.declared.Refusal.{Refusal}
use Rattle.lane_words.specs.declared.Refusal.TheVariants as r
use Rattle.bit_planes.specs.PartitionSet.{PartitionSet}
use Rattle.group_machine.specs.State.{GroupState, is_present}
use Rattle.group_laws.specs.Rounds.{rebalance_result}
use Rattle.group_machine.specs.Steps.{rejoin_answer, rejoined_by, rejoining, synced_by}
use Rattle.group_machine.specs.Valid.{IsValidGroup}
use Rattle.group_machine.specs.Cluster.{ClusterState, CommitTerms, committed_by, with_group}
use Rattle.group_laws.proofs.ResultLemmas as end
use Rattle.group_laws.proofs.StepLemmas.{rejoin_valid}
use Rattle.group_machine.proofs.StepLemmas.{sync_valid}
use Rattle.script.specs.declared.plan.Change.{Change}
use Rattle.script.proofs.PlanRules.{plan_is_short}
use Rattle.workers.specs.Plans.{changed_by, settled}
use Rattle.workers.specs.Private.Applied.{change_answer}
use Rattle.workers.specs.Progress.{IsValidProgress, Progress, advanced, applied_to, is_at_rest, is_due}
use Rattle.workers.proofs.PlanLemmas.{applied_end, changed_partitions, changed_valid, line_accepted, same_partitions}

abbrev progress_of : ClusterState → List Change → ℕ → Progress
progress_of cluster plan applied = record { cluster = cluster; plan = plan; applied = applied }

regrouped_progress : (s : Progress) (g : GroupState) (cluster : ClusterState) → IsValidProgress s → cluster.group ≡ g → IsValidGroup g → g.partitions ≡ s.cluster.group.partitions → rebalance_result g ≡ rebalance_result s.cluster.group → IsValidProgress (progress_of cluster s.plan s.applied)
regrouped_progress s g cluster was is valid same end = record {
  valid = subst (λ h. IsValidGroup h) (sym is) valid;
  plan = was.plan;
  within = was.within;
  end = ap rebalance_result is ∙ end ∙ was.end ∙ ap (λ p. settled p (take s.applied s.plan)) (sym (ap (λ h. h.partitions) is ∙ same));
}

same_group : (s : Progress) (cluster : ClusterState) → IsValidProgress s → cluster.group ≡ s.cluster.group → IsValidProgress (progress_of cluster s.plan s.applied)
same_group s cluster was is = regrouped_progress s s.cluster.group cluster was is was.valid refl refl

pub committed_progress : (s : Progress) (c : CommitTerms) (new : ClusterState) (answer : Result ℕ Refusal) → IsValidProgress s → OnOk answer (new ≡ committed_by s.cluster c) → OnErr answer (new ≡ s.cluster) → IsValidProgress (progress_of new s.plan s.applied)
committed_progress s c new (Ok n) was ok err = same_group s new was (ap (λ x. x.group) ok)
committed_progress s c new (Err why) was ok err = same_group s new was (ap (λ x. x.group) err)

pub synced_progress : {T : Type 0} (s : Progress) (member : ℕ) (new : ClusterState) (answer : Result T Refusal) → IsValidProgress s → OnOk answer (new ≡ with_group s.cluster (synced_by s.cluster.group member)) → OnErr answer (new ≡ s.cluster) → IsValidProgress (progress_of new s.plan s.applied)
synced_progress s member new (Ok lease) was ok err =
    regrouped_progress s (synced_by s.cluster.group member) new was (ap (λ x. x.group) ok) (sync_valid s.cluster.group member was.valid) refl (end.sync_result s.cluster.group member)
synced_progress s member new (Err why) was ok err = same_group s new was (ap (λ x. x.group) err)

answered : (expected : Result (Unit {0}) Refusal) → Answers expected (Ok tt) → expected ≡ Ok tt
answered expected (inl same) = sym same
answered expected (inr memory) = absurd (cc memory)

pub rejoined_progress : (s : Progress) (member generation : ℕ) (claim : PartitionSet) (new : ClusterState) → IsValidProgress s → Answers (rejoin_answer s.cluster.group member generation claim) (Ok tt) → new ≡ with_group s.cluster (rejoined_by s.cluster.group member) → IsValidProgress (progress_of new s.plan s.applied)
rejoined_progress s member generation claim new was answer is =
    let g = s.cluster.group in
    let ok : rejoin_answer g member generation claim ≡ Ok tt = answered (rejoin_answer g member generation claim) answer in
    let here : is_present g member ≡ true = ap is_some (end.accepted g member generation claim ok).1 in
    regrouped_progress s (rejoined_by g member) new was (ap (λ x. x.group) is) (rejoin_valid g member was.valid here) (same_partitions (rejoining g member)) (end.rejoin_result g member generation claim was.valid ok)

pub due_accepted : (s : Progress) (line : Change) → IsValidProgress s → slice_get s.plan s.applied ≡ Some line → change_answer s.cluster.group line ≡ Ok tt
due_accepted s line was at = line_accepted s.cluster.group s.cluster.group.partitions s.plan s.applied line was.plan (plan_is_short s.plan was.plan) was.within at was.end

is_within : (plan : List Change) (i : ℕ) (line : Change) → slice_get plan i ≡ Some line → i < length plan
is_within [] i line e = absurd (cc e)
is_within (x ∷ plan) zero line e = omega arith
is_within (x ∷ plan) (suc i) line e = omega (arith, is_within plan i line e)

pub applied_progress : (s : Progress) (line : Change) (new : ClusterState) → IsValidProgress s → slice_get s.plan s.applied ≡ Some line → is_at_rest s.cluster.group ≡ true → new ≡ with_group s.cluster (changed_by s.cluster.group line) → IsValidProgress (progress_of new s.plan (s.applied + 1))
applied_progress s line new was at rest is =
    let g = s.cluster.group in
    let group : new.group ≡ changed_by g line = ap (λ x. x.group) is in
    let next : s.applied + 1 ≡ suc s.applied = omega arith in
    record {
      valid = subst (λ h. IsValidGroup h) (sym group) (changed_valid g line was.valid (due_accepted s line was at));
      plan = was.plan;
      within = omega (arith, is_within s.plan s.applied line at);
      end = ap rebalance_result group
          ∙ applied_end g g.partitions s.plan s.applied line was.valid rest at was.end
          ∙ ap (λ k. settled g.partitions (take k s.plan)) (sym next)
          ∙ ap (λ p. settled p (take (s.applied + 1) s.plan)) (sym (ap (λ h. h.partitions) group ∙ changed_partitions g line));
    }

pub is_due_by : (s : Progress) (line : Change) → slice_get s.plan s.applied ≡ Some line → is_at_rest s.cluster.group ≡ true → is_due s ≡ true
is_due_by s line at rest = ap (λ o. is_some o && is_at_rest s.cluster.group) at ∙ rest

pub advanced_by : (s : Progress) (line : Change) (new : ClusterState) → slice_get s.plan s.applied ≡ Some line → is_at_rest s.cluster.group ≡ true → new ≡ with_group s.cluster (changed_by s.cluster.group line) → progress_of new s.plan (s.applied + 1) ≡ advanced s
advanced_by s line new at rest is =
    ap (λ x. progress_of x s.plan (s.applied + 1)) is
    ∙ sym (ap (λ b. cond b (applied_to s (slice_get s.plan s.applied)) s) (is_due_by s line at rest) ∙ ap (applied_to s) at)

pub due_refused : (s : Progress) (line : Change) (why : Refusal) → IsValidProgress s → slice_get s.plan s.applied ≡ Some line → Answers (change_answer s.cluster.group line) (Err why) → why ≡ r.Memory
due_refused s line why was at answer = only_memory (change_answer s.cluster.group line) (due_accepted s line was at) answer
  where
    only_memory : (expected : Result (Unit {0}) Refusal) → expected ≡ Ok tt → Answers expected (Err why) → why ≡ r.Memory
    only_memory expected ok (inl same) = absurd (let wrong = same ∙ ok in cc)
    only_memory expected ok (inr memory) = cc

pub applied_fits : (s : Progress) → IsValidProgress s → s.applied < 4294967296
applied_fits s was = omega (arith, was.within, plan_is_short s.plan was.plan)

at_is : (plan : List Change) (i : ℕ) (line : Change) → i < length plan → line ≡ get_or plan i line → slice_get plan i ≡ Some line
at_is [] i line lt e = absurd (omega arith)
at_is (x ∷ plan) zero line lt e = ap (λ y. Some y) (sym e)
at_is (x ∷ plan) (suc i) line lt e = at_is plan i line (omega arith) e

is_below : (i n : ℕ) → true ≡ nat_lt i n → i < n
is_below i n e = grind (arith, nat_tests)

pub looked_up : (plan lines : List Change) (i : ℕ) (line : Change) → lines ≡ plan → true ≡ nat_lt i (length lines) → line ≡ get_or lines i line → slice_get plan i ≡ Some line
looked_up plan lines i line same lt e = ap (λ xs. slice_get xs i) (sym same) ∙ at_is lines i line (is_below i (length lines) lt) e
