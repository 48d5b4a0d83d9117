-- The group after the passes of a settling.
use Rattle.std.proofs.Common.{◌≡◌, ◌⊎◌, ◌∙◌, ◌||◌, ◌&&◌, ℕ, zero, suc, Bool, true, false, List, [], ◌∷◌, Option, Some, None, Result, Ok, Err, cond, refl, sym, ap, inl, inr}
use Rattle.std.specs.Prelude.{OnOk, is_none}
use Rattle.lane_words.specs.declared.Refusal.{Refusal}
use Rattle.lane_words.specs.declared.Refusal.TheVariants as r
use Rattle.bit_planes.specs.PartitionSet.{elements, minus}
use Rattle.group_machine.specs.declared.group.Phase.TheVariants.{Preparing, Stable}
use Rattle.group_machine.specs.State.{GroupState, assigned_of, granted_of, is_anybody, is_joined, is_synced, members}
use Rattle.group_machine.specs.Valid.{IsValidGroup}
use Rattle.group_machine.specs.Cluster.{ClusterState, LeaseTerms, cluster_sync_answer, with_group}
use Rattle.group_machine.specs.NextSteps.{has_to_rejoin}
use Rattle.group_laws.specs.Passes.{is_settled_and_synced, after_pass, rejoined_if_due, synced_if_new, after_turn, after_turns}
use Rattle.group_laws.specs.Rounds.{without_flags, rebalance_result, round}
use Rattle.group_machine.specs.Settled.{is_settled}
use Rattle.group_machine.specs.Steps.{rejoin_answer, rejoined_by, synced_by}
use Rattle.group_laws.proofs.FourPasses.{four_passes}
use Rattle.group_laws.proofs.PassLemmas.{after_pass_result}
use Rattle.consumer.specs.Consumer.{ConsumerState, given_up, leased}
use Rattle.world.specs.declared.event.Event.TheVariants as event
use Rattle.world.specs.Courses.{Course, Follows, answer_in, answered_at_once, chain, for_each, goes_on, happens, nothing}
use Rattle.world.specs.Settling.{flush, pass, passes, rejoin_if_due, settling, sync_if_new, turn}
use Rattle.world.specs.Steps.{Outcome, asked, refused, refused_by_cluster, rejoin_outcome, sync_outcome}
use Rattle.world.specs.Valid.{IsValidWorld}
use Rattle.world.specs.World.{WorldState, consumer_of, with_cluster}
use Rattle.world.proofs.Answered.{IsNever, pass_never, refused_reply}
use Rattle.world.proofs.Following.{flushes_course, pass_course}
use Rattle.world.proofs.Preserved.{IsReading, LeavesGroup, flushes_events, preserves_group, preserved_course, reading_open, valid_course}
use Rattle.world.proofs.Stays.{on_cluster}

-- ---- somebody is present if the group is not empty
pub somebody : (g : GroupState) → IsValidGroup g → (g.phase ≡ Preparing) ⊎ (g.phase ≡ Stable) → is_anybody g ≡ true
somebody g v p = go (is_anybody g) refl
  where
    go : (b : Bool) → is_anybody g ≡ b → b ≡ true
    go true e = refl
    go false e = elim p [
      | inl q ↦ absurd (cc (v.empty.1 e, q))
      | inr q ↦ absurd (cc (v.empty.1 e, q))
    ]

-- ---- a course that was not refused
pub record BothDone (first : Course) (next : WorldState → Course) (after : WorldState) : Type 0 where
  pub first_ok : first.answer ≡ Ok tt
  pub next_ok : (next first.after).answer ≡ Ok tt
  pub after_is : after ≡ (next first.after).after

both_done : (first : Course) (next : WorldState → Course) (a : Result (Unit {0}) Refusal) → first.answer ≡ a → (goes_on first (next first.after) a).answer ≡ Ok tt → BothDone first next (goes_on first (next first.after) a).after
both_done first next (Ok u) same e = record { first_ok = same; next_ok = e; after_is = refl }
both_done first next (Err why) same e = absurd (cc (same, e))

pub chain_done : (first : Course) (next : WorldState → Course) → (chain first next).answer ≡ Ok tt → BothDone first next (chain first next).after
unfolding chain
chain_done first next e = both_done first next first.answer refl e

-- ---- a turn that was not refused
refused_is : (w : WorldState) (m : ℕ) (why : Refusal) → answer_in (refused_by_cluster w m why).reply ≡ Ok tt → ⊥
refused_is w m why e = cc (ap answer_in (refused_reply w m why), e)

sync_replied : (w : WorldState) (m : ℕ) (a : Result LeaseTerms Refusal) → answer_in (sync_outcome w m a).reply ≡ Ok tt → (sync_outcome w m a).after.cluster.group ≡ synced_by w.cluster.group m
sync_replied w m (Ok lease) e =
    let w1 = with_cluster w (with_group w.cluster (synced_by w.cluster.group m)) in
    let same : (sync_outcome w m (Ok lease)).after.cluster ≡ w1.cluster = on_cluster w1 m (λ x. leased x lease) (consumer_of w1 m) in
    ap (λ (s : ClusterState). s.group) same
sync_replied w m (Err why) e = absurd (refused_is w m why e)

rejoin_replied : (w : WorldState) (m : ℕ) (a : Result (Unit {0}) Refusal) → answer_in (rejoin_outcome w m a).reply ≡ Ok tt → (rejoin_outcome w m a).after.cluster.group ≡ rejoined_by w.cluster.group m
rejoin_replied w m (Ok u) e =
    let w1 = with_cluster w (with_group w.cluster (rejoined_by w.cluster.group m)) in
    let same : (rejoin_outcome w m (Ok u)).after.cluster ≡ w1.cluster = on_cluster w1 m given_up (consumer_of w1 m) in
    ap (λ (s : ClusterState). s.group) same
rejoin_replied w m (Err why) e = absurd (refused_is w m why e)

asked_replied : (w : WorldState) (g : GroupState) (f : ConsumerState → Outcome) → ((c : ConsumerState) → answer_in (f c).reply ≡ Ok tt → (f c).after.cluster.group ≡ g) → (o : Option ConsumerState) → answer_in (asked w o f).reply ≡ Ok tt → (asked w o f).after.cluster.group ≡ g
asked_replied w g f h None e = absurd (cc e)
asked_replied w g f h (Some c) e = go (is_none c.member) e
  where
    go : (b : Bool) → answer_in (cond b (refused w r.OutOfGroup) (f c)).reply ≡ Ok tt → (cond b (refused w r.OutOfGroup) (f c)).after.cluster.group ≡ g
    go true e = absurd (cc e)
    go false e = h c e

sync_group : (w : WorldState) (m : ℕ) → (happens (event.Sync m) w).answer ≡ Ok tt → (happens (event.Sync m) w).after.cluster.group ≡ synced_by w.cluster.group m
unfolding happens
sync_group w m e = asked_replied w (synced_by w.cluster.group m) (λ c. sync_outcome w m (cluster_sync_answer w.cluster m)) (λ c. sync_replied w m (cluster_sync_answer w.cluster m)) (consumer_of w m) e

rejoin_group : (w : WorldState) (m : ℕ) → (happens (event.Rejoin m) w).answer ≡ Ok tt → (happens (event.Rejoin m) w).after.cluster.group ≡ rejoined_by w.cluster.group m
unfolding happens
rejoin_group w m e = asked_replied w (rejoined_by w.cluster.group m) (λ c. rejoin_outcome w m (rejoin_answer w.cluster.group m c.generation c.assigned)) (λ c. rejoin_replied w m (rejoin_answer w.cluster.group m c.generation c.assigned)) (consumer_of w m) e

pub new_group : (w : WorldState) (m : ℕ) → (sync_if_new m w).answer ≡ Ok tt → (sync_if_new m w).after.cluster.group ≡ synced_if_new w.cluster.group m
unfolding sync_if_new synced_if_new
new_group w m e = go (is_joined w.cluster.group m || is_synced w.cluster.group m) e
  where
    go : (b : Bool) → (cond b (nothing w) (happens (event.Sync m) w)).answer ≡ Ok tt → (cond b (nothing w) (happens (event.Sync m) w)).after.cluster.group ≡ cond b w.cluster.group (synced_by w.cluster.group m)
    go true e = refl
    go false e = sync_group w m e

due_group : (w : WorldState) (m : ℕ) → (rejoin_if_due m w).answer ≡ Ok tt → (rejoin_if_due m w).after.cluster.group ≡ rejoined_if_due w.cluster.group m
unfolding rejoin_if_due rejoined_if_due
due_group w m e = go (has_to_rejoin w.cluster.group m) e
  where
    given : List ℕ
    given = elements (minus (granted_of w.cluster.group m) (assigned_of w.cluster.group m))

    go : (b : Bool) → (cond b (chain (for_each given (flush m) w) (happens (event.Rejoin m))) (nothing w)).answer ≡ Ok tt
        → (cond b (chain (for_each given (flush m) w) (happens (event.Rejoin m))) (nothing w)).after.cluster.group ≡ cond b (rejoined_by w.cluster.group m) w.cluster.group
    go true e =
        let d = chain_done (for_each given (flush m) w) (happens (event.Rejoin m)) e in
        let flushed = (for_each given (flush m) w).after in
        let same = (preserved_course IsReading LeavesGroup preserves_group w (for_each given (flush m) w) (flushes_course given m w) (flushes_events IsReading reading_open given m w)).group in
        ap (λ (x : WorldState). x.cluster.group) d.after_is ∙ rejoin_group flushed m d.next_ok ∙ ap (λ g. rejoined_by g m) same
    go false e = refl

turn_group : (m : ℕ) (w : WorldState) → (turn m w).answer ≡ Ok tt → (turn m w).after.cluster.group ≡ after_turn w.cluster.group m
unfolding turn
turn_group m w e =
    let d = chain_done (sync_if_new m w) (rejoin_if_due m) e in
    let mid = (sync_if_new m w).after in
    ap (λ (x : WorldState). x.cluster.group) d.after_is ∙ due_group mid m d.next_ok ∙ ap (λ g. rejoined_if_due g m) (new_group w m d.first_ok)

each_group : (ms : List ℕ) (w : WorldState) → (for_each ms turn w).answer ≡ Ok tt → (for_each ms turn w).after.cluster.group ≡ after_turns w.cluster.group ms
unfolding for_each
each_group [] w e = refl
each_group (m ∷ ms) w e =
    let d = chain_done (turn m w) (for_each ms turn) e in
    ap (λ (x : WorldState). x.cluster.group) d.after_is ∙ each_group ms (turn m w).after d.next_ok ∙ ap (λ g. after_turns g ms) (turn_group m w d.first_ok)

pub pass_group : (w : WorldState) → (pass w).answer ≡ Ok tt → (pass w).after.cluster.group ≡ after_pass w.cluster.group
unfolding pass after_pass
pass_group w e = each_group (members w.cluster.group) w e

-- ---- passes
chain_cases : (first : Course) (next : WorldState → Course) → ((a : Result (Unit {0}) Refusal) → first.answer ≡ a → IsNever (goes_on first (next first.after) a).answer) → IsNever (chain first next).answer
unfolding chain
chain_cases first next h = h first.answer refl

abbrev after_passes : ℕ → GroupState → GroupState
after_passes zero g = g
after_passes (suc n) g = after_passes n (after_pass g)

-- passes end in a settled and synced group, in which the rebalance had to end
pub record IsEnd (g g2 : GroupState) : Type 0 where
  pub settled_and_synced : is_settled_and_synced g2 ≡ true
  pub end : rebalance_result g2 ≡ rebalance_result g

passes_end : (n : ℕ) (w : WorldState) → IsValidWorld w → (passes n w).answer ≡ Ok tt → IsEnd w.cluster.group (passes n w).after.cluster.group
unfolding passes
passes_end zero w v e = go (is_settled_and_synced w.cluster.group) refl e
  where
    go : (b : Bool) → is_settled_and_synced w.cluster.group ≡ b → (cond b (nothing w) (answered_at_once (Err r.NotSettled) w)).answer ≡ Ok tt → IsEnd w.cluster.group (cond b (nothing w) (answered_at_once (Err r.NotSettled) w)).after.cluster.group
    go true is e = record { settled_and_synced = is; end = refl }
    go false is e = absurd (cc e)
passes_end (suc n) w v e = go (passes_end n (pass w).after (valid_course w (pass w) (pass_course w) v)) (is_settled_and_synced w.cluster.group) refl e
  where
    go : ((passes n (pass w).after).answer ≡ Ok tt → IsEnd (pass w).after.cluster.group (passes n (pass w).after).after.cluster.group) → (b : Bool) → is_settled_and_synced w.cluster.group ≡ b
        → (cond b (nothing w) (chain (pass w) (passes n))).answer ≡ Ok tt → IsEnd w.cluster.group (cond b (nothing w) (chain (pass w) (passes n))).after.cluster.group
    go more true is e = record { settled_and_synced = is; end = refl }
    go more false is e =
        let d = chain_done (pass w) (passes n) e in
        let later = more d.next_ok in
        let group = pass_group w d.first_ok in
        record {
          settled_and_synced = ap (λ (x : WorldState). is_settled_and_synced x.cluster.group) d.after_is ∙ later.settled_and_synced;
          end = ap (λ (x : WorldState). rebalance_result x.cluster.group) d.after_is ∙ later.end ∙ ap rebalance_result group ∙ after_pass_result w.cluster.group v.cluster.group;
        }

passes_never : (n : ℕ) (w : WorldState) → is_settled_and_synced (after_passes n w.cluster.group) ≡ true → IsNever (passes n w).answer
unfolding passes
passes_never zero w h e = go (is_settled_and_synced w.cluster.group) h e
  where
    go : (b : Bool) → b ≡ true → (cond b (nothing w) (answered_at_once (Err r.NotSettled) w)).answer ≡ Err r.NotSettled → ⊥
    go true is e = cc e
    go false is e = cc is
passes_never (suc n) w h e = go (passes_never n (pass w).after) (is_settled_and_synced w.cluster.group) e
  where
    more_passes : (is_settled_and_synced (after_passes n (pass w).after.cluster.group) ≡ true → IsNever (passes n (pass w).after).answer) → (a : Result (Unit {0}) Refusal) → (pass w).answer ≡ a → (goes_on (pass w) (passes n (pass w).after) a).answer ≡ Err r.NotSettled → ⊥
    more_passes more (Ok u) same e = more (ap (λ g. is_settled_and_synced (after_passes n g)) (pass_group w same) ∙ h) e
    more_passes more (Err why) same e = pass_never w e

    go : (is_settled_and_synced (after_passes n (pass w).after.cluster.group) ≡ true → IsNever (passes n (pass w).after).answer) → (b : Bool) → (cond b (nothing w) (chain (pass w) (passes n))).answer ≡ Err r.NotSettled → ⊥
    go more true e = cc e
    go more false e = chain_cases (pass w) (passes n) (more_passes more) e

-- ---- settling
pub settling_end : (w : WorldState) → IsValidWorld w → (settling w).answer ≡ Ok tt → IsEnd w.cluster.group (settling w).after.cluster.group
unfolding settling
settling_end w v e = go (is_anybody w.cluster.group) e
  where
    go : (b : Bool) → (cond b (passes 4 w) (answered_at_once (Err r.NobodyPresent) w)).answer ≡ Ok tt → IsEnd w.cluster.group (cond b (passes 4 w) (answered_at_once (Err r.NobodyPresent) w)).after.cluster.group
    go true e = passes_end 4 w v e
    go false e = absurd (cc e)

pub settling_never : (w : WorldState) → IsValidWorld w → IsNever (settling w).answer
unfolding settling
settling_never w v e = go (is_anybody w.cluster.group) refl e
  where
    go : (b : Bool) → is_anybody w.cluster.group ≡ b → (cond b (passes 4 w) (answered_at_once (Err r.NobodyPresent) w)).answer ≡ Err r.NotSettled → ⊥
    go true any e = passes_never 4 w (four_passes w.cluster.group v.cluster.group any) e
    go false any e = cc e

-- ---- calls that settle
settled_part : (a b : Bool) → (a && b) ≡ true → a ≡ true
settled_part true b e = refl
settled_part false b e = absurd (cc e)

end_settled : (g : GroupState) (any : Bool) → is_settled g ≡ true → cond any (cond (is_settled g) (without_flags g) (cond (is_settled (round g)) (round g) (round (round g)))) (without_flags g) ≡ without_flags g
end_settled g true e = rw e refl
end_settled g false e = refl

pub result_if_settled_and_synced : (g : GroupState) → is_settled_and_synced g ≡ true → rebalance_result g ≡ without_flags g
result_if_settled_and_synced g e = end_settled g (is_anybody g) (settled_part (is_settled g) _ e)

pub settled_and_synced_is_settled : (g : GroupState) → is_settled_and_synced g ≡ true → is_settled g ≡ true
settled_and_synced_is_settled g e = settled_part (is_settled g) _ e

pub record HasSettled (w w2 : WorldState) : Type 0 where
  pub settled_and_synced : is_settled_and_synced w2.cluster.group ≡ true
  pub end : without_flags w2.cluster.group ≡ rebalance_result w.cluster.group

pub settled_by : (w w2 : WorldState) (result : Result (Unit {0}) Refusal) → IsValidWorld w → Follows w (settling w) result w2 → result ≡ Ok tt → HasSettled w w2
settled_by w w2 result v (inl replied) ok =
    let i = settling_end w v (sym replied.0 ∙ ok) in
    let settled_and_synced = ap (λ (x : WorldState). is_settled_and_synced x.cluster.group) replied.1 ∙ i.settled_and_synced in
    record { settled_and_synced = settled_and_synced; end = sym (result_if_settled_and_synced w2.cluster.group settled_and_synced) ∙ ap (λ (x : WorldState). rebalance_result x.cluster.group) replied.1 ∙ i.end }
settled_by w w2 result v (inr way) ok = absurd (cc (way.0, ok))

pub never_unsettled : (w w2 : WorldState) (c : Course) (result : Result (Unit {0}) Refusal) → IsNever c.answer → Follows w c result w2 → result ≡ Err r.NotSettled → ⊥
never_unsettled w w2 c result h (inl replied) e = h (sym replied.0 ∙ e)
never_unsettled w w2 c result h (inr way) e = cc (way.0, e)

-- ---- what follows from an accepted call
pub on_ok : (P : Type 0) (result : Result (Unit {0}) Refusal) → (result ≡ Ok tt → P) → OnOk result P
on_ok P (Ok u) h = h refl
on_ok P (Err why) h = tt

pub if_ok : (result : Result (Unit {0}) Refusal) (P : Type 0) → result ≡ Ok tt → OnOk result P → P
if_ok (Ok u) P ok h = h
if_ok (Err why) P ok h = absurd (cc ok)
