-- The next step of a member, by its flags.
use Rattle.std.proofs.Common.{ℕ, ◌≡◌, ◌∙◌, ◌||◌, ◌⊎◌, inl, inr, Bool, true, false, Result, Ok, ap, cond, refl, subst, sym}
use Rattle.lane_words.specs.declared.Refusal.{Refusal}
use Rattle.group_machine.specs.State.{GroupState, is_joined, is_present, is_synced}
use Rattle.group_machine.specs.NextSteps.{has_to_rejoin, next_step}
use Rattle.group_laws.specs.Passes.{synced_if_new}
use Rattle.group_machine.specs.Steps.{synced_by}
use Rattle.group_machine.specs.declared.cluster.next_step.NextStep.{NextStep}
use Rattle.group_machine.specs.declared.cluster.next_step.NextStep.TheVariants.{Read, Rejoin, Sync}
use Rattle.group_laws.proofs.OtherLemmas.{sync_marks}
use Rattle.world.specs.Courses.{Follows}
use Rattle.world.specs.Settling.{sync_if_new}
use Rattle.world.specs.World.{WorldState}
use Rattle.world.proofs.Settled.{new_group}

pub syncs_next : (g : GroupState) (m : ℕ) → next_step g m ≡ Sync → (is_joined g m || is_synced g m) ≡ false
syncs_next g m e = go (is_joined g m || is_synced g m) (has_to_rejoin g m) e
  where
    go : (seen due : Bool) → cond seen (cond due Rejoin Read) Sync ≡ Sync → seen ≡ false
    go true true e = absurd (cc e)
    go true false e = absurd (cc e)
    go false due e = refl

pub syncs_no_more : (g : GroupState) (m : ℕ) (step : NextStep) → step ≡ next_step g m → (step ≡ Rejoin) ⊎ (step ≡ Read) → (is_joined g m || is_synced g m) ≡ true
syncs_no_more g m step e is = go (is_joined g m || is_synced g m) (has_to_rejoin g m) e is
  where
    go : (seen due : Bool) → step ≡ cond seen (cond due Rejoin Read) Sync → (step ≡ Rejoin) ⊎ (step ≡ Read) → seen ≡ true
    go true due e is = refl
    go false due e (inl rejoin) = absurd (cc (e, rejoin))
    go false due e (inr read) = absurd (cc (e, read))

either : (a b : Bool) → b ≡ true → (a || b) ≡ true
either true b e = refl
either false b e = e

has_synced : (g : GroupState) (m : ℕ) → is_present g m ≡ true → (is_joined (synced_if_new g m) m || is_synced (synced_if_new g m) m) ≡ true
unfolding synced_if_new
has_synced g m here = go (is_joined g m || is_synced g m) refl
  where
    go : (b : Bool) → (is_joined g m || is_synced g m) ≡ b → (is_joined (cond b g (synced_by g m)) m || is_synced (cond b g (synced_by g m)) m) ≡ true
    go true e = e
    go false e = either (is_joined (synced_by g m) m) (is_synced (synced_by g m) m) ((sync_marks g m).synced ∙ here)

pub has_synced_after : (m : ℕ) (w w2 : WorldState) (result : Result (Unit {0}) Refusal) → is_present w.cluster.group m ≡ true → Follows w (sync_if_new m w) result w2 → result ≡ Ok tt
    → (is_joined w2.cluster.group m || is_synced w2.cluster.group m) ≡ true
has_synced_after m w w2 result here (inl done) ok =
    let group = ap (λ (x : WorldState). x.cluster.group) done.1 ∙ new_group w m (sym done.0 ∙ ok) in
    subst (λ g. (is_joined g m || is_synced g m) ≡ true) (sym group) (has_synced w.cluster.group m here)
has_synced_after m w w2 result here (inr way) ok = absurd (cc (way.0, ok))
