-- A member that is out stays out, and its commits stay refused.
use Rattle.std.proofs.Common.{◌≡◌, ◌∙◌, ◌+◌, ◌<◌, ◌≤◌, ℕ, Bool, true, false, not, List, Option, Some, None, Result, Ok, Err, is_some, length, cond, refl, sym, ap, subst, inl, inr, arith}
use Rattle.std.specs.Prelude.{◌==◌}
use Rattle.std.specs.Result.{result_and}
use Rattle.std.specs.Option.{option_map_or}
use Rattle.std.proofs.lemmas.Bool.{false≢true}
use Rattle.std.proofs.lemmas.Bool.Decides.{eqb_tells}
use Rattle.lane_words.specs.declared.Refusal.{Refusal}
use Rattle.lane_words.specs.declared.Refusal.TheVariants as r
use Rattle.bit_planes.specs.PartitionSet.{is_in}
use Rattle.group_machine.specs.Cluster.{ClusterState, CommitTerms, cluster_commit_answer, commit_answer, fence}
use Rattle.group_machine.specs.State.{GroupState, granted_of, is_present, static_member}
use Rattle.group_machine.specs.Steps.{handing_on, join_answer, joined_by, joined_static_by, leave_answer, left_by, rejoined_by, synced_by, take_over_answer, taken_over_by}
use Rattle.group_machine.specs.Valid.{IsValidGroup}
use Rattle.group_machine.proofs.JoinLemmas.{accepted_join}
use Rattle.group_laws.proofs.OtherLemmas.{accepted_leave, join_leaves}
use Rattle.group_laws.proofs.PassLemmas.{rejoined_present, synced_present}
use Rattle.group_laws.proofs.ResultFacts.{left_others}
use Rattle.group_laws.proofs.TakeOverLemmas.{accepted_take_over, static_join_leaves, take_over_hands}
use Rattle.world.proofs.Slots.{joined_slots, joined_static_slots, left_slots, rejoined_slots, synced_slots, taken_over_slots}
use Rattle.world_laws.specs.Membership.{IsOut}
use Rattle.world_laws.proofs.Steps.{GoesOn, HoldsOfMembers, HoldsOfSteps}

abbrev pub StaysOut : ℕ → ClusterState → ClusterState → Type 0
StaysOut m old new = IsOut old.group m → IsOut new.group m

-- ---- a member that is out stays out
out_with : (old new : GroupState) (m : ℕ) → length old.slots ≤ length new.slots → is_present new m ≡ is_present old m → IsOut old m → IsOut new m
out_with old new m longer same out = (omega (arith, longer, out.0), same ∙ out.1)

not_the_next : (m n slots : ℕ) → m ≤ slots → n ≡ slots + 1 → m ≡ n → ⊥
not_the_next m n slots le next same = omega (arith, le, next, same)

not_out : (g : GroupState) (m n : ℕ) → is_present g n ≡ true → is_present g m ≡ false → m ≡ n → ⊥
not_out g m n here out same = false≢true (sym out ∙ ap (is_present g) same ∙ here)

joined_out : (m : ℕ) (g : GroupState) (name : List ℕ) (n : ℕ) → IsValidGroup g → join_answer g name ≡ Ok n → IsOut g m → IsOut (joined_by g name) m
joined_out m g name n v ok out =
    let left = (join_leaves g name n v ok).others m (not_the_next m n (length g.slots) out.0 (accepted_join g name n ok).1) in
    out_with g (joined_by g name) m (omega (arith, joined_slots g name)) left.present out

joined_static_out : (m : ℕ) (g : GroupState) (name : List ℕ) (n : ℕ) → IsValidGroup g → join_answer g name ≡ Ok n → IsOut g m → IsOut (joined_static_by g name) m
joined_static_out m g name n v ok out =
    let left = (static_join_leaves g name n v ok).others m (not_the_next m n (length g.slots) out.0 (accepted_join g name n ok).1) in
    out_with g (joined_static_by g name) m (omega (arith, joined_static_slots g name)) left.present out

taken_over_out : (m : ℕ) (g : GroupState) (name : List ℕ) (n : ℕ) → take_over_answer g name ≡ Ok n → IsOut g m → IsOut (taken_over_by g name) m
taken_over_out m g name n ok out = go (static_member g name) refl
  where
    go : (o : Option ℕ) → static_member g name ≡ o → IsOut (taken_over_by g name) m
    go None is = subst (λ (h : GroupState). IsOut h m) (sym (ap (λ o. option_map_or (handing_on g name) o g) is)) out
    go (Some k) is =
        let hands = take_over_hands g name k n is ok in
        let number : n ≡ length g.slots + 1 = omega (arith, (accepted_take_over g name n ok).1) in
        let at = hands.others m (not_out g m k hands.seat.was_present out.1) (not_the_next m n (length g.slots) out.0 number) in
        out_with g (taken_over_by g name) m (omega (arith, taken_over_slots g name k is)) (ap is_some at) out

left_out : (m : ℕ) (g : GroupState) (member : ℕ) → leave_answer g member ≡ Ok tt → IsOut g m → IsOut (left_by g member) m
left_out m g member ok out =
    let here = accepted_leave (is_present g member) _ ok in
    out_with g (left_by g member) m (omega (arith, left_slots g member)) (left_others g member m (not_out g m member here out.1)) out

pub stays_out : (m : ℕ) → HoldsOfSteps (λ commits. StaysOut m)
stays_out m = record {
  same = λ s out. out;
  appended = λ s keyed at v topic ok out. out;
  taken_over = λ s name n v ok. taken_over_out m s.group name n ok;
  synced = λ s member v. out_with s.group (synced_by s.group member) m (omega (arith, synced_slots s.group member)) (synced_present s.group member m);
  rejoined = λ s member generation claim v ok. out_with s.group (rejoined_by s.group member) m (omega (arith, rejoined_slots s.group member)) (rejoined_present s.group member m);
  committed = λ s c end v ok out. out;
}

pub members_stay_out : (m : ℕ) → HoldsOfMembers (λ commits. StaysOut m)
members_stay_out m = record {
  joined = λ s name n v ok. joined_out m s.group name n v.group ok;
  joined_static = λ s name n v ok. joined_static_out m s.group name n v.group ok;
  left = λ s member v ok. left_out m s.group member ok;
}

pub out_on : (m : ℕ) → GoesOn (λ commits. StaysOut m)
out_on m xs ys a b c first second out = second (first out)

-- ---- the fence refuses its commits, and those of another generation
pub out_refused : (s : ClusterState) (c : CommitTerms) → is_present s.group c.member ≡ false → cluster_commit_answer s c ≡ Err r.UnknownMember
out_refused s c out = rw out refl

passed_fence : (a : Result (Unit {0}) Refusal) (b : Result ℕ Refusal) (end : ℕ) → result_and a b ≡ Ok end → a ≡ Ok tt
passed_fence (Ok u) b end e = refl
passed_fence (Err why) b end e = absurd (cc e)

is_current : (here current granted : Bool)
    → ◌≡◌ {A = Result (Unit {0}) Refusal} (cond (not here) (Err r.UnknownMember) (cond (not current) (Err r.StaleGeneration) (cond (not granted) (Err r.NotOwner) (Ok tt)))) (Ok tt) → current ≡ true
is_current false current granted e = absurd (cc e)
is_current true false granted e = absurd (cc e)
is_current true true granted e = refl

is_number : (m n : ℕ) → (m == n) ≡ true → m ≡ n
is_number m n e =
    elim (eqb_tells m n) [
      | inl t ↦ t.1
      | inr f ↦ absurd (cc (f.0, e))
    ]

pub over_refused : (s : ClusterState) (c : CommitTerms) (end : ℕ) → c.generation < s.group.generation → cluster_commit_answer s c ≡ Ok end → ⊥
over_refused s c end over ok =
    let fenced = passed_fence (fence s.group c) (commit_answer s.store s.logs c.partition c.from c.ids) end ok in
    let current = is_current (is_present s.group c.member) (c.generation == s.group.generation) (is_in (granted_of s.group c.member) c.partition) fenced in
    omega (arith, over, is_number c.generation s.group.generation current)
