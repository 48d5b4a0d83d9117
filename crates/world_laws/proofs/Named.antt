-- No two present members have one name, at each step of a cluster.
use Rattle.std.proofs.Common.{◌≡◌, ◌∙◌, ◌⊎◌, ◌+◌, ◌<◌, ◌≤◌, ℕ, zero, suc, Bool, true, false, ◌||◌, List, [], ◌∷◌, ◌++◌, Option, Some, None, Result, Ok, Err, is_some, length, map, slice_get, cond, refl, sym, ap, subst, inl, inr, arith}
use Rattle.std.specs.Prelude.{nat_le}
use Rattle.std.specs.List.{list_any}
use Rattle.std.specs.Option.{option_map, option_map_or}
use Rattle.std.specs.Str.{bytes_eq}
use Rattle.std.proofs.lemmas.Bool.{false≢true}
use Rattle.std.proofs.lemmas.Bool.Decides.{eqb_tells}
use Rattle.std.proofs.lemmas.Slice.Eq.{bytes_eq-Decides}
use Rattle.lane_words.specs.declared.Refusal.{Refusal}
use Rattle.lane_words.specs.declared.Refusal.TheVariants as r
use Rattle.lane_words.specs.declared.limits.TheConstants.{MOST_MEMBERS}
use Rattle.group_machine.specs.declared.group.Slot.{Slot}
use Rattle.group_machine.specs.Cluster.{ClusterState}
use Rattle.group_machine.specs.State.{GroupState, is_present, name_of, opening, static_member}
use Rattle.group_machine.specs.Steps.{handing_on, is_name_used, join_answer, joined_by, joined_static_by, leave_answer, left_by, rejoined_by, synced_by, take_over_answer, taken_over_by}
use Rattle.group_machine.specs.Valid.{IsValidGroup}
use Rattle.group_machine.proofs.JoinLemmas.{accepted_join}
use Rattle.group_machine.proofs.SlotsLemmas.{number_given}
use Rattle.group_machine.proofs.TakeOverLemmas.{static_member_is, static_member_present}
use Rattle.group_laws.specs.Names.{names}
use Rattle.group_laws.specs.Others.{IsTakenOver}
use Rattle.group_laws.proofs.OtherLemmas.{join_leaves, leave_takes_out}
use Rattle.group_laws.proofs.PassLemmas.{rejoined_present, synced_present}
use Rattle.group_laws.proofs.ResultFacts.{joined_names, left_names, left_others}
use Rattle.group_laws.proofs.TakeOverLemmas.{accepted_take_over, static_join_leaves, take_over_hands}
use Rattle.world_laws.specs.Membership.{HaveDifferentNames}
use Rattle.world_laws.proofs.Grown.{handed_names, rejoined_names, static_names, synced_names}
use Rattle.world_laws.proofs.Steps.{GoesOn, HoldsOfMembers, HoldsOfSteps}

-- ---- the name of a number, among all names
named_at : (slots : List Slot) (k : ℕ) → option_map (λ (s : Slot). s.name) (slice_get slots k) ≡ slice_get (map (λ (s : Slot). s.name) slots) k
named_at [] k = refl
named_at (s ∷ slots) zero = refl
named_at (s ∷ slots) (suc k) = named_at slots k

same_name : (g h : GroupState) → names h ≡ names g → (m : ℕ) → name_of h m ≡ name_of g m
same_name g h same zero = refl
same_name g h same (suc k) = named_at h.slots k ∙ ap (λ l. slice_get l k) same ∙ sym (named_at g.slots k)

got_before : {A : Type 0} (xs : List A) (x : A) (k : ℕ) → k < length xs → slice_get (xs ++ x ∷ []) k ≡ slice_get xs k
got_before [] x k lt = absurd (omega arith)
got_before (y ∷ xs) x zero lt = refl
got_before (y ∷ xs) x (suc k) lt = got_before xs x k (omega arith)

got_last : {A : Type 0} (xs : List A) (x : A) → slice_get (xs ++ x ∷ []) (length xs) ≡ Some x
got_last [] x = refl
got_last (y ∷ xs) x = got_last xs x

length_names : (slots : List Slot) → length (map (λ (s : Slot). s.name) slots) ≡ length slots
length_names [] = refl
length_names (s ∷ slots) = ap (λ n. suc n) (length_names slots)

name_before : (g h : GroupState) (name : List ℕ) → names h ≡ names g ++ name ∷ [] → (m : ℕ) → m ≤ length g.slots → name_of h m ≡ name_of g m
name_before g h name more zero le = refl
name_before g h name more (suc k) le =
    named_at h.slots k ∙ ap (λ l. slice_get l k) more ∙ got_before (names g) name k (omega (arith, length_names g.slots)) ∙ sym (named_at g.slots k)

name_last : (g h : GroupState) (name : List ℕ) → names h ≡ names g ++ name ∷ [] → (n : ℕ) → n ≡ length g.slots + 1 → name_of h n ≡ Some name
name_last g h name more n is =
    let number : n ≡ suc (length (names g)) = omega (arith, is, length_names g.slots) in
    ap (name_of h) number ∙ named_at h.slots (length (names g)) ∙ ap (λ l. slice_get l (length (names g))) more ∙ got_last (names g) name

-- ---- with the same names, and nobody new
pub differ_kept : (g h : GroupState) → names h ≡ names g → ((m : ℕ) → is_present h m ≡ true → is_present g m ≡ true) → HaveDifferentNames g → HaveDifferentNames h
differ_kept g h same here differ m n name is_m is_n of_m of_n =
    differ m n name (here m is_m) (here n is_n) (sym (same_name g h same m) ∙ of_m) (sym (same_name g h same n) ∙ of_n)

-- ---- with one more member, whose name no other present one has
pub record IsOneMore (g h : GroupState) (name : List ℕ) (n : ℕ) : Type 0 where
  pub names_are : names h ≡ names g ++ name ∷ []
  pub number : n ≡ length g.slots + 1
  pub others : (m : ℕ) → (m ≡ n → ⊥) → is_present h m ≡ true → is_present g m ≡ true
  pub alone : (m : ℕ) → (m ≡ n → ⊥) → is_present h m ≡ true → name_of g m ≡ Some name → ⊥

is_or_not : (m n : ℕ) → (m ≡ n) ⊎ (m ≡ n → ⊥)
is_or_not m n =
    elim (eqb_tells m n) [
      | inl t ↦ inl t.1
      | inr f ↦ inr f.1
    ]

some_same : (xs ys : List ℕ) → Some xs ≡ Some ys → xs ≡ ys
some_same xs ys e = cc

name_old : (g h : GroupState) (name : List ℕ) (n : ℕ) → IsOneMore g h name n → (m : ℕ) → (m ≡ n → ⊥) → is_present h m ≡ true → name_of h m ≡ name_of g m
name_old g h name n more m other here =
    name_before g h name more.names_are m (number_given g.slots m (more.others m other here)).1

-- the new member has another name than the others
other_name : (g h : GroupState) (name : List ℕ) (n : ℕ) → IsOneMore g h name n → (m : ℕ) (x : List ℕ) → (m ≡ n → ⊥) → is_present h m ≡ true → name_of h m ≡ Some x → name_of h n ≡ Some x → ⊥
other_name g h name n more m x other here of_m of_n =
    let same : name ≡ x = some_same name x (sym (name_last g h name more.names_are n more.number) ∙ of_n) in
    more.alone m other here (sym (name_old g h name n more m other here) ∙ of_m ∙ ap (λ l. Some l) (sym same))

pub differ_more : (g h : GroupState) (name : List ℕ) (n : ℕ) → IsOneMore g h name n → HaveDifferentNames g → HaveDifferentNames h
differ_more g h name n more differ a b x is_a is_b of_a of_b = go (is_or_not a n) (is_or_not b n)
  where
    go : (a ≡ n) ⊎ (a ≡ n → ⊥) → (b ≡ n) ⊎ (b ≡ n → ⊥) → a ≡ b
    go (inl first) (inl second) = first ∙ sym second
    go (inl first) (inr other) = absurd (other_name g h name n more b x other is_b of_b (ap (name_of h) (sym first) ∙ of_a))
    go (inr other) (inl second) = absurd (other_name g h name n more a x other is_a of_a (ap (name_of h) (sym second) ∙ of_b))
    go (inr one) (inr two) =
        differ a b x (more.others a one is_a) (more.others b two is_b) (sym (name_old g h name n more a one is_a) ∙ of_a) (sym (name_old g h name n more b two is_b) ∙ of_b)

-- ---- joins: nobody ever had the name
unused : (slots : List Slot) (name : List ℕ) (k : ℕ) → list_any (λ (s : Slot). bytes_eq s.name name) slots ≡ false → option_map (λ (s : Slot). s.name) (slice_get slots k) ≡ Some name → ⊥
unused [] name k none is = cc is
unused (s ∷ slots) name zero none is = false≢true (sym none ∙ rw ((bytes_eq-Decides s.name name).1 (some_same s.name name is)) refl)
unused (s ∷ slots) name (suc k) none is = unused slots name k (rest (bytes_eq s.name name) (list_any (λ (t : Slot). bytes_eq t.name name) slots) none) is
  where
    rest : (a b : Bool) → (a || b) ≡ false → b ≡ false
    rest true b e = absurd (false≢true (sym e))
    rest false b e = e

new_name : (used full over : Bool) (n next : ℕ) → ◌≡◌ {A = Result ℕ Refusal} (cond used (Err r.NameUsed) (cond full (Err r.TooManyMembers) (cond over (Err r.GenerationsOver) (Ok next)))) (Ok n) → used ≡ false
new_name true full over n next e = absurd (cc e)
new_name false full over n next e = refl

nobody_had_it : (g : GroupState) (name : List ℕ) (n : ℕ) → join_answer g name ≡ Ok n → (m : ℕ) → name_of g m ≡ Some name → ⊥
nobody_had_it g name n ok zero is = cc is
nobody_had_it g name n ok (suc k) is = unused g.slots name k (new_name (is_name_used g name) (nat_le MOST_MEMBERS (length g.slots)) _ n _ ok) is

joined_differ : (g : GroupState) (name : List ℕ) (n : ℕ) → IsValidGroup g → join_answer g name ≡ Ok n → HaveDifferentNames g → HaveDifferentNames (joined_by g name)
joined_differ g name n v ok = differ_more g (joined_by g name) name n (record {
  names_are = joined_names g name;
  number = (accepted_join g name n ok).1;
  others = λ m other here. sym ((join_leaves g name n v ok).others m other).present ∙ here;
  alone = λ m other here. nobody_had_it g name n ok m;
})

joined_static_differ : (g : GroupState) (name : List ℕ) (n : ℕ) → IsValidGroup g → join_answer g name ≡ Ok n → HaveDifferentNames g → HaveDifferentNames (joined_static_by g name)
joined_static_differ g name n v ok = differ_more g (joined_static_by g name) name n (record {
  names_are = static_names g name;
  number = (accepted_join g name n ok).1;
  others = λ m other here. sym ((static_join_leaves g name n v ok).others m other).present ∙ here;
  alone = λ m other here. nobody_had_it g name n ok m;
})

-- ---- a take-over: the only present member of the name goes
taken_over_differ : (g : GroupState) (name : List ℕ) (n : ℕ) → take_over_answer g name ≡ Ok n → HaveDifferentNames g → HaveDifferentNames (taken_over_by g name)
taken_over_differ g name n ok differ = go (static_member g name) refl
  where
    go : (o : Option ℕ) → static_member g name ≡ o → HaveDifferentNames (taken_over_by g name)
    go None is = subst HaveDifferentNames (sym (ap (λ o. option_map_or (handing_on g name) o g) is)) differ
    go (Some k) is = differ_more g new name n (record {
      names_are = ap names (ap (λ o. option_map_or (handing_on g name) o g) is) ∙ handed_names g name k;
      number = omega (arith, (accepted_take_over g name n ok).1);
      others = others;
      alone = λ m other here of_m. not_gone m here (differ m k name (others m other here) (static_member_present g name k is) of_m (static_member_is g name k is).named);
    }) differ
      where
        new : GroupState
        new = taken_over_by g name

        hands : IsTakenOver g new k n
        hands = take_over_hands g name k n is ok

        not_gone : (m : ℕ) → is_present new m ≡ true → m ≡ k → ⊥
        not_gone m here same = false≢true (sym hands.seat.gone ∙ ap (is_present new) (sym same) ∙ here)

        others : (m : ℕ) → (m ≡ n → ⊥) → is_present new m ≡ true → is_present g m ≡ true
        others m other here = ap is_some (sym (hands.others m (not_gone m here) other)) ∙ here

left_differ : (g : GroupState) (member : ℕ) → IsValidGroup g → leave_answer g member ≡ Ok tt → HaveDifferentNames g → HaveDifferentNames (left_by g member)
left_differ g member v ok = differ_kept g (left_by g member) (left_names g member) here
  where
    here : (m : ℕ) → is_present (left_by g member) m ≡ true → is_present g m ≡ true
    here m is = elim (is_or_not m member) [
      | inl same ↦ absurd (false≢true (sym (leave_takes_out g member v ok) ∙ ap (is_present (left_by g member)) (sym same) ∙ is))
      | inr other ↦ sym (left_others g member m other) ∙ is
    ]

-- ---- each step
abbrev pub StayDifferent : ClusterState → ClusterState → Type 0
StayDifferent old new = HaveDifferentNames old.group → HaveDifferentNames new.group

pub stay_different : HoldsOfSteps (λ commits. StayDifferent)
stay_different = record {
  same = λ s differ. differ;
  appended = λ s keyed at v topic ok differ. differ;
  taken_over = λ s name n v ok. taken_over_differ s.group name n ok;
  synced = λ s m v. differ_kept s.group (synced_by s.group m) (synced_names s.group m) (λ k here. sym (synced_present s.group m k) ∙ here);
  rejoined = λ s m generation claim v ok. differ_kept s.group (rejoined_by s.group m) (rejoined_names s.group m) (λ k here. sym (rejoined_present s.group m k) ∙ here);
  committed = λ s c end v ok differ. differ;
}

pub members_stay_different : HoldsOfMembers (λ commits. StayDifferent)
members_stay_different = record {
  joined = λ s name n v ok. joined_differ s.group name n v.group ok;
  joined_static = λ s name n v ok. joined_static_differ s.group name n v.group ok;
  left = λ s m v ok. left_differ s.group m v.group ok;
}

pub different_on : GoesOn (λ commits. StayDifferent)
different_on xs ys a b c first second differ = second (first differ)

nobody : (partitions m : ℕ) → is_present (opening partitions) m ≡ true → ⊥
nobody partitions zero here = false≢true here
nobody partitions (suc k) here = false≢true here

pub opening_differs : (partitions : ℕ) → HaveDifferentNames (opening partitions)
opening_differs partitions m n name here = absurd (nobody partitions m here)
