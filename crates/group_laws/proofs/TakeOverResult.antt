-- The result of a rebalance after a seat is handed on.
use Rattle.std.proofs.Common.{ℕ, zero, suc, ◌≡◌, ◌+◌, ◌<◌, true, List, [], ◌∷◌, ◌++◌, length, length-append, map, refl, ap, sym, ◌∙◌, subst, arith, ◌==◌, Bool, false, Option, Some, None, inl, inr, cond}
use Rattle.std.specs.Prelude.{Ok}
use Rattle.std.specs.Option.{option_map, option_map_or}
use Rattle.std.proofs.lemmas.Bool.{false≢true, cases_eq}
use Rattle.lane_words.specs.declared.limits.TheConstants.{MOST_MEMBERS}
use Rattle.bit_planes.specs.PartitionSet.{PartitionSet, size, partitions_of, is_within, empty_set}
use Rattle.bit_planes.proofs.Sets.{in_empty, within_of}
use Rattle.sticky_assignor.specs.Balanced.{row_at, size_at, IsBalanced}
use Rattle.group_machine.specs.State.{GroupState, members, is_present, member_of, is_anybody, static_member, seat_assigned, assigned_of}
use Rattle.group_machine.specs.Steps.{handing_on, handed_seat, take_over_answer, taken_over_by}
use Rattle.group_machine.specs.Settled.{is_settled}
use Rattle.group_machine.specs.Valid.{LieInBalanced, IsValidGroup}
use Rattle.group_machine.proofs.SeatMoves.{holders_moved, handed_list, AreHanded, handed_rows, rows_before, handed_new, handed_other, handed_has, handed_within_balanced, handed_valid, handed_settled}
use Rattle.group_machine.proofs.SlotsLemmas.{same_id, other_id}
use Rattle.group_machine.proofs.PresentLemmas.{any_of}
use Rattle.group_machine.proofs.CompletionLemmas.{some_of}
use Rattle.group_machine.proofs.StepLemmas.{any_of_present}
use Rattle.group_machine.proofs.TakeOverLemmas.{static_member_present}
use Rattle.group_laws.specs.Rounds.{without_flags, round, rebalance_result}
use Rattle.group_laws.proofs.OtherLemmas.{seat_past}
use Rattle.group_laws.proofs.ResultLemmas.{end_of}
use Rattle.group_laws.proofs.WithinBalancedLemmas.{lying_round, round_lying}
use Rattle.group_laws.proofs.TakeOverLemmas.{accepted_take_over}

last_row : (ys : List PartitionSet) (x : PartitionSet) → row_at (ys ++ x ∷ []) (length ys) ≡ x
last_row [] x = refl
last_row (y ∷ ys) x = last_row ys x

front_row : (ys : List PartitionSet) (x : PartitionSet) (i : ℕ) → i < length ys → row_at (ys ++ x ∷ []) i ≡ row_at ys i
front_row [] x i lt = absurd (omega arith)
front_row (y ∷ ys) x zero lt = refl
front_row (y ∷ ys) x (suc i) lt = front_row ys x i (omega arith)

row_back : (xs ys : List PartitionSet) (x : PartitionSet) (i : ℕ) → i < length (xs ++ x ∷ ys) → (j : ℕ) × (j < length ((xs ++ ys) ++ x ∷ [])) × (row_at (xs ++ x ∷ ys) i ≡ row_at ((xs ++ ys) ++ x ∷ []) j)
row_back [] ys x zero lt = (length ys, omega (arith, length-append ys (x ∷ [])), sym (last_row ys x))
row_back [] ys x (suc i) lt = (i, omega (arith, length-append ys (x ∷ [])), sym (front_row ys x i (omega arith)))
row_back (y ∷ xs) ys x zero lt = (0, omega arith, refl)
row_back (y ∷ xs) ys x (suc i) lt = let r = row_back xs ys x i (omega arith) in (suc r.0, omega (arith, r.1), r.2)

balanced_back : (p : ℕ) (xs ys : List PartitionSet) (x : PartitionSet) → IsBalanced p ((xs ++ ys) ++ x ∷ []) → IsBalanced p (xs ++ x ∷ ys)
balanced_back p xs ys x b = record {
  once = λ q lt. sym (holders_moved xs ys x q) ∙ b.once q lt;
  even = λ i j li lj.
      let k = row_back xs ys x i li in
      let l = row_back xs ys x j lj in
      let here : size_at (xs ++ x ∷ ys) i ≡ size_at ((xs ++ ys) ++ x ∷ []) k.0 = ap size k.2 in
      let there : size_at (xs ++ x ∷ ys) j ≡ size_at ((xs ++ ys) ++ x ∷ []) l.0 = ap size l.2 in
      omega (arith, here, there, b.even k.0 l.0 k.1 l.1);
}

pub balanced_before : (g : GroupState) (name : List ℕ) (m : ℕ) (f h : ℕ → PartitionSet) → is_present g m ≡ true → AreHanded g m f h → IsBalanced g.partitions (map h (members (handing_on g name m))) → IsBalanced g.partitions (map f (members g))
balanced_before g name m f h here same b =
    let l = handed_list g name m here in
    let p : ℕ = g.partitions in
    subst (IsBalanced p) (sym (rows_before g name m f l)) (balanced_back p (map f l.front) (map f l.behind) (f m) (subst (IsBalanced p) (handed_rows g name m f h l same) b))

-- ---- what lies in balanced rows after it did so before
empty_within : (p : ℕ) (s : PartitionSet) → is_within (empty_set p) s ≡ true
empty_within p s = within_of (empty_set p) s (λ q e. absurd (false≢true (sym (in_empty p q) ∙ e)))

within_balanced_before : (g : GroupState) (name : List ℕ) (m : ℕ) (rows : ℕ → PartitionSet) → is_present g m ≡ true → LieInBalanced (handing_on g name m) rows → (rows : ℕ → PartitionSet) × LieInBalanced g rows
within_balanced_before g name m rows here lie =
    let p : ℕ = g.partitions in
    let new : ℕ = suc (length g.slots) in
    let was : ℕ → PartitionSet = λ n. cond (n == m) (rows new) (rows n) in
    let at_m : was m ≡ rows new = ap (λ b. cond b (rows new) (rows m)) (same_id m) in
    let at_other : (n : ℕ) → (n ≡ m → ⊥) → was n ≡ rows n = λ n ne. ap (λ b. cond b (rows new) (rows n)) (other_id n m ne) in (
      was,
      record {
        below = λ n. elim (cases_eq n m) [
          | inl same ↦ ap (λ k. partitions_of (was k)) same ∙ ap partitions_of at_m ∙ lie.below new
          | inr other ↦ ap partitions_of (at_other n other) ∙ lie.below n
        ];
        balanced = balanced_before g name m was rows here (λ k other old. sym (at_other k other), sym at_m) lie.balanced;
        within = λ n. elim (cases_eq n m) [
          | inl same ↦ ap (λ k. is_within (assigned_of g k) (was k)) same ∙ ap (is_within (assigned_of g m)) at_m ∙ ap (λ t. is_within t (rows new)) (sym (handed_has (seat_assigned p) (λ y. refl) g name m)) ∙ lie.within new
          | inr other ↦ elim (cases_eq n new) [
            | inl past ↦ ap (λ k. is_within (assigned_of g k) (was n)) past ∙ ap (λ o. is_within (seat_assigned p o) (was n)) (seat_past g.slots) ∙ empty_within p (was n)
            | inr old ↦ ap (λ o. is_within (seat_assigned p o) (was n)) (sym (handed_other g name m n other old)) ∙ ap (is_within (assigned_of (handing_on g name m) n)) (at_other n other) ∙ lie.within n
          ]
        ];
      },
    )

-- ---- as many rounds settle it
handed_any : (g : GroupState) (name : List ℕ) (m : ℕ) → is_present g m ≡ true → is_anybody (handing_on g name m) ≡ true
handed_any g name m here =
    let x = some_of (member_of g m) here in
    any_of (handing_on g name m).slots (suc (length g.slots)) (handed_seat x.0) (handed_new g name m ∙ ap (option_map handed_seat) x.1)

one_truth : (a b : Bool) → (a ≡ true → b ≡ true) → (b ≡ true → a ≡ true) → a ≡ b
one_truth true b h k = sym (h refl)
one_truth false true h k = k refl
one_truth false false h k = refl

handed_round : (g : GroupState) (name : List ℕ) (m : ℕ) → IsValidGroup g → is_present g m ≡ true → length g.slots < MOST_MEMBERS → is_settled (round (handing_on g name m)) ≡ is_settled (round g)
handed_round g name m is_valid here capacity =
    let now : GroupState = handing_on g name m in
    let valid : IsValidGroup now = handed_valid g name m is_valid here capacity in
    let some : is_anybody now ≡ true = handed_any g name m here in
    let any : is_anybody g ≡ true = any_of_present g m here in
    one_truth (is_settled (round now)) (is_settled (round g))
    (λ s. let n = round_lying now valid some s in let w = within_balanced_before g name m n.0 here n.1 in lying_round g is_valid any w.0 w.1)
    (λ s. let n = round_lying g is_valid any s in let w = handed_within_balanced g name m n.0 is_valid here n.1 in lying_round now valid some w.0 w.1)

-- ---- so the generation of the result is the same
end_generation : (any now once : Bool) (here one two : GroupState) → (end_of any now once here one two).generation ≡ cond any (cond now here.generation (cond once one.generation two.generation)) here.generation
end_generation true true once here one two = refl
end_generation true false true here one two = refl
end_generation true false false here one two = refl
end_generation false now once here one two = refl

-- the generation of the result, by whether it is settled now, and after one round
abbrev ends_in : Bool → Bool → Bool → ℕ → ℕ
ends_in any now once n = cond any (cond now n (cond once (n + 1) (n + 1 + 1))) n

result_generation : (g : GroupState) → (rebalance_result g).generation ≡ ends_in (is_anybody g) (is_settled g) (is_settled (round g)) g.generation
result_generation g = end_generation (is_anybody g) (is_settled g) (is_settled (round g)) (without_flags g) (round g) (round (round g))

same_ends : (a0 a1 s0 s1 o0 o1 : Bool) (n : ℕ) → a1 ≡ a0 → s1 ≡ s0 → o1 ≡ o0 → ends_in a1 s1 o1 n ≡ ends_in a0 s0 o0 n
same_ends a0 a1 s0 s1 o0 o1 n a s o = cc

pub taken_generation : (g : GroupState) (name : List ℕ) (n : ℕ) → IsValidGroup g → take_over_answer g name ≡ Ok n → (rebalance_result (taken_over_by g name)).generation ≡ (rebalance_result g).generation
taken_generation g name n is_valid ok = go (static_member g name) refl
  where
    go : (o : Option ℕ) → static_member g name ≡ o → (rebalance_result (option_map_or (handing_on g name) o g)).generation ≡ (rebalance_result g).generation
    go None e = refl
    go (Some m) e =
        let now : GroupState = handing_on g name m in
        let here : is_present g m ≡ true = static_member_present g name m e in
        let capacity : length g.slots < MOST_MEMBERS = (accepted_take_over g name n ok).0 in
        result_generation now
        ∙ same_ends (is_anybody g) (is_anybody now) (is_settled g) (is_settled now) (is_settled (round g)) (is_settled (round now)) g.generation (handed_any g name m here ∙ sym (any_of_present g m here)) (handed_settled g name m here) (handed_round g name m is_valid here capacity)
        ∙ sym (result_generation g)
