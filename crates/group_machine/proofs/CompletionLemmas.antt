-- A completion leaves a valid group.
use Rattle.std.proofs.Common.{slice_index_or, length, ℕ, ◌≡◌, Bool, true, false, ◌&&◌, ◌||◌, ◌⊎◌, inl, inr, List, Option, Some, None, map, refl, ap, sym, ◌∙◌, subst, arith, is_some}
use Rattle.std.proofs.lemmas.Bool.{false≢true}
use Rattle.std.proofs.lemmas.List.FromFn.{length-map-range_with_len}
use Rattle.std.specs.Option.{option_or, option_map}
use Rattle.bit_planes.specs.PartitionSet.{PartitionSet, partitions_of, is_in, is_within, union, empty_set}
use Rattle.bit_planes.specs.SetRows.{SetRows, set_of, IsValidRows}
use Rattle.bit_planes.proofs.Sets.{in_below, in_union, in_empty, partitions_union, within_of, same_says, both_true}
use Rattle.sticky_assignor.specs.Balanced.{IsBalanced}
use Rattle.coop_rebalance.specs.Rounds.{AreGranted, target_rows, next_rows}
use Rattle.group_machine.specs.declared.group.Seat.{Seat}
use Rattle.group_machine.specs.declared.group.Phase.TheVariants.{Empty, Preparing}
use Rattle.group_machine.specs.State.{GroupState, member_of, members, is_anybody, seat_joined, seat_granted, seat_assigned, granted_of, granted_rows, last_holder}
use Rattle.group_machine.specs.Moves.{takers}
use Rattle.group_machine.specs.Completion.{all_joined, is_ready, completed_seat, complete}
use Rattle.group_machine.specs.Settled.{is_stable, agrees, all_agree}
use Rattle.group_machine.specs.Valid.{IsConsistentSeat, IsValidGroup}
use Rattle.group_machine.specs.Private.Changes.{IsChanged}
use Rattle.group_machine.proofs.SlotsLemmas.{seat_each}
use Rattle.group_machine.proofs.PresentLemmas.{Listed, listed_present, numbers_each, length_reseated, any_each, all_says, some_not}
use Rattle.group_machine.proofs.Rows.{map_same, member_listed, set_over}
use Rattle.group_machine.proofs.Below.{target_rows_valid, target_below, target_balanced, next_members, next_rows_valid, next_below, next_in_target, next_not_other, next_disjoint, next_is_target, or_second, or_either}
use Rattle.group_machine.proofs.GroupLemmas.{members_granted, set_granted, granted_owned, granted_over}
use Rattle.group_machine.proofs.TakerLemmas.{held_after}

unstable : (g : GroupState) → IsChanged g → is_stable g.phase ≡ false
unstable g n = go (is_anybody g) refl
  where
    go : (b : Bool) → is_anybody g ≡ b → is_stable g.phase ≡ false
    go true e = ap is_stable (n.some e)
    go false e = ap is_stable (n.gone e)

any_if_preparing : (g : GroupState) → IsChanged g → g.phase ≡ Preparing → is_anybody g ≡ true
any_if_preparing g n e = go (is_anybody g) refl
  where
    go : (b : Bool) → is_anybody g ≡ b → is_anybody g ≡ true
    go true h = h
    go false h = let x : g.phase ≡ Empty = n.gone h in cc

none_if_empty : (g : GroupState) → IsChanged g → g.phase ≡ Empty → is_anybody g ≡ false
none_if_empty g n e = go (is_anybody g) refl
  where
    go : (b : Bool) → is_anybody g ≡ b → is_anybody g ≡ false
    go false h = h
    go true h = let x : g.phase ≡ Preparing = n.some h in cc

not_all : (a b : Bool) → (a && b) ≡ false → a ≡ true → b ≡ false
not_all true b e h = e
not_all false b e h = absurd (false≢true h)

pub next_valid : (g : GroupState) → IsChanged g → is_ready g ≡ false → IsValidGroup g
next_valid g n e = record {
  sized = n.sized;
  disjoint = n.disjoint;
  consistent = n.consistent;
  held = n.held;
  balanced = λ s. absurd (false≢true (sym (unstable g n) ∙ (both_true (is_stable g.phase) (all_agree g) s).0));
  stable = λ s. absurd (false≢true (sym (unstable g n) ∙ ap is_stable s));
  within_balanced = λ s. absurd (false≢true (sym (unstable g n) ∙ ap is_stable s));
  preparing = λ s.
      let r = some_not (λ x. x.joined) g.slots (not_all (is_anybody g) (all_joined g) e (any_if_preparing g n s)) in
      (r.0, ap is_some r.2, ap seat_joined r.2 ∙ r.3);
  empty = (none_if_empty g n, n.gone);
  counted = λ a. n.counted a (not_all (is_anybody g) (all_joined g) e a);
}

pub or_left : (a b : Bool) → a ≡ true → (a || b) ≡ true
or_left true b e = refl
or_left false b e = absurd (false≢true e)

completed_in : (p : ℕ) (next : SetRows) (m q : ℕ) (o : Option Seat) → ((x : Seat) → o ≡ Some x → IsConsistentSeat p x) → partitions_of (set_of next m) ≡ p → is_in (seat_granted p (option_map (completed_seat next m) o)) q ≡ true → (is_in (seat_granted p o) q ≡ true) ⊎ (is_in (set_of next m) q ≡ true)
completed_in p next m q None consistent over e = inl e
completed_in p next m q (Some x) consistent over e = or_either (is_in x.granted q) (is_in (set_of next m) q) (sym (in_union x.granted (set_of next m) q ((consistent x refl).granted_below ∙ sym over)) ∙ e)

consistent_completed : (p : ℕ) (next : SetRows) (m : ℕ) (x : Seat) → IsConsistentSeat p x → partitions_of (set_of next m) ≡ p → IsConsistentSeat p (completed_seat next m x)
consistent_completed p next m x consistent over = record {
  granted_below = partitions_union x.granted (set_of next m) ∙ consistent.granted_below;
  assigned_below = over;
  within = within_of (set_of next m) (union x.granted (set_of next m)) (λ q e. in_union x.granted (set_of next m) q (consistent.granted_below ∙ sym over) ∙ or_second (is_in x.granted q) (is_in (set_of next m) q) e);
  equal = λ e. absurd (false≢true e);
}

pub seat_behind : (f : Seat → Seat) (o : Option Seat) (y : Seat) → option_map f o ≡ Some y → (x : Seat) × (o ≡ Some x) × (y ≡ f x)
seat_behind f None y e = cc
seat_behind f (Some x) y e = (x, refl, let same : f x ≡ y = cc in sym same)

seat_agrees : (p : ℕ) (next : SetRows) (m : ℕ) (o : Option Seat) → ((x : Seat) → o ≡ Some x → IsConsistentSeat p x) → partitions_of (set_of next m) ≡ p → ((y : Seat) → option_map (completed_seat next m) o ≡ Some y → agrees y ≡ true) → (q : ℕ) → is_in (seat_granted p o) q ≡ true → o ≡ None ⊎ (is_in (set_of next m) q ≡ true)
seat_agrees p next m None consistent over agree q e = inl refl
seat_agrees p next m (Some x) consistent over agree q e =
    let same : union x.granted (set_of next m) ≡ set_of next m = same_says (union x.granted (set_of next m)) (set_of next m) (agree (completed_seat next m x) refl) in
    inr (ap (λ s. is_in s q) (sym same) ∙ in_union x.granted (set_of next m) q ((consistent x refl).granted_below ∙ sym over) ∙ or_left (is_in x.granted q) (is_in (set_of next m) q) e)

none_granted : (p : ℕ) (o : Option Seat) (q : ℕ) → o ≡ None → is_in (seat_granted p o) q ≡ true → ⊥
none_granted p o q none e = false≢true (sym (in_empty p q) ∙ ap (λ s. is_in s q) (sym (ap (seat_granted p) none)) ∙ e)

granted_settled : (p : ℕ) (next : SetRows) (m : ℕ) (o : Option Seat) (x : Seat) → o ≡ Some x → ((y : Seat) → option_map (completed_seat next m) o ≡ Some y → agrees y ≡ true) → seat_granted p (option_map (completed_seat next m) o) ≡ set_of next m
granted_settled p next m None x is agree = cc
granted_settled p next m (Some y) x is agree = same_says (union y.granted (set_of next m)) (set_of next m) (agree (completed_seat next m y) refl)

assigned_within : (p : ℕ) (next : SetRows) (row : PartitionSet) (m : ℕ) (o : Option Seat) → ((q : ℕ) → is_in (set_of next m) q ≡ true → is_in row q ≡ true) → is_within (seat_assigned p (option_map (completed_seat next m) o)) row ≡ true
assigned_within p next row m None lies = within_of (empty_set p) row (λ q e. absurd (false≢true (sym (in_empty p q) ∙ e)))
assigned_within p next row m (Some x) lies = within_of (set_of next m) row lies

pub some_of : (o : Option Seat) → is_some o ≡ true → (x : Seat) × (o ≡ Some x)
some_of None e = absurd (false≢true e)
some_of (Some x) e = (x, refl)

not_joined : (next : SetRows) (m : ℕ) (o : Option Seat) → seat_joined (option_map (completed_seat next m) o) ≡ false
not_joined next m None = refl
not_joined next m (Some x) = refl

pub complete_valid : (g : GroupState) → IsChanged g → is_ready g ≡ true → IsValidGroup (complete g)
complete_valid g n e =
    let any : is_anybody g ≡ true = (both_true (is_anybody g) (all_joined g) e).0 in
    let p : ℕ = g.partitions in
    let r : SetRows = granted_rows g in
    let next : SetRows = next_rows r in
    let owned : AreGranted r = granted_owned g n.sized n.consistent n.disjoint any in
    let valid : IsValidRows next = next_rows_valid r owned in
    let over : (m : ℕ) → partitions_of (set_of next m) ≡ p = λ m. set_over next m valid ∙ next_below r owned in
    let at : (m : ℕ) → member_of (complete g) m ≡ option_map (completed_seat next m) (member_of g m) = λ m. seat_each (completed_seat next) g.slots m in
    let same : members (complete g) ≡ members g = numbers_each (completed_seat next) g.slots in
    let own : (m q : ℕ) → is_in (granted_of g m) q ≡ true → is_in (set_of r m) q ≡ true = λ m q h. ap (λ s. is_in s q) (set_granted g m) ∙ h in
    let after : (m q : ℕ) → is_in (granted_of (complete g) m) q ≡ true → (is_in (granted_of g m) q ≡ true) ⊎ (is_in (set_of next m) q ≡ true) =
    λ m q h. completed_in p next m q (member_of g m) (λ x is. n.consistent m x is) (over m) (ap (λ o. is_in (seat_granted p o) q) (sym (at m)) ∙ h) in
    let target : IsBalanced p (map (set_of (target_rows r)) (members g)) = subst (λ (ms : List ℕ). IsBalanced p (map (set_of (target_rows r)) ms)) (members_granted g) (target_balanced r owned) in
    record {
      sized = record {
        some_partitions = n.sized.some_partitions;
        few_partitions = n.sized.few_partitions;
        few_members = omega (arith, length_reseated (λ m. option_map (completed_seat next m)) g.slots, n.sized.few_members);
        a_holder_each = length-map-range_with_len (λ q. option_or (slice_index_or (takers g next) q None) (last_holder g q)) 0 (length g.last) ∙ n.sized.a_holder_each;
      };
      disjoint = λ a b q x y. elim (after a q x) [
        | inl gx ↦ elim (after b q y) [
          | inl gy ↦ n.disjoint a b q gx gy
          | inr wy ↦ sym (next_not_other r b a q wy (own a q gx))
        ]
        | inr wx ↦ elim (after b q y) [
          | inl gy ↦ next_not_other r a b q wx (own b q gy)
          | inr wy ↦ next_disjoint r owned a b q wx wy
        ]
      ];
      consistent = λ m y is.
          let b = seat_behind (completed_seat next m) (member_of g m) y (sym (at m) ∙ is) in
          subst (IsConsistentSeat p) (sym b.2) (consistent_completed p next m b.0 (n.consistent m b.0 b.1) (over m));
      held = λ m q h. held_after g next (next_disjoint r owned) (λ k j w. subst (Listed k) (next_members r owned ∙ members_granted g) (member_listed next k j w)) (λ a b j w y. next_not_other r a b j w (own b j y)) n.sized.a_holder_each m q (elim (after m q h) [
        | inl gx ↦ omega (arith, in_below (granted_of g m) q gx, granted_over g n.consistent m)
        | inr wx ↦ omega (arith, in_below (set_of next m) q wx, over m)
      ]) (n.held m q) (after m q h);
      balanced = λ s.
          let agree : (m : ℕ) (y : Seat) → option_map (completed_seat next m) (member_of g m) ≡ Some y → agrees y ≡ true = λ m y is. all_says agrees (complete g).slots m y s (at m ∙ is) in
          let stays : (m q : ℕ) → is_in (set_of r m) q ≡ true → is_in (set_of next m) q ≡ true = λ m q h.
          let k : is_in (granted_of g m) q ≡ true = ap (λ t. is_in t q) (sym (set_granted g m)) ∙ h in
          elim (seat_agrees p next m (member_of g m) (λ x is. n.consistent m x is) (over m) (agree m) q k) [
            | inl none ↦ absurd (none_granted p (member_of g m) q none k)
            | inr w ↦ w
          ] in
          let each : (m : ℕ) → Listed m (members g) → set_of (target_rows r) m ≡ granted_of (complete g) m = λ m listed.
          let x = listed_present g.slots m listed in
          sym (ap (seat_granted p) (at m) ∙ granted_settled p next m (member_of g m) x.0 x.1 (agree m) ∙ next_is_target r owned stays m) in
          let rows_same : map (set_of (target_rows r)) (members g) ≡ map (granted_of (complete g)) (members g) = map_same (set_of (target_rows r)) (granted_of (complete g)) (members g) each in
          subst (λ (ms : List ℕ). IsBalanced p (map (granted_of (complete g)) ms)) (sym same) (subst (IsBalanced p) rows_same target);
      stable = λ s m. ap seat_joined (at m) ∙ not_joined next m (member_of g m);
      within_balanced = λ s. (
        set_of (target_rows r),
        record {
          below = λ m. set_over (target_rows r) m (target_rows_valid r owned.valid) ∙ target_below r;
          balanced = subst (λ (ms : List ℕ). IsBalanced p (map (set_of (target_rows r)) ms)) (sym same) target;
          within = λ m. ap (λ o. is_within (seat_assigned p o) (set_of (target_rows r) m)) (at m) ∙ assigned_within p next (set_of (target_rows r) m) m (member_of g m) (next_in_target r m);
        },
      );
      preparing = λ s. cc;
      empty = (λ s. cc, λ s. absurd (false≢true (sym s ∙ any_each (completed_seat next) g.slots ∙ any)));
      counted = λ a. omega arith;
    }
