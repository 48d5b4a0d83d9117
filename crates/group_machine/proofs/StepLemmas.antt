-- Each step leaves a valid group.
use Rattle.std.proofs.Common.{ℕ, zero, suc, ◌≡◌, ◌<◌, ◌≤◌, ◌==◌, Bool, true, false, ◌&&◌, ◌||◌, ◌⊎◌, inl, inr, List, [], ◌∷◌, ◌++◌, Option, Some, None, length, map, slice_get, refl, ap, sym, ◌∙◌, subst, arith, is_some, cond, replicate, length-append}
use Rattle.std.proofs.lemmas.Bool.{false≢true}
use Rattle.std.specs.List.{list_any, list_all}
use Rattle.std.specs.Option.{option_map}
use Rattle.lane_words.specs.declared.limits.TheConstants.{MOST_MEMBERS, MOST_PARTITIONS}
use Rattle.bit_planes.specs.PartitionSet.{partitions_of, is_in, is_within, is_same, empty_set}
use Rattle.bit_planes.proofs.Sets.{in_empty, partitions_empty, within_of, within_says}
use Rattle.sticky_assignor.specs.Balanced.{IsBalanced}
use Rattle.group_machine.specs.declared.group.Slot.{Slot}
use Rattle.group_machine.specs.declared.group.Seat.{Seat}
use Rattle.group_machine.specs.Slots.{seat_in, seat_of, each_changed, one_changed, only_of, present}
use Rattle.group_machine.specs.State.{GroupState, opening, member_of, members, is_present, is_anybody, is_joined, seat_joined, seat_granted, seat_assigned, granted_of, assigned_of}
use Rattle.group_machine.specs.Completion.{all_joined}
use Rattle.group_machine.specs.Settled.{is_stable, agrees, is_settled}
use Rattle.group_machine.specs.Steps.{new_seat, newcomer, joining, rejoined_seat, rejoining, synced_seat, synced_by, static_seat, made_static, leaving}
use Rattle.group_machine.specs.Valid.{IsDisjoint, IsConsistentSeat, AreConsistentSeats, IsValidGroup}
use Rattle.group_machine.specs.Private.Changes.{IsChanged}
use Rattle.group_machine.proofs.SlotsLemmas.{seat_each, seat_without, one_is_each, at_only}
use Rattle.group_machine.proofs.PresentLemmas.{numbers_each, length_reseated, any_each, any_of, all_of, present_each}
use Rattle.group_machine.proofs.Rows.{map_same}
use Rattle.group_machine.proofs.CompletionLemmas.{seat_behind, some_of}

-- ---- seats that are changed one by one
abbrev pub with_slots : GroupState → List Slot → GroupState
with_slots g slots = record g { slots = slots }

pub consistent_each : (g : GroupState) (f : ℕ → Seat → Seat) → ((m : ℕ) (x : Seat) → IsConsistentSeat g.partitions x → IsConsistentSeat g.partitions (f m x)) → AreConsistentSeats g → AreConsistentSeats (with_slots g (each_changed f g.slots))
consistent_each g f preserves consistent m y is =
    let b = seat_behind (f m) (member_of g m) y (sym (seat_each f g.slots m) ∙ is) in
    subst (IsConsistentSeat g.partitions) (sym b.2) (preserves m b.0 (consistent m b.0 b.1))

less_seat : (p : ℕ) (f : Seat → Seat) (o : Option Seat) (q : ℕ) → ((x : Seat) → o ≡ Some x → is_in (f x).granted q ≡ true → is_in x.granted q ≡ true) → is_in (seat_granted p (option_map f o)) q ≡ true → is_in (seat_granted p o) q ≡ true
less_seat p f None q less e = e
less_seat p f (Some x) q less e = less x refl e

pub granted_each : (g : GroupState) (f : ℕ → Seat → Seat) → ((m : ℕ) (x : Seat) → IsConsistentSeat g.partitions x → (q : ℕ) → is_in (f m x).granted q ≡ true → is_in x.granted q ≡ true) → AreConsistentSeats g → (m q : ℕ) → is_in (granted_of (with_slots g (each_changed f g.slots)) m) q ≡ true → is_in (granted_of g m) q ≡ true
granted_each g f less consistent m q e =
    less_seat g.partitions (f m) (member_of g m) q (λ x is. less m x (consistent m x is) q) (ap (λ o. is_in (seat_granted g.partitions o) q) (sym (seat_each f g.slots m)) ∙ e)

pub disjoint_each : (g : GroupState) (f : ℕ → Seat → Seat) → ((m : ℕ) (x : Seat) → IsConsistentSeat g.partitions x → (q : ℕ) → is_in (f m x).granted q ≡ true → is_in x.granted q ≡ true) → AreConsistentSeats g → IsDisjoint g → IsDisjoint (with_slots g (each_changed f g.slots))
disjoint_each g f less consistent disjoint m n q e h = disjoint m n q (granted_each g f less consistent m q e) (granted_each g f less consistent n q h)

-- ---- one member's seat
pub only_consistent : (p : ℕ) (f : Seat → Seat) → ((x : Seat) → IsConsistentSeat p x → IsConsistentSeat p (f x)) → (member m : ℕ) (x : Seat) → IsConsistentSeat p x → IsConsistentSeat p (at_only member f m x)
only_consistent p f preserves member m x consistent = go (m == member)
  where
    go : (b : Bool) → IsConsistentSeat p (cond b (f x) x)
    go true = preserves x consistent
    go false = consistent

pub only_less : (f : Seat → Seat) (x : Seat) (q : ℕ) (member m : ℕ) → (is_in (f x).granted q ≡ true → is_in x.granted q ≡ true) → is_in (at_only member f m x).granted q ≡ true → is_in x.granted q ≡ true
only_less f x q member m less e = go (m == member) e
  where
    go : (b : Bool) → is_in (cond b (f x) x).granted q ≡ true → is_in x.granted q ≡ true
    go true h = less h
    go false h = h

pub only_same : {X : Type 0} (h : Seat → X) (f : Seat → Seat) → ((x : Seat) → h (f x) ≡ h x) → (member m : ℕ) (x : Seat) → h (at_only member f m x) ≡ h x
only_same h f same member m x = go (m == member)
  where
    go : (b : Bool) → h (cond b (f x) x) ≡ h x
    go true = same x
    go false = refl

-- ---- joining
seat_more : (slots : List Slot) (s : Slot) (k : ℕ) (x : Seat) → seat_in (slice_get (slots ++ s ∷ []) k) ≡ Some x → (seat_in (slice_get slots k) ≡ Some x) ⊎ (s.seat ≡ Some x)
seat_more [] s zero x is = inr is
seat_more [] s (suc k) x is = cc
seat_more (t ∷ slots) s zero x is = inl is
seat_more (t ∷ slots) s (suc k) x is = seat_more slots s k x is

member_more : (slots : List Slot) (s : Slot) (m : ℕ) (x : Seat) → seat_of (slots ++ s ∷ []) m ≡ Some x → (seat_of slots m ≡ Some x) ⊎ (s.seat ≡ Some x)
member_more slots s zero x is = cc
member_more slots s (suc k) x is = seat_more slots s k x is

granted_more : (p : ℕ) (name : List ℕ) (slots : List Slot) (k q : ℕ) → is_in (seat_granted p (seat_in (slice_get (slots ++ newcomer p name ∷ []) k))) q ≡ true → is_in (seat_granted p (seat_in (slice_get slots k))) q ≡ true
granted_more p name [] zero q e = e
granted_more p name [] (suc k) q e = e
granted_more p name (t ∷ slots) zero q e = e
granted_more p name (t ∷ slots) (suc k) q e = granted_more p name slots k q e

joined_granted : (g : GroupState) (name : List ℕ) (m q : ℕ) → is_in (granted_of (joining g name) m) q ≡ true → is_in (granted_of g m) q ≡ true
joined_granted g name zero q e = e
joined_granted g name (suc k) q e = granted_more g.partitions name g.slots k q e

new_consistent : (p : ℕ) → IsConsistentSeat p (new_seat p)
new_consistent p = record { granted_below = partitions_empty p; assigned_below = partitions_empty p; within = within_of (empty_set p) (empty_set p) (λ q e. e); equal = λ e. refl }

any_more : (slots : List Slot) (s : Slot) → is_some s.seat ≡ true → list_any (λ t. is_some t.seat) (slots ++ s ∷ []) ≡ true
any_more [] s e = rw e refl
any_more (t ∷ slots) s e = rw (any_more slots s e) (or_true (is_some t.seat))
  where
    or_true : (b : Bool) → (b || true) ≡ true
    or_true true = refl
    or_true false = refl

alone_joined : (g : GroupState) (name : List ℕ) → is_anybody g ≡ false → all_joined (joining g name) ≡ true
alone_joined g name none = all_of (λ x. x.joined) (joining g name).slots (λ m x is. go m x (member_more g.slots (newcomer g.partitions name) m x is))
  where
    go : (m : ℕ) (x : Seat) → (seat_of g.slots m ≡ Some x) ⊎ (Some (new_seat g.partitions) ≡ Some x) → x.joined ≡ true
    go m x (inl is) = absurd (false≢true (sym none ∙ any_of g.slots m x is))
    go m x (inr is) = let same : new_seat g.partitions ≡ x = cc in ap (λ y. y.joined) (sym same)

pub joining_consistent : (g : GroupState) (name : List ℕ) → AreConsistentSeats g → AreConsistentSeats (joining g name)
joining_consistent g name consistent m x is = go (member_more g.slots (newcomer g.partitions name) m x is)
  where
    go : (seat_of g.slots m ≡ Some x) ⊎ (Some (new_seat g.partitions) ≡ Some x) → IsConsistentSeat g.partitions x
    go (inl was) = consistent m x was
    go (inr new) = let same : new_seat g.partitions ≡ x = cc in subst (IsConsistentSeat g.partitions) same (new_consistent g.partitions)

pub joining_disjoint : (g : GroupState) (name : List ℕ) → IsDisjoint g → IsDisjoint (joining g name)
joining_disjoint g name disjoint m n q e h = disjoint m n q (joined_granted g name m q e) (joined_granted g name n q h)

pub joining_changed : (g : GroupState) (name : List ℕ) → IsValidGroup g → length g.slots < MOST_MEMBERS → IsChanged (joining g name)
joining_changed g name valid capacity =
    let any : is_anybody (joining g name) ≡ true = any_more g.slots (newcomer g.partitions name) refl in
    record {
      sized = record {
        some_partitions = valid.sized.some_partitions;
        few_partitions = valid.sized.few_partitions;
        few_members = omega (arith, length-append g.slots (newcomer g.partitions name ∷ []), capacity);
        a_holder_each = valid.sized.a_holder_each;
      };
      disjoint = joining_disjoint g name valid.disjoint;
      consistent = joining_consistent g name valid.consistent;
      held = λ m q e. valid.held m q (joined_granted g name m q e);
      some = λ e. refl;
      gone = λ e. absurd (false≢true (sym e ∙ any));
      counted = λ e h. counts (is_anybody g) refl h;
    }
  where
    counts : (b : Bool) → is_anybody g ≡ b → all_joined (joining g name) ≡ false → 0 < g.generation
    counts true e h = valid.counted e
    counts false e h = absurd (false≢true (sym h ∙ alone_joined g name e))

-- ---- rejoining
pub any_of_present : (g : GroupState) (member : ℕ) → is_present g member ≡ true → is_anybody g ≡ true
any_of_present g member e = let x = some_of (member_of g member) e in any_of g.slots member x.0 x.1

pub consistent_rejoined : (p : ℕ) (x : Seat) → IsConsistentSeat p x → IsConsistentSeat p (rejoined_seat x)
consistent_rejoined p x consistent = record { granted_below = consistent.assigned_below; assigned_below = consistent.assigned_below; within = within_of x.assigned x.assigned (λ q e. e); equal = λ e. refl }

rejoined_less : (p : ℕ) (member m : ℕ) (x : Seat) → IsConsistentSeat p x → (q : ℕ) → is_in (at_only member rejoined_seat m x).granted q ≡ true → is_in x.granted q ≡ true
rejoined_less p member m x consistent q e = only_less rejoined_seat x q member m (within_says x.assigned x.granted consistent.within q) e

pub rejoining_consistent : (g : GroupState) (member : ℕ) → AreConsistentSeats g → AreConsistentSeats (rejoining g member)
rejoining_consistent g member consistent = subst (λ (slots : List Slot). AreConsistentSeats (with_slots g slots)) (sym (one_is_each rejoined_seat g.slots member)) (consistent_each g (at_only member rejoined_seat) (only_consistent g.partitions rejoined_seat (consistent_rejoined g.partitions) member) consistent)

pub rejoining_disjoint : (g : GroupState) (member : ℕ) → AreConsistentSeats g → IsDisjoint g → IsDisjoint (rejoining g member)
rejoining_disjoint g member consistent disjoint = subst (λ (slots : List Slot). IsDisjoint (with_slots g slots)) (sym (one_is_each rejoined_seat g.slots member)) (disjoint_each g (at_only member rejoined_seat) (rejoined_less g.partitions member) consistent disjoint)

rejoining_granted : (g : GroupState) (member : ℕ) → AreConsistentSeats g → (m q : ℕ) → is_in (granted_of (rejoining g member) m) q ≡ true → is_in (granted_of g m) q ≡ true
rejoining_granted g member consistent m q e =
    granted_each g (at_only member rejoined_seat) (rejoined_less g.partitions member) consistent m q (ap (λ slots. is_in (seat_granted g.partitions (seat_of slots m)) q) (sym (one_is_each rejoined_seat g.slots member)) ∙ e)

pub any_rejoining : (g : GroupState) (member : ℕ) → is_anybody (rejoining g member) ≡ is_anybody g
any_rejoining g member = ap (λ slots. list_any (λ s. is_some s.seat) slots) (one_is_each rejoined_seat g.slots member) ∙ any_each (at_only member rejoined_seat) g.slots

pub rejoining_changed : (g : GroupState) (member : ℕ) → IsValidGroup g → is_present g member ≡ true → IsChanged (rejoining g member)
rejoining_changed g member valid here =
    let any : is_anybody g ≡ true = any_of_present g member here in
    record {
      sized = record {
        some_partitions = valid.sized.some_partitions;
        few_partitions = valid.sized.few_partitions;
        few_members = omega (arith, length_reseated (only_of member (option_map rejoined_seat)) g.slots, valid.sized.few_members);
        a_holder_each = valid.sized.a_holder_each;
      };
      disjoint = rejoining_disjoint g member valid.consistent valid.disjoint;
      consistent = rejoining_consistent g member valid.consistent;
      held = λ m q e. valid.held m q (rejoining_granted g member valid.consistent m q e);
      some = λ e. refl;
      gone = λ e. absurd (false≢true (sym e ∙ any_rejoining g member ∙ any));
      counted = λ e h. valid.counted any;
    }

-- ---- leaving
left_seat : (b : Bool) (o : Option Seat) (x : Seat) → cond b None o ≡ Some x → o ≡ Some x
left_seat true o x e = cc
left_seat false o x e = e

left_granted : (p : ℕ) (b : Bool) (o : Option Seat) (q : ℕ) → is_in (seat_granted p (cond b None o)) q ≡ true → is_in (seat_granted p o) q ≡ true
left_granted p true o q e = absurd (false≢true (sym (in_empty p q) ∙ e))
left_granted p false o q e = e

leaving_granted : (g : GroupState) (member m q : ℕ) → is_in (granted_of (leaving g member) m) q ≡ true → is_in (granted_of g m) q ≡ true
leaving_granted g member m q e = left_granted g.partitions (m == member) (member_of g m) q (ap (λ o. is_in (seat_granted g.partitions o) q) (sym (seat_without g.slots member m)) ∙ e)

pub leaving_consistent : (g : GroupState) (member : ℕ) → AreConsistentSeats g → AreConsistentSeats (leaving g member)
leaving_consistent g member consistent m x is = consistent m x (left_seat (m == member) (member_of g m) x (sym (seat_without g.slots member m) ∙ is))

pub leaving_disjoint : (g : GroupState) (member : ℕ) → IsDisjoint g → IsDisjoint (leaving g member)
leaving_disjoint g member disjoint m n q e h = disjoint m n q (leaving_granted g member m q e) (leaving_granted g member n q h)

pub leaving_changed : (g : GroupState) (member : ℕ) → IsValidGroup g → is_present g member ≡ true → IsChanged (leaving g member)
leaving_changed g member valid here =
    let any : is_anybody g ≡ true = any_of_present g member here in
    record {
      sized = record {
        some_partitions = valid.sized.some_partitions;
        few_partitions = valid.sized.few_partitions;
        few_members = omega (arith, length_reseated (only_of member (λ before. None)) g.slots, valid.sized.few_members);
        a_holder_each = valid.sized.a_holder_each;
      };
      disjoint = leaving_disjoint g member valid.disjoint;
      consistent = leaving_consistent g member valid.consistent;
      held = λ m q e. valid.held m q (leaving_granted g member m q e);
      some = λ e. rw e refl;
      gone = λ e. rw e refl;
      counted = λ e h. valid.counted any;
    }

-- ---- flags
all_map : (p : Seat → Bool) (f : ℕ → Seat → Seat) → ((m : ℕ) (x : Seat) → p (f m x) ≡ p x) → (xs : List (ℕ × Seat)) → list_all {X = ℕ × Seat} (λ r. p r.1) (map (λ r. (r.0, f r.0 r.1)) xs) ≡ list_all (λ r. p r.1) xs
all_map p f same [] = refl
all_map p f same (x ∷ xs) = rw (same x.0 x.1, all_map p f same xs) refl

pub all_each : (p : Seat → Bool) (f : ℕ → Seat → Seat) → ((m : ℕ) (x : Seat) → p (f m x) ≡ p x) → (slots : List Slot) → list_all {X = ℕ × Seat} (λ r. p r.1) (present (each_changed f slots)) ≡ list_all (λ r. p r.1) (present slots)
all_each p f same slots = ap (λ xs. list_all {X = ℕ × Seat} (λ r. p r.1) xs) (present_each f slots) ∙ all_map p f same (present slots)

seat_same : {X : Type 0} (h : Option Seat → X) (f : Seat → Seat) → ((x : Seat) → h (Some (f x)) ≡ h (Some x)) → (o : Option Seat) → h (option_map f o) ≡ h o
seat_same h f same None = refl
seat_same h f same (Some x) = same x

-- a change of one member's seat that leaves whether it has joined, and its sets
pub record IsFlag (f : Seat → Seat) : Type 0 where
  pub joined : (x : Seat) → (f x).joined ≡ x.joined
  pub granted : (x : Seat) → (f x).granted ≡ x.granted
  pub assigned : (x : Seat) → (f x).assigned ≡ x.assigned

abbrev pub flagged : GroupState → (Seat → Seat) → ℕ → GroupState
flagged g f member = with_slots g (one_changed f g.slots member)

pub flag_same : {X : Type 0} (f : Seat → Seat) (h : Option Seat → X) → ((x : Seat) → h (Some (f x)) ≡ h (Some x)) → (g : GroupState) (member m : ℕ) → h (member_of (flagged g f member) m) ≡ h (member_of g m)
flag_same f h same g member m =
    ap (λ slots. h (seat_of slots m)) (one_is_each f g.slots member)
    ∙ ap h (seat_each (at_only member f) g.slots m)
    ∙ seat_same h (at_only member f m) (λ x. only_same (λ y. h (Some y)) f same member m x) (member_of g m)

pub any_flag : (f : Seat → Seat) (g : GroupState) (member : ℕ) → is_anybody (flagged g f member) ≡ is_anybody g
any_flag f g member = ap (λ slots. list_any (λ s. is_some s.seat) slots) (one_is_each f g.slots member) ∙ any_each (at_only member f) g.slots

pub members_flag : (f : Seat → Seat) (g : GroupState) (member : ℕ) → members (flagged g f member) ≡ members g
members_flag f g member = ap (λ slots. map {A = ℕ × Seat} (λ r. r.0) (present slots)) (one_is_each f g.slots member) ∙ numbers_each (at_only member f) g.slots

flag_agrees : (f : Seat → Seat) → IsFlag f → (x : Seat) → agrees (f x) ≡ agrees x
flag_agrees f flag x = ap (λ s. is_same s (f x).assigned) (flag.granted x) ∙ ap (is_same x.granted) (flag.assigned x)

pub settled_flag : (f : Seat → Seat) → IsFlag f → (g : GroupState) (member : ℕ) → is_settled (flagged g f member) ≡ is_settled g
settled_flag f flag g member =
    ap (λ t. is_stable g.phase && t)
    (ap (λ slots. list_all {X = ℕ × Seat} (λ r. agrees r.1) (present slots)) (one_is_each f g.slots member)
    ∙ all_each agrees (at_only member f) (λ m x. only_same agrees f (flag_agrees f flag) member m x) g.slots)

pub consistent_flag : (p : ℕ) (f : Seat → Seat) → IsFlag f → (x : Seat) → IsConsistentSeat p x → IsConsistentSeat p (f x)
consistent_flag p f flag x consistent = record {
  granted_below = ap partitions_of (flag.granted x) ∙ consistent.granted_below;
  assigned_below = ap partitions_of (flag.assigned x) ∙ consistent.assigned_below;
  within = ap (λ s. is_within s (f x).granted) (flag.assigned x) ∙ ap (is_within x.assigned) (flag.granted x) ∙ consistent.within;
  equal = λ e. flag.assigned x ∙ consistent.equal (sym (flag.joined x) ∙ e) ∙ sym (flag.granted x);
}

pub flag_valid : (f : Seat → Seat) → IsFlag f → (g : GroupState) (member : ℕ) → IsValidGroup g → IsValidGroup (flagged g f member)
flag_valid f flag g member valid =
    let p : ℕ = g.partitions in
    let now : GroupState = flagged g f member in
    let granted : (m : ℕ) → granted_of now m ≡ granted_of g m = λ m. flag_same f (seat_granted p) (λ x. flag.granted x) g member m in
    let assigned : (m : ℕ) → assigned_of now m ≡ assigned_of g m = λ m. flag_same f (seat_assigned p) (λ x. flag.assigned x) g member m in
    let joined : (m : ℕ) → is_joined now m ≡ is_joined g m = λ m. flag_same f seat_joined (λ x. flag.joined x) g member m in
    let here : (m : ℕ) → is_present now m ≡ is_present g m = λ m. flag_same f is_some (λ x. refl) g member m in
    let same : members now ≡ members g = members_flag f g member in
    record {
      sized = record {
        some_partitions = valid.sized.some_partitions;
        few_partitions = valid.sized.few_partitions;
        few_members = omega (arith, length_reseated (only_of member (option_map f)) g.slots, valid.sized.few_members);
        a_holder_each = valid.sized.a_holder_each;
      };
      disjoint = λ m n q e h. valid.disjoint m n q (ap (λ s. is_in s q) (sym (granted m)) ∙ e) (ap (λ s. is_in s q) (sym (granted n)) ∙ h);
      consistent = subst (λ (slots : List Slot). AreConsistentSeats (with_slots g slots)) (sym (one_is_each f g.slots member)) (consistent_each g (at_only member f) (only_consistent p f (consistent_flag p f flag) member) valid.consistent);
      held = λ m q e. valid.held m q (ap (λ s. is_in s q) (sym (granted m)) ∙ e);
      balanced = λ s.
          let was = valid.balanced (sym (settled_flag f flag g member) ∙ s) in
          let rows : map (granted_of g) (members g) ≡ map (granted_of now) (members g) = map_same (granted_of g) (granted_of now) (members g) (λ m listed. sym (granted m)) in
          subst (λ (ms : List ℕ). IsBalanced p (map (granted_of now) ms)) (sym same) (subst (IsBalanced p) rows was);
      stable = λ s m. joined m ∙ valid.stable s m;
      within_balanced = λ s.
          let was = valid.within_balanced s in (
            was.0,
            record {
              below = was.1.below;
              balanced = subst (λ (ms : List ℕ). IsBalanced p (map was.0 ms)) (sym same) was.1.balanced;
              within = λ m. ap (λ t. is_within t (was.0 m)) (assigned m) ∙ was.1.within m;
            },
          );
      preparing = λ s. let was = valid.preparing s in (was.0, here was.0 ∙ was.1, joined was.0 ∙ was.2);
      empty = (λ s. any_flag f g member ∙ valid.empty.0 s, λ s. valid.empty.1 (sym (any_flag f g member) ∙ s));
      counted = λ a. valid.counted (sym (any_flag f g member) ∙ a);
    }

-- ---- syncing
pub sync_flag : IsFlag synced_seat
sync_flag = record { joined = λ x. refl; granted = λ x. refl; assigned = λ x. refl }

pub sync_valid : (g : GroupState) (member : ℕ) → IsValidGroup g → IsValidGroup (synced_by g member)
sync_valid g member valid = flag_valid synced_seat sync_flag g member valid

-- ---- becoming static
static_flag : IsFlag static_seat
static_flag = record { joined = λ x. refl; granted = λ x. refl; assigned = λ x. refl }

pub static_valid : (g : GroupState) (member : ℕ) → IsValidGroup g → IsValidGroup (made_static g member)
static_valid g member valid = flag_valid static_seat static_flag g member valid

-- ---- nobody
nobody_at : (m : ℕ) → seat_of [] m ≡ None
nobody_at zero = refl
nobody_at (suc k) = refl

pub length_replicate : {A : Type 0} (n : ℕ) (x : A) → length (replicate n x) ≡ n
length_replicate zero x = refl
length_replicate (suc n) x = ap (λ k. suc k) (length_replicate n x)

pub opening_valid : (p : ℕ) → 1 ≤ p → p ≤ MOST_PARTITIONS → IsValidGroup (opening p)
opening_valid p some few = record {
  sized = record { some_partitions = some; few_partitions = few; few_members = omega arith; a_holder_each = length_replicate p None };
  disjoint = λ m n q e h. absurd (false≢true (sym (in_empty p q) ∙ ap (λ o. is_in (seat_granted p o) q) (sym (nobody_at m)) ∙ e));
  consistent = λ m x is. let none : None ≡ Some x = sym (nobody_at m) ∙ is in cc;
  held = λ m q e. absurd (false≢true (sym (in_empty p q) ∙ ap (λ o. is_in (seat_granted p o) q) (sym (nobody_at m)) ∙ e));
  balanced = λ s. absurd (false≢true s);
  stable = λ s. cc;
  within_balanced = λ s. cc;
  preparing = λ s. cc;
  empty = (λ s. refl, λ s. refl);
  counted = λ a. absurd (false≢true a);
}
