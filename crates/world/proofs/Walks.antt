-- Walks over the numbers of members.
use Rattle.std.proofs.Common.{◌≡◌, ◌∙◌, ◌+◌, ◌<◌, ◌≤◌, ℕ, zero, suc, Bool, true, false, ◌&&◌, List, [], ◌∷◌, ◌++◌, Option, Some, None, is_some, length, map, drop, get_or, refl, sym, ap, arith}
use Rattle.std.specs.Prelude.{if◌then◌else◌, nat_lt, slice_get}
use Rattle.std.specs.Option.{option_map_or}
use Rattle.std.proofs.lemmas.Bool.Decides.{nat_tests}
use Rattle.bit_planes.specs.PartitionSet.{PartitionSet, elements, empty_set, is_in, partitions_of, set_where}
use Rattle.bit_planes.specs.Private.Lists.{list_where}
use Rattle.bit_planes.proofs.Sets.{in_where, partitions_where, same_set}
use Rattle.consumer.specs.Consumer.{ConsumerState, is_held}
use Rattle.world.specs.Draining.{held_by}
use Rattle.world.specs.World.{WorldState, consumer_of}
use Rattle.group_machine.specs.declared.group.Slot.{Slot}
use Rattle.group_machine.specs.Slots.{present_from, seat_in, seat_of}
use Rattle.group_machine.proofs.WalkLemmas.{numbers_drop_gone, numbers_drop_here, numbers_drop_past}

-- the numbers of the present members of the slots from an index on
abbrev pub numbers_left : List Slot → ℕ → List ℕ
numbers_left slots i = map (λ m. m.0) (present_from (i + 1) (drop i slots))

at_index : (slots : List Slot) (i : ℕ) → i < length slots → (s : Slot) × (slice_get slots i ≡ Some s) × (s ≡ get_or slots i s)
at_index [] i lt = absurd (omega arith)
at_index (s ∷ slots) zero lt = (s, refl, refl)
at_index (s ∷ slots) (suc i) lt = at_index slots i (omega arith)

seat_here : (slots : List Slot) (i : ℕ) (s : Slot) → slice_get slots i ≡ Some s → seat_of slots (i + 1) ≡ s.seat
seat_here slots i s e =
    let next : i + 1 ≡ suc i = omega arith in
    ap (seat_of slots) next ∙ ap (λ o. seat_in o) e

pub numbers_here : (slots : List Slot) (i : ℕ) → i < length slots → is_some (seat_of slots (i + 1)) ≡ true → numbers_left slots i ≡ (i + 1) ∷ numbers_left slots (i + 1)
numbers_here slots i lt here =
    let at = at_index slots i lt in
    numbers_drop_here slots i at.0 lt at.2 (sym (ap is_some (seat_here slots i at.0 at.1)) ∙ here)

pub numbers_gone : (slots : List Slot) (i : ℕ) → i < length slots → is_some (seat_of slots (i + 1)) ≡ false → numbers_left slots i ≡ numbers_left slots (i + 1)
numbers_gone slots i lt gone =
    let at = at_index slots i lt in
    numbers_drop_gone slots i at.0 lt at.2 (sym (ap is_some (seat_here slots i at.0 at.1)) ∙ gone)

pub numbers_past : (slots : List Slot) (i : ℕ) → length slots ≤ i → numbers_left slots i ≡ []
numbers_past slots i le = numbers_drop_past slots (i + 1) i le

abbrev pub AreBelow : ℕ → List ℕ → Type 0
AreBelow n [] = Unit {0}
AreBelow n (x ∷ xs) = (x < n) × AreBelow n xs

below_append : (n : ℕ) (xs ys : List ℕ) → AreBelow n xs → AreBelow n ys → AreBelow n (xs ++ ys)
below_append n [] ys a b = b
below_append n (x ∷ xs) ys a b = (a.0, below_append n xs ys a.1 b)

below_more : (n : ℕ) (xs : List ℕ) → AreBelow n xs → AreBelow (suc n) xs
below_more n [] a = tt
below_more n (x ∷ xs) a = (omega (arith, a.0), below_more n xs a.1)

last_below : (n : ℕ) (b : Bool) → AreBelow (suc n) (if b then n ∷ [] else [])
last_below n true = (omega arith, tt)
last_below n false = tt

where_below : (n : ℕ) (f : ℕ → Bool) → AreBelow n (list_where n f)
where_below zero f = tt
where_below (suc n) f = below_append (suc n) (list_where n f) (if f n then n ∷ [] else []) (below_more n (list_where n f) (where_below n f)) (last_below n (f n))

pub elements_below : (s : PartitionSet) → AreBelow (partitions_of s) (elements s)
unfolding elements
elements_below s = where_below (partitions_of s) (is_in s)

pub holds_none : (w : WorldState) (m : ℕ) → consumer_of w m ≡ None → held_by w m ≡ empty_set w.cluster.group.partitions
unfolding held_by
holds_none w m e = ap (λ o. option_map_or (λ c. set_where w.cluster.group.partitions (is_held c)) o (empty_set w.cluster.group.partitions)) e

pub holds_some : (w : WorldState) (m : ℕ) (c : ConsumerState) → consumer_of w m ≡ Some c → held_by w m ≡ set_where w.cluster.group.partitions (is_held c)
unfolding held_by
holds_some w m c e = ap (λ o. option_map_or (λ x. set_where w.cluster.group.partitions (is_held x)) o (empty_set w.cluster.group.partitions)) e

held_partitions_of : (w : WorldState) (m : ℕ) (o : Option ConsumerState) → partitions_of (option_map_or (λ c. set_where w.cluster.group.partitions (is_held c)) o (empty_set w.cluster.group.partitions)) ≡ w.cluster.group.partitions
unfolding empty_set
held_partitions_of w m None = partitions_where w.cluster.group.partitions (λ q. false)
held_partitions_of w m (Some c) = partitions_where w.cluster.group.partitions (is_held c)

pub held_partitions : (w : WorldState) (m : ℕ) → partitions_of (held_by w m) ≡ w.cluster.group.partitions
unfolding held_by
held_partitions w m = held_partitions_of w m (consumer_of w m)

below_and : (q p : ℕ) (b : Bool) → q < p → (nat_lt q p && b) ≡ b
below_and q p b lt = grind (arith, nat_tests)

pub held_whole : (s : PartitionSet) (w : WorldState) (m p : ℕ) (c : ConsumerState) → consumer_of w m ≡ Some c → partitions_of s ≡ w.cluster.group.partitions → w.cluster.group.partitions ≤ p
    → ((q : ℕ) → is_in s q ≡ (nat_lt q p && is_held c q)) → s ≡ held_by w m
held_whole s w m p c is_consumer partitions over each =
    let whole = set_where w.cluster.group.partitions (is_held c) in
    same_set s whole (partitions ∙ sym (partitions_where w.cluster.group.partitions (is_held c)))
    (λ q lt. each q ∙ below_and q p (is_held c q) (omega (arith, lt, partitions)) ∙ sym (in_where w.cluster.group.partitions (is_held c) q (omega (arith, lt, partitions))))
    ∙ sym (holds_some w m c is_consumer)
