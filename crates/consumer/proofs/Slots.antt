-- A loop over a set of partitions that writes the slot of each, and the sets of the two such loops.
use Rattle.std.proofs.Common.{◌≡◌, ◌≢◌, ◌∙◌, ◌<◌, ◌||◌, ◌==◌, ℕ, Bool, true, false, List, [], ◌∷◌, Option, Some, None, length, map, not, ◌&&◌, slice_index_or, refl, ap, sym, arith, inl, inr}
use Rattle.std.specs.Prelude.{is_some, slice_set, if◌then◌else◌}
use Rattle.std.specs.List.{range_with_len}
use Rattle.std.proofs.lemmas.Bool.{cases_eq}
use Rattle.std.proofs.lemmas.Bool.Decides.{nat_tests}
use Rattle.std.proofs.lemmas.List.{get_or-set_other, get_or-set_same}
use Rattle.std.proofs.lemmas.List.FromFn.{fill_by_all}
use Rattle.std.proofs.Math.ListN.{length-set}
use Rattle.bit_planes.specs.PartitionSet.{PartitionSet, elements, is_in, minus, partitions_of, union}
use Rattle.bit_planes.proofs.Sets.{both_true, in_minus, in_union, not_false, partitions_minus, partitions_union}
use Rattle.bit_planes.proofs.Listed.{is_listed, listed_elements}
use Rattle.group_machine.specs.Cluster.{LeaseTerms, start_of}
use Rattle.consumer.specs.declared.held.Held.{Held}
use Rattle.consumer.specs.Consumer.{leased_slot}
use Rattle.consumer.specs.Private.Hold.{IsHolding}

-- all slots but those of the partitions that are left are as f says, and those are in the set
pub record AreWritten (f : ℕ → Option Held) (s : PartitionSet) (n : ℕ) (held : List (Option Held)) (left : List ℕ) : Type 0 where
  pub long : length held ≡ n
  pub done : (k : ℕ) → is_listed k left ≡ false → slice_index_or held k None ≡ f k
  pub within : (k : ℕ) → is_listed k left ≡ true → is_in s k ≡ true

pub none_written : (f : ℕ → Option Held) (s : PartitionSet) (held : List (Option Held)) (left : List ℕ) → left ≡ elements s → ((k : ℕ) → is_in s k ≡ false → slice_index_or held k None ≡ f k) → AreWritten f s (length held) held left
none_written f s held left all retained = record {
  long = refl;
  done = λ k h. retained k (sym (listed k) ∙ h);
  within = λ k h. sym (listed k) ∙ h;
}
  where
    listed : (k : ℕ) → is_listed k left ≡ is_in s k
    listed k = ap (is_listed k) all ∙ listed_elements s k

this : (p : ℕ) (b : Bool) → ((p == p) || b) ≡ true
this p true = grind (arith, nat_tests)
this p false = grind (arith, nat_tests)

later : (x b : Bool) → b ≡ true → (x || b) ≡ true
later true b e = refl
later false b e = e

neither : (k p : ℕ) (b : Bool) → k ≢ p → b ≡ false → ((k == p) || b) ≡ false
neither k p b ne e = grind (arith, nat_tests, e)

pub next_in : (f : ℕ → Option Held) (s : PartitionSet) (n : ℕ) (held : List (Option Held)) (left : List ℕ) (p : ℕ) (next : List ℕ) → left ≡ p ∷ next → AreWritten f s n held left → is_in s p ≡ true
next_in f s n held left p next steps w = w.within p (ap (is_listed p) steps ∙ this p (is_listed p next))

pub one_written : (f : ℕ → Option Held) (s : PartitionSet) (n : ℕ) (held : List (Option Held)) (left : List ℕ) (p : ℕ) (next : List ℕ) (x : Option Held) → left ≡ p ∷ next → p < n → x ≡ f p → AreWritten f s n held left → AreWritten f s n (slice_set held p x) next
one_written f s n held left p next x steps lt e w = record {
  long = length-set held p x ∙ w.long;
  done = λ k h. elim (cases_eq k p) [
    | inl same ↦ rw same (get_or-set_same held p x None (let long = w.long in omega (arith, lt, long)) ∙ e)
    | inr other ↦ get_or-set_other held p k x None other ∙ w.done k (ap (is_listed k) steps ∙ neither k p (is_listed k next) other h)
  ];
  within = λ k h. w.within k (ap (is_listed k) steps ∙ later (k == p) (is_listed k next) h);
}

pub all_written : (f : ℕ → Option Held) (s : PartitionSet) (n : ℕ) (held : List (Option Held)) (left : List ℕ) → left ≡ [] → AreWritten f s n held left → held ≡ map f (range_with_len 0 n)
all_written f s n held left over w = fill_by_all f held n None w.long (λ k lt. w.done k (ap (is_listed k) over))

pub slot_written : (f : ℕ → Option Held) (s : PartitionSet) (n : ℕ) (held : List (Option Held)) (left : List ℕ) → left ≡ [] → AreWritten f s n held left → (k : ℕ) → slice_index_or held k None ≡ f k
slot_written f s n held left over w k = w.done k (ap (is_listed k) over)

none_held : (o : Option Held) → is_some o ≡ false → o ≡ None
none_held (Some h) e = absurd (cc e)
none_held None e = refl

no_first : (x y : Bool) → (x && not y) ≡ false → y ≡ false → x ≡ false
no_first x true e h = absurd (cc h)
no_first true false e h = e
no_first false false e h = refl

pub lease_same : (lease : LeaseTerms) (holding : PartitionSet) (held : List (Option Held)) → IsHolding holding held → (k : ℕ) → is_in (minus lease.assigned holding) k ≡ false → slice_index_or held k None ≡ leased_slot lease k (slice_index_or held k None)
lease_same lease holding held holds k out = go (slice_index_or held k None) (holds.elements k)
  where
    go : (o : Option Held) → is_in holding k ≡ is_some o → o ≡ leased_slot lease k o
    go (Some h) e = refl
    go None e = let off = no_first (is_in lease.assigned k) (is_in holding k) (sym (in_minus lease.assigned holding k) ∙ out) e in rw off refl

pub lease_starts : (lease : LeaseTerms) (holding : PartitionSet) (held : List (Option Held)) → IsHolding holding held → (k : ℕ) → is_in (minus lease.assigned holding) k ≡ true → leased_slot lease k (slice_index_or held k None) ≡ Some (record { base = start_of lease k; position = start_of lease k })
lease_starts lease holding held holds k new =
    let both = both_true (is_in lease.assigned k) (not (is_in holding k)) (sym (in_minus lease.assigned holding k) ∙ new) in
    let none = none_held (slice_index_or held k None) (sym (holds.elements k) ∙ not_false (is_in holding k) both.1) in
    rw none (rw both.0 refl)

pub in_first : (s t : PartitionSet) (k : ℕ) → is_in (minus s t) k ≡ true → is_in s k ≡ true
in_first s t k e = (both_true (is_in s k) (not (is_in t k)) (sym (in_minus s t k) ∙ e)).0

pub lease_holding : (lease : LeaseTerms) (holding new : PartitionSet) (held held_new : List (Option Held)) → IsHolding holding held → partitions_of lease.assigned ≡ length held → length held_new ≡ length held → new ≡ union holding lease.assigned
    → ((k : ℕ) → slice_index_or held_new k None ≡ leased_slot lease k (slice_index_or held k None)) → IsHolding new held_new
lease_holding lease holding new held held_new holds one_each long e slots = record {
  partitions = ap partitions_of e ∙ partitions_union holding lease.assigned ∙ holds.partitions ∙ sym long;
  elements = λ k. ap (λ s. is_in s k) e ∙ in_union holding lease.assigned k (holds.partitions ∙ sym one_each) ∙ go k (slice_index_or held k None) (is_in holding k) (is_in lease.assigned k) (holds.elements k) refl ∙ ap is_some (sym (slots k));
}
  where
    go : (k : ℕ) (o : Option Held) (h a : Bool) → h ≡ is_some o → is_in lease.assigned k ≡ a → (h || a) ≡ is_some (leased_slot lease k o)
    go k (Some x) true a e is = refl
    go k (Some x) false a e is = absurd (cc e)
    go k None true a e is = absurd (cc e)
    go k None false true e is = rw is refl
    go k None false false e is = rw is refl

pub given_up_same : (assigned holding : PartitionSet) (held : List (Option Held)) → IsHolding holding held → (k : ℕ) → is_in (minus holding assigned) k ≡ false → slice_index_or held k None ≡ (if is_in assigned k then slice_index_or held k None else None)
given_up_same assigned holding held holds k out = go (slice_index_or held k None) (is_in holding k) (is_in assigned k) (holds.elements k) (sym (in_minus holding assigned k) ∙ out)
  where
    go : (o : Option Held) (h a : Bool) → h ≡ is_some o → (h && not a) ≡ false → o ≡ (if a then o else None)
    go o h true e f = refl
    go None h false e f = refl
    go (Some x) true false e f = absurd (cc f)
    go (Some x) false false e f = absurd (cc e)

pub given_up_drops : (assigned holding : PartitionSet) (held : List (Option Held)) (k : ℕ) → is_in (minus holding assigned) k ≡ true → None ≡ (if is_in assigned k then slice_index_or held k None else None)
given_up_drops assigned holding held k in_both =
    let both = both_true (is_in holding k) (not (is_in assigned k)) (sym (in_minus holding assigned k) ∙ in_both) in
    let out = not_false (is_in assigned k) both.1 in
    rw out refl

pub given_up_holding : (assigned holding new : PartitionSet) (held held_new : List (Option Held)) → IsHolding holding held → length held_new ≡ length held → new ≡ minus holding (minus holding assigned)
    → ((k : ℕ) → slice_index_or held_new k None ≡ (if is_in assigned k then slice_index_or held k None else None)) → IsHolding new held_new
given_up_holding assigned holding new held held_new holds long e slots = record {
  partitions = ap partitions_of e ∙ partitions_minus holding (minus holding assigned) ∙ holds.partitions ∙ sym long;
  elements = λ k. ap (λ s. is_in s k) e ∙ in_minus holding (minus holding assigned) k ∙ ap (λ x. is_in holding k && not x) (in_minus holding assigned k) ∙ go (slice_index_or held k None) (is_in holding k) (is_in assigned k) (holds.elements k) ∙ ap is_some (sym (slots k));
}
  where
    go : (o : Option Held) (h a : Bool) → h ≡ is_some o → (h && not (h && not a)) ≡ is_some (if a then o else None)
    go o true true e = e
    go o true false e = refl
    go o false true e = e
    go o false false e = refl
