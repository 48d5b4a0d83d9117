-- The invariant of a consumer, through leases and revocations.
use Rattle.std.proofs.Common.{◌≡◌, ◌+◌, ◌<◌, ◌≤◌, ℕ, Bool, true, false, List, Option, Some, None, length, map, replicate, slice_index_or, refl, sym, ◌∙◌, ap, subst, inl, inr, arith}
use Rattle.std.specs.Prelude.{if◌then◌else◌}
use Rattle.std.specs.Option.{option_map_or}
use Rattle.std.specs.List.{range_with_len}
use Rattle.std.proofs.lemmas.Bool.{cases_lt}
use Rattle.std.proofs.lemmas.List.{get_or_past, get_or-replicate, length-replicate}
use Rattle.std.proofs.lemmas.List.FromFn.{fill_by_all, get_or-map-range_with_len, length-map-range_with_len}
use Rattle.bit_planes.specs.PartitionSet.{is_in, partitions_of, empty_set}
use Rattle.group_machine.specs.Cluster.{LeaseTerms, start_of}
use Rattle.consumer.specs.declared.held.Held.{Held}
use Rattle.consumer.specs.Consumer.{ConsumerState, IsValidConsumer, base_of, given_up, held_at, leased, leased_slot, out_of_group, position_of}

abbrev pub slot_base : Option Held → ℕ
slot_base o = option_map_or (λ h. h.base) o 0

abbrev pub slot_position : Option Held → ℕ
slot_position o = option_map_or (λ h. h.position) o 0

abbrev slots_by : (ℕ → Option Held) → ℕ → List (Option Held)
slots_by f n = map f (range_with_len 0 n)

pub slot_by : (f : ℕ → Option Held) (n p : ℕ) → p < n → slice_index_or (slots_by f n) p None ≡ f p
slot_by f n p lt = get_or-map-range_with_len f 0 n p p None lt (omega arith)

pub slot_past : (f : ℕ → Option Held) (n p : ℕ) → n ≤ p → slice_index_or (slots_by f n) p None ≡ None
slot_past f n p le = get_or_past (slots_by f n) p None (omega (arith, length-map-range_with_len f 0 n))

ordered_by : (f : ℕ → Option Held) (n : ℕ) → ((p : ℕ) → p < n → slot_base (f p) ≤ slot_position (f p)) → (p : ℕ) → slot_base (slice_index_or (slots_by f n) p None) ≤ slot_position (slice_index_or (slots_by f n) p None)
ordered_by f n each p =
    elim (cases_lt p n) [
      | inl lt ↦ rw (slot_by f n p lt) (each p lt)
      | inr le ↦ rw (slot_past f n p le) (omega arith)
    ]

lease_ordered : (lease : LeaseTerms) (p : ℕ) (o : Option Held) → slot_base o ≤ slot_position o → slot_base (leased_slot lease p o) ≤ slot_position (leased_slot lease p o)
lease_ordered lease p (Some h) le = le
lease_ordered lease p None le = go (is_in lease.assigned p)
  where
    go : (b : Bool) → slot_base (if b then Some (record { base = start_of lease p; position = start_of lease p }) else None) ≤ slot_position (if b then Some (record { base = start_of lease p; position = start_of lease p }) else None)
    go true = omega arith
    go false = omega arith

pub leased_valid : (c : ConsumerState) (lease : LeaseTerms) → IsValidConsumer c → c.member ≡ Some lease.member → partitions_of lease.assigned ≡ c.partitions → IsValidConsumer (leased c lease)
leased_valid c lease valid member over = record {
  some_partitions = valid.some_partitions;
  few_partitions = valid.few_partitions;
  one_each = length-map-range_with_len (λ p. leased_slot lease p (held_at c p)) 0 (length c.held) ∙ valid.one_each;
  assigned_below = over;
  ordered = ordered_by (λ p. leased_slot lease p (held_at c p)) (length c.held) (λ p lt. lease_ordered lease p (held_at c p) (valid.ordered p));
  out = λ none. cc;
}

retained_ordered : (b : Bool) (o : Option Held) → slot_base o ≤ slot_position o → slot_base (if b then o else None) ≤ slot_position (if b then o else None)
retained_ordered true o le = le
retained_ordered false o le = omega arith

none_if : (b : Bool) (o : Option Held) → o ≡ None → None ≡ (if b then o else None)
none_if true o e = sym e
none_if false o e = refl

none_in : (n p : ℕ) → p < n → slice_index_or (replicate n (let none : Option Held = None in none)) p None ≡ None
none_in n p lt = get_or-replicate n p None None lt

given_up_out : (n : ℕ) → given_up (out_of_group n) ≡ out_of_group n
given_up_out n =
    let slots : List (Option Held) = replicate n None in
    let long : length slots ≡ n = length-replicate n None in
    let f : ℕ → Option Held = λ p. if is_in (empty_set n) p then slice_index_or slots p None else None in
    ap (λ held. record (out_of_group n) { held = held })
    (ap (λ k. map f (range_with_len 0 k)) long ∙ sym (fill_by_all f slots n None long (λ k lt. none_in n k lt ∙ none_if (is_in (empty_set n) k) (slice_index_or slots k None) (none_in n k lt))))

pub given_up_valid : (c : ConsumerState) → IsValidConsumer c → IsValidConsumer (given_up c)
given_up_valid c valid = record {
  some_partitions = valid.some_partitions;
  few_partitions = valid.few_partitions;
  one_each = length-map-range_with_len (λ p. if is_in c.assigned p then held_at c p else None) 0 (length c.held) ∙ valid.one_each;
  assigned_below = valid.assigned_below;
  ordered = ordered_by (λ p. if is_in c.assigned p then held_at c p else None) (length c.held) (λ p lt. retained_ordered (is_in c.assigned p) (held_at c p) (valid.ordered p));
  out = λ none. ap given_up (valid.out none) ∙ given_up_out c.partitions;
}
