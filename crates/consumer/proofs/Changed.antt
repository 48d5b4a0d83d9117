-- What polls and answers leave of a consumer, for the crates above.
use Rattle.std.proofs.Common.{◌≡◌, ◌⊎◌, ◌∙◌, ◌+◌, ◌-◌, ◌<◌, ◌≤◌, ℕ, Bool, true, false, List, Option, Some, None, Result, Ok, Err, length, slice_index_or, min, max, refl, sym, ap, subst, inl, inr, arith}
use Rattle.std.specs.Prelude.{is_none, is_some, nat_le, not, replicate, if◌then◌else◌}
use Rattle.std.specs.Option.{option_map_or}
use Rattle.std.specs.Result.{result_and}
use Rattle.std.proofs.lemmas.Bool.{cases_lt}
use Rattle.std.proofs.lemmas.Bool.Decides.{nat_tests, eqb_tells}
use Rattle.std.proofs.lemmas.List.{get_or_past, get_or-replicate, get_or-set_other, get_or-set_same, length-replicate}
use Rattle.std.proofs.Math.ListN.{length-set}
use Rattle.lane_words.specs.declared.limits.TheConstants.{MOST_PARTITIONS}
use Rattle.lane_words.specs.declared.Refusal.{Refusal}
use Rattle.lane_words.specs.declared.Refusal.TheVariants as r
use Rattle.bit_planes.proofs.Sets.{partitions_empty}
use Rattle.partition_log.specs.Logs.{PartitionLogs, log_at}
use Rattle.consumer.specs.declared.held.Held.{Held}
use Rattle.consumer.specs.Consumer.{ConsumerState, IsValidConsumer, base_of, held_at, hold_answer, is_held, joined_as, out_of_group, poll_answer, polled, polled_count, position_of, realigned, realigned_held, realigned_slot, with_held}
use Rattle.consumer.proofs.Valid.{slot_base, slot_position}

-- the same member, lease and held partitions
pub record HasSameHold (c new : ConsumerState) : Type 0 where
  pub partitions : new.partitions ≡ c.partitions
  pub member : new.member ≡ c.member
  pub generation : new.generation ≡ c.generation
  pub assigned : new.assigned ≡ c.assigned
  pub held : (q : ℕ) → is_held new q ≡ is_held c q

-- ---- one slot changed
below_if_held : (c : ConsumerState) (p : ℕ) (h : Held) → held_at c p ≡ Some h → p < length c.held
below_if_held c p h e =
    elim (cases_lt p (length c.held)) [
      | inl lt ↦ lt
      | inr le ↦ absurd (let none = get_or_past c.held p None le in cc)
    ]

is_same_or_not : (p q : ℕ) → (q ≡ p) ⊎ (q ≡ p → ⊥)
is_same_or_not p q =
    elim (cases_lt p q) [
      | inl lt ↦ inr (λ e. omega arith)
      | inr le ↦ elim (cases_lt q p) [
        | inl lt ↦ inr (λ e. omega arith)
        | inr ge ↦ inl (omega arith)
      ]
    ]

pub slot_with : (c : ConsumerState) (p : ℕ) (old h : Held) → held_at c p ≡ Some old → (q : ℕ)
    → ((q ≡ p) × (held_at (with_held c p h) q ≡ Some h)) ⊎ (held_at (with_held c p h) q ≡ held_at c q)
slot_with c p old h held q =
    elim (is_same_or_not p q) [
      | inl same ↦ inl (same, rw same (get_or-set_same c.held p (Some h) None (below_if_held c p old held)))
      | inr other ↦ inr (get_or-set_other c.held p q (Some h) None other)
    ]

pub with_same_hold : (c : ConsumerState) (p : ℕ) (old h : Held) → held_at c p ≡ Some old → HasSameHold c (with_held c p h)
with_same_hold c p old h held = record {
  partitions = refl;
  member = refl;
  generation = refl;
  assigned = refl;
  held = λ q. elim (slot_with c p old h held q) [
    | inl at ↦ ap is_some at.1 ∙ ap is_some (sym held) ∙ ap (is_held c) (sym at.0)
    | inr same ↦ ap is_some same
  ];
}

pub with_base : (c : ConsumerState) (p : ℕ) (old h : Held) → held_at c p ≡ Some old → (b : ℕ → ℕ) → h.base ≤ b p → ((q : ℕ) → base_of c q ≤ b q) → (q : ℕ) → base_of (with_held c p h) q ≤ b q
with_base c p old h held b this others q =
    elim (slot_with c p old h held q) [
      | inl at ↦ rw at.1 (rw at.0 this)
      | inr same ↦ rw same (others q)
    ]

pub with_position : (c : ConsumerState) (p : ℕ) (old h : Held) → held_at c p ≡ Some old → (b : ℕ → ℕ) → h.position ≤ b p → ((q : ℕ) → position_of c q ≤ b q) → (q : ℕ) → position_of (with_held c p h) q ≤ b q
with_position c p old h held b this others q =
    elim (slot_with c p old h held q) [
      | inl at ↦ rw at.1 (rw at.0 this)
      | inr same ↦ rw same (others q)
    ]

with_ordered : (c : ConsumerState) (p : ℕ) (old h : Held) → held_at c p ≡ Some old → h.base ≤ h.position → ((q : ℕ) → base_of c q ≤ position_of c q) → (q : ℕ) → base_of (with_held c p h) q ≤ position_of (with_held c p h) q
with_ordered c p old h held this others q =
    elim (slot_with c p old h held q) [
      | inl at ↦ rw at.1 this
      | inr same ↦ rw same (others q)
    ]

none_held : (n p : ℕ) → held_at (out_of_group n) p ≡ None
none_held n p =
    elim (cases_lt p n) [
      | inl lt ↦ get_or-replicate n p None None lt
      | inr le ↦ get_or_past (replicate n (let none : Option Held = None in none)) p None (omega (arith, length-replicate n (let none : Option Held = None in none)))
    ]

pub with_valid : (c : ConsumerState) (p : ℕ) (old h : Held) → held_at c p ≡ Some old → h.base ≤ h.position → IsValidConsumer c → IsValidConsumer (with_held c p h)
with_valid c p old h held this valid = record {
  some_partitions = valid.some_partitions;
  few_partitions = valid.few_partitions;
  one_each = length-set c.held p (Some h) ∙ valid.one_each;
  assigned_below = valid.assigned_below;
  ordered = with_ordered c p old h held this valid.ordered;
  out = λ none. absurd (let empty = ap (λ (x : ConsumerState). held_at x p) (valid.out none) ∙ none_held c.partitions p in cc);
}

-- ---- polls
held_if : (c : ConsumerState) (p : ℕ) (o : Option Held) → held_at c p ≡ o → hold_answer c p ≡ Ok tt → (h : Held) × (held_at c p ≡ Some h)
held_if c p (Some h) is ok = (h, is)
held_if c p None is ok = absurd (go (is_none c.member) (rw is at ok))
  where
    go : (out : Bool) → ◌≡◌ {A = Result (Unit {0}) Refusal} (if out then Err r.OutOfGroup else if not (is_some (let none : Option Held = None in none)) then Err r.NotHeld else Ok tt) (Ok tt) → ⊥
    go true e = cc
    go false e = cc

pub held_if_polled : (c : ConsumerState) (l : PartitionLogs) (p n count : ℕ) → poll_answer c l p n ≡ Ok count → (h : Held) × (held_at c p ≡ Some h)
held_if_polled c l p n count e = held_if c p (held_at c p) refl (go (hold_answer c p) refl e)
  where
    go : (a : Result (Unit {0}) Refusal) → hold_answer c p ≡ a → result_and a (Ok (polled_count c l p n)) ≡ Ok count → hold_answer c p ≡ Ok tt
    go (Ok u) is h = is
    go (Err why) is h = absurd (cc h)

pub record PollLeaves (c new : ConsumerState) (l : PartitionLogs) : Type 0 where
  pub valid : IsValidConsumer new
  pub hold : HasSameHold c new
  pub bases : (b : ℕ → ℕ) → ((q : ℕ) → base_of c q ≤ b q) → (q : ℕ) → base_of new q ≤ b q
  pub within : (q : ℕ) → position_of new q ≤ length (log_at l q)

pub poll_leaves : (c : ConsumerState) (l : PartitionLogs) (p n count : ℕ) → IsValidConsumer c → ((q : ℕ) → position_of c q ≤ length (log_at l q)) → poll_answer c l p n ≡ Ok count → PollLeaves c (polled c l p n) l
poll_leaves c l p n count valid within answer =
    let held = held_if_polled c l p n count answer in
    let h : Held = record { base = base_of c p; position = position_of c p + polled_count c l p n } in
    record {
      valid = with_valid c p held.0 h held.1 (omega (arith, valid.ordered p)) valid;
      hold = with_same_hold c p held.0 h held.1;
      bases = λ b others. with_base c p held.0 h held.1 b (others p) others;
      within = with_position c p held.0 h held.1 (λ q. length (log_at l q)) (omega (arith, within p)) within;
    }

-- ---- answers
pub record RealignLeaves (c new : ConsumerState) (p committed : ℕ) : Type 0 where
  pub valid : IsValidConsumer new
  pub hold : HasSameHold c new
  pub bases : (b : ℕ → ℕ) → committed ≤ b p → ((q : ℕ) → base_of c q ≤ b q) → (q : ℕ) → base_of new q ≤ b q
  pub positions : (b : ℕ → ℕ) → committed ≤ b p → ((q : ℕ) → position_of c q ≤ b q) → (q : ℕ) → position_of new q ≤ b q

same_hold : (c : ConsumerState) → HasSameHold c c
same_hold c = record { partitions = refl; member = refl; generation = refl; assigned = refl; held = λ q. refl }

realigned_ordered : (h : Held) (k : ℕ) → (realigned_held h k).base ≤ (realigned_held h k).position
realigned_ordered h k = go (nat_le h.base k)
  where
    go : (b : Bool) → k ≤ (if b then max h.position k else k)
    go true = omega arith
    go false = omega arith

realigned_position : (h : Held) (k most : ℕ) → h.position ≤ most → k ≤ most → (realigned_held h k).position ≤ most
realigned_position h k most old new = go (nat_le h.base k)
  where
    go : (b : Bool) → (if b then max h.position k else k) ≤ most
    go true = omega arith
    go false = new

pub realign_leaves : (c : ConsumerState) (p k : ℕ) → IsValidConsumer c → RealignLeaves c (realigned c p k) p k
realign_leaves c p k valid = go (held_at c p) refl
  where
    go : (o : Option Held) → held_at c p ≡ o → RealignLeaves c (realigned_slot c p k o) p k
    go None is = record { valid = valid; hold = same_hold c; bases = λ b this others. others; positions = λ b this others. others }
    go (Some h) is = record {
      valid = with_valid c p h (realigned_held h k) is (realigned_ordered h k) valid;
      hold = with_same_hold c p h (realigned_held h k) is;
      bases = λ b this others. with_base c p h (realigned_held h k) is b this others;
      positions = λ b this others. with_position c p h (realigned_held h k) is b
          (realigned_position h k (b p) (subst (λ (o : Option Held). slot_position o ≤ b p) is (others p)) this) others;
    }

-- ---- out, and joined
pub nothing_held : (n p : ℕ) → is_held (out_of_group n) p ≡ false
nothing_held n p = ap is_some (none_held n p)

pub base_out : (n p : ℕ) → base_of (out_of_group n) p ≡ 0
base_out n p = ap slot_base (none_held n p)

pub position_out : (n p : ℕ) → position_of (out_of_group n) p ≡ 0
position_out n p = ap slot_position (none_held n p)

pub out_valid : (n : ℕ) → 1 ≤ n → n ≤ MOST_PARTITIONS → IsValidConsumer (out_of_group n)
out_valid n some few = record {
  some_partitions = some;
  few_partitions = few;
  one_each = length-replicate n None;
  assigned_below = partitions_empty n;
  ordered = λ p. omega (arith, base_out n p, position_out n p);
  out = λ none. refl;
}

pub joined_valid : (n member : ℕ) → 1 ≤ n → n ≤ MOST_PARTITIONS → IsValidConsumer (joined_as (out_of_group n) member)
joined_valid n member some few = record {
  some_partitions = some;
  few_partitions = few;
  one_each = length-replicate n None;
  assigned_below = partitions_empty n;
  ordered = λ p. omega (arith, base_out n p, position_out n p);
  out = λ none. absurd (cc none);
}
