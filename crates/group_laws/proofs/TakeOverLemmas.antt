-- Static members, and what a take-over preserves.
use Rattle.std.proofs.Common.{ℕ, suc, ◌≡◌, ◌+◌, ◌<◌, Bool, true, false, ◌&&◌, not, ◌⊎◌, List, [], ◌∷◌, ◌++◌, Option, Some, None, Result, Ok, Err, is_some, length, slice_get, cond, nat_lt, nat_le, refl, ap, sym, ◌∙◌, subst, arith, inl, inr}
use Rattle.std.proofs.lemmas.Bool.{false≢true}
use Rattle.std.proofs.lemmas.Bool.Decides.{nat_tests}
use Rattle.std.specs.List.{position_or_len}
use Rattle.std.specs.Option.{option_map, option_map_or}
use Rattle.std.specs.Str.{bytes_eq}
use Rattle.lane_words.specs.declared.limits.TheConstants.{MOST_MEMBERS}
use Rattle.lane_words.specs.declared.Refusal.{Refusal}
use Rattle.lane_words.specs.declared.Refusal.TheVariants as r
use Rattle.bit_planes.specs.PartitionSet.{is_in}
use Rattle.group_machine.specs.declared.group.Slot.{Slot}
use Rattle.group_machine.specs.declared.group.Seat.{Seat}
use Rattle.group_machine.specs.Slots.{seat_of, reseated_from, each_changed, without_seat}
use Rattle.group_machine.specs.State.{GroupState, member_of, is_present, is_anybody, is_kept, seat_is_static, seat_joined, seat_synced, seat_granted, seat_assigned, granted_of, name_of, is_static_as, static_member}
use Rattle.group_machine.specs.Moves.{held_by}
use Rattle.group_machine.specs.Settled.{is_settled}
use Rattle.group_machine.specs.Steps.{join_answer, joined_by, static_seat, made_static, joined_static_by, handed_seat, successor, handing_on, take_over_answer, taken_over_by}
use Rattle.group_machine.specs.Valid.{IsValidGroup}
use Rattle.group_machine.proofs.SlotsLemmas.{slot_with, seat_each, at_only, one_is_each, same_id}
use Rattle.group_machine.proofs.PresentLemmas.{length_reseated}
use Rattle.group_machine.proofs.StepLemmas.{flag_same, static_valid}
use Rattle.group_machine.proofs.JoinLemmas.{accepted_join}
use Rattle.group_machine.proofs.SeatMoves.{handed_new, handed_gone, handed_other, handed_has, handed_settled, handed_valid}
use Rattle.group_machine.proofs.TakeOverLemmas.{static_member_is, static_member_present}
use Rattle.group_laws.specs.Rounds.{seat_without_flags, without_flags, round, rebalance_result}
use Rattle.group_laws.specs.Others.{IsAsBefore, IsInNextGeneration, LeavesMember, LeavesOthers, IsNewcomer, IsTakenOver}
use Rattle.group_laws.proofs.StepLemmas.{join_valid}
use Rattle.group_laws.proofs.OtherLemmas.{seat_past, as_before, leaves_before, join_leaves, join_brings}
use Rattle.group_laws.proofs.ResultFacts.{without_flags_more, without_without_flags}

taken_over_is : (g : GroupState) (name : List ℕ) (m : ℕ) → static_member g name ≡ Some m → taken_over_by g name ≡ handing_on g name m
taken_over_is g name m e = ap (λ o. option_map_or (handing_on g name) o g) e

-- ---- a take-over that is accepted
full_or_not : (some full : Bool) (n m : ℕ) → ◌≡◌ {A = Result ℕ Refusal} (cond (not some) (Err r.NotKept) (cond full (Err r.TooManyMembers) (Ok n))) (Ok m) → (full ≡ false) × (m ≡ n)
full_or_not false full n m e = cc
full_or_not true true n m e = cc
full_or_not true false n m e = (refl, cc)

pub accepted_take_over : (g : GroupState) (name : List ℕ) (n : ℕ) → take_over_answer g name ≡ Ok n → (length g.slots < MOST_MEMBERS) × (n ≡ suc (length g.slots))
accepted_take_over g name n ok =
    let a = full_or_not (is_some (static_member g name)) (nat_le MOST_MEMBERS (length g.slots)) (length g.slots + 1) n ok in
    (capacity (length g.slots) a.0, omega (arith, a.1))
  where
    capacity : (k : ℕ) → nat_le MOST_MEMBERS k ≡ false → k < MOST_MEMBERS
    capacity k e = grind (arith, nat_tests)

pub take_over_valid : (g : GroupState) (name : List ℕ) (m n : ℕ) → IsValidGroup g → static_member g name ≡ Some m → take_over_answer g name ≡ Ok n → IsValidGroup (taken_over_by g name)
take_over_valid g name m n valid is_static ok =
    subst IsValidGroup (sym (taken_over_is g name m is_static)) (handed_valid g name m valid (static_member_present g name m is_static) (accepted_take_over g name n ok).0)

name_last : (slots : List Slot) (s : Slot) → option_map (λ (t : Slot). t.name) (slice_get (slots ++ s ∷ []) (length slots)) ≡ Some s.name
name_last [] s = refl
name_last (t ∷ slots) s = name_last slots s

named_new : (g : GroupState) (name : List ℕ) (m : ℕ) → name_of (handing_on g name m) (suc (length g.slots)) ≡ Some name
named_new g name m =
    let left : List Slot = without_seat g.slots m in
    let long : length left ≡ length g.slots = length_reseated _ g.slots in
    ap (λ k. option_map (λ (t : Slot). t.name) (slice_get (left ++ successor g name m ∷ []) k)) (sym long) ∙ name_last left (successor g name m)

not_synced : (o : Option Seat) → seat_synced (option_map handed_seat o) ≡ false
not_synced None = refl
not_synced (Some x) = refl

handed_on : (g : GroupState) (name : List ℕ) (m : ℕ) → static_member g name ≡ Some m → IsTakenOver g (handing_on g name m) m (suc (length g.slots))
handed_on g name m is_static =
    let k = static_member_is g name m is_static in
    let here : is_present g m ≡ true = ap is_some k.here in
    record {
      partitions = refl;
      generation = refl;
      newcomer = record {
        new_number = ap is_some (seat_past g.slots);
        present = handed_has is_some (λ x. refl) g name m ∙ here;
        unsynced = ap seat_synced (handed_new g name m) ∙ not_synced (member_of g m);
      };
      seat = record {
        was_present = here;
        gone = ap is_some (handed_gone g name m here);
        named = named_new g name m ∙ sym k.named;
        is_static = handed_has seat_is_static (λ x. refl) g name m ∙ ap seat_is_static k.here ∙ k.is_static;
        joined = handed_has seat_joined (λ x. refl) g name m;
        granted = handed_has (seat_granted g.partitions) (λ x. refl) g name m;
        assigned = handed_has (seat_assigned g.partitions) (λ x. refl) g name m;
      };
      others = λ i other old. handed_other g name m i other old;
    }

pub take_over_hands : (g : GroupState) (name : List ℕ) (m n : ℕ) → static_member g name ≡ Some m → take_over_answer g name ≡ Ok n → IsTakenOver g (taken_over_by g name) m n
take_over_hands g name m n is_static ok =
    let a = accepted_take_over g name n ok in
    subst (λ (h : GroupState). IsTakenOver g h m n) (sym (taken_over_is g name m is_static))
    (subst (λ (k : ℕ). IsTakenOver g (handing_on g name m) m k) (sym a.1) (handed_on g name m is_static))

pub handed_leaves : (old new : GroupState) (m n : ℕ) → IsTakenOver old new m n → (k : ℕ) → (k ≡ m → ⊥) → (k ≡ n → ⊥) → LeavesMember old new k
handed_leaves old new m n on k not_m not_n =
    let at = on.others k not_m not_n in
    leaves_before old new new k on.generation on.partitions at (as_before new k)

-- ---- a take-over starts nothing
pub taken_settled : (g : GroupState) (name : List ℕ) → is_settled (taken_over_by g name) ≡ is_settled g
taken_settled g name = go (static_member g name) refl
  where
    go : (o : Option ℕ) → static_member g name ≡ o → is_settled (option_map_or (handing_on g name) o g) ≡ is_settled g
    go None e = refl
    go (Some m) e = handed_settled g name m (static_member_present g name m e)

position_same : (p : Slot → Bool) (m : ℕ) (f : ℕ → Option Seat → Option Seat) → ((n : ℕ) (s : Slot) → p (slot_with s.name (f n s.seat)) ≡ p s) → (slots : List Slot) → position_or_len p (reseated_from m f slots) ≡ position_or_len p slots
position_same p m f same [] = refl
position_same p m f same (s ∷ slots) =
    ap (λ b. cond (not b) (1 + position_or_len p (reseated_from (suc m) f slots)) 0) (same m s)
    ∙ ap (λ k. cond (not (p s)) (1 + k) 0) (position_same p (suc m) f same slots)

static_on : (o : Option Seat) → seat_is_static (option_map seat_without_flags o) ≡ seat_is_static o
static_on None = refl
static_on (Some x) = refl

static_without_flags : (g : GroupState) (name : List ℕ) → static_member (without_flags g) name ≡ static_member g name
static_without_flags g name =
    let at : position_or_len (is_static_as name) (without_flags g).slots ≡ position_or_len (is_static_as name) g.slots = position_same (is_static_as name) 1 (λ m. option_map seat_without_flags) (λ n s. ap (λ b. bytes_eq s.name name && b) (static_on s.seat)) g.slots in
    ap (λ o. option_map (λ k. k + 1) o)
    (ap (λ k. cond (nat_lt k (length (without_flags g).slots)) (Some k) None) at
    ∙ ap (λ n. cond (nat_lt (position_or_len (is_static_as name) g.slots) n) (Some (position_or_len (is_static_as name) g.slots)) None) (length_reseated (λ m. option_map seat_without_flags) g.slots))

two_ways : (o : Option Seat) → option_map seat_without_flags (option_map handed_seat o) ≡ option_map handed_seat (option_map seat_without_flags o)
two_ways None = refl
two_ways (Some x) = refl

granted_on : (p : ℕ) (o : Option Seat) → seat_granted p (option_map seat_without_flags o) ≡ seat_granted p o
granted_on p None = refl
granted_on p (Some x) = refl

without_flags_handed : (g : GroupState) (name : List ℕ) (m : ℕ) → without_flags (handing_on g name m) ≡ handing_on (without_flags g) name m
without_flags_handed g name m =
    let at : member_of (without_flags g) m ≡ option_map seat_without_flags (member_of g m) = seat_each (λ n. seat_without_flags) g.slots m in
    let seat : option_map seat_without_flags (option_map handed_seat (member_of g m)) ≡ option_map handed_seat (member_of (without_flags g) m) = two_ways (member_of g m) ∙ ap (option_map handed_seat) (sym at) in
    let slots : each_changed (λ n. seat_without_flags) (handing_on g name m).slots ≡ (handing_on (without_flags g) name m).slots =
    without_flags_more (without_seat g.slots m) (successor g name m)
    ∙ ap (λ (xs : List Slot). xs ++ slot_with name (option_map seat_without_flags (option_map handed_seat (member_of g m))) ∷ []) (sym (without_without_flags g.slots m))
    ∙ ap (λ o. without_seat (without_flags g).slots m ++ slot_with name o ∷ []) seat in
    let granted : granted_of g m ≡ granted_of (without_flags g) m = sym (ap (seat_granted g.partitions) at ∙ granted_on g.partitions (member_of g m)) in
    ap (λ (xs : List Slot). record g { slots = xs; last = held_by (length g.slots + 1) (granted_of g m) g.last }) slots
    ∙ ap (λ n. record g { slots = (handing_on (without_flags g) name m).slots; last = held_by (n + 1) (granted_of g m) g.last }) (sym (length_reseated (λ n. option_map seat_without_flags) g.slots))
    ∙ ap (λ s. record g { slots = (handing_on (without_flags g) name m).slots; last = held_by (length (without_flags g).slots + 1) s g.last }) granted

pub taken_without_flags : (g : GroupState) (name : List ℕ) → without_flags (taken_over_by g name) ≡ taken_over_by (without_flags g) name
taken_without_flags g name = go (static_member g name) ∙ ap (λ o. option_map_or (handing_on (without_flags g) name) o (without_flags g)) (sym (static_without_flags g name))
  where
    go : (o : Option ℕ) → without_flags (option_map_or (handing_on g name) o g) ≡ option_map_or (handing_on (without_flags g) name) o (without_flags g)
    go None = refl
    go (Some m) = without_flags_handed g name m

settled_end : (g : GroupState) → is_settled g ≡ true → rebalance_result g ≡ without_flags g
settled_end g settled = go (is_anybody g) (is_settled g) settled
  where
    go : (any now : Bool) → now ≡ true → cond any (cond now (without_flags g) (cond (is_settled (round g)) (round g) (round (round g)))) (without_flags g) ≡ without_flags g
    go true true e = refl
    go true false e = absurd (false≢true e)
    go false now e = refl

pub taken_end : (g : GroupState) (name : List ℕ) → is_settled g ≡ true → rebalance_result (taken_over_by g name) ≡ taken_over_by (rebalance_result g) name
taken_end g name settled =
    settled_end (taken_over_by g name) (taken_settled g name ∙ settled)
    ∙ taken_without_flags g name
    ∙ ap (λ h. taken_over_by h name) (sym (settled_end g settled))

-- ---- a join of a static member
static_same : {X : Type 0} (h : Option Seat → X) → ((x : Seat) → h (Some (static_seat x)) ≡ h (Some x)) → (g : GroupState) (member m : ℕ) → h (member_of (made_static g member) m) ≡ h (member_of g m)
static_same h same g member m = flag_same static_seat h same g member m

static_either : (old g : GroupState) (member n : ℕ) → (IsAsBefore old g n) ⊎ (IsInNextGeneration old g n) → (IsAsBefore old (made_static g member) n) ⊎ (IsInNextGeneration old (made_static g member) n)
static_either old g member n (inl b) = inl (record {
  generation = b.generation;
  joined = static_same seat_joined (λ x. refl) g member n ∙ b.joined;
  synced = static_same seat_synced (λ x. refl) g member n ∙ b.synced;
  granted = static_same (seat_granted g.partitions) (λ x. refl) g member n ∙ b.granted;
  assigned = static_same (seat_assigned g.partitions) (λ x. refl) g member n ∙ b.assigned;
})
static_either old g member n (inr b) = inr (record {
  generation = b.generation;
  joined = static_same seat_joined (λ x. refl) g member n ∙ b.joined;
  synced = static_same seat_synced (λ x. refl) g member n ∙ b.synced;
})

static_leaves : (old g : GroupState) (member n : ℕ) → LeavesMember old g n → LeavesMember old (made_static g member) n
static_leaves old g member n l = record {
  present = static_same is_some (λ x. refl) g member n ∙ l.present;
  granted = λ q e. ap (λ s. is_in s q) (static_same (seat_granted g.partitions) (λ x. refl) g member n) ∙ l.granted q e;
  either = static_either old g member n l.either;
}

pub static_join_leaves : (g : GroupState) (name : List ℕ) (n : ℕ) → IsValidGroup g → join_answer g name ≡ Ok n → LeavesOthers g (joined_static_by g name) n
static_join_leaves g name n valid ok =
    let l = join_leaves g name n valid ok in
    record {
      partitions = l.partitions;
      rises = l.rises;
      others = λ k ne. static_leaves g (joined_by g name) (length g.slots + 1) k (l.others k ne);
    }

pub static_join_brings : (g : GroupState) (name : List ℕ) (n : ℕ) → IsValidGroup g → join_answer g name ≡ Ok n → IsNewcomer g (joined_static_by g name) n
static_join_brings g name n valid ok =
    let b = join_brings g name n valid ok in
    record {
      new_number = b.new_number;
      present = static_same is_some (λ x. refl) (joined_by g name) (length g.slots + 1) n ∙ b.present;
      unsynced = static_same seat_synced (λ x. refl) (joined_by g name) (length g.slots + 1) n ∙ b.unsynced;
    }

static_seat_is_static : (o : Option Seat) → is_some o ≡ true → seat_is_static (option_map static_seat o) ≡ true
static_seat_is_static None e = absurd (false≢true e)
static_seat_is_static (Some x) e = refl

static_here : (g : GroupState) (member : ℕ) → is_present g member ≡ true → is_kept (made_static g member) member ≡ true
static_here g member here =
    ap (λ slots. seat_is_static (seat_of slots member)) (one_is_each static_seat g.slots member)
    ∙ ap seat_is_static (seat_each (at_only member static_seat) g.slots member)
    ∙ ap (λ (b : Bool). seat_is_static (option_map (λ x. cond b (static_seat x) x) (member_of g member))) (same_id member)
    ∙ static_seat_is_static (member_of g member) here

pub static_join_is_static : (g : GroupState) (name : List ℕ) (n : ℕ) → IsValidGroup g → join_answer g name ≡ Ok n → is_kept (joined_static_by g name) n ≡ true
static_join_is_static g name n valid ok =
    let number = (accepted_join g name n ok).1 in
    ap (λ k. is_kept (made_static (joined_by g name) k) n) (sym number) ∙ static_here (joined_by g name) n (join_brings g name n valid ok).present

pub static_join_valid : (g : GroupState) (name : List ℕ) → IsValidGroup g → length g.slots < MOST_MEMBERS → IsValidGroup (joined_static_by g name)
static_join_valid g name valid capacity = static_valid (joined_by g name) (length g.slots + 1) (join_valid g name valid capacity)
