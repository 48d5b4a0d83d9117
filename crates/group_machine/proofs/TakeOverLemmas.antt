-- Static members, and what a take-over preserves.
use Rattle.std.proofs.Common.{ℕ, zero, suc, ◌≡◌, ◌+◌, ◌<◌, true, List, [], ◌∷◌, Option, Some, None, is_some, length, get_or, slice_get, refl, ap, ◌∙◌, arith}
use Rattle.std.proofs.lemmas.Bool.{false≢true}
use Rattle.std.proofs.lemmas.List.Quantifiers.{position-Some}
use Rattle.std.proofs.lemmas.Slice.Eq.{bytes_eq-Decides}
use Rattle.std.specs.List.{position}
use Rattle.std.specs.Option.{option_map}
use Rattle.std.specs.Str.{bytes_eq}
use Rattle.bit_planes.proofs.Sets.{both_true}
use Rattle.group_machine.specs.declared.group.Slot.{Slot}
use Rattle.group_machine.specs.declared.group.Seat.{Seat}
use Rattle.group_machine.specs.Slots.{seat_in}
use Rattle.group_machine.specs.State.{GroupState, member_of, is_present, seat_is_static, name_of, is_static_as, static_member}
use Rattle.group_machine.proofs.SlotsLemmas.{slot_with}

-- ---- static members
slot_got : (slots : List Slot) (k : ℕ) (d : Slot) → k < length slots → slice_get slots k ≡ Some (get_or slots k d)
slot_got [] k d lt = absurd (omega arith)
slot_got (s ∷ slots) zero d lt = refl
slot_got (s ∷ slots) (suc k) d lt = slot_got slots k d (omega arith)

static_seat_of : (o : Option Seat) → seat_is_static o ≡ true → (x : Seat) × (o ≡ Some x) × (x.is_static ≡ true)
static_seat_of None e = absurd (false≢true e)
static_seat_of (Some x) e = (x, refl, e)

one_more : (o : Option ℕ) (m : ℕ) → option_map (λ k. k + 1) o ≡ Some m → (k : ℕ) × (o ≡ Some k) × (m ≡ suc k)
one_more None m e = cc
one_more (Some k) m e = let same : k + 1 ≡ m = cc in (k, refl, omega (arith, same))

-- the static member of a name is present, is static, and has the name
pub record IsStaticMember (g : GroupState) (name : List ℕ) (m : ℕ) : Type 0 where
  pub seat : Seat
  pub here : member_of g m ≡ Some seat
  pub is_static : seat.is_static ≡ true
  pub named : name_of g m ≡ Some name

pub static_member_is : (g : GroupState) (name : List ℕ) (m : ℕ) → static_member g name ≡ Some m → IsStaticMember g name m
static_member_is g name m e =
    let d : Slot = slot_with name None in
    let k = one_more (position (is_static_as name) g.slots) m e in
    let at = position-Some (is_static_as name) g.slots k.0 d k.1 in
    let s : Slot = get_or g.slots k.0 d in
    let both = both_true (bytes_eq s.name name) (seat_is_static s.seat) at.1 in
    let x = static_seat_of s.seat both.1 in
    let got : slice_get g.slots k.0 ≡ Some s = slot_got g.slots k.0 d at.0 in
    record {
      seat = x.0;
      here = ap (member_of g) k.2 ∙ ap seat_in got ∙ x.1;
      is_static = x.2;
      named = ap (name_of g) k.2 ∙ ap (option_map (λ (t : Slot). t.name)) got ∙ ap (λ n. Some n) ((bytes_eq-Decides s.name name).0 both.0);
    }

pub static_member_present : (g : GroupState) (name : List ℕ) (m : ℕ) → static_member g name ≡ Some m → is_present g m ≡ true
static_member_present g name m e = ap is_some (static_member_is g name m e).here
