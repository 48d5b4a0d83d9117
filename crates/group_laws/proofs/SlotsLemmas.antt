-- Changes of all seats, one after the other.
use Rattle.std.proofs.Common.{ℕ, suc, ◌≡◌, ◌+◌, List, [], ◌∷◌, Option, Some, None, slice_get, refl, ap, sym, ◌∙◌, arith}
use Rattle.std.specs.Option.{option_map}
use Rattle.group_machine.specs.declared.group.Slot.{Slot}
use Rattle.group_machine.specs.declared.group.Seat.{Seat}
use Rattle.group_machine.specs.Slots.{seat_in, seat_of, reseated_from, each_changed}
use Rattle.group_machine.proofs.SlotsLemmas.{slot_with, reseated_same}

pub reseated_two : (m : ℕ) (f g : ℕ → Option Seat → Option Seat) (slots : List Slot) → reseated_from m f (reseated_from m g slots) ≡ reseated_from m (λ n o. f n (g n o)) slots
reseated_two m f g [] = refl
reseated_two m f g (s ∷ slots) = ap (λ r. slot_with s.name (f m (g m s.seat)) ∷ r) (reseated_two (suc m) f g slots)

on_seat_same : (f g : Seat → Seat) (o : Option Seat) → ((x : Seat) → o ≡ Some x → f x ≡ g x) → option_map f o ≡ option_map g o
on_seat_same f g None same = refl
on_seat_same f g (Some x) same = ap (λ y. Some y) (same x refl)

pub each_same : (f g : ℕ → Seat → Seat) (slots : List Slot) → ((m : ℕ) (x : Seat) → seat_of slots m ≡ Some x → f m x ≡ g m x) → each_changed f slots ≡ each_changed g slots
each_same f g slots same = reseated_same 1 (λ m. option_map (f m)) (λ m. option_map (g m)) slots (λ k lt.
    let e : 1 + k ≡ suc k = omega arith in
    ap (λ n. option_map (f n) (seat_in (slice_get slots k))) e ∙ on_seat_same (f (suc k)) (g (suc k)) (seat_in (slice_get slots k)) (λ x is. same (suc k) x is) ∙ ap (λ n. option_map (g n) (seat_in (slice_get slots k))) (sym e))

on_seat_two : (f g : Seat → Seat) (o : Option Seat) → option_map f (option_map g o) ≡ option_map (λ x. f (g x)) o
on_seat_two f g None = refl
on_seat_two f g (Some x) = refl

pub each_two : (f g : ℕ → Seat → Seat) (slots : List Slot) → each_changed f (each_changed g slots) ≡ each_changed (λ m x. f m (g m x)) slots
each_two f g slots = reseated_two 1 (λ m. option_map (f m)) (λ m. option_map (g m)) slots ∙ reseated_same 1 (λ m o. option_map (f m) (option_map (g m) o)) (λ m. option_map (λ x. f m (g m x))) slots (λ k lt. on_seat_two (f (1 + k)) (g (1 + k)) (seat_in (slice_get slots k)))
