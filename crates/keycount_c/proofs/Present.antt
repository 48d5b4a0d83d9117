-- How many members are present.
use Rattle.std.proofs.Common.{ℕ, ◌≤◌, suc, List, [], ◌∷◌, Option, Some, None, arith, length}
use Rattle.std.proofs.lemmas.List.{length-map}
use Rattle.group_machine.specs.declared.group.Seat.{Seat}
use Rattle.group_machine.specs.declared.group.Slot.{Slot}
use Rattle.group_machine.specs.Slots.{and_member, members_in, present, present_from}

one_more : (m n : ℕ) (seat : Option Seat) (members : List (ℕ × Seat)) → length members ≤ n → length (and_member m seat members) ≤ suc n
one_more m n None members le = omega (arith, le)
one_more m n (Some seat) members le = omega (arith, le)

few_from : (m : ℕ) (slots : List Slot) → length (present_from m slots) ≤ length slots
few_from m [] = omega arith
few_from m (s ∷ slots) = one_more m (length slots) s.seat (present_from (suc m) slots) (few_from (suc m) slots)

pub few_members : (slots : List Slot) → length (members_in slots) ≤ length slots
few_members slots = let few = few_from 1 slots in let n = length-map (present slots) (λ m. m.0) in omega (arith, few, n)
