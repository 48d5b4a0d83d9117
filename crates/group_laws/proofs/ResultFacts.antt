-- The result of a rebalance after a join or a leave, and what a rebalance preserves.
use Rattle.std.proofs.Common.{ℕ, suc, ◌≡◌, ◌+◌, ◌≤◌, ◌==◌, Bool, true, false, ◌&&◌, List, [], ◌∷◌, ◌++◌, Option, None, is_some, map, refl, ap, sym, ◌∙◌, arith, cond}
use Rattle.std.proofs.lemmas.Bool.{false≢true}
use Rattle.std.specs.Option.{option_map}
use Rattle.group_machine.specs.declared.group.Slot.{Slot}
use Rattle.group_machine.specs.declared.group.Seat.{Seat}
use Rattle.group_machine.specs.declared.group.Phase.TheVariants.{Empty, Preparing}
use Rattle.group_machine.specs.Slots.{only_of, is_anybody_in, reseated_from, each_changed, without_seat}
use Rattle.group_machine.specs.State.{GroupState, member_of, is_present, is_anybody}
use Rattle.group_machine.specs.Completion.{is_ready, completed_seat, next_rows_of, complete, completed}
use Rattle.group_machine.specs.Settled.{is_stable, agrees, all_agree, is_settled}
use Rattle.group_machine.specs.Steps.{newcomer, joining, joined_by, phase_left, leaving, left_by}
use Rattle.group_machine.specs.Valid.{IsDisjoint, AreConsistentSeats, IsValidGroup}
use Rattle.group_machine.proofs.SlotsLemmas.{slot_with, other_id, number_given, seat_each, seat_without, reseated_same}
use Rattle.group_machine.proofs.PresentLemmas.{any_each, some_on}
use Rattle.group_machine.proofs.StepLemmas.{with_slots, consistent_each, disjoint_each, all_each, joining_consistent, joining_disjoint, leaving_consistent, leaving_disjoint}
use Rattle.group_machine.proofs.JoinLemmas.{completed_present}
use Rattle.group_laws.specs.Names.{names}
use Rattle.group_laws.specs.Rounds.{seat_without_flags, without_flags, revoked_seat, after_revocation, round, rebalance_result}
use Rattle.group_laws.proofs.SlotsLemmas.{reseated_two, each_two}
use Rattle.group_laws.proofs.AssignedLemmas.{HasPartitions, has_partitions}
use Rattle.group_laws.proofs.OtherLemmas.{joining_others}
use Rattle.group_laws.proofs.ResultLemmas.{end_of, end_same, completed_result}

-- ---- the result ignores flags
pub settled_without_flags : (g : GroupState) → is_settled (without_flags g) ≡ is_settled g
settled_without_flags g = ap (λ t. is_stable g.phase && t) (all_each agrees (λ m. seat_without_flags) (λ m x. refl) g.slots)

pub result_without_flags : (g : GroupState) → rebalance_result (without_flags g) ≡ rebalance_result g
result_without_flags g =
    let same : round (without_flags g) ≡ round g = ap (λ s. complete (with_slots g s)) (each_two (λ m. revoked_seat) (λ m. seat_without_flags) g.slots) in
    let base : without_flags (without_flags g) ≡ without_flags g = ap (λ s. with_slots g s) (each_two (λ m. seat_without_flags) (λ m. seat_without_flags) g.slots) in
    end_same (is_anybody g) (is_anybody (without_flags g)) (is_settled g) (is_settled (without_flags g)) (is_settled (round g)) (is_settled (round (without_flags g))) (without_flags g) (without_flags (without_flags g)) (round g) (round (without_flags g)) (round (round g)) (round (round (without_flags g))) (any_each (λ m. seat_without_flags) g.slots) (settled_without_flags g) (ap is_settled same) base same (ap round same)

one_end : (g h : GroupState) → without_flags g ≡ without_flags h → rebalance_result g ≡ rebalance_result h
one_end g h e = sym (result_without_flags g) ∙ ap rebalance_result e ∙ result_without_flags h

consistent_without_flags : (g : GroupState) → AreConsistentSeats g → AreConsistentSeats (without_flags g)
consistent_without_flags g consistent = consistent_each g (λ m. seat_without_flags) (λ m x f. record { granted_below = f.granted_below; assigned_below = f.assigned_below; within = f.within; equal = λ e. absurd (false≢true e) }) consistent

disjoint_without_flags : (g : GroupState) → AreConsistentSeats g → IsDisjoint g → IsDisjoint (without_flags g)
disjoint_without_flags g consistent disjoint = disjoint_each g (λ m. seat_without_flags) (λ m x f q e. e) consistent disjoint

-- ---- joining, and joining the group without its flags
reseated_more : (m : ℕ) (f : Option Seat → Option Seat) (slots : List Slot) (s : Slot) → reseated_from m (λ n. f) (slots ++ s ∷ []) ≡ reseated_from m (λ n. f) slots ++ slot_with s.name (f s.seat) ∷ []
reseated_more m f [] s = refl
reseated_more m f (t ∷ slots) s = ap (λ r. slot_with t.name (f t.seat) ∷ r) (reseated_more (suc m) f slots s)

pub without_flags_more : (slots : List Slot) (s : Slot) → each_changed (λ m. seat_without_flags) (slots ++ s ∷ []) ≡ each_changed (λ m. seat_without_flags) slots ++ slot_with s.name (option_map seat_without_flags s.seat) ∷ []
without_flags_more slots s = reseated_more 1 (option_map seat_without_flags) slots s

without_flags_joining : (g : GroupState) (name : List ℕ) → without_flags (joining (without_flags g) name) ≡ without_flags (joining g name)
without_flags_joining g name =
    let s : Slot = newcomer g.partitions name in
    ap (λ slots. with_slots (joining g name) slots) (
    without_flags_more (each_changed (λ m. seat_without_flags) g.slots) s
    ∙ ap (λ slots. slots ++ slot_with name (option_map seat_without_flags s.seat) ∷ []) (each_two (λ m. seat_without_flags) (λ m. seat_without_flags) g.slots)
    ∙ sym (without_flags_more g.slots s))

joined_result : (g : GroupState) (name : List ℕ) → HasPartitions g → AreConsistentSeats g → IsDisjoint g → rebalance_result (joined_by g name) ≡ rebalance_result (joining g name)
joined_result g name has consistent disjoint = completed_result (joining g name) has (joining_consistent g name consistent) (joining_disjoint g name disjoint) refl

pub join_without_flags : (g : GroupState) (name : List ℕ) → IsValidGroup g → rebalance_result (joined_by g name) ≡ rebalance_result (joined_by (without_flags g) name)
join_without_flags g name valid =
    let has : HasPartitions g = has_partitions g valid.sized in
    joined_result g name has valid.consistent valid.disjoint
    ∙ sym (one_end (joining (without_flags g) name) (joining g name) (without_flags_joining g name))
    ∙ sym (joined_result (without_flags g) name has (consistent_without_flags g valid.consistent) (disjoint_without_flags g valid.consistent valid.disjoint))

-- ---- leaving, and leaving the group without its flags
none_on : (f : Seat → Seat) (b : Bool) (o : Option Seat) → cond b None (option_map f o) ≡ option_map f (cond b None o)
none_on f true o = refl
none_on f false o = refl

pub without_without_flags : (slots : List Slot) (member : ℕ) → without_seat (each_changed (λ m. seat_without_flags) slots) member ≡ each_changed (λ m. seat_without_flags) (without_seat slots member)
without_without_flags slots member =
    let gone : ℕ → Option Seat → Option Seat = only_of member (λ before. None) in
    reseated_two 1 gone (λ m. option_map seat_without_flags) slots
    ∙ reseated_same 1 (λ n o. gone n (option_map seat_without_flags o)) (λ n o. option_map seat_without_flags (gone n o)) slots (λ k lt. none_on seat_without_flags ((1 + k) == member) _)
    ∙ sym (reseated_two 1 (λ m. option_map seat_without_flags) gone slots)

without_flags_leaving : (g : GroupState) (member : ℕ) → without_flags (leaving (without_flags g) member) ≡ without_flags (leaving g member)
without_flags_leaving g member =
    let left : List Slot = without_seat g.slots member in
    let same : without_seat (without_flags g).slots member ≡ each_changed (λ m. seat_without_flags) left = without_without_flags g.slots member in
    let phase : phase_left (without_seat (without_flags g).slots member) ≡ phase_left left = ap phase_left same ∙ ap (λ b. cond b Preparing Empty) (any_each (λ m. seat_without_flags) left) in
    let slots : each_changed (λ m. seat_without_flags) (without_seat (without_flags g).slots member) ≡ each_changed (λ m. seat_without_flags) left = ap (each_changed (λ m. seat_without_flags)) same ∙ each_two (λ m. seat_without_flags) (λ m. seat_without_flags) left in
    ap (λ s. record g { slots = s; phase = phase_left (without_seat (without_flags g).slots member) }) slots
    ∙ ap (λ p. record g { slots = each_changed (λ m. seat_without_flags) left; phase = p }) phase

leaving_open : (g : GroupState) (member : ℕ) → is_settled (leaving g member) ≡ false
leaving_open g member = go (is_anybody_in (without_seat g.slots member))
  where
    go : (b : Bool) → (is_stable (cond b Preparing Empty) && all_agree (leaving g member)) ≡ false
    go true = refl
    go false = refl

left_result : (g : GroupState) (member : ℕ) → HasPartitions g → AreConsistentSeats g → IsDisjoint g → rebalance_result (left_by g member) ≡ rebalance_result (leaving g member)
left_result g member has consistent disjoint = completed_result (leaving g member) has (leaving_consistent g member consistent) (leaving_disjoint g member disjoint) (leaving_open g member)

pub leave_without_flags : (g : GroupState) (member : ℕ) → IsValidGroup g → rebalance_result (left_by g member) ≡ rebalance_result (left_by (without_flags g) member)
leave_without_flags g member valid =
    let has : HasPartitions g = has_partitions g valid.sized in
    left_result g member has valid.consistent valid.disjoint
    ∙ sym (one_end (leaving (without_flags g) member) (leaving g member) (without_flags_leaving g member))
    ∙ sym (left_result (without_flags g) member has (consistent_without_flags g valid.consistent) (disjoint_without_flags g valid.consistent valid.disjoint))

-- ---- generations
end_from : (any now once : Bool) (here one two : GroupState) (n : ℕ) → n ≤ here.generation → n ≤ one.generation → n ≤ two.generation → n ≤ (end_of any now once here one two).generation
end_from true true once here one two n a b c = a
end_from true false true here one two n a b c = b
end_from true false false here one two n a b c = c
end_from false now once here one two n a b c = a

end_by : (any now once : Bool) (here one two : GroupState) (n : ℕ) → here.generation ≤ n → one.generation ≤ n → two.generation ≤ n → (end_of any now once here one two).generation ≤ n
end_by true true once here one two n a b c = a
end_by true false true here one two n a b c = b
end_by true false false here one two n a b c = c
end_by false now once here one two n a b c = a

pub result_from : (g : GroupState) → g.generation ≤ (rebalance_result g).generation
result_from g = end_from (is_anybody g) (is_settled g) (is_settled (round g)) (without_flags g) (round g) (round (round g)) g.generation (omega arith) (omega arith) (omega arith)

pub result_by : (g : GroupState) → (rebalance_result g).generation ≤ g.generation + 2
result_by g = end_by (is_anybody g) (is_settled g) (is_settled (round g)) (without_flags g) (round g) (round (round g)) (g.generation + 2) (omega arith) (omega arith) (omega arith)

-- ---- who is there
end_has : {X : Type 0} (h : GroupState → X) (x : X) (any now once : Bool) (here one two : GroupState) → h here ≡ x → h one ≡ x → h two ≡ x → h (end_of any now once here one two) ≡ x
end_has h x true true once here one two a b c = a
end_has h x true false true here one two a b c = b
end_has h x true false false here one two a b c = c
end_has h x false now once here one two a b c = a

result_has : {X : Type 0} (h : GroupState → X) → ((g : GroupState) → h (without_flags g) ≡ h g) → ((g : GroupState) → h (round g) ≡ h g) → (g : GroupState) → h (rebalance_result g) ≡ h g
result_has h flags again g = end_has h (h g) (is_anybody g) (is_settled g) (is_settled (round g)) (without_flags g) (round g) (round (round g)) (flags g) (again g) (again (round g) ∙ again g)

names_reseated : (m : ℕ) (f : ℕ → Option Seat → Option Seat) (slots : List Slot) → map (λ s. s.name) (reseated_from m f slots) ≡ map (λ s. s.name) slots
names_reseated m f [] = refl
names_reseated m f (s ∷ slots) = ap (λ r. s.name ∷ r) (names_reseated (suc m) f slots)

names_each : (f : ℕ → Seat → Seat) (slots : List Slot) → map (λ s. s.name) (each_changed f slots) ≡ map (λ s. s.name) slots
names_each f slots = names_reseated 1 (λ m. option_map (f m)) slots

pub names_result : (g : GroupState) → names (rebalance_result g) ≡ names g
names_result g = result_has names (λ h. names_each (λ m. seat_without_flags) h.slots) (λ h. names_each (completed_seat (next_rows_of (after_revocation h))) (after_revocation h).slots ∙ names_each (λ m. revoked_seat) h.slots) g

present_each_at : (f : ℕ → Seat → Seat) (g : GroupState) (m : ℕ) → is_present (with_slots g (each_changed f g.slots)) m ≡ is_present g m
present_each_at f g m = ap is_some (seat_each f g.slots m) ∙ some_on (f m) (member_of g m)

pub present_result : (g : GroupState) (m : ℕ) → is_present (rebalance_result g) m ≡ is_present g m
present_result g m = result_has (λ h. is_present h m) (λ h. present_each_at (λ n. seat_without_flags) h m) (λ h. present_each_at (completed_seat (next_rows_of (after_revocation h))) (after_revocation h) m ∙ present_each_at (λ n. revoked_seat) h m) g

completed_names : (g : GroupState) → names (completed g) ≡ names g
completed_names g = go (is_ready g)
  where
    go : (b : Bool) → names (cond b (complete g) g) ≡ names g
    go true = names_each (completed_seat (next_rows_of g)) g.slots
    go false = refl

names_more : (slots : List Slot) (s : Slot) → map (λ t. t.name) (slots ++ s ∷ []) ≡ map (λ t. t.name) slots ++ s.name ∷ []
names_more [] s = refl
names_more (t ∷ slots) s = ap (λ r. t.name ∷ r) (names_more slots s)

pub joined_names : (g : GroupState) (name : List ℕ) → names (joined_by g name) ≡ names g ++ name ∷ []
joined_names g name = completed_names (joining g name) ∙ names_more g.slots (newcomer g.partitions name)

pub joined_stays : (g : GroupState) (name : List ℕ) (m : ℕ) → is_present g m ≡ true → is_present (joined_by g name) m ≡ true
joined_stays g name m here =
    let given = number_given g.slots m here in
    completed_present (joining g name) m ∙ ap is_some (joining_others g name m (λ e. omega (arith, given.1, e))) ∙ here

pub left_names : (g : GroupState) (member : ℕ) → names (left_by g member) ≡ names g
left_names g member = completed_names (leaving g member) ∙ names_reseated 1 (only_of member (λ before. None)) g.slots

pub left_others : (g : GroupState) (member m : ℕ) → (m ≡ member → ⊥) → is_present (left_by g member) m ≡ is_present g m
left_others g member m ne = completed_present (leaving g member) m ∙ ap is_some (seat_without g.slots member m ∙ rw (other_id m member ne) refl)
