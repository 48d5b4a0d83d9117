-- The result of a rebalance.
use Rattle.std.proofs.Common.{ℕ, ◌≡◌, ◌+◌, ◌==◌, Bool, true, false, ◌&&◌, ◌||◌, not, List, [], ◌∷◌, ◌++◌, Option, Some, None, Result, Ok, Err, map, refl, ap, sym, ◌∙◌, cond}
use Rattle.std.proofs.lemmas.Bool.{false≢true}
use Rattle.std.specs.Option.{option_map_or}
use Rattle.lane_words.specs.declared.Refusal.{Refusal}
use Rattle.lane_words.specs.declared.Refusal.TheVariants as r
use Rattle.bit_planes.specs.SetRows as rows
use Rattle.bit_planes.specs.PartitionSet.{PartitionSet, partitions_of, is_in, is_within, is_same, union}
use Rattle.bit_planes.specs.SetRows.{SetRows, set_of, IsValidRows}
use Rattle.bit_planes.proofs.Sets.{in_union, partitions_union, within_says, same_set, same_self, both_true}
use Rattle.sticky_assignor.specs.Assigned.{pair_up}
use Rattle.sticky_assignor.proofs.AssignedLaws.{paired}
use Rattle.coop_rebalance.specs.Rounds.{AreGranted, target_rows, next_rows}
use Rattle.group_machine.specs.declared.group.Slot.{Slot}
use Rattle.group_machine.specs.declared.group.Seat.{Seat}
use Rattle.group_machine.specs.declared.group.Move.{Move}
use Rattle.group_machine.specs.declared.group.Phase.TheVariants.{Stable}
use Rattle.group_machine.specs.Slots.{seat_of, each_changed, one_changed, present}
use Rattle.group_machine.specs.State.{GroupState, member_of, members, is_anybody, granted_rows}
use Rattle.group_machine.specs.Moves.{takers_in, moves_by, last_by, moves_to, last_after}
use Rattle.group_machine.specs.Completion.{all_joined, is_ready, completed_seat, completed_with, complete, completed}
use Rattle.group_machine.specs.Settled.{is_stable, agrees, all_agree, is_settled}
use Rattle.group_machine.specs.Steps.{unless_over, rejoined_seat, rejoining, rejoined_by, rejoin_refusal, rejoin_answer, synced_seat, synced_by}
use Rattle.group_machine.specs.Valid.{IsDisjoint, AreConsistentSeats, IsValidGroup}
use Rattle.group_machine.proofs.SlotsLemmas.{seat_each, one_is_each, at_only}
use Rattle.group_machine.proofs.PresentLemmas.{present_each, numbers_each, any_each, any_of, all_of, all_says}
use Rattle.group_machine.proofs.Rows.{set_over}
use Rattle.group_machine.proofs.Below.{next_rows_valid, next_below, next_members, target_rows_valid, target_below}
use Rattle.group_machine.proofs.CompletionLemmas.{seat_behind}
use Rattle.group_machine.proofs.StepLemmas.{with_slots, only_same, any_rejoining, rejoining_consistent, rejoining_disjoint}
use Rattle.group_laws.specs.Rounds.{assigned_rows, seat_without_flags, without_flags, revoked_seat, after_revocation, round, rebalance_result}
use Rattle.group_laws.proofs.SlotsLemmas.{each_two, each_same}
use Rattle.group_laws.proofs.AssignedLemmas.{second_all, second_within, HasPartitions, has_partitions, assigned_owned, members_assigned}
use Rattle.group_laws.proofs.StepLemmas.{any_synced, settled_synced}

-- ---- rows of changed seats
abbrev rows_by : (ℕ → Seat → PartitionSet) → List (ℕ × Seat) → List (ℕ × PartitionSet)
rows_by k xs = map (λ r. (r.0, k r.0 r.1)) xs

changed_map : (h : Seat → PartitionSet) (f : ℕ → Seat → Seat) (k : ℕ → Seat → PartitionSet) → ((m : ℕ) (x : Seat) → h (f m x) ≡ k m x) → (xs : List (ℕ × Seat)) → rows_by (λ m. h) (map (λ r. (r.0, f r.0 r.1)) xs) ≡ rows_by k xs
changed_map h f k same [] = refl
changed_map h f k same (x ∷ xs) = rw (same x.0 x.1, changed_map h f k same xs) refl

rows_each : (h : Seat → PartitionSet) (f : ℕ → Seat → Seat) (k : ℕ → Seat → PartitionSet) → ((m : ℕ) (x : Seat) → h (f m x) ≡ k m x) → (slots : List Slot) → rows_by (λ m. h) (present (each_changed f slots)) ≡ rows_by k (present slots)
rows_each h f k same slots = ap (λ xs. rows_by (λ m. h) xs) (present_each f slots) ∙ changed_map h f k same (present slots)

pub granted_after_revocation : (g : GroupState) → granted_rows (after_revocation g) ≡ assigned_rows g
granted_after_revocation g = ap (λ xs. record { partitions = g.partitions; rows = xs }) (rows_each (λ x. x.granted) (λ m. revoked_seat) (λ m x. x.assigned) (λ m x. refl) g.slots)

pub granted_without_flags : (g : GroupState) → granted_rows (without_flags g) ≡ granted_rows g
granted_without_flags g = ap (λ xs. record { partitions = g.partitions; rows = xs }) (rows_each (λ x. x.granted) (λ m. seat_without_flags) (λ m x. x.granted) (λ m x. refl) g.slots)

abbrev sets_by : (ℕ → PartitionSet) → List ℕ → List (ℕ × PartitionSet)
sets_by f ms = map (λ m. (m, f m)) ms

pair_map : (f : ℕ → PartitionSet) (ms : List ℕ) → pair_up ms (map f ms) ≡ sets_by f ms
pair_map f [] = refl
pair_map f (m ∷ ms) = ap (λ rs. (m, f m) ∷ rs) (pair_map f ms)

number_map : (f : ℕ → PartitionSet) (xs : List (ℕ × Seat)) → rows_by (λ m x. f m) xs ≡ sets_by f (map (λ r. r.0) xs)
number_map f [] = refl
number_map f (x ∷ xs) = ap (λ rs. (x.0, f x.0) ∷ rs) (number_map f xs)

rows_by_members : (w : SetRows) → IsValidRows w → w ≡ record { partitions = w.partitions; rows = sets_by (set_of w) (rows.members w) }
rows_by_members w valid = paired w valid.rising ∙ ap (λ rs. record { partitions = w.partitions; rows = rs }) (pair_map (set_of w) (rows.members w))

pub round_assigned : (g : GroupState) → AreGranted (assigned_rows g) → rows.members (assigned_rows g) ≡ members g → assigned_rows (round g) ≡ next_rows (assigned_rows g)
round_assigned g owned same =
    let w : SetRows = next_rows (assigned_rows g) in
    let next : next_rows (granted_rows (after_revocation g)) ≡ w = ap next_rows (granted_after_revocation g) in
    let slots : List Slot = each_changed (λ m. revoked_seat) g.slots in
    ap (λ n. record { partitions = g.partitions; rows = rows_by (λ m x. x.assigned) (present (each_changed (completed_seat n) slots)) }) next
    ∙ ap (λ rs. record { partitions = g.partitions; rows = rs }) (
    rows_each (λ x. x.assigned) (completed_seat w) (λ m x. set_of w m) (λ m x. refl) slots
    ∙ number_map (set_of w) (present slots)
    ∙ ap (λ ms. sets_by (set_of w) ms) (numbers_each (λ m. revoked_seat) g.slots ∙ sym same ∙ sym (next_members (assigned_rows g) owned)))
    ∙ ap (λ p. record { partitions = p; rows = sets_by (set_of w) (rows.members w) }) (sym (next_below (assigned_rows g) owned))
    ∙ sym (rows_by_members w (next_rows_valid (assigned_rows g) owned))

-- ---- after two rounds a group is settled
implies_or : (a b : Bool) → (a ≡ true → b ≡ true) → (a || b) ≡ b
implies_or true b h = sym (h refl)
implies_or false b h = refl

pub union_within : (s t : PartitionSet) → partitions_of s ≡ partitions_of t → is_within s t ≡ true → union s t ≡ t
union_within s t over within = same_set (union s t) t (partitions_union s t ∙ over) (λ q lt. in_union s t q over ∙ implies_or (is_in s q) (is_in t q) (within_says s t within q))

seat_assigned_is : (g : GroupState) (next : SetRows) (m : ℕ) (y : Seat) → seat_of (each_changed (completed_seat next) g.slots) m ≡ Some y → y.assigned ≡ set_of next m
seat_assigned_is g next m y is =
    let b = seat_behind (completed_seat next m) (seat_of g.slots m) y (sym (seat_each (completed_seat next) g.slots m) ∙ is) in
    ap (λ x. x.assigned) b.2

pub two_rounds : (g : GroupState) → HasPartitions g → is_anybody g ≡ true → AreConsistentSeats g → IsDisjoint g → is_settled (round (round g)) ≡ true
two_rounds g has any consistent disjoint =
    let owned : AreGranted (assigned_rows g) = assigned_owned g has consistent disjoint any in
    let w : SetRows = next_rows (assigned_rows g) in
    let one : assigned_rows (round g) ≡ w = round_assigned g owned (members_assigned g) in
    let all : next_rows w ≡ target_rows w = second_all (assigned_rows g) owned in
    let valid : IsValidRows w = next_rows_valid (assigned_rows g) owned in
    let t : SetRows = target_rows w in
    let now : next_rows (granted_rows (after_revocation (round g))) ≡ t = ap next_rows (granted_after_revocation (round g) ∙ one) ∙ all in
    let first : next_rows (granted_rows (after_revocation g)) ≡ w = ap next_rows (granted_after_revocation g) in
    let over : (m : ℕ) → partitions_of (set_of w m) ≡ partitions_of (set_of t m) = λ m. set_over w m valid ∙ sym (set_over t m (target_rows_valid w valid) ∙ target_below w) in
    let settled_by : (n : SetRows) → next_rows (granted_rows (after_revocation (round g))) ≡ n → n ≡ t → (m : ℕ) (x : Seat) → seat_of (each_changed (completed_seat n) (after_revocation (round g)).slots) m ≡ Some x → agrees x ≡ true = λ n is_n is_t m x is.
    let b = seat_behind (completed_seat n m) (seat_of (after_revocation (round g)).slots m) x (sym (seat_each (completed_seat n) (after_revocation (round g)).slots m) ∙ is) in
    let c = seat_behind revoked_seat (seat_of (round g).slots m) b.0 (sym (seat_each (λ k. revoked_seat) (round g).slots m) ∙ b.1) in
    let had : c.0.assigned ≡ set_of w m = seat_assigned_is (after_revocation g) (next_rows (granted_rows (after_revocation g))) m c.0 c.1 ∙ ap (λ k. set_of k m) first in
    let gave : b.0.granted ≡ set_of w m = ap (λ y. y.granted) c.2 ∙ had in
    let both : union b.0.granted (set_of n m) ≡ set_of n m =
    ap (λ k. union b.0.granted (set_of k m)) is_t ∙ ap (λ s. union s (set_of t m)) gave ∙ union_within (set_of w m) (set_of t m) (over m) (second_within (assigned_rows g) owned m) ∙ ap (λ k. set_of k m) (sym is_t) in
    ap agrees b.2 ∙ ap (λ s. is_same s (set_of n m)) both ∙ same_self (set_of n m) in
    all_of agrees (round (round g)).slots (λ m x is. settled_by (next_rows (granted_rows (after_revocation (round g)))) refl now m x is)

-- ---- a completion where all have joined is a round
abbrev seat_with : Seat → PartitionSet → Seat
seat_with x s = record x { joined = false; synced = false; granted = s }

revokes_nothing : (g : GroupState) → AreConsistentSeats g → all_joined g ≡ true → each_changed (λ m. revoked_seat) g.slots ≡ each_changed (λ m. seat_without_flags) g.slots
revokes_nothing g consistent joined = each_same (λ m. revoked_seat) (λ m. seat_without_flags) g.slots (λ m x is.
    let same : x.assigned ≡ x.granted = (consistent m x is).equal (all_says (λ y. y.joined) g.slots m x joined is) in
    ap (λ (s : PartitionSet). seat_with x s) same)

complete_parts : ℕ → ℕ → List Slot → List (Option ℕ) → List Move → GroupState
complete_parts generation p slots last moves = record { generation = generation; phase = Stable; partitions = p; slots = slots; last = last; moves = moves }

complete_without_flags : (g : GroupState) → complete (without_flags g) ≡ complete g
unfolding complete_parts
complete_without_flags g =
    let next : SetRows = next_rows (granted_rows g) in
    let slots : each_changed (completed_seat next) (without_flags g).slots ≡ each_changed (completed_seat next) g.slots = each_two (completed_seat next) (λ m. seat_without_flags) g.slots in
    let last : last_after (without_flags g) next ≡ last_after g next = ap (λ r. last_by (takers_in r next) g.last) (granted_without_flags g) in
    let moves : moves_to (without_flags g) next ≡ moves_to g next = ap (λ r. moves_by (g.generation + 1) (takers_in r next) g.last) (granted_without_flags g) in
    ap (λ n. completed_with (without_flags g) (next_rows n)) (granted_without_flags g)
    ∙ ap (λ s. complete_parts (g.generation + 1) g.partitions s (last_after (without_flags g) next) (g.moves ++ moves_to (without_flags g) next)) slots
    ∙ ap (λ l. complete_parts (g.generation + 1) g.partitions (each_changed (completed_seat next) g.slots) l (g.moves ++ moves_to (without_flags g) next)) last
    ∙ ap (λ ns. complete_parts (g.generation + 1) g.partitions (each_changed (completed_seat next) g.slots) (last_after g next) (g.moves ++ ns)) moves

pub complete_round : (g : GroupState) → AreConsistentSeats g → all_joined g ≡ true → complete g ≡ round g
complete_round g consistent joined = sym (ap (λ s. complete (with_slots g s)) (revokes_nothing g consistent joined) ∙ complete_without_flags g)

pub without_flags_round : (g : GroupState) → without_flags (round g) ≡ round g
without_flags_round g = ap (λ s. with_slots (round g) s) (each_two (λ m. seat_without_flags) (completed_seat (next_rows (granted_rows (after_revocation g)))) (after_revocation g).slots)

any_round : (g : GroupState) → is_anybody (round g) ≡ is_anybody g
any_round g = any_each (completed_seat (next_rows (granted_rows (after_revocation g)))) (after_revocation g).slots ∙ any_each (λ m. revoked_seat) g.slots

-- ---- the result of a rebalance
abbrev pub end_of : (any now once : Bool) (here one two : GroupState) → GroupState
end_of any now once here one two = cond any (cond now here (cond once one two)) here

later : (a0 a1 s0 s1 s2 : Bool) (b0 b1 r1 r2 r3 : GroupState) → a0 ≡ true → a1 ≡ true → s0 ≡ false → s2 ≡ true → b1 ≡ r1 → end_of a1 s1 s2 b1 r2 r3 ≡ end_of a0 s0 s1 b0 r1 r2
later a0 a1 s0 true s2 b0 b1 r1 r2 r3 x0 x1 y0 y2 e = rw (x0, x1, y0) e
later a0 a1 s0 false s2 b0 b1 r1 r2 r3 x0 x1 y0 y2 e = rw (x0, x1, y0, y2) refl

pub completed_result : (g : GroupState) → HasPartitions g → AreConsistentSeats g → IsDisjoint g → is_settled g ≡ false → rebalance_result (completed g) ≡ rebalance_result g
completed_result g has consistent disjoint unsettled = go (is_ready g) refl
  where
    go : (b : Bool) → is_ready g ≡ b → rebalance_result (cond b (complete g) g) ≡ rebalance_result g
    go false e = refl
    go true e =
        let h = both_true (is_anybody g) (all_joined g) e in
        ap rebalance_result (complete_round g consistent h.1)
        ∙ later (is_anybody g) (is_anybody (round g)) (is_settled g) (is_settled (round g)) (is_settled (round (round g))) (without_flags g) (without_flags (round g)) (round g) (round (round g)) (round (round (round g))) h.0 (any_round g ∙ h.0) unsettled (two_rounds g has h.0 consistent disjoint) (without_flags_round g)

-- ---- a sync
pub end_same : (a0 a1 s0 s0' s1 s1' : Bool) (b0 b0' r1 r1' r2 r2' : GroupState) → a1 ≡ a0 → s0' ≡ s0 → s1' ≡ s1 → b0' ≡ b0 → r1' ≡ r1 → r2' ≡ r2 → end_of a1 s0' s1' b0' r1' r2' ≡ end_of a0 s0 s1 b0 r1 r2
end_same a0 a1 s0 s0' s1 s1' b0 b0' r1 r1' r2 r2' a b c d e f = cc

forgets : (f : Seat → Seat) (h : Seat → Seat) → ((x : Seat) → f (h x) ≡ f x) → (slots : List Slot) (member : ℕ) → each_changed (λ m. f) (one_changed h slots member) ≡ each_changed (λ m. f) slots
forgets f h same slots member =
    ap (λ s. each_changed (λ m. f) s) (one_is_each h slots member)
    ∙ each_two (λ m. f) (at_only member h) slots
    ∙ each_same (λ m x. f (at_only member h m x)) (λ m. f) slots (λ m x is. only_same f h same member m x)

pub synced_round : (g : GroupState) (member : ℕ) → round (synced_by g member) ≡ round g
synced_round g member = ap (λ s. complete (with_slots g s)) (forgets revoked_seat synced_seat (λ x. refl) g.slots member)

pub sync_result : (g : GroupState) (member : ℕ) → rebalance_result (synced_by g member) ≡ rebalance_result g
sync_result g member =
    let same : round (synced_by g member) ≡ round g = synced_round g member in
    let base : without_flags (synced_by g member) ≡ without_flags g = ap (λ s. with_slots g s) (forgets seat_without_flags synced_seat (λ x. refl) g.slots member) in
    end_same (is_anybody g) (is_anybody (synced_by g member)) (is_settled g) (is_settled (synced_by g member)) (is_settled (round g)) (is_settled (round (synced_by g member))) (without_flags g) (without_flags (synced_by g member)) (round g) (round (synced_by g member)) (round (round g)) (round (round (synced_by g member))) (any_synced g member) (settled_synced g member) (ap is_settled same) base same (ap round same)

-- ---- a rejoin
refused_first : (a b c d e : Bool) → cond a (Some r.StaleGeneration) (cond b (Some r.AlreadyJoined) (cond c (Some r.SyncFirst) (cond d (Some r.NothingToGive) (cond e (Some r.ClaimDiffers) None)))) ≡ None → d ≡ false
refused_first true b c d e h = cc
refused_first false true c d e h = cc
refused_first false false true d e h = cc
refused_first false false false true e h = cc
refused_first false false false false e h = refl

accepted_seat : (g : GroupState) (generation : ℕ) (claim : PartitionSet) (o : Option Seat) → rejoin_refusal g generation claim o ≡ None → (x : Seat) × (o ≡ Some x) × ((is_stable g.phase && agrees x) ≡ false)
accepted_seat g generation claim None e = cc
accepted_seat g generation claim (Some x) e = (x, refl, refused_first (not (generation == g.generation)) x.joined (not x.synced) (is_stable g.phase && agrees x) (not (is_same claim x.assigned)) e)

accepted_none : (o : Option Refusal) (answer : Result (Unit {0}) Refusal) → option_map_or Err o answer ≡ Ok tt → o ≡ None
accepted_none None answer e = refl
accepted_none (Some why) answer e = cc

pub accepted : (g : GroupState) (member generation : ℕ) (claim : PartitionSet) → rejoin_answer g member generation claim ≡ Ok tt → (x : Seat) × (member_of g member ≡ Some x) × ((is_stable g.phase && agrees x) ≡ false)
accepted g member generation claim ok = accepted_seat g generation claim (member_of g member) (accepted_none (rejoin_refusal g generation claim (member_of g member)) (unless_over (rejoining g member) tt) ok)

not_settled : (a b c : Bool) → (b ≡ true → c ≡ true) → (a && c) ≡ false → (a && b) ≡ false
not_settled false b c h e = refl
not_settled true false c h e = refl
not_settled true true c h e = absurd (false≢true (sym e ∙ h refl))

unsettled_by : (g : GroupState) (member : ℕ) (x : Seat) → member_of g member ≡ Some x → (is_stable g.phase && agrees x) ≡ false → is_settled g ≡ false
unsettled_by g member x is h = not_settled (is_stable g.phase) (all_agree g) (agrees x) (λ all. all_says agrees g.slots member x all is) h

same_end : (a0 a1 s0 s1 s1' : Bool) (b0 b0' r1 r1' r2 r2' : GroupState) → a0 ≡ true → a1 ≡ a0 → s0 ≡ false → s1' ≡ s1 → r1' ≡ r1 → r2' ≡ r2 → end_of a1 false s1' b0' r1' r2' ≡ end_of a0 s0 s1 b0 r1 r2
same_end a0 a1 s0 s1 s1' b0 b0' r1 r1' r2 r2' t a b c d e = rw (a, t, b, c, d, e) refl

pub rejoining_round : (g : GroupState) (member : ℕ) → round (rejoining g member) ≡ round g
rejoining_round g member = ap (λ s. complete (with_slots g s)) (forgets revoked_seat rejoined_seat (λ x. refl) g.slots member)

pub rejoining_result : (g : GroupState) (member : ℕ) → is_anybody g ≡ true → is_settled g ≡ false → rebalance_result (rejoining g member) ≡ rebalance_result g
rejoining_result g member any un =
    let same : round (rejoining g member) ≡ round g = rejoining_round g member in
    same_end (is_anybody g) (is_anybody (rejoining g member)) (is_settled g) (is_settled (round g)) (is_settled (round (rejoining g member))) (without_flags g) (without_flags (rejoining g member)) (round g) (round (rejoining g member)) (round (round g)) (round (round (rejoining g member))) any (any_rejoining g member) un (ap is_settled same) same (ap round same)

pub rejoin_result : (g : GroupState) (member generation : ℕ) (claim : PartitionSet) → IsValidGroup g → rejoin_answer g member generation claim ≡ Ok tt → rebalance_result (rejoined_by g member) ≡ rebalance_result g
rejoin_result g member generation claim valid ok =
    let a = accepted g member generation claim ok in
    completed_result (rejoining g member) (has_partitions g valid.sized) (rejoining_consistent g member valid.consistent) (rejoining_disjoint g member valid.consistent valid.disjoint) refl
    ∙ rejoining_result g member (any_of g.slots member a.0 a.1) (unsettled_by g member a.0 a.1 a.2)
