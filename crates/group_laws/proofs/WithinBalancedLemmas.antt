-- A stable group is one round away from a settled one.
use Rattle.std.proofs.Common.{ℕ, ◌≡◌, ◌<◌, ◌≤◌, Bool, true, false, ◌&&◌, ◌||◌, inl, inr, not, Option, None, List, [], ◌∷◌, Some, length, map, refl, ap, sym, ◌∙◌, subst, arith}
use Rattle.std.proofs.lemmas.Bool.{false≢true}
use Rattle.std.proofs.lemmas.List.{length-map}
use Rattle.std.specs.Option.{option_map}
use Rattle.bit_planes.specs.SetRows as rows
use Rattle.bit_planes.specs.PartitionSet.{PartitionSet, partitions_of, is_in, is_same, one, union}
use Rattle.bit_planes.specs.SetRows.{SetRows, set_of, sets_of}
use Rattle.bit_planes.proofs.Sets.{same_self, same_says, within_of, within_says, in_empty, in_union, both_true}
use Rattle.sticky_assignor.specs.Balanced.{AreBelow, IsBalanced}
use Rattle.sticky_assignor.specs.Target.{target}
use Rattle.sticky_assignor.proofs.SecondRound.{Lies, retained_whole}
use Rattle.sticky_assignor.proofs.AssignedLaws.{length_sets, sets_assigned}
use Rattle.coop_rebalance.specs.Rounds.{AreGranted, target_rows, next_rows}
use Rattle.coop_rebalance.specs.Withheld.{granted_to_other}
use Rattle.group_machine.specs.declared.group.Seat.{Seat}
use Rattle.group_machine.specs.declared.group.Phase.TheVariants.{Stable}
use Rattle.group_machine.specs.Slots.{seat_of}
use Rattle.group_machine.specs.State.{GroupState, member_of, is_anybody, seat_assigned, assigned_of, granted_rows}
use Rattle.group_machine.specs.Completion.{completed_seat}
use Rattle.group_machine.specs.Settled.{is_stable, agrees, all_agree, is_settled}
use Rattle.group_machine.specs.Valid.{LieInBalanced, IsValidGroup}
use Rattle.group_machine.proofs.SlotsLemmas.{seat_each}
use Rattle.group_machine.proofs.PresentLemmas.{Listed, all_of, all_says}
use Rattle.group_machine.proofs.Rows.{member_listed, set_over, sets_below}
use Rattle.group_machine.proofs.Below.{next_in, next_rows_valid, next_below, next_in_target, other_says, target_disjoint, target_rows_valid, target_below, target_balanced}
use Rattle.group_machine.proofs.CompletionLemmas.{seat_behind, or_left}
use Rattle.group_laws.specs.Rounds.{assigned_rows, revoked_seat, after_revocation, round}
use Rattle.group_laws.proofs.AssignedLemmas.{has_partitions, members_assigned, set_assigned, assigned_owned}
use Rattle.group_laws.proofs.ResultLemmas.{granted_after_revocation, union_within}

-- ---- rows that lie within others, member by member
one_within : (a b : Bool) → (a ≡ true → b ≡ true) → one a ≤ one b
one_within true b h = let z : one b ≡ 1 = ap one (h refl) in omega (arith, z)
one_within false b h = omega arith

within_one : (a b : Bool) → one a ≤ one b → a ≡ true → b ≡ true
within_one a true le e = refl
within_one true false le e = absurd (omega arith)
within_one false false le e = e

lies_map : (f g : ℕ → PartitionSet) (ms : List ℕ) → ((m q : ℕ) → is_in (f m) q ≡ true → is_in (g m) q ≡ true) → Lies (map f ms) (map g ms)
lies_map f g [] within = tt
lies_map f g (m ∷ ms) within = (λ q. one_within (is_in (f m) q) (is_in (g m) q) (within m q), lies_map f g ms within)

lies_at : (f g : ℕ → PartitionSet) (ms : List ℕ) → Lies (map f ms) (map g ms) → (m q : ℕ) → Listed m ms → is_in (f m) q ≡ true → is_in (g m) q ≡ true
lies_at f g [] lies m q listed e = absurd listed
lies_at f g (x ∷ xs) lies m q (inl is) e = ap (λ n. is_in (g n) q) is ∙ within_one (is_in (f x) q) (is_in (g x) q) (lies.0 q) (ap (λ n. is_in (f n) q) (sym is) ∙ e)
lies_at f g (x ∷ xs) lies m q (inr listed) e = lies_at f g xs lies.1 m q listed e

below_map : (p : ℕ) (f : ℕ → PartitionSet) (ms : List ℕ) → ((m : ℕ) → partitions_of (f m) ≡ p) → AreBelow p (map f ms)
below_map p f [] over = tt
below_map p f (m ∷ ms) over = (over m, below_map p f ms over)

-- ---- what lies within balanced rows is kept, and nothing of it is withheld
-- each member's row of these lies within its row of those
abbrev AreRetained : SetRows → SetRows → Type 0
AreRetained r s = (m q : ℕ) → is_in (set_of r m) q ≡ true → is_in (set_of s m) q ≡ true

target_retains : (r : SetRows) → AreGranted r → (f : ℕ → PartitionSet) → ((m : ℕ) → partitions_of (f m) ≡ r.partitions) → IsBalanced r.partitions (map f (rows.members r)) → ((m q : ℕ) → is_in (set_of r m) q ≡ true → is_in (f m) q ≡ true) → AreRetained r (target_rows r)
target_retains r owned f over balanced within m q e =
    let ms : List ℕ = rows.members r in
    let some : 0 < length (sets_of r ms) = omega (arith, owned.some, length_sets r ms, length-map r.rows (λ row. row.0)) in
    let whole : Lies (sets_of r ms) (target r.partitions (sets_of r ms)) = retained_whole r.partitions (sets_of r ms) (map f ms) some (sets_below r ms owned.valid) (below_map r.partitions f ms over) balanced (lies_map (set_of r) f ms within) in
    lies_at (set_of r) (set_of (target_rows r)) ms (subst (Lies (sets_of r ms)) (sym (sets_assigned r.partitions ms r owned.valid.rising)) whole) m q (member_listed r m q e) e

next_retains : (r : SetRows) → AreGranted r → AreRetained r (target_rows r) → AreRetained r (next_rows r)
next_retains r owned retained m q e = next_in r m q ∙ go (granted_to_other r.rows m q) refl
  where
    mine : is_in (set_of (target_rows r) m) q ≡ true
    mine = retained m q e

    go : (b : Bool) → granted_to_other r.rows m q ≡ b → (is_in (set_of (target_rows r) m) q && not (granted_to_other r.rows m q)) ≡ true
    go false h = rw (mine, h) refl
    go true h =
        let n = other_says r owned.valid m q h in
        absurd (n.1 (target_disjoint r owned m n.0 q mine (retained n.0 q n.2)))

-- ---- a round that keeps what members are assigned
settled_round : (g : GroupState) → AreGranted (assigned_rows g) → AreRetained (assigned_rows g) (next_rows (assigned_rows g)) → is_settled (round g) ≡ true
settled_round g owned retained =
    let r : SetRows = assigned_rows g in
    let over : (m : ℕ) → partitions_of (set_of r m) ≡ partitions_of (set_of (next_rows r) m) = λ m. set_over r m owned.valid ∙ sym (set_over (next_rows r) m (next_rows_valid r owned) ∙ next_below r owned) in
    let settled_by : (n : SetRows) → n ≡ next_rows r → (m : ℕ) (x : Seat) → option_map (completed_seat n m) (seat_of (after_revocation g).slots m) ≡ Some x → agrees x ≡ true = λ n same m x is.
    let b = seat_behind (completed_seat n m) (seat_of (after_revocation g).slots m) x is in
    let c = seat_behind revoked_seat (seat_of g.slots m) b.0 (sym (seat_each (λ k. revoked_seat) g.slots m) ∙ b.1) in
    let had : b.0.granted ≡ set_of r m = ap (λ y. y.granted) c.2 ∙ sym (set_assigned g m ∙ ap (seat_assigned g.partitions) c.1) in
    let row : set_of n m ≡ set_of (next_rows r) m = ap (λ k. set_of k m) same in
    let both : union b.0.granted (set_of n m) ≡ set_of n m =
    ap (λ s. union s (set_of n m)) had ∙ ap (λ s. union (set_of r m) s) row
    ∙ union_within (set_of r m) (set_of (next_rows r) m) (over m) (within_of (set_of r m) (set_of (next_rows r) m) (retained m)) ∙ sym row in
    ap agrees b.2 ∙ ap (λ s. is_same s (set_of n m)) both ∙ same_self (set_of n m) in
    let next : SetRows = next_rows (granted_rows (after_revocation g)) in
    all_of agrees (round g).slots (λ m x is. settled_by next (ap next_rows (granted_after_revocation g)) m x (sym (seat_each (completed_seat next) (after_revocation g).slots m) ∙ is))

pub lying_round : (g : GroupState) → IsValidGroup g → is_anybody g ≡ true → (f : ℕ → PartitionSet) → LieInBalanced g f → is_settled (round g) ≡ true
lying_round g valid any f lie =
    let r : SetRows = assigned_rows g in
    let owned : AreGranted r = assigned_owned g (has_partitions g valid.sized) valid.consistent valid.disjoint any in
    let balanced : IsBalanced g.partitions (map f (rows.members r)) = subst (λ (ms : List ℕ). IsBalanced g.partitions (map f ms)) (sym (members_assigned g)) lie.balanced in
    let within : (m q : ℕ) → is_in (set_of r m) q ≡ true → is_in (f m) q ≡ true = λ m q e. within_says (assigned_of g m) (f m) (lie.within m) q (ap (λ s. is_in s q) (sym (set_assigned g m)) ∙ e) in
    settled_round g owned (next_retains r owned (target_retains r owned f lie.below balanced within))

pub stable_round : (g : GroupState) → IsValidGroup g → g.phase ≡ Stable → is_anybody g ≡ true → is_settled (round g) ≡ true
stable_round g valid stable any = let within_balanced = valid.within_balanced stable in lying_round g valid any within_balanced.0 within_balanced.1

-- ---- and where it is settled after one round, it lies in the target's rows
agrees_retains : (p : ℕ) (next : SetRows) (m : ℕ) (o : Option Seat) → ((x : Seat) → o ≡ Some x → partitions_of x.assigned ≡ partitions_of (set_of next m)) → ((y : Seat) → option_map (completed_seat next m) (option_map revoked_seat o) ≡ Some y → agrees y ≡ true) → (q : ℕ) → is_in (seat_assigned p o) q ≡ true → is_in (set_of next m) q ≡ true
agrees_retains p next m None over agree q e = absurd (false≢true (sym (in_empty p q) ∙ e))
agrees_retains p next m (Some x) over agree q e =
    let same : union x.assigned (set_of next m) ≡ set_of next m = same_says (union x.assigned (set_of next m)) (set_of next m) (agree (completed_seat next m (revoked_seat x)) refl) in
    ap (λ s. is_in s q) (sym same) ∙ in_union x.assigned (set_of next m) q (over x refl) ∙ or_left (is_in x.assigned q) (is_in (set_of next m) q) e

pub round_lying : (g : GroupState) → IsValidGroup g → is_anybody g ≡ true → is_settled (round g) ≡ true → (f : ℕ → PartitionSet) × LieInBalanced g f
round_lying g valid any settled =
    let r : SetRows = assigned_rows g in
    let owned : AreGranted r = assigned_owned g (has_partitions g valid.sized) valid.consistent valid.disjoint any in
    let next : SetRows = next_rows (granted_rows (after_revocation g)) in
    let now : next ≡ next_rows r = ap next_rows (granted_after_revocation g) in
    let all : all_agree (round g) ≡ true = (both_true (is_stable (round g).phase) (all_agree (round g)) settled).1 in
    let at : (m : ℕ) → seat_of (round g).slots m ≡ option_map (completed_seat next m) (option_map revoked_seat (member_of g m)) = λ m. seat_each (completed_seat next) (after_revocation g).slots m ∙ ap (option_map (completed_seat next m)) (seat_each (λ k. revoked_seat) g.slots m) in
    let row : (m : ℕ) → partitions_of (set_of next m) ≡ g.partitions = λ m. ap (λ n. partitions_of (set_of n m)) now ∙ set_over (next_rows r) m (next_rows_valid r owned) ∙ next_below r owned in (
      set_of (target_rows r),
      record {
        below = λ m. set_over (target_rows r) m (target_rows_valid r owned.valid) ∙ target_below r;
        balanced = subst (λ (ms : List ℕ). IsBalanced g.partitions (map (set_of (target_rows r)) ms)) (members_assigned g) (target_balanced r owned);
        within = λ m. within_of (assigned_of g m) (set_of (target_rows r) m) (λ q e.
            next_in_target r m q (ap (λ n. is_in (set_of n m) q) (sym now)
            ∙ agrees_retains g.partitions next m (member_of g m) (λ x is. (valid.consistent m x is).assigned_below ∙ sym (row m)) (λ y is. all_says agrees (round g).slots m y all (at m ∙ is)) q e));
      },
    )
