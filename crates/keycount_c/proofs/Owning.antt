-- Lists of owners, as the rows of their members.
use Rattle.std.proofs.Common.{ℕ, ◌≡◌, ◌+◌, ◌<◌, ◌≤◌, ◌==◌, ◌∙◌, Bool, true, false, ◌&&◌, List, [], ◌∷◌, length, map, take, get_or, cond, refl, ap, sym, subst, arith}
use Rattle.std.specs.Prelude.{Some, nat_lt, slice_index_or}
use Rattle.std.specs.List.Sorted.{IsStrictlyIncreasing}
use Rattle.std.proofs.lemmas.Bool.{false≢true, lt-ltb}
use Rattle.std.proofs.lemmas.Bool.Decides.{nat_tests}
use Rattle.std.proofs.lemmas.List.{get_or-take, length-take-le, map-append, take_more}
use Rattle.bit_planes.specs.PartitionSet.{PartitionSet, is_in, partitions_of, set_where}
use Rattle.bit_planes.specs.SetRows.{SetRows, find_row, members as members_of, set_of, set_or_empty, sets_of, with_row}
use Rattle.bit_planes.proofs.RowLaws.{below_later, put_last, rising_first, rising_rest}
use Rattle.bit_planes.proofs.Sets.{in_below, in_empty, in_where, partitions_where, same_set}
use Rattle.sticky_assignor.specs.Assigned.{HaveRows}
use Rattle.sticky_assignor.specs.Balanced.{AreDisjoint}
use Rattle.coop_rebalance.specs.Withheld.{withheld}
use Rattle.group_machine.proofs.PresentLemmas.{rises}
use Rattle.group_machine.proofs.Rows.{disjoint_of}
use Rattle.group_machine.proofs.WalkLemmas.{have_rows}
use Rattle.keycount_c.specs.Owners.{AreMembers, row_in, rows_in}

pub rising : (ms : List ℕ) → AreMembers ms → IsStrictlyIncreasing ms
rising ms are = rising_rest 0 ms are

-- ---- what one member owns, of the first n partitions
pub owned_set : (owners : List ℕ) (member n : ℕ) (s : PartitionSet) → partitions_of s ≡ length owners → length owners ≤ n → ((q : ℕ) → is_in s q ≡ (nat_lt q n && (slice_index_or owners q 0 == member))) → s ≡ row_in owners member
owned_set owners member n s over all each =
    let f : ℕ → Bool = λ q. slice_index_or owners q 0 == member in
    same_set s (set_where (length owners) f) (over ∙ sym (partitions_where (length owners) f))
    (λ q lt. each q ∙ ap (λ b. b && f q) (lt-ltb q n (omega (arith, lt, over, all))) ∙ sym (in_where (length owners) f q (omega (arith, lt, over))))

pub partitions_row : (owners : List ℕ) (member : ℕ) → partitions_of (row_in owners member) ≡ length owners
partitions_row owners member = partitions_where (length owners) (λ q. slice_index_or owners q 0 == member)

-- ---- what each owns
abbrev number : ℕ × PartitionSet → ℕ
number row = row.0

numbers_in : (owners ms : List ℕ) → map number (map (λ m. (m, row_in owners m)) ms) ≡ ms
numbers_in owners [] = refl
numbers_in owners (m ∷ ms) = ap (λ ns. m ∷ ns) (numbers_in owners ms)

pub members_in : (ms owners : List ℕ) → members_of (rows_in ms owners) ≡ ms
members_in ms owners = numbers_in owners ms

pub rows_next : (ms owners : List ℕ) (i : ℕ) → AreMembers ms → i < length ms → with_row (rows_in (take i ms) owners) (get_or ms i 0) (row_in owners (get_or ms i 0)) ≡ rows_in (take (i + 1) ms) owners
rows_next ms owners i are lt =
    let m : ℕ = get_or ms i 0 in
    let row : ℕ → ℕ × PartitionSet = λ n. (n, row_in owners n) in
    let numbers : map number (map row (take i ms)) ≡ take i ms = numbers_in owners (take i ms) in
    let below : (k : ℕ) → k < length (map number (map row (take i ms))) → get_or (map number (map row (take i ms))) k 0 < m =
    λ k h. let n = ap length numbers in let few = length-take-le i ms (omega (arith, lt)) in let k_lt : k < i = omega (arith, h, n, few) in
    let at : get_or (map number (map row (take i ms))) k 0 ≡ get_or ms k 0 = ap (λ ns. get_or ns k 0) numbers ∙ get_or-take i ms k 0 k_lt in
    omega (arith, at, below_later ms (rising ms are) k i k_lt lt) in
    ap (λ rows. record { partitions = length owners; rows = rows })
    (put_last (map row (take i ms)) m (row_in owners m) below ∙ sym (map-append row (take i ms) (m ∷ [])) ∙ ap (map row) (sym (take_more ms i 0 lt)))

-- ---- what `assign` and `withhold_in_place` require
pub rows_for : (ms owners : List ℕ) → HaveRows (rows_in ms owners) ms
rows_for ms owners = subst (HaveRows (rows_in ms owners)) (members_in ms owners) (have_rows (rows_in ms owners))

is_same : (m n : ℕ) → (m == n) ≡ true → m ≡ n
is_same m n e = grind (arith, nat_tests)

-- whose row has a partition owns it
in_row : (owners : List ℕ) (m q : ℕ) → is_in (row_in owners m) q ≡ true → slice_index_or owners q 0 ≡ m
in_row owners m q e =
    let f : ℕ → Bool = λ p. slice_index_or owners p 0 == m in
    let lt : q < length owners = let n = partitions_row owners m in omega (arith, n, in_below (row_in owners m) q e) in
    is_same (slice_index_or owners q 0) m (sym (in_where (length owners) f q lt) ∙ e)

owner_found : (p : ℕ) (owners ms : List ℕ) (m q : ℕ) → is_in (set_or_empty p (find_row (map (λ n. (n, row_in owners n)) ms) m)) q ≡ true → slice_index_or owners q 0 ≡ m
owner_found p owners [] m q e = absurd (false≢true (sym (in_empty p q) ∙ e))
owner_found p owners (n ∷ ms) m q e = go (λ h. owner_found p owners ms m q h) (n == m) refl e
  where
    go : (is_in (set_or_empty p (find_row (map (λ k. (k, row_in owners k)) ms) m)) q ≡ true → slice_index_or owners q 0 ≡ m) → (b : Bool) → (n == m) ≡ b → is_in (set_or_empty p (cond b (Some (row_in owners n)) (find_row (map (λ k. (k, row_in owners k)) ms) m))) q ≡ true → slice_index_or owners q 0 ≡ m
    go later true is h = in_row owners n q h ∙ is_same n m is
    go later false is h = later h

pub disjoint_in : (ms owners : List ℕ) → AreMembers ms → AreDisjoint (sets_of (rows_in ms owners) ms)
disjoint_in ms owners are =
    let rows : SetRows = rows_in ms owners in
    disjoint_of (set_of rows) 1 ms (rises 1 ms (λ i lt. let h : 0 < get_or ms i 0 = rising_first 0 ms are i lt in omega (arith, h)) (rising ms are))
    (λ a b q e h. sym (owner_found (length owners) owners ms a q e) ∙ owner_found (length owners) owners ms b q h)
