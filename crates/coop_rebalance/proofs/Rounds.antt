-- What a round assigns, and that the next one settles.
use Rattle.std.proofs.Common.{ℕ, zero, suc, ◌≡◌, ◌+◌, ◌<◌, ◌≤◌, ◌==◌, Bool, true, false, ◌||◌, ◌&&◌, not, List, [], ◌∷◌, length, map, get_or, refl, ap, sym, ◌∙◌, subst, arith, inl, inr}
use Rattle.std.specs.Prelude.{Some, cond}
use Rattle.std.specs.List.Sorted.{IsStrictlyIncreasing}
use Rattle.std.proofs.lemmas.Bool.{cases_lt}
use Rattle.bit_planes.specs.PartitionSet.{PartitionSet, partitions_of, is_in, one, empty_set, union, is_within}
use Rattle.bit_planes.specs.SetRows.{SetRows, members, find_row, set_or_empty, set_of, sets_of, IsValidRows}
use Rattle.bit_planes.proofs.Sets.{one_le, same_set, partitions_where, in_where, past_where, past, in_union, within_of}
use Rattle.bit_planes.proofs.RowLaws.{rising_first, rising_rest}
use Rattle.sticky_assignor.specs.Balanced.{holders, IsBalanced, AreDisjoint, AreBelow}
use Rattle.sticky_assignor.specs.Target.{row_at, target}
use Rattle.sticky_assignor.specs.Assigned.{pair_up, target_rows}
use Rattle.sticky_assignor.proofs.Rows.{eq_self, not_eq, not_eq_back}
use Rattle.sticky_assignor.proofs.TargetLaws.{is_balanced}
use Rattle.sticky_assignor.proofs.Even.{balanced_disjoint}
use Rattle.sticky_assignor.proofs.SecondRound.{Lies, lies_disjoint, retained_whole, target_over, length_target}
use Rattle.sticky_assignor.proofs.AssignedLaws.{members_paired, sets_paired, over_paired, sets_over, length_sets, paired, target_paired}
use Rattle.coop_rebalance.specs.Withheld.{granted_to_other, withheld_row, withheld}
use Rattle.coop_rebalance.specs.Rounds.{next_rows, RowsWithin, Settles, LiesInTarget, together}

-- ---- what the others are granted
-- how many of the rows of members other than m have a partition
abbrev others : List ℕ → List PartitionSet → ℕ → ℕ → ℕ
others [] rows m q = 0
others (n ∷ ms) [] m q = 0
others (n ∷ ms) (row ∷ rows) m q = one (not (n == m) && is_in row q) + others ms rows m q

or_most : (x y : Bool) → one (x || y) ≤ one x + one y
or_most true y = omega arith
or_most false y = omega arith

le_or_left : (x y : Bool) → one x ≤ one (x || y)
le_or_left true y = omega arith
le_or_left false y = omega arith

le_or_right : (x y : Bool) → one y ≤ one (x || y)
le_or_right true y = one_le y
le_or_right false y = omega arith

granted_most : (ms : List ℕ) (rows : List PartitionSet) (m q : ℕ) → one (granted_to_other (pair_up ms rows) m q) ≤ others ms rows m q
granted_most [] rows m q = omega arith
granted_most (n ∷ ms) [] m q = omega arith
granted_most (n ∷ ms) (row ∷ rows) m q =
    omega (arith, or_most (not (n == m) && is_in row q) (granted_to_other (pair_up ms rows) m q), granted_most ms rows m q)

granted_least : (ms : List ℕ) (rows : List PartitionSet) (m q : ℕ) → others ms rows m q ≤ 1 → others ms rows m q ≤ one (granted_to_other (pair_up ms rows) m q)
granted_least [] rows m q few = omega arith
granted_least (n ∷ ms) [] m q few = omega arith
granted_least (n ∷ ms) (row ∷ rows) m q few =
    let mine : Bool = not (n == m) && is_in row q in
    let rest : Bool = granted_to_other (pair_up ms rows) m q in
    let ih : others ms rows m q ≤ one rest = granted_least ms rows m q (omega arith) in
    omega (arith, le_or_left mine rest, le_or_right mine rest)

all_others : (ms : List ℕ) (rows : List PartitionSet) (m q : ℕ) → length rows ≡ length ms → ((i : ℕ) → i < length ms → m < get_or ms i 0) → others ms rows m q ≡ holders rows q
all_others [] [] m q len below = refl
all_others [] (row ∷ rows) m q len below = absurd (omega arith)
all_others (n ∷ ms) [] m q len below = absurd (omega arith)
all_others (n ∷ ms) (row ∷ rows) m q len below =
    let lt : m < n = below 0 (omega arith) in
    rw (not_eq_back m n lt) (omega (arith, all_others ms rows m q (omega arith) (λ i l. below (suc i) (omega arith))))

mine_and_others : (ms : List ℕ) (rows : List PartitionSet) (i q : ℕ) → length rows ≡ length ms → IsStrictlyIncreasing ms → i < length ms → one (is_in (row_at rows i) q) + others ms rows (get_or ms i 0) q ≡ holders rows q
mine_and_others [] rows i q len rising lt = absurd (omega arith)
mine_and_others (m ∷ ms) [] i q len rising lt = absurd (omega arith)
mine_and_others (m ∷ ms) (row ∷ rows) zero q len rising lt =
    rw (eq_self m) (omega (arith, all_others ms rows m q (omega arith) (rising_first m ms rising)))
mine_and_others (m ∷ ms) (row ∷ rows) (suc i) q len rising lt =
    let below : m < get_or ms i 0 = rising_first m ms rising i (omega arith) in
    rw (not_eq m (get_or ms i 0) below) (omega (arith, mine_and_others ms rows i q (omega arith) (rising_rest m ms rising) (omega arith)))

-- ---- rows without what others are granted
abbrev taken_off : List (ℕ × PartitionSet) → List ℕ → List PartitionSet → List PartitionSet
taken_off granted [] rows = []
taken_off granted (m ∷ ms) [] = []
taken_off granted (m ∷ ms) (row ∷ rows) = (withheld_row granted (m, row)).1 ∷ taken_off granted ms rows

off_paired : (granted : List (ℕ × PartitionSet)) (ms : List ℕ) (rows : List PartitionSet) → map (withheld_row granted) (pair_up ms rows) ≡ pair_up ms (taken_off granted ms rows)
off_paired granted [] rows = refl
off_paired granted (m ∷ ms) [] = refl
off_paired granted (m ∷ ms) (row ∷ rows) = ap (λ rs. withheld_row granted (m, row) ∷ rs) (off_paired granted ms rows)

length_off : (granted : List (ℕ × PartitionSet)) (ms : List ℕ) (rows : List PartitionSet) → length rows ≡ length ms → length (taken_off granted ms rows) ≡ length ms
length_off granted [] rows len = refl
length_off granted (m ∷ ms) [] len = absurd (omega arith)
length_off granted (m ∷ ms) (row ∷ rows) len = ap (λ n. suc n) (length_off granted ms rows (omega arith))

off_at : (granted : List (ℕ × PartitionSet)) (ms : List ℕ) (rows : List PartitionSet) (i : ℕ) → length rows ≡ length ms → i < length ms → row_at (taken_off granted ms rows) i ≡ (withheld_row granted (get_or ms i 0, row_at rows i)).1
off_at granted [] rows i len lt = absurd (omega arith)
off_at granted (m ∷ ms) [] i len lt = absurd (omega arith)
off_at granted (m ∷ ms) (row ∷ rows) zero len lt = refl
off_at granted (m ∷ ms) (row ∷ rows) (suc i) len lt = off_at granted ms rows i (omega arith) (omega arith)

off_over : (p : ℕ) (granted : List (ℕ × PartitionSet)) (ms : List ℕ) (rows : List PartitionSet) → AreBelow p rows → AreBelow p (taken_off granted ms rows)
off_over p granted [] rows over = tt
off_over p granted (m ∷ ms) [] over = tt
off_over p granted (m ∷ ms) (row ∷ rows) over = (partitions_where (partitions_of row) _ ∙ over.0, off_over p granted ms rows over.1)

not_first : (x y : Bool) → x ≡ false → x ≡ (x && y)
not_first true y e = cc
not_first false y e = refl

in_off : (granted : List (ℕ × PartitionSet)) (m : ℕ) (row : PartitionSet) (q : ℕ) → is_in (withheld_row granted (m, row)).1 q ≡ (is_in row q && not (granted_to_other granted m q))
in_off granted m row q = elim (cases_lt q (partitions_of row)) [
  | inl lt ↦ in_where (partitions_of row) _ q lt
  | inr le ↦ past_where (partitions_of row) _ q le ∙ sym (past row q le) ∙ not_first (is_in row q) (not (granted_to_other granted m q)) (past row q le)
]

and_most : (x y : Bool) → one (x && not y) ≤ one x
and_most true y = one_le (not y)
and_most false y = omega arith

and_disjoint : (x y : Bool) → one (x && not y) + one y ≤ 1
and_disjoint true true = omega arith
and_disjoint true false = omega arith
and_disjoint false y = omega (arith, one_le y)

off_lies : (granted : List (ℕ × PartitionSet)) (ms : List ℕ) (rows : List PartitionSet) → length rows ≡ length ms → Lies (taken_off granted ms rows) rows
off_lies granted [] [] len = tt
off_lies granted [] (row ∷ rows) len = absurd (omega arith)
off_lies granted (m ∷ ms) [] len = absurd (omega arith)
off_lies granted (m ∷ ms) (row ∷ rows) len = (λ q. rw (in_off granted m row q) (and_most (is_in row q) (granted_to_other granted m q)), off_lies granted ms rows (omega arith))

-- ---- nothing is withheld from disjoint rows by rows that lie in them
lies_others : (ms : List ℕ) (rows bs : List PartitionSet) (m q : ℕ) → Lies rows bs → others ms rows m q ≤ others ms bs m q
lies_others [] rows bs m q lies = omega arith
lies_others (n ∷ ms) [] [] m q lies = omega arith
lies_others (n ∷ ms) [] (b ∷ bs) m q lies = absurd lies
lies_others (n ∷ ms) (row ∷ rows) [] m q lies = absurd lies
lies_others (n ∷ ms) (row ∷ rows) (b ∷ bs) m q lies =
    let le = lies.0 q in
    omega (arith, both_le (not (n == m)) (is_in row q) (is_in b q) le, lies_others ms rows bs m q lies.1)
  where
    both_le : (x y z : Bool) → one y ≤ one z → one (x && y) ≤ one (x && z)
    both_le true y z le = le
    both_le false y z le = omega arith

and_not_none : (x y : Bool) → one x + one y ≤ 1 → (x && not y) ≡ x
and_not_none true true h = absurd (omega arith)
and_not_none true false h = refl
and_not_none false y h = refl

rows_equal : (rows bs : List PartitionSet) → length rows ≡ length bs → ((i : ℕ) → i < length rows → row_at rows i ≡ row_at bs i) → rows ≡ bs
rows_equal [] [] len same = refl
rows_equal [] (b ∷ bs) len same = absurd (omega arith)
rows_equal (row ∷ rows) [] len same = absurd (omega arith)
rows_equal (row ∷ rows) (b ∷ bs) len same = rw (same 0 (omega arith)) (ap (λ rs. b ∷ rs) (rows_equal rows bs (omega arith) (λ i lt. same (suc i) (omega arith))))

nothing_off : (ms : List ℕ) (ts gs : List PartitionSet) → length ts ≡ length ms → length gs ≡ length ms → IsStrictlyIncreasing ms → Lies gs ts → AreDisjoint ts → taken_off (pair_up ms gs) ms ts ≡ ts
nothing_off ms ts gs lt lg rising lies disjoint =
    let granted : List (ℕ × PartitionSet) = pair_up ms gs in
    let lo : length (taken_off granted ms ts) ≡ length ms = length_off granted ms ts lt in
    rows_equal (taken_off granted ms ts) ts (lo ∙ sym lt) (λ i l.
    let li : i < length ms = omega arith in
    let m : ℕ = get_or ms i 0 in
    let t : PartitionSet = row_at ts i in
    let off : PartitionSet = (withheld_row granted (m, t)).1 in
    off_at granted ms ts i lt li
    ∙ same_set off t (partitions_where (partitions_of t) _) (λ q few.
    let a = disjoint q in
    let clear : one (is_in t q) + one (granted_to_other granted m q) ≤ 1 = omega (arith, granted_most ms gs m q, lies_others ms gs ts m q lies, mine_and_others ms ts i q lt rising li) in
    in_off granted m t q ∙ and_not_none (is_in t q) (granted_to_other granted m q) clear))

-- ---- the next rows, as lists of sets
next_paired : (p : ℕ) (ms : List ℕ) (gs : List PartitionSet) → length gs ≡ length ms → IsStrictlyIncreasing ms
    → next_rows (record { partitions = p; rows = pair_up ms gs }) ≡ record { partitions = p; rows = pair_up ms (taken_off (pair_up ms gs) ms (target p gs)) }
unfolding withheld
next_paired p ms gs len rising =
    ap (λ t. withheld t (record { partitions = p; rows = pair_up ms gs })) (target_paired p ms gs len rising)
    ∙ ap (λ rows. record { partitions = p; rows = rows }) (off_paired (pair_up ms gs) ms (target p gs))

one_says : (x y : Bool) → one x ≤ one y → x ≡ true → y ≡ true
one_says x true le e = refl
one_says true false le e = absurd (omega arith)
one_says false false le e = e

within_paired : (p : ℕ) (ms : List ℕ) (rows bs : List PartitionSet) → Lies rows bs → RowsWithin (record { partitions = p; rows = pair_up ms rows }) (record { partitions = p; rows = pair_up ms bs })
within_paired p [] rows bs lies m = within_of (empty_set p) (empty_set p) (λ q h. h)
within_paired p (n ∷ ms) [] [] lies m = within_of (empty_set p) (empty_set p) (λ q h. h)
within_paired p (n ∷ ms) [] (b ∷ bs) lies m = absurd lies
within_paired p (n ∷ ms) (row ∷ rows) [] lies m = absurd lies
within_paired p (n ∷ ms) (row ∷ rows) (b ∷ bs) lies m =
    elim (n == m) as (λ t. is_within (set_or_empty p (cond t (Some row) (find_row (pair_up ms rows) m))) (set_or_empty p (cond t (Some b) (find_row (pair_up ms bs) m))) ≡ true) [
      | true ↦ within_of row b (λ q. one_says (is_in row q) (is_in b q) (lies.0 q))
      | false ↦ within_paired p ms rows bs lies.1 m
    ]

-- what the next rows of disjoint rows are, with the target
pub record AreNext (p : ℕ) (ms : List ℕ) (gs ts ws : List PartitionSet) : Type 0 where
  pub long : length ws ≡ length ms
  pub over : AreBelow p ws
  pub lies : Lies ws ts
  pub target_long : length ts ≡ length ms
  pub target_over : AreBelow p ts
  pub balanced : IsBalanced p ts

are_next : (p : ℕ) (ms : List ℕ) (gs : List PartitionSet) → length gs ≡ length ms → 0 < length gs → AreBelow p gs → AreDisjoint gs → AreNext p ms gs (target p gs) (taken_off (pair_up ms gs) ms (target p gs))
are_next p ms gs len some over disjoint =
    let ts : List PartitionSet = target p gs in
    let lt : length ts ≡ length ms = length_target p gs ∙ len in
    let ot : AreBelow p ts = target_over p gs over in record {
      long = length_off (pair_up ms gs) ms ts lt;
      over = off_over p (pair_up ms gs) ms ts ot;
      lies = off_lies (pair_up ms gs) ms ts lt;
      target_long = lt;
      target_over = ot;
      balanced = is_balanced p gs some over disjoint;
    }

settles_paired : (p : ℕ) (ms : List ℕ) (gs : List PartitionSet) → length gs ≡ length ms → IsStrictlyIncreasing ms → 0 < length gs → AreBelow p gs → AreDisjoint gs → Settles (next_rows (record { partitions = p; rows = pair_up ms gs }))
settles_paired p ms gs len rising some over disjoint =
    let ts : List PartitionSet = target p gs in
    let ws : List PartitionSet = taken_off (pair_up ms gs) ms ts in
    let us : List PartitionSet = target p ws in
    let n : AreNext p ms gs ts ws = are_next p ms gs len some over disjoint in
    let lw : length ws ≡ length ms = n.long in
    let many : 0 < length ws = omega arith in
    let ta : AreDisjoint ts = balanced_disjoint p ts n.target_over n.balanced in
    let wa : AreDisjoint ws = lies_disjoint ws ts n.lies ta in
    let whole : Lies ws us = retained_whole p ws ts many n.over n.target_over n.balanced n.lies in
    let ua : AreDisjoint us = balanced_disjoint p us (target_over p ws n.over) (is_balanced p ws many n.over wa) in
    let goal : target_rows (record { partitions = p; rows = pair_up ms ws }) ≡ record { partitions = p; rows = pair_up ms us } = target_paired p ms ws n.long rising in
    let none : taken_off (pair_up ms ws) ms us ≡ us = nothing_off ms us ws (length_target p ws ∙ n.long) n.long rising whole ua in
    let settled : Settles (record { partitions = p; rows = pair_up ms ws }) = record {
      retained = subst (RowsWithin (record { partitions = p; rows = pair_up ms ws })) (sym goal) (within_paired p ms ws us whole);
      all = next_paired p ms ws n.long rising ∙ ap (λ rows. record { partitions = p; rows = pair_up ms rows }) none ∙ sym goal;
    } in
    subst Settles (sym (next_paired p ms gs len rising)) settled

length_members : (rows : List (ℕ × PartitionSet)) → length (map (λ row. row.0) rows) ≡ length rows
length_members [] = refl
length_members (row ∷ rows) = ap (λ n. suc n) (length_members rows)

pub settles : (g : SetRows) → IsValidRows g → 0 < length g.rows → AreDisjoint (sets_of g (members g)) → Settles (next_rows g)
settles g valid some disjoint =
    let ms : List ℕ = members g in
    let gs : List PartitionSet = sets_of g ms in
    let len : length gs ≡ length ms = length_sets g ms in
    subst (λ r. Settles (next_rows r)) (sym (paired g valid.rising)) (settles_paired g.partitions ms gs len valid.rising (omega (arith, length_members g.rows)) (sets_over g ms valid) disjoint)

-- ---- where the next rows lie
rows_paired : (p : ℕ) (ms : List ℕ) (rows : List PartitionSet) → 1 ≤ p → p ≤ 4096 → length rows ≡ length ms → IsStrictlyIncreasing ms → AreBelow p rows → IsValidRows (record { partitions = p; rows = pair_up ms rows })
rows_paired p ms rows some few len rising over = record {
  some = some;
  few = few;
  rising = subst IsStrictlyIncreasing (sym (members_paired ms rows len)) rising;
  over = over_paired p ms rows over;
}

next_within_paired : (p : ℕ) (ms : List ℕ) (gs : List PartitionSet) → 1 ≤ p → p ≤ 4096 → length gs ≡ length ms → IsStrictlyIncreasing ms → 0 < length gs → AreBelow p gs → AreDisjoint gs
    → LiesInTarget (record { partitions = p; rows = pair_up ms gs }) (next_rows (record { partitions = p; rows = pair_up ms gs }))
next_within_paired p ms gs lo hi len rising some over disjoint =
    let ts : List PartitionSet = target p gs in
    let ws : List PartitionSet = taken_off (pair_up ms gs) ms ts in
    let n : AreNext p ms gs ts ws = are_next p ms gs len some over disjoint in
    let g : SetRows = record { partitions = p; rows = pair_up ms gs } in
    let w : SetRows = record { partitions = p; rows = pair_up ms ws } in
    let is_target : target_rows g ≡ record { partitions = p; rows = pair_up ms ts } = target_paired p ms gs len rising in
    let mine : members g ≡ ms = members_paired ms gs len in
    let sets : sets_of (record { partitions = p; rows = pair_up ms ts }) ms ≡ ts = sets_paired p ms ts n.target_long rising in
    let lies : LiesInTarget g w = record {
      below = refl;
      same_members = members_paired ms ws n.long ∙ sym mine;
      valid = rows_paired p ms ws lo hi n.long rising n.over;
      disjoint = subst AreDisjoint (sym (ap (sets_of w) (members_paired ms ws n.long) ∙ sets_paired p ms ws n.long rising)) (lies_disjoint ws ts n.lies (balanced_disjoint p ts n.target_over n.balanced));
      within = subst (RowsWithin w) (sym is_target) (within_paired p ms ws ts n.lies);
      balanced = subst (IsBalanced p) (sym (ap (λ r. sets_of r (members g)) is_target ∙ ap (λ ns. sets_of (record { partitions = p; rows = pair_up ms ts }) ns) mine ∙ sets)) n.balanced;
    } in
    subst (LiesInTarget g) (sym (next_paired p ms gs len rising)) lies

pub next_within : (g : SetRows) → IsValidRows g → 0 < length g.rows → AreDisjoint (sets_of g (members g)) → LiesInTarget g (next_rows g)
next_within g valid some disjoint =
    let ms : List ℕ = members g in
    let gs : List PartitionSet = sets_of g ms in
    let len : length gs ≡ length ms = length_sets g ms in
    subst (λ r. LiesInTarget r (next_rows r)) (sym (paired g valid.rising)) (next_within_paired g.partitions ms gs valid.some valid.few len valid.rising (omega (arith, length_members g.rows)) (sets_over g ms valid) disjoint)

-- ---- what is granted, with what is given
abbrev unions : List PartitionSet → List PartitionSet → List PartitionSet
unions [] ws = []
unions (g ∷ gs) [] = []
unions (g ∷ gs) (w ∷ ws) = union g w ∷ unions gs ws

length_unions : (gs ws : List PartitionSet) → length ws ≡ length gs → length (unions gs ws) ≡ length gs
length_unions [] ws len = refl
length_unions (g ∷ gs) [] len = absurd (omega arith)
length_unions (g ∷ gs) (w ∷ ws) len = ap (λ n. suc n) (length_unions gs ws (omega arith))

union_at : (gs ws : List PartitionSet) (i : ℕ) → length ws ≡ length gs → i < length gs → row_at (unions gs ws) i ≡ union (row_at gs i) (row_at ws i)
union_at [] ws i len lt = absurd (omega arith)
union_at (g ∷ gs) [] i len lt = absurd (omega arith)
union_at (g ∷ gs) (w ∷ ws) zero len lt = refl
union_at (g ∷ gs) (w ∷ ws) (suc i) len lt = union_at gs ws i (omega arith) (omega arith)

below_at : (p : ℕ) (rows : List PartitionSet) (i : ℕ) → AreBelow p rows → i < length rows → partitions_of (row_at rows i) ≡ p
below_at p [] i over lt = absurd (omega arith)
below_at p (row ∷ rows) zero over lt = over.0
below_at p (row ∷ rows) (suc i) over lt = below_at p rows i over.1 (omega arith)

holders_le : (rows bs : List PartitionSet) (q : ℕ) → length rows ≡ length bs → ((i : ℕ) → i < length rows → one (is_in (row_at rows i) q) ≤ one (is_in (row_at bs i) q)) → holders rows q ≤ holders bs q
holders_le [] [] q len le = omega arith
holders_le [] (b ∷ bs) q len le = absurd (omega arith)
holders_le (row ∷ rows) [] q len le = absurd (omega arith)
holders_le (row ∷ rows) (b ∷ bs) q len le =
    let first : one (is_in row q) ≤ one (is_in b q) = le 0 (omega arith) in
    omega (arith, holders_le rows bs q (omega arith) (λ i l. le (suc i) (omega arith)))

given_disjoint_lists : (p : ℕ) (ms : List ℕ) (gs ts : List PartitionSet) → length gs ≡ length ms → length ts ≡ length ms → IsStrictlyIncreasing ms → AreBelow p gs → AreBelow p ts → AreDisjoint gs → AreDisjoint ts
    → AreDisjoint (unions gs (taken_off (pair_up ms gs) ms ts))
given_disjoint_lists p ms gs ts lg lt rising og ot ga ta q =
    let granted : List (ℕ × PartitionSet) = pair_up ms gs in
    let ws : List PartitionSet = taken_off granted ms ts in
    let lw : length ws ≡ length ms = length_off granted ms ts lt in
    let lu : length (unions gs ws) ≡ length gs = length_unions gs ws (lw ∙ sym lg) in
    let ow : AreBelow p ws = off_over p granted ms ts ot in
    let a = ga q in
    let b = ta q in
    let most : (i : ℕ) → i < length gs → one (is_in (row_at (unions gs ws) i) q) ≤ one (is_in (row_at gs i) q) + one (is_in (row_at ws i) q) = λ i l.
    rw (union_at gs ws i (lw ∙ sym lg) l, in_union (row_at gs i) (row_at ws i) q (below_at p gs i og l ∙ sym (below_at p ws i ow (omega arith)))) (or_most (is_in (row_at gs i) q) (is_in (row_at ws i) q)) in
    let given : (i : ℕ) → i < length gs → (one (is_in (row_at ws i) q) + one (granted_to_other granted (get_or ms i 0) q) ≤ 1) × (one (is_in (row_at ws i) q) ≤ one (is_in (row_at ts i) q)) = λ i l.
    let e : is_in (row_at ws i) q ≡ (is_in (row_at ts i) q && not (granted_to_other granted (get_or ms i 0) q)) = ap (λ s. is_in s q) (off_at granted ms ts i lt (omega arith)) ∙ in_off granted (get_or ms i 0) (row_at ts i) q in
    rw e (and_disjoint (is_in (row_at ts i) q) (granted_to_other granted (get_or ms i 0) q), and_most (is_in (row_at ts i) q) (granted_to_other granted (get_or ms i 0) q)) in
    elim (cases_lt 0 (holders gs q)) [
      | inl held ↦
          let le : holders (unions gs ws) q ≤ holders gs q = holders_le (unions gs ws) gs q lu (λ i l.
          let li : i < length gs = omega arith in
          let g = given i li in
          let g0 = g.0 in
          let u = most i li in
          let x = one_le (is_in (row_at (unions gs ws) i) q) in
          let split : one (is_in (row_at gs i) q) + others ms gs (get_or ms i 0) q ≡ holders gs q = mine_and_others ms gs i q lg rising (omega arith) in
          let o : others ms gs (get_or ms i 0) q ≤ one (granted_to_other granted (get_or ms i 0) q) = granted_least ms gs (get_or ms i 0) q (omega arith) in
          omega arith) in
          omega arith
      | inr free ↦
          let le : holders (unions gs ws) q ≤ holders ts q = holders_le (unions gs ws) ts q (lu ∙ lg ∙ sym lt) (λ i l.
          let li : i < length gs = omega arith in
          let g = given i li in
          let g1 = g.1 in
          let u = most i li in
          let split : one (is_in (row_at gs i) q) + others ms gs (get_or ms i 0) q ≡ holders gs q = mine_and_others ms gs i q lg rising (omega arith) in
          omega arith) in
          omega arith
    ]

map_unions : (f g : ℕ → PartitionSet) (ms : List ℕ) → map (λ m. union (f m) (g m)) ms ≡ unions (map f ms) (map g ms)
map_unions f g [] = refl
map_unions f g (m ∷ ms) = ap (λ rows. union (f m) (g m) ∷ rows) (map_unions f g ms)

given_disjoint_paired : (p : ℕ) (ms : List ℕ) (gs : List PartitionSet) → length gs ≡ length ms → IsStrictlyIncreasing ms → 0 < length gs → AreBelow p gs → AreDisjoint gs
    → AreDisjoint (together (record { partitions = p; rows = pair_up ms gs }) (next_rows (record { partitions = p; rows = pair_up ms gs })))
given_disjoint_paired p ms gs len rising some over disjoint =
    let ts : List PartitionSet = target p gs in
    let ws : List PartitionSet = taken_off (pair_up ms gs) ms ts in
    let n : AreNext p ms gs ts ws = are_next p ms gs len some over disjoint in
    let g : SetRows = record { partitions = p; rows = pair_up ms gs } in
    let w : SetRows = record { partitions = p; rows = pair_up ms ws } in
    let ta : AreDisjoint ts = balanced_disjoint p ts n.target_over n.balanced in
    let same : together g w ≡ unions gs ws =
    ap (λ ns. map (λ m. union (set_of g m) (set_of w m)) ns) (members_paired ms gs len)
    ∙ map_unions (set_of g) (set_of w) ms
    ∙ ap (λ rows. unions rows (sets_of w ms)) (sets_paired p ms gs len rising)
    ∙ ap (λ rows. unions gs rows) (sets_paired p ms ws n.long rising) in
    subst (λ r. AreDisjoint (together g r)) (sym (next_paired p ms gs len rising)) (subst AreDisjoint (sym same) (given_disjoint_lists p ms gs ts len n.target_long rising over n.target_over disjoint ta))

pub given_disjoint : (g : SetRows) → IsValidRows g → 0 < length g.rows → AreDisjoint (sets_of g (members g)) → AreDisjoint (together g (next_rows g))
given_disjoint g valid some disjoint =
    let ms : List ℕ = members g in
    let gs : List PartitionSet = sets_of g ms in
    let len : length gs ≡ length ms = length_sets g ms in
    subst (λ r. AreDisjoint (together r (next_rows r))) (sym (paired g valid.rising)) (given_disjoint_paired g.partitions ms gs len valid.rising (omega (arith, length_members g.rows)) (sets_over g ms valid) disjoint)
