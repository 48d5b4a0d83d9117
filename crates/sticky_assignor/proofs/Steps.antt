-- The steps of the loops.
use Rattle.std.proofs.Common.{ℕ, zero, suc, ◌≡◌, ◌+◌, ◌-◌, ◌/◌, ◌%◌, ◌<◌, ◌≤◌, Bool, true, false, ◌&&◌, ◌||◌, not, List, [], ◌∷◌, ◌++◌, length, map, drop, take, get_or, cond, min, append_assoc, refl, ap, sym, ◌∙◌, arith}
use Rattle.std.specs.Prelude.{nat_lt}
use Rattle.std.specs.List.Sorted.{IsStrictlyIncreasing}
use Rattle.std.proofs.lemmas.Bool.{lt-ltb, le-ltb}
use Rattle.std.proofs.lemmas.Bool.Decides.{nat_tests}
use Rattle.std.proofs.lemmas.List.Sums.{sum_by-cons}
use Rattle.bit_planes.specs.PartitionSet.{PartitionSet, partitions_of, is_in, rank, size, full_set, union, minus, lowest}
use Rattle.bit_planes.specs.SetRows.{SetRows, members, put_row, with_row, set_of, sets_of}
use Rattle.bit_planes.proofs.Sets.{same_set, in_union, in_minus, in_lowest, partitions_union, partitions_minus, partitions_lowest, size_lowest, lowest_all}
use Rattle.bit_planes.proofs.RowLaws.{below_later, put_last}
use Rattle.sticky_assignor.specs.Assigned.{pair_up}
use Rattle.sticky_assignor.specs.Private.Filling.{one_of, shares, quotas, sizes, heavies_by, shares_by, quotas_by, retaining, free_of, gaps, filled, given_of}
use Rattle.sticky_assignor.specs.Target.{is_heavy, heavies}
use Rattle.sticky_assignor.proofs.Balance.{heavies_cons}

pub pushed_on : (xs more : List ℕ) (x : ℕ) (rest left whole : List ℕ) → more ≡ xs ++ x ∷ [] → left ≡ x ∷ rest → xs ++ left ≡ whole → more ++ rest ≡ whole
pushed_on xs more x rest left whole pushed next e = ap (λ l. l ++ rest) pushed ∙ append_assoc xs (x ∷ []) rest ∙ ap (λ l. xs ++ l) (sym next) ∙ e

pub sets_next : (owned : SetRows) (ms : List ℕ) (i m : ℕ) → i < length ms → m ≡ get_or ms i m → sets_of owned (drop i ms) ≡ set_of owned m ∷ sets_of owned (drop (i + 1) ms)
sets_next owned [] i m lt e = absurd (omega arith)
sets_next owned (x ∷ ms) zero m lt e = rw e refl
sets_next owned (x ∷ ms) (suc i) m lt e = let n : suc i + 1 ≡ suc (i + 1) = omega arith in rw n (sets_next owned ms i m (omega arith) e)

-- ---- by sizes alone
pub sizes_next : (owned : SetRows) (ms : List ℕ) (i m : ℕ) → i < length ms → m ≡ get_or ms i m → sizes (sets_of owned (drop i ms)) ≡ size (set_of owned m) ∷ sizes (sets_of owned (drop (i + 1) ms))
sizes_next owned ms i m lt e = ap sizes (sets_next owned ms i m lt e)

pub heavies_by_is : (share : ℕ) (rows : List PartitionSet) → heavies_by share (sizes rows) ≡ heavies share rows
heavies_by_is share [] = refl
heavies_by_is share (row ∷ rows) =
    sum_by-cons (λ n. cond (nat_lt share n) 1 0) (size row) (sizes rows) ∙ (ap (λ m. cond (is_heavy share row) 1 0 + m) (heavies_by_is share rows) ∙ sym (heavies_cons share row rows))

pub shares_by_is : (share h o : ℕ) (rows : List PartitionSet) → shares_by share h o (sizes rows) ≡ shares share h o rows
shares_by_is share h o [] = refl
shares_by_is share h o (row ∷ rows) =
    elim (is_heavy share row) as (λ b. cond b ((share + one_of h) ∷ shares_by share (h - 1) o (sizes rows)) ((share + one_of o) ∷ shares_by share h (o - 1) (sizes rows)) ≡ cond b ((share + one_of h) ∷ shares share (h - 1) o rows) ((share + one_of o) ∷ shares share h (o - 1) rows)) [
      | true ↦ ap (λ ns. (share + one_of h) ∷ ns) (shares_by_is share (h - 1) o rows)
      | false ↦ ap (λ ns. (share + one_of o) ∷ ns) (shares_by_is share h (o - 1) rows)
    ]

pub length_sizes : (rows : List PartitionSet) → length (sizes rows) ≡ length rows
length_sizes [] = refl
length_sizes (row ∷ rows) = ap (λ n. suc n) (length_sizes rows)

pub quotas_by_is : (p : ℕ) (rows : List PartitionSet) → quotas_by p (sizes rows) ≡ quotas p rows
quotas_by_is p rows =
    let n : ℕ = length rows in
    rw (length_sizes rows, heavies_by_is (p / n) rows) (shares_by_is (p / n) (min (p % n) (heavies (p / n) rows)) (p % n - min (p % n) (heavies (p / n) rows)) rows)

pub size_next : (ns : List ℕ) (i n : ℕ) → i < length ns → n ≡ get_or ns i n → drop i ns ≡ n ∷ drop (i + 1) ns
size_next [] i n lt e = absurd (omega arith)
size_next (x ∷ ns) zero n lt e = rw e refl
size_next (x ∷ ns) (suc i) n lt e = let k : suc i + 1 ≡ suc (i + 1) = omega arith in rw k (size_next ns i n (omega arith) e)

pub heavy_by : (share h o : ℕ) (ns : List ℕ) (i n : ℕ) → i < length ns → n ≡ get_or ns i n → share < n → shares_by share h o (drop i ns) ≡ (share + one_of h) ∷ shares_by share (h - 1) o (drop (i + 1) ns)
heavy_by share h o ns i n lt e heavy = rw (size_next ns i n lt e, lt-ltb share n heavy) refl

pub light_by : (share h o : ℕ) (ns : List ℕ) (i n : ℕ) → i < length ns → n ≡ get_or ns i n → n ≤ share → shares_by share h o (drop i ns) ≡ (share + one_of o) ∷ shares_by share h (o - 1) (drop (i + 1) ns)
light_by share h o ns i n lt e light = rw (size_next ns i n lt e, le-ltb share n light) refl

pub size_at : (owned : SetRows) (ns ms : List ℕ) (i : ℕ) → ns ≡ sizes (sets_of owned ms) → i < length ms → get_or ns i 0 ≡ size (set_of owned (get_or ms i 0))
size_at owned ns ms i e lt = ap (λ xs. get_or xs i 0) e ∙ at ms i lt
  where
    at : (ms : List ℕ) (i : ℕ) → i < length ms → get_or (sizes (sets_of owned ms)) i 0 ≡ size (set_of owned (get_or ms i 0))
    at [] i lt = absurd (omega arith)
    at (x ∷ ms) zero lt = refl
    at (x ∷ ms) (suc i) lt = at ms i (omega arith)

-- ---- what is kept and given where the size of a row is known
no_lower : (x : Bool) (r n : ℕ) → n ≡ 0 → (x && nat_lt r n) ≡ false
no_lower true r n e = grind (arith, nat_tests)
no_lower false r n e = refl

none_given : (n : ℕ) (s : PartitionSet) → n ≡ 0 → (q : ℕ) → is_in (lowest n s) q ≡ false
none_given n s none q = in_lowest n s q ∙ no_lower (is_in s q) (rank s q) n none

or_none : (x y : Bool) → y ≡ false → x ≡ (x || y)
or_none true y e = refl
or_none false y e = sym e

and_not_none : (x y : Bool) → y ≡ false → x ≡ (x && not y)
and_not_none true y e = rw e refl
and_not_none false y e = refl

pub union_none : (s t : PartitionSet) → partitions_of s ≡ partitions_of t → ((q : ℕ) → is_in t q ≡ false) → s ≡ union s t
union_none s t below none = same_set s (union s t) (sym (partitions_union s t)) (λ q lt. or_none (is_in s q) (is_in t q) (none q) ∙ sym (in_union s t q below))

pub minus_none : (s t : PartitionSet) → ((q : ℕ) → is_in t q ≡ false) → s ≡ minus s t
minus_none s t none = same_set s (minus s t) (sym (partitions_minus s t)) (λ q lt. and_not_none (is_in s q) (is_in t q) (none q) ∙ sym (in_minus s t q))

pub retained_whole : (row : PartitionSet) (quota : ℕ) → size row ≤ quota → row ≡ lowest quota row
retained_whole row quota le = lowest_all quota row le

pub row_alone : (row retained free : PartitionSet) (quota : ℕ) → partitions_of free ≡ partitions_of row → quota ≤ size row → retained ≡ lowest quota row → retained ≡ union (lowest quota row) (given_of quota row free)
row_alone row retained free quota below le e =
    let full : quota - size (lowest quota row) ≡ 0 = let s = size_lowest quota row in omega arith in
    let low : PartitionSet = lowest quota row in
    e ∙ union_none low (given_of quota row free) (partitions_lowest quota row ∙ (sym below ∙ sym (partitions_lowest (quota - size low) free))) (none_given (quota - size low) free full)

pub free_alone : (row free : PartitionSet) (quota : ℕ) → quota ≤ size row → free ≡ minus free (given_of quota row free)
free_alone row free quota le =
    let full : quota - size (lowest quota row) ≡ 0 = let s = size_lowest quota row in omega arith in
    minus_none free (given_of quota row free) (none_given (quota - size (lowest quota row)) free full)

pub given_is : (row free given : PartitionSet) (quota size_of gap : ℕ) → size_of ≡ size row → size_of ≤ quota → gap ≡ quota - size_of → given ≡ lowest gap free → given ≡ given_of quota row free
given_is row free given quota size_of gap es le eg e =
    let same : gap ≡ quota - size (lowest quota row) = let s = size_lowest quota row in omega arith in
    e ∙ ap (λ n. lowest n free) same

-- ---- what is free
-- what is left of a set by rows that are taken off in order
abbrev pub left_by : PartitionSet → List PartitionSet → PartitionSet
left_by free [] = free
left_by free (row ∷ rows) = left_by (minus free row) rows

off_both : (x y z : Bool) → ((x && not y) && not z) ≡ ((x && not z) && not y)
off_both true true true = refl
off_both true true false = refl
off_both true false true = refl
off_both true false false = refl
off_both false y z = refl

minus_both : (s t u : PartitionSet) → minus (minus s t) u ≡ minus (minus s u) t
minus_both s t u =
    same_set (minus (minus s t) u) (minus (minus s u) t)
    (partitions_minus (minus s t) u ∙ partitions_minus s t ∙ sym (partitions_minus (minus s u) t ∙ partitions_minus s u))
    (λ q lt. rw (in_minus (minus s t) u q, in_minus (minus s u) t q, in_minus s t q, in_minus s u q) (off_both (is_in s q) (is_in t q) (is_in u q)))

left_last : (free row : PartitionSet) (rows : List PartitionSet) → left_by (minus free row) rows ≡ minus (left_by free rows) row
left_last free row [] = refl
left_last free row (r ∷ rows) = ap (λ s. left_by s rows) (minus_both free row r) ∙ left_last (minus free r) row rows

pub left_is_free : (p : ℕ) (rows : List PartitionSet) → left_by (full_set p) rows ≡ free_of p rows
left_is_free p [] = refl
left_is_free p (row ∷ rows) = left_last (full_set p) row rows ∙ ap (λ s. minus s row) (left_is_free p rows)

pub retaining_next : (owned : SetRows) (ms qs : List ℕ) (i m n : ℕ) → i < length ms → i < length qs → m ≡ get_or ms i m → n ≡ get_or qs i n
    → retaining (drop i qs) (sets_of owned (drop i ms)) ≡ lowest n (set_of owned m) ∷ retaining (drop (i + 1) qs) (sets_of owned (drop (i + 1) ms))
retaining_next owned [] qs i m n lm lq em en = absurd (omega arith)
retaining_next owned (x ∷ ms) [] i m n lm lq em en = absurd (omega arith)
retaining_next owned (x ∷ ms) (y ∷ qs) zero m n lm lq em en = rw (em, en) refl
retaining_next owned (x ∷ ms) (y ∷ qs) (suc i) m n lm lq em en =
    let k : suc i + 1 ≡ suc (i + 1) = omega arith in rw k (retaining_next owned ms qs i m n (omega arith) (omega arith) em en)

-- ---- filling
-- the rows of the members from index i on
abbrev pub filled_from : SetRows → PartitionSet → List ℕ → List ℕ → ℕ → List (ℕ × PartitionSet)
filled_from owned free ms qs i =
    let ks = retaining (drop i qs) (sets_of owned (drop i ms)) in
    pair_up (drop i ms) (filled free (gaps (drop i qs) ks) ks)

pub filled_next : (owned : SetRows) (free : PartitionSet) (ms qs : List ℕ) (i m n : ℕ) → i < length ms → i < length qs → m ≡ get_or ms i m → n ≡ get_or qs i n
    → filled_from owned free ms qs i ≡ (m, union (lowest n (set_of owned m)) (lowest (n - size (lowest n (set_of owned m))) free)) ∷ filled_from owned (minus free (lowest (n - size (lowest n (set_of owned m))) free)) ms qs (i + 1)
filled_next owned free [] qs i m n lm lq em en = absurd (omega arith)
filled_next owned free (x ∷ ms) [] i m n lm lq em en = absurd (omega arith)
filled_next owned free (x ∷ ms) (y ∷ qs) zero m n lm lq em en = rw (em, en) refl
filled_next owned free (x ∷ ms) (y ∷ qs) (suc i) m n lm lq em en =
    let k : suc i + 1 ≡ suc (i + 1) = omega arith in rw k (filled_next owned free ms qs i m n (omega arith) (omega arith) em en)

pub filled_end : (owned : SetRows) (free : PartitionSet) (ms qs : List ℕ) (i : ℕ) → length ms ≤ i → filled_from owned free ms qs i ≡ []
filled_end owned free [] qs zero le = refl
filled_end owned free [] qs (suc i) le = refl
filled_end owned free (m ∷ ms) qs zero le = absurd (omega arith)
filled_end owned free (m ∷ ms) [] (suc i) le = pair_nothing (drop i ms)
  where
    pair_nothing : (ns : List ℕ) → pair_up ns [] ≡ []
    pair_nothing [] = refl
    pair_nothing (n ∷ ns) = refl
filled_end owned free (m ∷ ms) (q ∷ qs) (suc i) le = filled_end owned free ms qs i (omega arith)

-- ---- the loops over plain values
pub left_init : (p n : ℕ) (s : PartitionSet) (rows : List PartitionSet) → s ≡ full_set n → n ≡ p → left_by s rows ≡ free_of p rows
left_init p n s rows is e = ap (λ t. left_by t rows) (is ∙ ap full_set e) ∙ left_is_free p rows

pub left_step : (owned : SetRows) (ms qs : List ℕ) (i m n : ℕ) (free retained own next : PartitionSet) → i < length ms → i < length qs → m ≡ get_or ms i m → n ≡ get_or qs i n → own ≡ set_of owned m → retained ≡ lowest n own → next ≡ minus free retained
    → left_by next (retaining (drop (i + 1) qs) (sets_of owned (drop (i + 1) ms))) ≡ left_by free (retaining (drop i qs) (sets_of owned (drop i ms)))
left_step owned ms qs i m n free retained own next lm lq em en eo ek is =
    let k : retained ≡ lowest n (set_of owned m) = ek ∙ ap (lowest n) eo in
    sym (ap (λ rows. left_by free rows) (retaining_next owned ms qs i m n lm lq em en) ∙ ap (λ s. left_by s (retaining (drop (i + 1) qs) (sets_of owned (drop (i + 1) ms)))) (sym (is ∙ ap (minus free) k)))

pub left_end : (owned : SetRows) (ms qs : List ℕ) (i : ℕ) (free : PartitionSet) → length qs ≤ i → left_by free (retaining (drop i qs) (sets_of owned (drop i ms))) ≡ free
left_end owned ms qs i free le = ap (λ ns. left_by free (retaining ns (sets_of owned (drop i ms)))) (drop_all qs i le)
  where
    drop_all : (ns : List ℕ) (i : ℕ) → length ns ≤ i → drop i ns ≡ []
    drop_all [] zero le = refl
    drop_all [] (suc i) le = refl
    drop_all (n ∷ ns) zero le = absurd (omega arith)
    drop_all (n ∷ ns) (suc i) le = drop_all ns i (omega arith)

firsts_append : (rows : List (ℕ × PartitionSet)) (m : ℕ) (s : PartitionSet) → map (λ row. row.0) (rows ++ (m, s) ∷ []) ≡ map (λ row. row.0) rows ++ m ∷ []
firsts_append [] m s = refl
firsts_append (row ∷ rows) m s = ap (λ ns. row.0 ∷ ns) (firsts_append rows m s)

take_next : (ms : List ℕ) (i m : ℕ) → i < length ms → m ≡ get_or ms i m → take (i + 1) ms ≡ take i ms ++ m ∷ []
take_next [] i m lt e = absurd (omega arith)
take_next (x ∷ ms) zero m lt e = rw e refl
take_next (x ∷ ms) (suc i) m lt e = let n : suc i + 1 ≡ suc (i + 1) = omega arith in rw n (ap (λ ns. x ∷ ns) (take_next ms i m (omega arith) e))

length_take : (ms : List ℕ) (i : ℕ) → length (take i ms) ≤ i
length_take ms zero = omega arith
length_take [] (suc i) = omega arith
length_take (m ∷ ms) (suc i) = omega (arith, length_take ms i)

take_at : (ms : List ℕ) (i j : ℕ) → j < i → get_or (take i ms) j 0 ≡ get_or ms j 0
take_at ms zero j lt = absurd (omega arith)
take_at [] (suc i) j lt = refl
take_at (m ∷ ms) (suc i) zero lt = refl
take_at (m ∷ ms) (suc i) (suc j) lt = take_at ms i j (omega arith)

any_default : (ms : List ℕ) (i m d : ℕ) → i < length ms → m ≡ get_or ms i m → m ≡ get_or ms i d
any_default [] i m d lt e = absurd (omega arith)
any_default (x ∷ ms) zero m d lt e = e
any_default (x ∷ ms) (suc i) m d lt e = any_default ms i m d (omega arith) e

pub fill_step : (owned rows new : SetRows) (ms qs : List ℕ) (i m n count gap : ℕ) (free own retained given row next : PartitionSet) → IsStrictlyIncreasing ms → i < length ms → i < length qs → m ≡ get_or ms i m → n ≡ get_or qs i n
    → own ≡ set_of owned m → retained ≡ lowest n own → count ≡ size retained → gap ≡ n - count → given ≡ lowest gap free → row ≡ union retained given → next ≡ minus free given → new ≡ with_row rows m row → members rows ≡ take i ms
    → (new.partitions ≡ rows.partitions) × (members new ≡ take (i + 1) ms) × (new.rows ++ filled_from owned next ms qs (i + 1) ≡ rows.rows ++ filled_from owned free ms qs i)
fill_step owned rows new ms qs i m n count gap free own retained given row next rising lm lq em en eo ek ec eg egiven er enext enew numbers =
    let k : retained ≡ lowest n (set_of owned m) = ek ∙ ap (lowest n) eo in
    let g : gap ≡ n - size (lowest n (set_of owned m)) = eg ∙ ap (λ x. n - x) (ec ∙ ap size k) in
    let low : given ≡ lowest (n - size (lowest n (set_of owned m))) free = egiven ∙ ap (λ x. lowest x free) g in
    let r : row ≡ union (lowest n (set_of owned m)) (lowest (n - size (lowest n (set_of owned m))) free) = er ∙ ap (λ s. union s given) k ∙ ap (union (lowest n (set_of owned m))) low in
    let last : put_row rows.rows m row ≡ rows.rows ++ (m, row) ∷ [] = put_last rows.rows m row (λ j l.
    let short : length (map (λ row. row.0) rows.rows) ≡ length (take i ms) = ap length numbers in
    let lj : j < i = omega (arith, length_take ms i) in
    let here : get_or (map (λ row. row.0) rows.rows) j 0 ≡ get_or ms j 0 = ap (λ ns. get_or ns j 0) numbers ∙ take_at ms i j lj in
    let up : get_or ms j 0 < get_or ms i 0 = below_later ms rising j i lj lm in
    let mine : m ≡ get_or ms i 0 = any_default ms i m 0 lm em in
    omega arith) in
    let is : new.rows ≡ rows.rows ++ (m, row) ∷ [] = ap (λ x. x.rows) enew ∙ last in
    let rest : List (ℕ × PartitionSet) = filled_from owned next ms qs (i + 1) in
    let step : (m, row) ∷ rest ≡ filled_from owned free ms qs i =
    ap (λ s. (m, s) ∷ rest) r ∙ ap (λ s. (m, union (lowest n (set_of owned m)) (lowest (n - size (lowest n (set_of owned m))) free)) ∷ filled_from owned s ms qs (i + 1)) (enext ∙ ap (minus free) low) ∙ sym (filled_next owned free ms qs i m n lm lq em en) in (
      ap (λ x. x.partitions) enew,
      ap (map (λ row. row.0)) is ∙ firsts_append rows.rows m row ∙ ap (λ ns. ns ++ m ∷ []) numbers ∙ sym (take_next ms i m lm em),
      ap (λ rs. rs ++ rest) is ∙ append_assoc rows.rows ((m, row) ∷ []) rest ∙ ap (λ rs. rows.rows ++ rs) step,
    )

append_none : (rows : List (ℕ × PartitionSet)) → rows ++ [] ≡ rows
append_none [] = refl
append_none (row ∷ rows) = ap (λ rs. row ∷ rs) (append_none rows)

pub fill_end : (owned rows : SetRows) (ms qs : List ℕ) (i : ℕ) (free all : PartitionSet) → length ms ≤ i → rows.partitions ≡ owned.partitions → rows.rows ++ filled_from owned free ms qs i ≡ filled_from owned all ms qs 0
    → rows ≡ record { partitions = owned.partitions; rows = filled_from owned all ms qs 0 }
fill_end owned rows ms qs i free all le below so_far =
    let is : rows.rows ≡ filled_from owned all ms qs 0 = sym (append_none rows.rows) ∙ ap (λ rs. rows.rows ++ rs) (sym (filled_end owned free ms qs i le)) ∙ so_far in
    ap (λ n. record { partitions = n; rows = rows.rows }) below ∙ ap (λ rs. record { partitions = owned.partitions; rows = rs }) is
