-- Consecutive rows.
use Rattle.std.proofs.Common.{◌≡◌, ◌∙◌, ◌+◌, ◌-◌, ◌≤◌, ◌<◌, ℕ, List, [], ◌∷◌, ◌++◌, length, take, drop, get_or, sym, ap, ap₂, refl, arith, append_assoc}
use Rattle.std.specs.Prelude.{slice_range}
use Rattle.std.proofs.Math.Seq.{take-add}
use Rattle.std.proofs.lemmas.List.{append-nil, drop-drop, drop_more, length-drop, length-take, take_all}
use Rattle.report_rows.specs.CountRows.{count_row, count_rows, rows_between, rows_by}

range_parted : {X : Type 0} (xs : List X) (a m b : ℕ) → a ≤ m → m ≤ b → slice_range xs a b ≡ slice_range xs a m ++ slice_range xs m b
range_parted xs a m b le le2 =
    let long : b - a ≡ (m - a) + (b - m) = omega (arith, le, le2) in
    let whole : a + (m - a) ≡ m = omega (arith, le) in
    ap (λ n. take n (drop a xs)) long ∙ take-add (m - a) (b - m) (drop a xs) ∙ ap (λ l. slice_range xs a m ++ take (b - m) l) (drop-drop (m - a) a xs ∙ ap (λ k. drop k xs) whole)

range_one : {X : Type 0} (xs : List X) (i : ℕ) (d : X) → i < length xs → slice_range xs i (i + 1) ≡ get_or xs i d ∷ []
range_one xs i d lt =
    let one : (i + 1) - i ≡ 1 = omega arith in
    ap (λ n. take n (drop i xs)) one ∙ ap (take 1) (drop_more xs i d lt)

range_long : {X : Type 0} (xs : List X) (a b : ℕ) → a ≤ b → b ≤ length xs → length (slice_range xs a b) ≡ b - a
range_long xs a b le le2 = omega (arith, length-take (b - a) (drop a xs), length-drop a xs, le, le2)

-- ---- rows by any rule
by-append : (row : List ℕ → ℕ → List ℕ) (ks more : List (List ℕ)) (ns others : List ℕ) → length ks ≡ length ns → rows_by row (ks ++ more) (ns ++ others) ≡ rows_by row ks ns ++ rows_by row more others
by-append row [] more [] others e = refl
by-append row [] more (n ∷ ns) others e = absurd (omega (arith, e))
by-append row (k ∷ ks) more [] others e = absurd (omega (arith, e))
by-append row (k ∷ ks) more (n ∷ ns) others e =
    ap (λ t. row k n ++ t) (by-append row ks more ns others (omega (arith, e))) ∙ sym (append_assoc (row k n) (rows_by row ks ns) (rows_by row more others))

pub by_parted : (row : List ℕ → ℕ → List ℕ) (ks : List (List ℕ)) (ns : List ℕ) (a m b : ℕ) → a ≤ m → m ≤ b → b ≤ length ns → length ks ≡ length ns
    → rows_by row (slice_range ks a b) (slice_range ns a b) ≡ rows_by row (slice_range ks a m) (slice_range ns a m) ++ rows_by row (slice_range ks m b) (slice_range ns m b)
by_parted row ks ns a m b le le2 le3 e =
    let keys = range_long ks a m le (omega (arith, le2, le3, e)) in
    let counts = range_long ns a m le (omega (arith, le2, le3)) in
    ap₂ (rows_by row) (range_parted ks a m b le le2) (range_parted ns a m b le le2)
    ∙ by-append row (slice_range ks a m) (slice_range ks m b) (slice_range ns a m) (slice_range ns m b) (keys ∙ sym counts)

pub by_more : (row : List ℕ → ℕ → List ℕ) (ks : List (List ℕ)) (ns : List ℕ) (a i : ℕ) → a ≤ i → i < length ns → length ks ≡ length ns
    → rows_by row (slice_range ks a (i + 1)) (slice_range ns a (i + 1)) ≡ rows_by row (slice_range ks a i) (slice_range ns a i) ++ row (get_or ks i []) (get_or ns i 0)
by_more row ks ns a i le lt e =
    let one : rows_by row (slice_range ks i (i + 1)) (slice_range ns i (i + 1)) ≡ row (get_or ks i []) (get_or ns i 0) ++ [] = ap₂ (rows_by row) (range_one ks i [] (omega (arith, lt, e))) (range_one ns i 0 lt) in
    by_parted row ks ns a i (i + 1) le (omega arith) (omega (arith, lt)) e ∙ ap (λ t. rows_by row (slice_range ks a i) (slice_range ns a i) ++ t) (one ∙ append-nil (row (get_or ks i []) (get_or ns i 0)))

pub by_none : (row : List ℕ → ℕ → List ℕ) (ks : List (List ℕ)) (ns : List ℕ) (a : ℕ) → rows_by row (slice_range ks a a) (slice_range ns a a) ≡ []
by_none row ks ns a =
    let none : a - a ≡ 0 = omega arith in
    ap₂ (rows_by row) (ap (λ n. take n (drop a ks)) none) (ap (λ n. take n (drop a ns)) none)

pub by_all : (row : List ℕ → ℕ → List ℕ) (ks : List (List ℕ)) (ns : List ℕ) (n : ℕ) → length ks ≡ length ns → length ns ≤ n → rows_by row (slice_range ks 0 n) (slice_range ns 0 n) ≡ rows_by row ks ns
by_all row ks ns n e le =
    let none : n - 0 ≡ n = omega arith in
    ap₂ (rows_by row) (ap (λ m. take m ks) none ∙ take_all n ks (omega (arith, e, le))) (ap (λ m. take m ns) none ∙ take_all n ns le)

-- ---- the rows of a count
pub rows_parted : (ks : List (List ℕ)) (ns : List ℕ) (a m b : ℕ) → a ≤ m → m ≤ b → b ≤ length ns → length ks ≡ length ns → rows_between ks ns a b ≡ rows_between ks ns a m ++ rows_between ks ns m b
unfolding count_rows
rows_parted ks ns a m b le le2 le3 e = by_parted count_row ks ns a m b le le2 le3 e

pub rows_more : (ks : List (List ℕ)) (ns : List ℕ) (a i : ℕ) → a ≤ i → i < length ns → length ks ≡ length ns → rows_between ks ns a (i + 1) ≡ rows_between ks ns a i ++ count_row (get_or ks i []) (get_or ns i 0)
unfolding count_rows
rows_more ks ns a i le lt e = by_more count_row ks ns a i le lt e

pub rows_none : (ks : List (List ℕ)) (ns : List ℕ) (a : ℕ) → rows_between ks ns a a ≡ []
unfolding count_rows
rows_none ks ns a = by_none count_row ks ns a

pub rows_all : (ks : List (List ℕ)) (ns : List ℕ) (n : ℕ) → length ks ≡ length ns → length ns ≤ n → rows_between ks ns 0 n ≡ count_rows ks ns
unfolding count_rows
rows_all ks ns n e le = by_all count_row ks ns n e le
