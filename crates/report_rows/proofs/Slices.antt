-- The texts of slices, one after another.
use Rattle.std.proofs.Common.{◌≡◌, ◌∙◌, ◌+◌, ◌*◌, ◌<◌, ◌≤◌, ℕ, zero, suc, List, [], ◌∷◌, ◌++◌, Vec, Global, length, map, take, get_or, sym, ap, ap₂, arith, subst}
use Rattle.std.specs.Prelude.{flat_map, vec_items}
use Rattle.std.proofs.lemmas.Grind.{div_ceil_times}
use Rattle.std.proofs.lemmas.List.{append-nil, get_or-map, length-map, take_all, take_more}
use Rattle.std.proofs.lemmas.List.Concat.{flat_map-append}
use Rattle.report_rows.specs.CountRows.{counted_row}
use Rattle.report_rows.specs.ReplayRows.{committed_count_rows}
use Rattle.report_rows.specs.Private.Slices.{IsTextOfSlice, committed_between, slice_start, slices_of}
use Rattle.report_rows.specs.declared.committed_rows.TheConstants.{SLICE}
use Rattle.report_rows.proofs.Steps.{by_all, by_more, by_none, by_parted}

pub between-none : (keys : List (List ℕ)) (counts : List ℕ) (a : ℕ) → committed_between keys counts a a ≡ []
unfolding committed_count_rows
between-none keys counts a = by_none counted_row keys counts a

pub between-more : (keys : List (List ℕ)) (counts : List ℕ) (a i : ℕ) → a ≤ i → i < length counts → length keys ≡ length counts
    → committed_between keys counts a (i + 1) ≡ committed_between keys counts a i ++ counted_row (get_or keys i []) (get_or counts i 0)
unfolding committed_count_rows
between-more keys counts a i le lt e = by_more counted_row keys counts a i le lt e

between-parted : (keys : List (List ℕ)) (counts : List ℕ) (a m b : ℕ) → a ≤ m → m ≤ b → b ≤ length counts → length keys ≡ length counts
    → committed_between keys counts a b ≡ committed_between keys counts a m ++ committed_between keys counts m b
unfolding committed_count_rows
between-parted keys counts a m b le le2 le3 e = by_parted counted_row keys counts a m b le le2 le3 e

between-all : (keys : List (List ℕ)) (counts : List ℕ) (n : ℕ) → length keys ≡ length counts → length counts ≤ n → committed_between keys counts 0 n ≡ committed_count_rows keys counts
unfolding committed_count_rows
between-all keys counts n e le = by_all counted_row keys counts n e le

-- the first n texts are the rows of the keys before slice n
first-slices : (keys : List (List ℕ)) (counts : List ℕ) (texts : List (Vec ℕ Global)) (d : Vec ℕ Global) → length keys ≡ length counts
    → ((i : ℕ) → i < length texts → IsTextOfSlice keys counts i (get_or texts i d))
    → (n : ℕ) → n ≤ length texts → flat_map vec_items (take n texts) ≡ committed_between keys counts 0 (slice_start (length keys) n)
first-slices keys counts texts d e each zero le =
    let none : slice_start (length keys) zero ≡ 0 = omega arith in
    rw none (sym (between-none keys counts 0))
first-slices keys counts texts d e each (suc n) le =
    let lt : n < length texts = omega (arith, le) in
    let start = slice_start (length keys) n in
    let end = slice_start (length keys) (n + 1) in
    let text = get_or texts n d in
    let up : suc n ≡ n + 1 = omega arith in
    let grown : flat_map vec_items (take (suc n) texts) ≡ flat_map vec_items (take n texts) ++ text.items =
    ap (λ k. flat_map vec_items (take k texts)) up ∙ ap (flat_map vec_items) (take_more texts n d lt) ∙ flat_map-append vec_items (take n texts) (text ∷ [])
    ∙ ap (λ t. flat_map vec_items (take n texts) ++ t) (append-nil text.items) in
    grown ∙ ap₂ (λ a b. a ++ b) (first-slices keys counts texts d e each n (omega (arith, le))) (each n lt)
    ∙ sym (between-parted keys counts 0 start end (omega arith) (omega arith) (omega (arith, e)) e)
    ∙ ap (λ k. committed_between keys counts 0 (slice_start (length keys) k)) (sym up)

-- the texts of all slices
pub all-slices : (keys : List (List ℕ)) (counts : List ℕ) (texts : List (Vec ℕ Global)) → length keys ≡ length counts → length texts ≡ slices_of (length keys)
    → ((i : ℕ) (d : Vec ℕ Global) → i < slices_of (length keys) → IsTextOfSlice keys counts i (get_or texts i d)) → flat_map vec_items texts ≡ committed_count_rows keys counts
all-slices keys counts [] e many each =
    let whole = div_ceil_times (length keys) SLICE (omega arith) in
    let nothing : length keys ≡ 0 = omega (arith, whole.0, ap (λ k. k * SLICE) (sym many)) in
    sym (between-none keys counts 0) ∙ between-all keys counts 0 e (omega (arith, nothing, e))
all-slices keys counts (text ∷ texts) e many each =
    let all = text ∷ texts in
    let whole = div_ceil_times (length keys) SLICE (omega arith) in
    let end : length counts ≤ slice_start (length keys) (length all) = omega (arith, whole.0, ap (λ k. k * SLICE) many, e) in
    ap (flat_map vec_items) (sym (take_all (length all) all (omega arith)))
    ∙ first-slices keys counts all text e (λ i lt. each i text (omega (arith, lt, many))) (length all) (omega arith)
    ∙ between-all keys counts (slice_start (length keys) (length all)) e end
