-- The texts of parts, one after another.
use Rattle.std.proofs.Common.{◌≡◌, ◌∙◌, ◌+◌, ◌-◌, ◌<◌, ◌≤◌, ℕ, zero, suc, List, [], ◌∷◌, ◌++◌, Vec, Global, length, map, take, get_or, sym, ap, ap₂, arith, subst}
use Rattle.std.specs.Prelude.{flat_map, vec_items}
use Rattle.std.proofs.lemmas.List.{append-nil, get_or-map, length-map, take_all, take_more}
use Rattle.std.proofs.lemmas.List.Concat.{flat_map-append}
use Rattle.report_rows.specs.CountRows.{count_rows, rows_between}
use Rattle.report_rows.proofs.Steps.{rows_all, rows_none, rows_parted}
use Rattle.key_counts.specs.Merging.{IsDivided, Parted}
use Rattle.count_report.specs.Private.Counted.{IsTextOfPart}

-- parts end before the keys do
starts-rise : (m : Parted) → IsDivided m → (i n : ℕ) → i + n ≤ length m.ends → get_or (0 ∷ m.ends) i 0 ≤ get_or (0 ∷ m.ends) (i + n) 0
starts-rise m so i zero le = let same : i + 0 ≡ i = omega arith in omega (arith, ap (λ k. get_or (0 ∷ m.ends) k 0) same)
starts-rise m so i (suc n) le =
    let next : i + suc n ≡ suc (i + n) = omega arith in
    let more = so.rise (i + n) (omega (arith, le)) in
    omega (arith, starts-rise m so i n (omega (arith, le)), ap (λ k. get_or (0 ∷ m.ends) k 0) next, more)

end-within : (m : Parted) → IsDivided m → (i : ℕ) → i < length m.ends → get_or m.ends i 0 ≤ length m.keys
end-within m so i lt =
    let rest : suc i + (length m.ends - suc i) ≡ length m.ends = omega (arith, lt) in
    omega (arith, starts-rise m so (suc i) (length m.ends - suc i) (omega (arith, rest)), ap (λ k. get_or (0 ∷ m.ends) k 0) rest, so.last)

-- the first n texts of parts from one on are the rows up to the end of the last of these
first-texts : (m : Parted) (from count : ℕ) (texts : List (Vec ℕ Global)) (d : Vec ℕ Global) → IsDivided m → from + count ≤ length m.ends → length texts ≡ count
    → ((i : ℕ) → i < count → IsTextOfPart m (from + i) (get_or texts i d))
    → (n : ℕ) → n ≤ count → flat_map vec_items (take n texts) ≡ rows_between m.keys m.counts (get_or (0 ∷ m.ends) from 0) (get_or (0 ∷ m.ends) (from + n) 0)
first-texts m from count texts d so within len each zero le =
    let same : from + 0 ≡ from = omega arith in
    rw same (sym (rows_none m.keys m.counts (get_or (0 ∷ m.ends) from 0)))
first-texts m from count texts d so within len each (suc n) le =
    let lt : n < count = omega (arith, le) in
    let at = from + n in
    let in_ends : at < length m.ends = omega (arith, within, lt) in
    let start = get_or (0 ∷ m.ends) from 0 in
    let before = get_or (0 ∷ m.ends) at 0 in
    let end = get_or m.ends at 0 in
    let text = get_or texts n d in
    let up : suc n ≡ n + 1 = omega arith in
    let next : from + suc n ≡ suc at = omega arith in
    let grown : flat_map vec_items (take (suc n) texts) ≡ flat_map vec_items (take n texts) ++ text.items =
    ap (λ k. flat_map vec_items (take k texts)) up ∙ ap (flat_map vec_items) (take_more texts n d (omega (arith, lt, len))) ∙ flat_map-append vec_items (take n texts) (text ∷ [])
    ∙ ap (λ t. flat_map vec_items (take n texts) ++ t) (append-nil text.items) in
    rw next
    (grown ∙ ap₂ (λ a b. a ++ b) (first-texts m from count texts d so within len each n (omega (arith, le))) (each n lt)
    ∙ sym (rows_parted m.keys m.counts start before end (starts-rise m so from n (omega (arith, in_ends))) (so.rise at in_ends) (omega (arith, end-within m so at in_ends, so.len)) (sym so.len)))

-- the texts of so many parts
pub all-texts : (m : Parted) (from count : ℕ) (texts : List (Vec ℕ Global)) → IsDivided m → from + count ≤ length m.ends → length texts ≡ count
    → ((i : ℕ) (d : Vec ℕ Global) → i < count → IsTextOfPart m (from + i) (get_or texts i d))
    → flat_map vec_items texts ≡ rows_between m.keys m.counts (get_or (0 ∷ m.ends) from 0) (get_or (0 ∷ m.ends) (from + count) 0)
all-texts m from count [] so within many each =
    let none : from + count ≡ from = omega (arith, many) in
    rw none (sym (rows_none m.keys m.counts (get_or (0 ∷ m.ends) from 0)))
all-texts m from count (text ∷ texts) so within many each =
    let all = text ∷ texts in
    ap (flat_map vec_items) (sym (take_all count all (omega (arith, many)))) ∙ first-texts m from count all text so within many (λ i lt. each i text lt) count (omega arith)

-- the texts of some parts, and then those of the parts behind them
pub both-texts : (m : Parted) (from count : ℕ) (first last : List (Vec ℕ Global)) → IsDivided m → from ≤ count → count ≤ length m.ends
    → flat_map vec_items first ≡ rows_between m.keys m.counts 0 (get_or (0 ∷ m.ends) from 0)
    → flat_map vec_items last ≡ rows_between m.keys m.counts (get_or (0 ∷ m.ends) from 0) (get_or (0 ∷ m.ends) count 0)
    → flat_map vec_items (first ++ last) ≡ rows_between m.keys m.counts 0 (get_or (0 ∷ m.ends) count 0)
both-texts m from count first last so le within one two =
    let rest : from + (count - from) ≡ count = omega (arith, le) in
    let rise = starts-rise m so from (count - from) (omega (arith, rest, within)) in
    let end = starts-rise m so count (length m.ends - count) (omega (arith, within)) in
    let last_end : count + (length m.ends - count) ≡ length m.ends = omega (arith, within) in
    let up : get_or (0 ∷ m.ends) from 0 ≤ get_or (0 ∷ m.ends) count 0 = omega (arith, rise, ap (λ k. get_or (0 ∷ m.ends) k 0) rest) in
    let in_keys : get_or (0 ∷ m.ends) count 0 ≤ length m.counts = omega (arith, end, ap (λ k. get_or (0 ∷ m.ends) k 0) last_end, so.last, so.len) in
    flat_map-append vec_items first last ∙ ap₂ (λ a b. a ++ b) one two
    ∙ sym (rows_parted m.keys m.counts 0 (get_or (0 ∷ m.ends) from 0) (get_or (0 ∷ m.ends) count 0) (omega arith) up in_keys (sym so.len))
