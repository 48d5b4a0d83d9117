-- What is withheld, row by row.
use Rattle.std.proofs.Common.{ℕ, ◌≡◌, ◌+◌, ◌<◌, ◌≤◌, ◌==◌, ◌∙◌, Bool, true, false, ◌&&◌, not, List, [], ◌∷◌, ◌++◌, length, take, get_or, map, Some, None, cond, refl, ap, sym, subst, arith, inl, inr}
use Rattle.std.specs.List.Sorted.{IsStrictlyIncreasing}
use Rattle.std.proofs.lemmas.Bool.{cases_lt}
use Rattle.std.proofs.lemmas.Bool.Decides.{nat_tests}
use Rattle.std.proofs.lemmas.List.{length-map, length-take-le, get_or-take, get_or-map, map-append, take_all}
use Rattle.bit_planes.specs.PartitionSet.{PartitionSet, partitions_of, is_in, set_where, minus}
use Rattle.bit_planes.specs.SetRows.{SetRows, IsValidRows, members, find_row, set_or_empty, set_of, put_row, with_row}
use Rattle.bit_planes.proofs.Sets.{in_empty, in_minus, in_where, past, past_where, partitions_minus, partitions_where, same_set}
use Rattle.bit_planes.proofs.RowLaws.{below_later, put_last}
use Rattle.coop_rebalance.proofs.Items.{items_more}
use Rattle.coop_rebalance.specs.Withheld.{granted_to_other, withheld_row, withheld}

abbrev Rows : Type 0
Rows = List (ℕ × PartitionSet)

not_first : (x y : Bool) → x ≡ false → (x && y) ≡ false
not_first true y h = absurd (cc h)
not_first false y h = refl

pub in_withheld_row : (granted : Rows) (row : ℕ × PartitionSet) (q : ℕ) → is_in (withheld_row granted row).1 q ≡ (is_in row.1 q && not (granted_to_other granted row.0 q))
in_withheld_row granted row q =
    let f : ℕ → Bool = λ n. is_in row.1 n && not (granted_to_other granted row.0 n) in
    elim (cases_lt q (partitions_of row.1)) [
      | inl lt ↦ in_where (partitions_of row.1) f q lt
      | inr le ↦ past_where (partitions_of row.1) f q le ∙ sym (not_first (is_in row.1 q) (not (granted_to_other granted row.0 q)) (past row.1 q le))
    ]

pub withheld_set : (granted : Rows) (row : ℕ × PartitionSet) (others : PartitionSet) → ((q : ℕ) → is_in others q ≡ granted_to_other granted row.0 q) → (row.0, minus row.1 others) ≡ withheld_row granted row
withheld_set granted row others others_are =
    let f : ℕ → Bool = λ n. is_in row.1 n && not (granted_to_other granted row.0 n) in
    let same : minus row.1 others ≡ set_where (partitions_of row.1) f = same_set (minus row.1 others) (set_where (partitions_of row.1) f) (partitions_minus row.1 others ∙ sym (partitions_where (partitions_of row.1) f))
    (λ q lt. in_minus row.1 others q ∙ ap (λ b. is_in row.1 q && not b) (others_are q) ∙ sym (in_withheld_row granted row q)) in
    ap (λ s. (row.0, s)) same

numbers_withheld : (granted rows : Rows) → map (λ row. row.0) (map (withheld_row granted) rows) ≡ map (λ row. row.0) rows
numbers_withheld granted [] = refl
numbers_withheld granted (row ∷ rows) = ap (λ ms. row.0 ∷ ms) (numbers_withheld granted rows)

pub members_withheld : (target granted : SetRows) → members (withheld target granted) ≡ members target
unfolding withheld
members_withheld target granted = numbers_withheld granted.rows target.rows

same_id : (m n : ℕ) → (m == n) ≡ true → m ≡ n
same_id m n e = grind (arith, nat_tests)

found_withheld : (p : ℕ) (granted rows : Rows) (m q : ℕ) → is_in (set_or_empty p (find_row (map (withheld_row granted) rows) m)) q ≡ (is_in (set_or_empty p (find_row rows m)) q && not (granted_to_other granted m q))
found_withheld p granted [] m q = in_empty p q ∙ sym (not_first (is_in (set_or_empty p None) q) (not (granted_to_other granted m q)) (in_empty p q))
found_withheld p granted (row ∷ rows) m q =
    elim (row.0 == m) as (λ b. (row.0 == m) ≡ b → is_in (set_or_empty p (cond b (Some (withheld_row granted row).1) (find_row (map (withheld_row granted) rows) m))) q ≡ (is_in (set_or_empty p (cond b (Some row.1) (find_row rows m))) q && not (granted_to_other granted m q))) [
      | true ↦ λ e. in_withheld_row granted row q ∙ ap (λ n. is_in row.1 q && not (granted_to_other granted n q)) (same_id row.0 m e)
      | false ↦ λ e. found_withheld p granted rows m q
    ] refl

pub set_withheld : (target granted : SetRows) (m q : ℕ) → is_in (set_of (withheld target granted) m) q ≡ (is_in (set_of target m) q && not (granted_to_other granted.rows m q))
unfolding withheld
set_withheld target granted m q = found_withheld target.partitions granted.rows target.rows m q

abbrev pub withheld_first : SetRows → SetRows → Rows → ℕ → SetRows
withheld_first target granted items i = record target { rows = map (withheld_row granted.rows) (take i items) }

pub withheld_all : (target granted : SetRows) (items : Rows) (i : ℕ) → items ≡ target.rows → length items ≤ i → withheld_first target granted items i ≡ withheld target granted
unfolding withheld
withheld_all target granted items i same le = ap (λ (rows : Rows). record target { rows = map (withheld_row granted.rows) rows }) (take_all i items le ∙ same)

earlier_below : (granted items : Rows) (i : ℕ) (item : ℕ × PartitionSet) → IsStrictlyIncreasing (map (λ row. row.0) items) → i < length items → item ≡ get_or items i item
    → (j : ℕ) → j < length (map (λ row. row.0) (map (withheld_row granted) (take i items))) → get_or (map (λ row. row.0) (map (withheld_row granted) (take i items))) j 0 < item.0
earlier_below granted items i item rising lt at j few =
    let w : Rows = map (withheld_row granted) (take i items) in
    let long : length (map (λ (row : ℕ × PartitionSet). row.0) w) ≡ i = length-map w (λ (row : ℕ × PartitionSet). row.0) ∙ length-map (take i items) (withheld_row granted) ∙ length-take-le i items (omega arith) in
    let items_long = length-map items (λ (row : ℕ × PartitionSet). row.0) in
    let before : j < i = omega (arith, few, long) in
    let number : (k : ℕ) → k < length items → get_or (map (λ (row : ℕ × PartitionSet). row.0) items) k 0 ≡ (get_or items k item).0 = λ k l. get_or-map (λ (row : ℕ × PartitionSet). row.0) items k item 0 l in
    let there : get_or (map (λ (row : ℕ × PartitionSet). row.0) w) j 0 ≡ get_or (map (λ (row : ℕ × PartitionSet). row.0) items) j 0 =
    ap (λ ms. get_or ms j 0) (numbers_withheld granted (take i items)) ∙ get_or-map (λ (row : ℕ × PartitionSet). row.0) (take i items) j item 0 (let l = length-take-le i items (omega arith) in omega (arith, l, before)) ∙ ap (λ (row : ℕ × PartitionSet). row.0) (get_or-take i items j item before) ∙ sym (number j (omega (arith, before))) in
    let here : get_or (map (λ (row : ℕ × PartitionSet). row.0) items) i 0 ≡ item.0 = number i lt ∙ ap (λ (row : ℕ × PartitionSet). row.0) (sym at) in
    let rises = below_later (map (λ (row : ℕ × PartitionSet). row.0) items) rising j i before (omega (arith, items_long, lt)) in
    omega (arith, rises, there, here)

pub withheld_more : (target granted : SetRows) (items : Rows) (i : ℕ) (item : ℕ × PartitionSet) (others : PartitionSet) (rows new : SetRows)
    → IsValidRows target → items ≡ target.rows → i < length items → item ≡ get_or items i item → ((q : ℕ) → is_in others q ≡ granted_to_other granted.rows item.0 q)
    → rows ≡ withheld_first target granted items i → new ≡ with_row rows item.0 (minus item.1 others) → new ≡ withheld_first target granted items (i + 1)
withheld_more target granted items i item others rows new valid same lt at others_are so_far put =
    let w : Rows = map (withheld_row granted.rows) (take i items) in
    let rising : IsStrictlyIncreasing (map (λ row. row.0) items) = subst (λ (xs : Rows). IsStrictlyIncreasing (map (λ row. row.0) xs)) (sym same) valid.rising in
    let last : put_row w item.0 (minus item.1 others) ≡ w ++ withheld_row granted.rows item ∷ [] = put_last w item.0 (minus item.1 others) (earlier_below granted.rows items i item rising lt at) ∙ ap (λ row. w ++ row ∷ []) (withheld_set granted.rows item others others_are) in
    let more : w ++ withheld_row granted.rows item ∷ [] ≡ map (withheld_row granted.rows) (take (i + 1) items) = sym (map-append (withheld_row granted.rows) (take i items) (item ∷ [])) ∙ ap (λ (xs : Rows). map (withheld_row granted.rows) xs) (sym (items_more items i item lt at)) in
    put ∙ ap (λ (r : SetRows). with_row r item.0 (minus item.1 others)) so_far ∙ ap (λ (xs : Rows). record target { rows = xs }) (last ∙ more)
