-- Key numbers by count: only one order of them is sorted.
use Rattle.std.proofs.Common.{◌≡◌, ◌∙◌, ◌+◌, ◌<◌, ◌≤◌, ◌++◌, ◌&&◌, ℕ, suc, Bool, true, false, cond, List, [], ◌∷◌, length, map, drop, get_or, add-one, drop-cons, append_assoc, refl, subst, sym, ap, ap₂, arith, true≢false, is_lt, Ordering, Less, Equal, Greater, IsPermutation, IsSorted}
use Rattle.std.specs.Prelude.{⊤, All, ◌==◌, flat_map, nat_le, min, if◌then◌else◌, take}
use Rattle.std.specs.List.{AllByRecursion as Each, sum_by, zip}
use Rattle.std.specs.Ordering.{MatchOrdering, nat_cmp, ordering_then}
use Rattle.std.proofs.lemmas.Cmp.{ranked}
use Rattle.std.proofs.lemmas.List.Elements.{All-from_recursion}
use Rattle.std.proofs.lemmas.List.Sorted.{All-permutation, sum_by-IsPermutation}
use Rattle.std.proofs.lemmas.List.Sums.{sum_by-cons}
use Rattle.std.proofs.lemmas.Bool.{eq-eqb, eqb-true, leb-false, leb-true}
use Rattle.std.proofs.lemmas.List.{append-nil, drop_all, flat_map_more, length-map, map_more, take-map, take_min}
use Rattle.partition_log.specs.Keys.{Key, key_at}
use Rattle.report_rows.specs.CountRows.{counted_row, inserted_by, ranked_by, top_rows}
use Rattle.report_rows.specs.Private.Ranked.{AreRanked, Numbered, named}

-- ---- ranking keeps what holds of each item, and sums
each_inserted : {X : Type 0} (P : X → Type 0) (count : X → ℕ) (x : X) (xs : List X) → P x → Each P xs → Each P (inserted_by count x xs)
each_inserted P count x [] h all = (h, tt)
each_inserted P count x (y ∷ ys) h all = go (nat_le (count y) (count x)) (each_inserted P count x ys h all.1)
  where
    go : (b : Bool) → Each P (inserted_by count x ys) → Each P (cond b (x ∷ y ∷ ys) (y ∷ inserted_by count x ys))
    go true more = (h, all)
    go false more = (all.0, more)

each_ranked : {X : Type 0} (P : X → Type 0) (count : X → ℕ) (xs : List X) → Each P xs → Each P (ranked_by count xs)
each_ranked P count [] all = tt
each_ranked P count (x ∷ xs) all = each_inserted P count x (ranked_by count xs) all.0 (each_ranked P count xs all.1)

sum_inserted : {X : Type 0} (f count : X → ℕ) (x : X) (xs : List X) → sum_by f (inserted_by count x xs) ≡ f x + sum_by f xs
sum_inserted f count x [] = sum_by-cons f x []
sum_inserted f count x (y ∷ ys) = go (nat_le (count y) (count x)) (sum_inserted f count x ys)
  where
    go : (b : Bool) → sum_by f (inserted_by count x ys) ≡ f x + sum_by f ys → sum_by f (cond b (x ∷ y ∷ ys) (y ∷ inserted_by count x ys)) ≡ f x + sum_by f (y ∷ ys)
    go true more = sum_by-cons f x (y ∷ ys)
    go false more = omega (arith, sum_by-cons f y (inserted_by count x ys), more, sum_by-cons f y ys)

sum_ranked : {X : Type 0} (f count : X → ℕ) (xs : List X) → sum_by f (ranked_by count xs) ≡ sum_by f xs
sum_ranked f count [] = refl
sum_ranked f count (x ∷ xs) = omega (arith, sum_inserted f count x (ranked_by count xs), sum_ranked f count xs, sum_by-cons f x xs)

inserted-map : {X Y : Type 0} (count : Y → ℕ) (f : X → Y) (x : X) (xs : List X) → inserted_by count (f x) (map f xs) ≡ map f (inserted_by (λ z. count (f z)) x xs)
inserted-map count f x [] = refl
inserted-map count f x (y ∷ ys) = go (nat_le (count (f y)) (count (f x))) (inserted-map count f x ys)
  where
    go : (b : Bool) → inserted_by count (f x) (map f ys) ≡ map f (inserted_by (λ z. count (f z)) x ys)
        → cond b (f x ∷ f y ∷ map f ys) (f y ∷ inserted_by count (f x) (map f ys)) ≡ map f (cond b (x ∷ y ∷ ys) (y ∷ inserted_by (λ z. count (f z)) x ys))
    go true more = refl
    go false more = ap (λ zs. f y ∷ zs) more

ranked-map : {X Y : Type 0} (count : Y → ℕ) (f : X → Y) (xs : List X) → ranked_by count (map f xs) ≡ map f (ranked_by (λ z. count (f z)) xs)
ranked-map count f [] = refl
ranked-map count f (x ∷ xs) = ap (inserted_by count (f x)) (ranked-map count f xs) ∙ inserted-map count f x (ranked_by (λ z. count (f z)) xs)

-- ---- the order of numbered counts
abbrev count_of : Numbered → ℕ
count_of x = x.0.0

abbrev Precedes : Numbered → Numbered → Type 0
Precedes x y = (count_of y ≤ count_of x) × (count_of x ≡ count_of y → x.1 ≤ y.1)

precedes_itself : (x : Numbered) → Precedes x x
precedes_itself x = (omega arith, λ e. omega arith)

precedes_far : (x y z : Numbered) → Precedes x y → Precedes y z → Precedes x z
precedes_far x y z h k = (
  omega (arith, h.0, k.0),
  λ e.
      let first : count_of x ≡ count_of y = omega (arith, h.0, k.0, e) in
      let second : count_of y ≡ count_of z = omega (arith, h.0, k.0, e) in
      omega (arith, h.1 first, k.1 second),
)

same_item : (x y : Numbered) → count_of x ≡ count_of y → x.1 ≡ y.1 → x ≡ y
same_item x y e f = ap₂ (λ (n id : ℕ). (record { 0 = n }, id)) e f

both_precede : (x y : Numbered) → Precedes x y → Precedes y x → x ≡ y
both_precede x y h k =
    let e : count_of x ≡ count_of y = omega (arith, h.0, k.0) in
    same_item x y e (omega (arith, h.1 e, k.1 (sym e)))

abbrev by_both : Numbered → Numbered → Ordering
by_both x y = ordering_then (nat_cmp (count_of y) (count_of x)) (nat_cmp x.1 y.1)

not_below : (x y : Numbered) → is_lt (by_both y x) ≡ false → Precedes x y
not_below x y h = go (nat_cmp (count_of x) (count_of y)) (ranked (count_of x) (count_of y) (nat_cmp (count_of x) (count_of y)) refl) h
  where
    ids : (o : Ordering) → MatchOrdering o (y.1 < x.1) (y.1 ≡ x.1) (x.1 < y.1) → is_lt o ≡ false → x.1 ≤ y.1
    ids Less m e = absurd (true≢false e)
    ids Equal m e = omega (arith, m)
    ids Greater m e = omega (arith, m)

    go : (o : Ordering) → MatchOrdering o (count_of x < count_of y) (count_of x ≡ count_of y) (count_of y < count_of x)
        → is_lt (ordering_then o (nat_cmp y.1 x.1)) ≡ false → Precedes x y
    go Less m e = absurd (true≢false e)
    go Equal m e = (omega (arith, m), λ _. ids (nat_cmp y.1 x.1) (ranked y.1 x.1 (nat_cmp y.1 x.1) refl) e)
    go Greater m e = (omega (arith, m), λ same. absurd (omega (arith, m, same)))

abbrev Rises : List Numbered → Type 0
Rises [] = ⊤
Rises (x ∷ xs) = Each (Precedes x) xs × Rises xs

each_weaker : {X : Type 0} (P Q : X → Type 0) → ((x : X) → P x → Q x) → (xs : List X) → Each P xs → Each Q xs
each_weaker P Q h [] all = tt
each_weaker P Q h (x ∷ xs) all = (h x all.0, each_weaker P Q h xs all.1)

rises_from_sorted : (xs : List Numbered) → IsSorted by_both xs → Rises xs
rises_from_sorted [] sorted = tt
rises_from_sorted (x ∷ xs) sorted =
    let tail : IsSorted by_both xs = λ k d p q. rw add-one (rw add-one at (sorted (suc k) d (omega arith) (omega arith))) in
    let rises = rises_from_sorted xs tail in
    (first xs sorted rises, rises)
  where
    first : (ys : List Numbered) → IsSorted by_both (x ∷ ys) → Rises ys → Each (Precedes x) ys
    first [] s r = tt
    first (y ∷ ys) s r =
        let here : Precedes x y = not_below x y (s 0 x (omega arith) (omega arith)) in
        (here, each_weaker (Precedes y) (Precedes x) (λ z. precedes_far x y z here) ys r.0)

-- ---- how often an item is in a list
abbrev is_same : Numbered → Numbered → Bool
is_same x y = (count_of x == count_of y) && (x.1 == y.1)

abbrev once : Numbered → Numbered → ℕ
once x y = if is_same x y then 1 else 0

abbrev often : Numbered → List Numbered → ℕ
often x xs = sum_by (once x) xs

is_same_itself : (x : Numbered) → is_same x x ≡ true
is_same_itself x = ap₂ (λ a b. a && b) (eq-eqb (count_of x) (count_of x) refl) (eq-eqb x.1 x.1 refl)

holds_of : (P : Numbered → Type 0) (x : Numbered) (ys : List Numbered) → Each P ys → 1 ≤ often x ys → P x
holds_of P x [] all h = absurd (omega (arith, h))
holds_of P x (y ∷ ys) all h = go (is_same x y) refl (holds_of P x ys all.1)
  where
    both : (a b : Bool) → a && b ≡ true → (a ≡ true) × (b ≡ true)
    both true b e = (refl, e)
    both false b e = absurd (true≢false (sym e))

    go : (b : Bool) → is_same x y ≡ b → (1 ≤ often x ys → P x) → P x
    go true e later =
        let parts = both _ _ e in
        let is : x ≡ y = same_item x y (eqb-true _ _ parts.0) (eqb-true _ _ parts.1) in
        subst P (sym is) all.0
    go false e later =
        let more : often x (y ∷ ys) ≡ cond false 1 0 + often x ys = sum_by-cons (once x) y ys ∙ ap (λ b. cond b 1 0 + often x ys) e in
        later (omega (arith, h, more))

here : (x : Numbered) (xs : List Numbered) → often x (x ∷ xs) ≡ 1 + often x xs
here x xs = sum_by-cons (once x) x xs ∙ ap (λ b. cond b 1 0 + often x xs) (is_same_itself x)

one_order : (xs ys : List Numbered) → Rises xs → Rises ys → ((x : Numbered) → often x xs ≡ often x ys) → xs ≡ ys
one_order [] [] r s same = refl
one_order [] (y ∷ ys) r s same = absurd (omega (arith, same y, here y ys))
one_order (x ∷ xs) [] r s same = absurd (omega (arith, same x, here x xs))
one_order (x ∷ xs) (y ∷ ys) r s same =
    let below : Precedes y x = holds_of (Precedes y) x (y ∷ ys) (precedes_itself y, s.0) (omega (arith, same x, here x xs)) in
    let above : Precedes x y = holds_of (Precedes x) y (x ∷ xs) (precedes_itself x, r.0) (omega (arith, same y, here y ys)) in
    let is : x ≡ y = both_precede x y above below in
    let rest : (z : Numbered) → often z xs ≡ often z ys = λ z.
    let one : once z x ≡ once z y = ap (once z) is in
    omega (arith, same z, sum_by-cons (once z) x xs, sum_by-cons (once z) y ys, one) in
    ap₂ (λ w ws. w ∷ ws) is (one_order xs ys r.1 s.1 rest)

-- ---- the numbers of all keys, in their order
abbrev pub entries : ℕ → List ℕ → List Numbered
entries id [] = []
entries id (n ∷ counts) = (record { 0 = n }, id) ∷ entries (id + 1) counts

entries_from : (id : ℕ) (counts : List ℕ) (first : ℕ) → first ≤ id → Each (λ (x : Numbered). first ≤ x.1) (entries id counts)
entries_from id [] first h = tt
entries_from id (n ∷ counts) first h = (h, entries_from (id + 1) counts first (omega (arith, h)))

rises_inserted : (x : Numbered) (xs : List Numbered) → Each (λ (y : Numbered). x.1 < y.1) xs → Rises xs → Rises (inserted_by count_of x xs)
rises_inserted x [] later r = (tt, tt)
rises_inserted x (y ∷ ys) later r = go (nat_le (count_of y) (count_of x)) refl (rises_inserted x ys later.1 r.1)
  where
    go : (b : Bool) → nat_le (count_of y) (count_of x) ≡ b → Rises (inserted_by count_of x ys) → Rises (cond b (x ∷ y ∷ ys) (y ∷ inserted_by count_of x ys))
    go true e more =
        let le : count_of y ≤ count_of x = leb-true _ _ e in
        let here : Precedes x y = (le, λ _. omega (arith, later.0)) in
        ((here, each_weaker (Precedes y) (Precedes x) (λ z. precedes_far x y z here) ys r.0), r)
    go false e more =
        let lt : count_of x < count_of y = leb-false _ _ e in
        let here : Precedes y x = (omega (arith, lt), λ same. absurd (omega (arith, lt, same))) in
        (each_inserted (Precedes y) count_of x ys here r.0, more)

rises_ranked : (id : ℕ) (counts : List ℕ) → Rises (ranked_by count_of (entries id counts))
rises_ranked id [] = tt
rises_ranked id (n ∷ counts) =
    rises_inserted (record { 0 = n }, id) (ranked_by count_of (entries (id + 1) counts))
    (each_ranked (λ (y : Numbered). id < y.1) count_of (entries (id + 1) counts)
    (each_weaker (λ (y : Numbered). id + 1 ≤ y.1) (λ (y : Numbered). id < y.1) (λ y h. omega (arith, h)) (entries (id + 1) counts) (entries_from (id + 1) counts (id + 1) (omega arith))))
    (rises_ranked (id + 1) counts)

named_entries : (keys : List Key) (id : ℕ) (counts : List ℕ) → length keys ≡ id + length counts → map (named keys) (entries id counts) ≡ zip (drop id keys) counts
named_entries keys id [] h = sym (zip-none (drop id keys))
  where
    zip-none : (ks : List Key) → zip {X = ℕ} ks [] ≡ []
    zip-none [] = refl
    zip-none (k ∷ ks) = refl
named_entries keys id (n ∷ counts) h =
    let more = named_entries keys (id + 1) counts (omega (arith, h)) in
    ap (λ rest. (key_at keys id, n) ∷ rest) (more ∙ ap (λ m. zip (drop m keys) counts) (add-one id)) ∙ ap (λ ks. zip ks (n ∷ counts)) (sym (drop-cons keys id [] (omega (arith, h))))

pub ranked_are : (counts : List ℕ) (listed sorted : List Numbered) → listed ≡ entries 0 counts → IsPermutation listed sorted → IsSorted by_both sorted → AreRanked counts sorted
ranked_are counts listed sorted is same up keys long =
    let often_same : (x : Numbered) → often x sorted ≡ often x (ranked_by count_of (entries 0 counts)) = λ x.
    sum_by-IsPermutation (once x) listed sorted same ∙ ap (sum_by (once x)) is ∙ sym (sum_ranked (once x) count_of (entries 0 counts)) in
    let order : sorted ≡ ranked_by count_of (entries 0 counts) = one_order sorted (ranked_by count_of (entries 0 counts)) (rises_from_sorted sorted up) (rises_ranked 0 counts) often_same in
    ap (map (named keys)) order ∙ sym (ranked-map (λ (p : Key × ℕ). p.1) (named keys) (entries 0 counts)) ∙ ap (ranked_by (λ (p : Key × ℕ). p.1)) (named_entries keys 0 counts (omega (arith, long)))

-- ---- the numbers so far, and those of the rest
pub entries_more : (counts : List ℕ) (made : List Numbered) (id : ℕ) → id < length counts → entries 0 counts ≡ made ++ entries id (drop id counts)
    → entries 0 counts ≡ (made ++ (record { 0 = get_or counts id 0 }, id) ∷ []) ++ entries (id + 1) (drop (id + 1) counts)
entries_more counts made id lt e =
    e ∙ ap (λ rest. made ++ entries id rest) (drop-cons counts id 0 lt ∙ ap (λ m. get_or counts id 0 ∷ drop m counts) (sym (add-one id)))
    ∙ sym (append_assoc made ((record { 0 = get_or counts id 0 }, id) ∷ []) (entries (id + 1) (drop (id + 1) counts)))

pub entries_all : (counts : List ℕ) (made : List Numbered) (id : ℕ) → length counts ≤ id → entries 0 counts ≡ made ++ entries id (drop id counts) → made ≡ entries 0 counts
entries_all counts made id h e = sym (e ∙ ap (λ rest. made ++ entries id rest) (drop_all id counts h) ∙ append-nil made)

entries_below : (id : ℕ) (counts : List ℕ) → Each (λ (x : Numbered). x.1 < id + length counts) (entries id counts)
entries_below id [] = tt
entries_below id (n ∷ counts) = (omega arith, each_weaker (λ (x : Numbered). x.1 < id + 1 + length counts) (λ (x : Numbered). x.1 < id + length (n ∷ counts)) (λ x h. omega (arith, h)) (entries (id + 1) counts) (entries_below (id + 1) counts))

pub numbers_below : (counts : List ℕ) (listed sorted : List Numbered) → listed ≡ entries 0 counts → IsPermutation listed sorted → All (λ (x : Numbered). x.1 < length counts) sorted
numbers_below counts listed sorted is same =
    All-permutation (λ (x : Numbered). x.1 < length counts) listed sorted same
    (rw is (All-from_recursion (λ (x : Numbered). x.1 < length counts) (entries 0 counts)
    (each_weaker (λ (x : Numbered). x.1 < 0 + length counts) (λ (x : Numbered). x.1 < length counts) (λ x h. omega (arith, h)) (entries 0 counts) (entries_below 0 counts))))

-- ---- the rows of the first of them
abbrev top_row : Key × ℕ → List ℕ
top_row counted = counted_row counted.0 counted.1

abbrev pub rows_to : List Key → List Numbered → ℕ → List ℕ
rows_to keys ranked i = flat_map top_row (take i (map (named keys) ranked))

pub rows_to_more : (text : List ℕ) (keys : List Key) (ranked : List Numbered) (i : ℕ) (d : Numbered) → i < length ranked
    → (text ++ rows_to keys ranked i) ++ counted_row (key_at keys (get_or ranked i d).1) (get_or ranked i d).0.0 ≡ text ++ rows_to keys ranked (i + 1)
rows_to_more text keys ranked i d lt =
    flat_map_more top_row text (take i (map (named keys) ranked)) (named keys (get_or ranked i d))
    ∙ ap (λ (xs : List (Key × ℕ)). text ++ flat_map top_row (xs ++ named keys (get_or ranked i d) ∷ [])) (take-map (named keys) i ranked)
    ∙ ap (λ (xs : List (Key × ℕ)). text ++ flat_map top_row xs) (sym (map_more (named keys) ranked i d lt) ∙ sym (take-map (named keys) (i + 1) ranked))

pub rows_to_top : (most : ℕ) (keys : List Key) (counts : List ℕ) (ranked : List Numbered) (i : ℕ) → AreRanked counts ranked → length keys ≡ length counts → i ≡ min most (length ranked)
    → rows_to keys ranked i ≡ top_rows most keys counts
unfolding top_rows
rows_to_top most keys counts ranked i are long is =
    let named_all = map (named keys) ranked in
    let last : i ≡ min most (length named_all) = is ∙ ap (min most) (sym (length-map ranked (named keys))) in
    ap (λ n. flat_map top_row (take n named_all)) last ∙ ap (flat_map top_row) (take_min most named_all ∙ ap (take most) (are keys long))
