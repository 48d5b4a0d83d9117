-- Rows of sets: by the list of their members, and by the look-up of one.
use Rattle.std.proofs.Common.{ℕ, suc, ◌≡◌, ◌+◌, ◌<◌, ◌≤◌, ◌==◌, Bool, true, false, ◌⊎◌, inl, inr, List, [], ◌∷◌, map, cond, refl, ap, sym, ◌∙◌, arith}
use Rattle.std.specs.Prelude.{Some}
use Rattle.std.proofs.lemmas.Bool.{false≢true, cases_lt}
use Rattle.bit_planes.specs.PartitionSet.{PartitionSet, partitions_of, is_in, one}
use Rattle.bit_planes.specs.SetRows.{SetRows, members, find_row, set_or_empty, set_of, sets_of, IsValidRows, AreOver}
use Rattle.bit_planes.proofs.Sets.{past, in_empty, partitions_empty}
use Rattle.sticky_assignor.specs.Balanced.{holders, AreBelow, AreDisjoint, IsBalanced}
use Rattle.group_machine.proofs.SlotsLemmas.{number_is}
use Rattle.group_machine.proofs.PresentLemmas.{RisesFrom, Listed}

pub map_same : (f g : ℕ → PartitionSet) (ms : List ℕ) → ((m : ℕ) → Listed m ms → f m ≡ g m) → map f ms ≡ map g ms
map_same f g [] same = refl
map_same f g (m ∷ ms) same = rw (same m (inl refl)) (ap (λ ss. g m ∷ ss) (map_same f g ms (λ n at. same n (inr at))))

holders_above : (f : ℕ → PartitionSet) (x : ℕ) (ms : List ℕ) (q : ℕ) → RisesFrom (suc x) ms → ((n : ℕ) → x < n → is_in (f n) q ≡ false) → holders (map f ms) q ≡ 0
holders_above f x [] q up none = refl
holders_above f x (n ∷ ms) q up none = let z : one (is_in (f n) q) ≡ 0 = ap one (none n (omega (arith, up.0))) in omega (arith, z, holders_above f n ms q up.1 (λ k lt. none k (omega (arith, up.0))))

pub disjoint_of : (f : ℕ → PartitionSet) (m : ℕ) (ms : List ℕ) → RisesFrom m ms → ((a b q : ℕ) → is_in (f a) q ≡ true → is_in (f b) q ≡ true → a ≡ b) → AreDisjoint (map f ms)
disjoint_of f m [] up alone q = omega arith
disjoint_of f m (x ∷ xs) up alone q = go (disjoint_of f (suc x) xs up.1 alone q) (is_in (f x) q) refl
  where
    other : is_in (f x) q ≡ true → (n : ℕ) → x < n → is_in (f n) q ≡ false
    other e n lt = not_so (is_in (f n) q) refl
      where
        not_so : (c : Bool) → is_in (f n) q ≡ c → is_in (f n) q ≡ false
        not_so true h = absurd (omega (arith, alone x n q e h))
        not_so false h = h

    go : holders (map f xs) q ≤ 1 → (b : Bool) → is_in (f x) q ≡ b → one (is_in (f x) q) + holders (map f xs) q ≤ 1
    go few true e = let z : one (is_in (f x) q) ≡ 1 = ap one e in omega (arith, z, holders_above f x xs q up.1 (other e))
    go few false e = let z : one (is_in (f x) q) ≡ 0 = ap one e in omega (arith, z, few)

one_held : (f : ℕ → PartitionSet) (ms : List ℕ) (m q : ℕ) → Listed m ms → is_in (f m) q ≡ true → 1 ≤ holders (map f ms) q
one_held f [] m q at e = absurd at
one_held f (x ∷ ms) m q (inl is) e = let z : one (is_in (f x) q) ≡ 1 = ap one (ap (λ n. is_in (f n) q) (sym is) ∙ e) in omega arith
one_held f (x ∷ ms) m q (inr at) e = omega (arith, one_held f ms m q at e)

two_held : (f : ℕ → PartitionSet) (ms : List ℕ) (m n q : ℕ) → Listed m ms → Listed n ms → is_in (f m) q ≡ true → is_in (f n) q ≡ true → holders (map f ms) q ≤ 1 → m ≡ n
two_held f [] m n q at bt e h few = absurd at
two_held f (x ∷ ms) m n q (inl is) (inl js) e h few = is ∙ sym js
two_held f (x ∷ ms) m n q (inl is) (inr bt) e h few =
    let k : is_in (f x) q ≡ true = ap (λ n. is_in (f n) q) (sym is) ∙ e in
    let two : one (is_in (f x) q) ≡ 1 = ap one k in
    absurd (omega (arith, two, one_held f ms n q bt h))
two_held f (x ∷ ms) m n q (inr at) (inl js) e h few =
    let k : is_in (f x) q ≡ true = ap (λ n. is_in (f n) q) (sym js) ∙ h in
    let two : one (is_in (f x) q) ≡ 1 = ap one k in
    absurd (omega (arith, two, one_held f ms m q at e))
two_held f (x ∷ ms) m n q (inr at) (inr bt) e h few = two_held f ms m n q at bt e h (omega arith)

pub disjoint_says : (f : ℕ → PartitionSet) (ms : List ℕ) → AreDisjoint (map f ms) → (m n q : ℕ) → Listed m ms → Listed n ms → is_in (f m) q ≡ true → is_in (f n) q ≡ true → m ≡ n
disjoint_says f ms disjoint m n q at bt e h = two_held f ms m n q at bt e h (disjoint q)

held_past : (p : ℕ) (rows : List PartitionSet) (q : ℕ) → AreBelow p rows → p ≤ q → holders rows q ≡ 0
held_past p [] q over le = refl
held_past p (row ∷ rows) q over le = let z : one (is_in row q) ≡ 0 = ap one (past row q (omega (arith, over.0))) in omega (arith, z, held_past p rows q over.1 le)

pub balanced_disjoint : (p : ℕ) (rows : List PartitionSet) → AreBelow p rows → IsBalanced p rows → AreDisjoint rows
balanced_disjoint p rows over balanced q = elim (cases_lt q p) [ inl lt ↦ omega (arith, balanced.once q lt) | inr le ↦ omega (arith, held_past p rows q over le) ]

found_listed : (p : ℕ) (rows : List (ℕ × PartitionSet)) (m q : ℕ) → is_in (set_or_empty p (find_row rows m)) q ≡ true → Listed m (map (λ row. row.0) rows)
found_listed p [] m q e = absurd (false≢true (sym (in_empty p q) ∙ e))
found_listed p (row ∷ rows) m q e = go (λ h. found_listed p rows m q h) (row.0 == m) refl e
  where
    go : (is_in (set_or_empty p (find_row rows m)) q ≡ true → Listed m (map (λ r. r.0) rows)) → (b : Bool) → (row.0 == m) ≡ b → is_in (set_or_empty p (cond b (Some row.1) (find_row rows m))) q ≡ true → (m ≡ row.0) ⊎ Listed m (map (λ r. r.0) rows)
    go later true is h = inl (sym (number_is row.0 m is))
    go later false is h = inr (later h)

pub member_listed : (r : SetRows) (m q : ℕ) → is_in (set_of r m) q ≡ true → Listed m (members r)
member_listed r m q e = found_listed r.partitions r.rows m q e

found_over : (p : ℕ) (rows : List (ℕ × PartitionSet)) (m : ℕ) → AreOver p rows → partitions_of (set_or_empty p (find_row rows m)) ≡ p
found_over p [] m over = partitions_empty p
found_over p (row ∷ rows) m over = go (row.0 == m) over.0 (found_over p rows m over.1)
  where
    go : (b : Bool) → partitions_of row.1 ≡ p → partitions_of (set_or_empty p (find_row rows m)) ≡ p → partitions_of (set_or_empty p (cond b (Some row.1) (find_row rows m))) ≡ p
    go true here later = here
    go false here later = later

pub set_over : (r : SetRows) (m : ℕ) → IsValidRows r → partitions_of (set_of r m) ≡ r.partitions
set_over r m valid = found_over r.partitions r.rows m valid.over

pub sets_below : (r : SetRows) (ms : List ℕ) → IsValidRows r → AreBelow r.partitions (sets_of r ms)
sets_below r [] valid = tt
sets_below r (m ∷ ms) valid = (set_over r m valid, sets_below r ms valid)
