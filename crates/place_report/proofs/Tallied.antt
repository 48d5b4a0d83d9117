-- Key numbers of a log, counted, and the keys that they stand for.
use Rattle.std.proofs.Common.{◌≡◌, ◌≢◌, ◌∙◌, ◌+◌, ◌-◌, ◌<◌, ◌≤◌, ℕ, zero, suc, Bool, true, false, List, [], ◌∷◌, ◌++◌, length, map, take, drop, drop-cons, add-one, cond, get_or, get_or-set_same, get_or-set_other, sym, ap, refl, subst, arith, inl, inr, length-append}
use Rattle.std.specs.Prelude.{◌==◌, ◌||◌, All, Option, Some, None, find, fold, max, option_map, slice_set, if◌then◌else◌, IfSome}
use Rattle.std.specs.Str.{bytes_eq}
use Rattle.std.proofs.Math.ListN.{length-set}
use Rattle.std.proofs.lemmas.Bool.{cases_Bool, cases_eq, eq-eqb, ne_eqb}
use Rattle.std.proofs.lemmas.Bool.Decides.{eqb_tells}
use Rattle.std.proofs.lemmas.List.{drop_all, map-append, take_more}
use Rattle.std.proofs.lemmas.List.Elements.{All-head, All-tail}
use Rattle.std.proofs.lemmas.List.Folds.{fold-map}
use Rattle.std.proofs.lemmas.List.Sums.{sum_by-cons, sum_by-drop_more}
use Rattle.std.proofs.lemmas.Slice.Eq.{bytes_eq-Decides}
use Rattle.key_index.specs.Keys.{IsWithoutRepeats, Key, distinct, is_interned, key_at, with_key}
use Rattle.key_index.proofs.Assigned.{more-interned, more-new}
use Rattle.key_index.proofs.Concatenated.{behind}
use Rattle.key_index.proofs.Firsts.{own, stays}
use Rattle.keyed_table.specs.Counts as table
use Rattle.keyed_table.proofs.Elements.{plain-next}
use Rattle.partition_log.specs.Keys.{plain}
use Rattle.partition_log.proofs.Numbered.{by_number, number-back}
use Rattle.place_report.specs.PlaceRows.{largest_of, most_of}
use Rattle.place_report.specs.Private.Tallies.{AreCountsOf, IsTallyOf}
use Rattle.place_report.specs.declared.tally.Tally.{Tally}

-- ---- counters
pub one_more : (ids counters : List ℕ) (i raised : ℕ) → i < length ids → get_or ids i 0 < length counters → raised ≡ get_or counters (get_or ids i 0) 0 + 1
    → AreCountsOf (take i ids) counters → AreCountsOf (take (i + 1) ids) (slice_set counters (get_or ids i 0) raised)
one_more ids counters i raised lt within is h x x_in =
    let id = get_or ids i 0 in
    let x_old : x < length counters = omega (arith, x_in, length-set counters id raised) in
    let next = plain-next ids i x lt in
    elim (cases_eq x id) [
      | inl same ↦
          let test : (x == id) ≡ true = eq-eqb x id same in
          let there : get_or (slice_set counters id raised) x 0 ≡ raised = ap (λ y. get_or (slice_set counters id raised) y 0) same ∙ get_or-set_same counters id raised 0 within in
          let before : get_or counters id 0 ≡ table.plain (take i ids) id = h id within in
          there ∙ is ∙ ap (λ n. n + 1) before ∙ ap (λ y. table.plain (take i ids) y + 1) (sym same) ∙ ap (λ b. table.plain (take i ids) x + cond b 1 0) (sym test) ∙ sym next
      | inr other ↦
          let test : (x == id) ≡ false = ne_eqb x id other in
          get_or-set_other counters id x raised 0 other ∙ h x x_old ∙ omega arith ∙ ap (λ b. table.plain (take i ids) x + cond b 1 0) (sym test) ∙ sym next
    ]

pub one_less : (ids counters : List ℕ) (i lowered : ℕ) → i < length ids → get_or ids i 0 < length counters → lowered ≡ get_or counters (get_or ids i 0) 0 - 1
    → AreCountsOf (drop i ids) counters → AreCountsOf (drop (i + 1) ids) (slice_set counters (get_or ids i 0) lowered)
one_less ids counters i lowered lt within is h x x_in =
    let id = get_or ids i 0 in
    let x_old : x < length counters = omega (arith, x_in, length-set counters id lowered) in
    let next = sum_by-drop_more (λ y. cond (x == y) 1 0) ids i 0 lt in
    let was : get_or counters x 0 ≡ cond (x == id) 1 0 + table.plain (drop (i + 1) ids) x = h x x_old ∙ next in
    elim (cases_eq x id) [
      | inl same ↦
          let test : (x == id) ≡ true = eq-eqb x id same in
          let one : get_or counters x 0 ≡ 1 + table.plain (drop (i + 1) ids) x = was ∙ ap (λ b. cond b 1 0 + table.plain (drop (i + 1) ids) x) test in
          let at_id : get_or counters id 0 ≡ get_or counters x 0 = ap (λ y. get_or counters y 0) (sym same) in
          let there : get_or (slice_set counters id lowered) x 0 ≡ lowered = ap (λ y. get_or (slice_set counters id lowered) y 0) same ∙ get_or-set_same counters id lowered 0 within in
          omega (arith, there, is, at_id, one)
      | inr other ↦
          let test : (x == id) ≡ false = ne_eqb x id other in
          let none : get_or counters x 0 ≡ 0 + table.plain (drop (i + 1) ids) x = was ∙ ap (λ b. cond b 1 0 + table.plain (drop (i + 1) ids) x) test in
          omega (arith, get_or-set_other counters id x lowered 0 other, none)
    ]

-- ---- different keys
not_yet : (old keys : List Key) (x : Key) → is_interned old x ≡ false → plain keys x ≡ 0 → is_interned (fold with_key old keys) x ≡ false
not_yet old [] x new none = new
not_yet old (k ∷ keys) x new none =
    let parts = sum_by-cons (λ y. cond (bytes_eq x y) 1 0) k keys in
    elim (cases_Bool (bytes_eq x k)) [
      | inl same ↦ let one : ◌≡◌ {A = ℕ} (cond (bytes_eq x k) 1 0) 1 = rw same refl in absurd (omega (arith, parts, none, one))
      | inr other ↦
          let zero_here : ◌≡◌ {A = ℕ} (cond (bytes_eq x k) 1 0) 0 = rw other refl in
          let rest : plain keys x ≡ 0 = omega (arith, parts, none, zero_here) in
          not_yet (with_key old k) keys x (kept (is_interned old k) other) rest
    ]
  where
    kept : (b : Bool) → bytes_eq x k ≡ false → is_interned (if b then old else old ++ k ∷ []) x ≡ false
    kept true other = new
    kept false other = (behind old (k ∷ []) x new).0 ∙ rw other refl

already : (old keys : List Key) (x : Key) → 0 < plain keys x → is_interned (fold with_key old keys) x ≡ true
already old [] x some = absurd (omega (arith, some))
already old (k ∷ keys) x some =
    let parts = sum_by-cons (λ y. cond (bytes_eq x y) 1 0) k keys in
    elim (cases_Bool (bytes_eq x k)) [
      | inl same ↦
          let is : x ≡ k = (bytes_eq-Decides x k).0 same in
          let there : is_interned (with_key old k) x ≡ true = rw is (own old k).0 in
          (stays (with_key old k) keys x there).0
      | inr other ↦
          let zero_here : ◌≡◌ {A = ℕ} (cond (bytes_eq x k) 1 0) 0 = rw other refl in
          already (with_key old k) keys x (omega (arith, parts, some, zero_here))
    ]

-- ---- keys by number
module _ (all : List Key) (without_repeats : IsWithoutRepeats all) where
  pub named : (ids : List ℕ) (id : ℕ) → All (λ n. n < length all) ids → id < length all → plain (map (key_at all) ids) (key_at all id) ≡ table.plain ids id
  named ids id below lt =
      by_number all ids (key_at all id) without_repeats (λ i i_in. below i 0 i_in) ∙ ap (λ n. table.plain ids n) (number-back all id without_repeats lt)

  next_keys : (ids : List ℕ) (i : ℕ) → i < length ids → map (key_at all) (take (i + 1) ids) ≡ map (key_at all) (take i ids) ++ key_at all (get_or ids i 0) ∷ []
  next_keys ids i lt = ap (map (key_at all)) (take_more ids i 0 lt) ∙ map-append (key_at all) (take i ids) (get_or ids i 0 ∷ [])

  pub new_key : (ids : List ℕ) (i : ℕ) → All (λ n. n < length all) (take i ids) → get_or ids i 0 < length all → i < length ids → table.plain (take i ids) (get_or ids i 0) ≡ 0
      → length (distinct (map (key_at all) (take (i + 1) ids))) ≡ length (distinct (map (key_at all) (take i ids))) + 1
  unfolding distinct
  new_key ids i below within lt none =
      let keys = map (key_at all) (take i ids) in
      let key = key_at all (get_or ids i 0) in
      let new = not_yet [] keys key refl (named (take i ids) (get_or ids i 0) below within ∙ none) in
      ap (λ ks. length (distinct ks)) (next_keys ids i lt) ∙ ap length (more-new keys key new) ∙ length-append (distinct keys) (key ∷ [])

  pub known_key : (ids : List ℕ) (i : ℕ) → All (λ n. n < length all) (take i ids) → get_or ids i 0 < length all → i < length ids → 0 < table.plain (take i ids) (get_or ids i 0)
      → length (distinct (map (key_at all) (take (i + 1) ids))) ≡ length (distinct (map (key_at all) (take i ids)))
  unfolding distinct
  known_key ids i below within lt some =
      let keys = map (key_at all) (take i ids) in
      let key = key_at all (get_or ids i 0) in
      let old = already [] keys key (omega (arith, some, named (take i ids) (get_or ids i 0) below within)) in
      ap (λ ks. length (distinct ks)) (next_keys ids i lt) ∙ ap length (more-interned keys key old)

  -- ---- the most frequent one
  most_named : (ids : List ℕ) → All (λ n. n < length all) ids → (xs : List ℕ) (most : ℕ) → All (λ n. n < length all) xs
      → fold (λ m id. max m (table.plain ids id)) most xs ≡ fold (λ m id. max m (plain (map (key_at all) ids) (key_at all id))) most xs
  most_named ids below [] most each = refl
  most_named ids below (x ∷ xs) most each =
      let same = named ids x below (All-head (λ n. n < length all) x xs each) in
      most_named ids below xs (max most (table.plain ids x)) (All-tail (λ n. n < length all) x xs each)
      ∙ ap (λ n. fold (λ m id. max m (plain (map (key_at all) ids) (key_at all id))) (max most n) xs) (sym same)

  pub most_is : (ids : List ℕ) → All (λ n. n < length all) ids → fold (λ m id. max m (table.plain ids id)) 0 ids ≡ most_of (map (key_at all) ids)
  most_is ids below =
      let keys = map (key_at all) ids in
      most_named ids below ids 0 below ∙ sym (fold-map (λ m key. max m (plain keys key)) (key_at all) 0 ids)

  found_named : (ids : List ℕ) (most : ℕ) → All (λ n. n < length all) ids → (xs : List ℕ) → All (λ n. n < length all) xs
      → option_map (key_at all) (find (λ id. table.plain ids id == most) xs) ≡ find (λ key. plain (map (key_at all) ids) key == most) (map (key_at all) xs)
  found_named ids most below [] each = refl
  found_named ids most below (x ∷ xs) each =
      let same = named ids x below (All-head (λ n. n < length all) x xs each) in
      let later = found_named ids most below xs (All-tail (λ n. n < length all) x xs each) in
      elim (cases_Bool (table.plain ids x == most)) [
        | inl hit ↦
            let key_yes : (plain (map (key_at all) ids) (key_at all x) == most) ≡ true = rw same hit in
            rw (hit, key_yes) refl
        | inr miss ↦
            let key_no : (plain (map (key_at all) ids) (key_at all x) == most) ≡ false = rw same miss in
            rw (miss, key_no) later
      ]

  pub largest_is : (ids : List ℕ) (most : ℕ) → All (λ n. n < length all) ids → most ≡ most_of (map (key_at all) ids)
      → option_map (key_at all) (find (λ id. table.plain ids id == most) ids) ≡ largest_of (map (key_at all) ids)
  largest_is ids most below is = found_named ids most below ids below ∙ ap (λ m. find (λ key. plain (map (key_at all) ids) key == m) (map (key_at all) ids)) is

found_below : (p : ℕ → Bool) (n : ℕ) (ids : List ℕ) → All (λ id. id < n) ids → IfSome (find p ids) (λ id. id < n)
found_below p n [] below = tt
found_below p n (x ∷ xs) below = go (p x) (found_below p n xs (All-tail (λ id. id < n) x xs below))
  where
    go : (b : Bool) → IfSome (find p xs) (λ id. id < n) → IfSome (cond b (Some x) (find p xs)) (λ id. id < n)
    go true later = All-head (λ id. id < n) x xs below
    go false later = later

pub tally_is : (all : List Key) (ids : List ℕ) (tally : Tally) → IsWithoutRepeats all → All (λ n. n < length all) ids → tally.keys ≡ length (distinct (map (key_at all) ids))
    → tally.most ≡ fold (λ m id. max m (table.plain ids id)) 0 ids → tally.largest ≡ find (λ id. table.plain ids id == tally.most) ids → IsTallyOf all (map (key_at all) ids) tally
tally_is all ids tally without_repeats below different most largest =
    let most_is_it = most ∙ most_is all without_repeats ids below in
    record {
      different = different;
      most = most_is_it;
      largest = ap (option_map (key_at all)) largest ∙ largest_is all without_repeats ids tally.most below most_is_it;
      numbered = subst (λ found. IfSome found (λ id. id < length all)) (sym largest) (found_below (λ id. table.plain ids id == tally.most) (length all) ids below);
    }

pub not_found : (p : ℕ → Bool) (ids : List ℕ) (i : ℕ) → length ids ≤ i → find p (drop i ids) ≡ None
not_found p ids i le = ap (find p) (drop_all i ids le)
