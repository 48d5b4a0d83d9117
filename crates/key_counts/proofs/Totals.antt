-- The entries of segments, and their counts added up by key number.
use Rattle.std.proofs.Common.{◌≡◌, ◌≢◌, ◌∙◌, ◌+◌, ◌-◌, ◌*◌, ◌<◌, ◌≤◌, ℕ, suc, true, List, [], ◌∷◌, length, map, drop, cond, get_or, sym, ap, ap₂, refl, subst, arith, inl, inr, get_or-set_same, get_or-set_other}
use Rattle.std.specs.Prelude.{◌==◌, All, slice_range, slice_set}
use Rattle.std.specs.List.{fold}
use Rattle.std.specs.Str.{bytes_eq}
use Rattle.std.proofs.lemmas.Bool.{cases_eq, cases_Bool, eq-eqb, ne_eqb}
use Rattle.std.proofs.lemmas.Bool.Decides.{eqb_tells}
use Rattle.std.proofs.lemmas.List.{drop_all, drop_more, ext_get_or, get_or-map, get_or_default, length-drop, length-map, length-take-le}
use Rattle.std.proofs.lemmas.Slice.Eq.{bytes_eq-Decides}
use Rattle.key_index.proofs.Growth.{among, interned, stays_without_repeats}
use Rattle.key_index.specs.Keys.{IsWithoutRepeats, Key, distinct, id_of, is_interned, key_at, with_key}
use Rattle.key_counts.specs.Counts.{total}
use Rattle.key_counts.specs.Private.Totals.{AreTotals, added}
use Rattle.key_counts.specs.Segments.{is_key, totals_of}
use Rattle.key_counts.specs.Private.TakingLaws.{added-interned}

-- ---- counts added up by key number
added-one : (ids counts : List ℕ) (k id : ℕ) → k < length ids → length ids ≡ length counts
    → added (drop k ids) (drop k counts) id ≡ cond (get_or ids k 0 == id) (get_or counts k 0) 0 + added (drop (k + 1) ids) (drop (k + 1) counts) id
unfolding added
added-one ids counts k id lt long =
    let in_counts : k < length counts = omega (arith, lt, long) in
    ap₂ (λ is ns. added is ns id) (drop_more ids k 0 lt) (drop_more counts k 0 in_counts)

pub added-at : (totals ids counts : List ℕ) (k id : ℕ) → k < length ids → length ids ≡ length counts → get_or ids k 0 < length totals
    → get_or (slice_set totals (get_or ids k 0) (get_or totals (get_or ids k 0) 0 + get_or counts k 0)) id 0 + added (drop (k + 1) ids) (drop (k + 1) counts) id
    ≡ get_or totals id 0 + added (drop k ids) (drop k counts) id
added-at totals ids counts k id lt long below =
    let at = get_or ids k 0 in
    let n = get_or counts k 0 in
    let new = get_or totals at 0 + n in
    let here = added-one ids counts k id lt long in
    elim (cases_eq at id) [
      | inl e ↦
          let test : cond (at == id) n 0 ≡ n = rw (eq-eqb at id e) refl in
          let set : get_or (slice_set totals at new) id 0 ≡ get_or totals id 0 + n =
          subst (λ i. get_or (slice_set totals at new) i 0 ≡ get_or totals i 0 + n) e (get_or-set_same totals at new 0 below) in
          omega (arith, here, test, set)
      | inr ne ↦
          let test : cond (at == id) n 0 ≡ 0 = rw (ne_eqb at id ne) refl in
          let other : id ≢ at = λ e. ne (sym e) in
          let set : get_or (slice_set totals at new) id 0 ≡ get_or totals id 0 = get_or-set_other totals at id new 0 other in
          omega (arith, here, test, set)
    ]

pub added-fits : (ids counts : List ℕ) (k : ℕ) → k < length ids → length ids ≡ length counts
    → get_or counts k 0 ≤ added (drop k ids) (drop k counts) (get_or ids k 0)
added-fits ids counts k lt long =
    let at = get_or ids k 0 in
    let n = get_or counts k 0 in
    let here = added-one ids counts k at lt long in
    let test : cond (at == at) n 0 ≡ n = rw (eq-eqb at at refl) refl in
    omega (arith, here, test)

pub added-end : (ids counts : List ℕ) (k id : ℕ) → length ids ≤ k → added (drop k ids) counts id ≡ 0
unfolding added
added-end ids counts k id le = ap (λ is. added is counts id) (drop_all k ids le)

pub length-slice : {X : Type 0} (xs : List X) (from to : ℕ) → from ≤ to → to ≤ length xs → length (slice_range xs from to) ≡ to - from
length-slice xs from to ordered within = length-take-le (to - from) (drop from xs) (omega (arith, length-drop from xs, ordered, within))

-- ---- the key numbers of distinct keys
pub distinct-without_repeats : (ks zs : List Key) → IsWithoutRepeats ks → IsWithoutRepeats (fold with_key ks zs)
distinct-without_repeats ks [] without_repeats = without_repeats
distinct-without_repeats ks (z ∷ zs) without_repeats = distinct-without_repeats (with_key ks z) zs (stays_without_repeats ks z without_repeats)

pub without_repeats : (keys : List Key) → IsWithoutRepeats (distinct keys)
unfolding distinct
without_repeats keys = distinct-without_repeats [] keys (λ m n m_in n_in same. absurd (omega (arith, m_in)))

pub all-interned : (keys : List Key) → All (λ key. is_interned (distinct keys) key ≡ true) keys
unfolding distinct
all-interned keys = λ k d lt. added-interned [] keys (get_or keys k d) (among keys (get_or keys k d) k lt (get_or_default keys k [] d lt))

pub ids-below : (names keys : List Key) → All (λ key. is_interned names key ≡ true) keys → All (λ id. id < length names) (map (id_of names) keys)
ids-below names keys all = λ k d lt.
    let f = id_of names in
    let in_keys : k < length keys = omega (arith, lt, length-map keys f) in
    subst (λ id. id < length names) (sym (get_or-map f keys k [] d in_keys)) (interned names (get_or keys k []) (all k [] in_keys)).0

-- a key has a number if and only if it is the key at it
named : (names : List Key) (key : Key) (id n : ℕ) → IsWithoutRepeats names → is_interned names key ≡ true → id < length names
    → cond (id_of names key == id) n 0 ≡ n * cond (bytes_eq (key_at names id) key) 1 0
named names key id n without_repeats is lt =
    let there = interned names key is in
    elim (eqb_tells (id_of names key) id) [
      | inl t ↦
          let same : key_at names id ≡ key = ap (key_at names) (sym t.1) ∙ there.1 in
          let test : bytes_eq (key_at names id) key ≡ true = (bytes_eq-Decides (key_at names id) key).1 same in
          rw (t.0, test) (omega arith)
      | inr f ↦
          elim (cases_Bool (bytes_eq (key_at names id) key)) [
            | inl e ↦
                let same : key_at names id ≡ key = (bytes_eq-Decides (key_at names id) key).0 e in
                absurd (f.1 (without_repeats (id_of names key) id there.0 lt (there.1 ∙ sym same)))
            | inr e ↦ rw (f.0, e) (omega arith)
          ]
    ]

pub added-total : (names keys : List Key) (counts : List ℕ) (id : ℕ) → IsWithoutRepeats names → All (λ key. is_interned names key ≡ true) keys → id < length names
    → added (map (id_of names) keys) counts id ≡ total (is_key (key_at names id)) keys counts
unfolding added total
added-total names [] counts id without_repeats all lt = refl
added-total names (key ∷ keys) [] id without_repeats all lt = refl
added-total names (key ∷ keys) (n ∷ counts) id without_repeats all lt =
    let first = named names key id n without_repeats (all 0 [] (omega arith)) lt in
    let rest = added-total names keys counts id without_repeats (λ k d k_in. all (suc k) d (omega (arith, k_in))) lt in
    ap₂ (λ a b. a + b) first rest

-- ---- the same of the keys of all segments
pub numbers-below : (keys : List Key) (ids : List ℕ) (n : ℕ) → ids ≡ map (id_of (distinct keys)) keys → n ≡ length (distinct keys) → All (λ id. id < n) ids
numbers-below keys ids n are long = rw (are, long) (ids-below (distinct keys) keys (all-interned keys))

pub sums-below : (keys : List Key) (counts ids : List ℕ) (n b : ℕ) → ids ≡ map (id_of (distinct keys)) keys → n ≡ length (distinct keys)
    → ((x : Key) → total (is_key x) keys counts < b) → (id : ℕ) → id < n → added ids counts id < b
sums-below keys counts ids n b are long below = λ id lt.
    let in_names : id < length (distinct keys) = omega (arith, lt, long) in
    let same = ap (λ is. added is counts id) are ∙ added-total (distinct keys) keys counts id (without_repeats keys) (all-interned keys) in_names in
    omega (arith, same, below (key_at (distinct keys) id))

pub totals-are : (keys : List Key) (counts ids totals : List ℕ) (n : ℕ) → ids ≡ map (id_of (distinct keys)) keys → n ≡ length (distinct keys)
    → AreTotals n ids counts totals → totals ≡ totals_of (distinct keys) keys counts
totals-are keys counts ids totals n are long so =
    let names = distinct keys in
    let f : Key → ℕ = λ x. total (is_key x) keys counts in
    ext_get_or 0 totals (map f names) (so.len ∙ long ∙ sym (length-map names f))
    (λ id lt.
    let in_n : id < n = omega (arith, lt, so.len) in
    let in_names : id < length names = omega (arith, in_n, long) in
    so.each id in_n ∙ ap (λ is. added is counts id) are ∙ added-total names keys counts id (without_repeats keys) (all-interned keys) in_names ∙ sym (get_or-map f names id [] 0 in_names))
