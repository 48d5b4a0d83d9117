-- Keys counted by their numbers.
use Rattle.std.proofs.Common.{◌≡◌, ◌∙◌, ◌+◌, ◌<◌, ℕ, suc, Bool, true, false, List, [], ◌∷◌, length, map, cond, get_or, sym, ap, refl, arith, inl, inr}
use Rattle.std.specs.Prelude.{◌==◌, count_by}
use Rattle.std.specs.Str.{bytes_eq}
use Rattle.std.proofs.lemmas.Bool.Decides.{eqb_tells}
use Rattle.std.proofs.lemmas.List.Sums.{sum_by-cons}
use Rattle.std.proofs.lemmas.Slice.Eq.{bytes_eq-Decides}
use Rattle.partition_log.specs.Keys.{IsWithoutRepeats, Key, is_interned, key_at, id_of, plain}
use Rattle.key_index.proofs.Growth.{among, fresh, interned}

not_so : (b : Bool) → (b ≡ true → ⊥) → b ≡ false
not_so true f = absurd (f refl)
not_so false f = refl

-- a number is that of a key if and only if it is the key's number
names : (keys : List Key) (x : Key) (id : ℕ) → IsWithoutRepeats keys → id < length keys → bytes_eq x (key_at keys id) ≡ (id_of keys x == id)
names keys x id without_repeats lt =
    elim (eqb_tells (id_of keys x) id) [
      | inl t ↦
          let stands : key_at keys id ≡ x = named_by (is_interned keys x) keys x id refl lt t.1 in
          (bytes_eq-Decides x (key_at keys id)).1 (sym stands) ∙ sym t.0
      | inr f ↦
          not_so (bytes_eq x (key_at keys id)) (λ e.
          let same : key_at keys id ≡ x = sym ((bytes_eq-Decides x (key_at keys id)).0 e) in
          let there = interned keys x (among keys x id lt same) in
          f.1 (without_repeats (id_of keys x) id there.0 lt (there.1 ∙ sym same)))
          ∙ sym f.0
    ]
  where
    named_by : (b : Bool) (keys : List Key) (x : Key) (id : ℕ) → is_interned keys x ≡ b → id < length keys → id_of keys x ≡ id → key_at keys id ≡ x
    named_by true keys x id e lt is = ap (key_at keys) (sym is) ∙ (interned keys x e).1
    named_by false keys x id e lt is = absurd (omega (arith, fresh keys x e, is, lt))

-- keys counted by their numbers
pub by_number : (keys : List Key) (ids : List ℕ) (x : Key) → IsWithoutRepeats keys → ((i : ℕ) → i < length ids → get_or ids i 0 < length keys) → plain (map (key_at keys) ids) x ≡ count_by (λ y. id_of keys x == y) ids
by_number keys [] x without_repeats below = refl
by_number keys (id ∷ ids) x without_repeats below =
    let first = names keys x id without_repeats (below 0 (omega arith)) in
    sum_by-cons (λ y. cond (bytes_eq x y) 1 0) (key_at keys id) (map (key_at keys) ids)
    ∙ ap (λ b. cond b 1 0 + plain (map (key_at keys) ids) x) first
    ∙ ap (λ n. cond (id_of keys x == id) 1 0 + n) (by_number keys ids x without_repeats (λ i lt. below (suc i) (omega (arith, lt))))
    ∙ sym (sum_by-cons (λ y. cond (id_of keys x == y) 1 0) id ids)

pub number-back : (keys : List Key) (id : ℕ) → IsWithoutRepeats keys → id < length keys → id_of keys (key_at keys id) ≡ id
number-back keys id without_repeats lt =
    let there = interned keys (key_at keys id) (among keys (key_at keys id) id lt refl) in
    without_repeats (id_of keys (key_at keys id)) id there.0 lt there.1
