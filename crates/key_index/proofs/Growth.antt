-- The keys with one more, and their numbers.
use Rattle.std.proofs.Common.{◌≡◌, ◌∙◌, ◌+◌, ◌<◌, ◌≤◌, ℕ, zero, suc, Bool, true, false, List, [], ◌∷◌, ◌++◌, length, sym, ap, refl, cond, arith, inl, inr, length-append}
use Rattle.std.specs.Prelude.{if◌then◌else◌, ◌||◌, not}
use Rattle.std.specs.Str.{bytes_eq}
use Rattle.std.proofs.lemmas.Bool.{cases_lt}
use Rattle.std.proofs.lemmas.List.{get_or_append_left}
use Rattle.std.proofs.lemmas.Slice.Eq.{bytes_eq-Decides}
use Rattle.std.proofs.Math.Seq.{get_or-append_seam}
use Rattle.key_index.specs.Keys.{Key, IsWithoutRepeats, is_interned, key_at, id_of, with_key}

interned-at : (b : Bool) (x k : Key) (ks : List Key) → bytes_eq k x ≡ b
    → (is_interned ks k ≡ true → (id_of ks k < length ks) × (key_at ks (id_of ks k) ≡ k))
    → (b || is_interned ks k) ≡ true
    → (cond (not b) (1 + id_of ks k) 0 < suc (length ks)) × (key_at (x ∷ ks) (cond (not b) (1 + id_of ks k) 0) ≡ k)
interned-at true x k ks e ih h = (omega arith, sym ((bytes_eq-Decides k x).0 e))
interned-at false x k ks e ih h =
    let next : 1 + id_of ks k ≡ suc (id_of ks k) = omega arith in
    let there = ih h in
    rw next (omega (arith, there.0), there.1)

pub interned : (ks : List Key) (k : Key) → is_interned ks k ≡ true → (id_of ks k < length ks) × (key_at ks (id_of ks k) ≡ k)
interned [] k h = absurd (cc h)
interned (x ∷ ks) k h = interned-at (bytes_eq k x) x k ks refl (interned ks k) h

fresh-at : (b : Bool) (n m : ℕ) (rest : Bool) → (rest ≡ false → n ≡ m) → (b || rest) ≡ false → cond (not b) (1 + n) 0 ≡ suc m
fresh-at true n m rest ih h = absurd (cc h)
fresh-at false n m rest ih h = let same = ih h in omega (arith, same)

pub fresh : (ks : List Key) (k : Key) → is_interned ks k ≡ false → id_of ks k ≡ length ks
fresh [] k h = refl
fresh (x ∷ ks) k h = fresh-at (bytes_eq k x) (id_of ks k) (length ks) (is_interned ks k) (fresh ks k) h

or-right : (b rest : Bool) → rest ≡ true → (b || rest) ≡ true
or-right true rest h = refl
or-right false rest h = h

pub among : (ks : List Key) (k : Key) (n : ℕ) → n < length ks → key_at ks n ≡ k → is_interned ks k ≡ true
among [] k n lt e = absurd (omega arith)
among (x ∷ ks) k zero lt e = let same : bytes_eq k x ≡ true = (bytes_eq-Decides k x).1 (sym e) in rw same refl
among (x ∷ ks) k (suc n) lt e = or-right (bytes_eq k x) (is_interned ks k) (among ks k n (omega arith) e)

-- the keys with one more, whether it was interned or new
pub record Grows (ks ws : List Key) (k : Key) (n : ℕ) : Type 0 where
  pub longer : length ks ≤ length ws
  pub by_one : length ws ≤ length ks + 1
  pub numbered : n < length ws
  pub found : key_at ws n ≡ k
  pub stays : (i : ℕ) → i < length ks → key_at ws i ≡ key_at ks i
  pub new_only : (i : ℕ) → length ks ≤ i → i < length ws → i ≡ n
  pub same_count : is_interned ks k ≡ true → ws ≡ ks

grows-at : (b : Bool) (ks : List Key) (k : Key) → is_interned ks k ≡ b → Grows ks (if b then ks else ks ++ k ∷ []) k (id_of ks k)
grows-at true ks k e =
    let there = interned ks k e in record {
      longer = omega arith;
      by_one = omega arith;
      numbered = there.0;
      found = there.1;
      stays = λ i lt. refl;
      new_only = λ i le lt. absurd (omega (arith, le, lt));
      same_count = λ h. refl;
    }
grows-at false ks k e =
    let next = fresh ks k e in
    let one_more : length (ks ++ k ∷ []) ≡ length ks + 1 = length-append ks (k ∷ []) in
    record {
      longer = omega (arith, one_more);
      by_one = omega (arith, one_more);
      numbered = omega (arith, one_more, next);
      found = rw next (get_or-append_seam ks k [] []);
      stays = λ i lt. get_or_append_left ks (k ∷ []) [] i lt;
      new_only = λ i le lt. omega (arith, one_more, next, le, lt);
      same_count = λ h. absurd (cc (e, h));
    }

pub grows : (ks : List Key) (k : Key) → Grows ks (with_key ks k) k (id_of ks k)
grows ks k = grows-at (is_interned ks k) ks k refl

without_repeats-at : (b : Bool) (ks : List Key) (k : Key) → is_interned ks k ≡ b → IsWithoutRepeats ks → IsWithoutRepeats (if b then ks else ks ++ k ∷ [])
without_repeats-at true ks k e without_repeats = without_repeats
without_repeats-at false ks k e without_repeats = λ (m n : ℕ) (m_in : m < length (ks ++ k ∷ [])) (n_in : n < length (ks ++ k ∷ [])) (same : key_at (ks ++ k ∷ []) m ≡ key_at (ks ++ k ∷ []) n).
    let one_more : length (ks ++ k ∷ []) ≡ length ks + 1 = length-append ks (k ∷ []) in
    let last : key_at (ks ++ k ∷ []) (length ks) ≡ k = get_or-append_seam ks k [] [] in
    elim (cases_lt m (length ks)) [
      | inl m_old ↦ elim (cases_lt n (length ks)) [
        | inl n_old ↦ without_repeats m n m_old n_old (sym (get_or_append_left ks (k ∷ []) [] m m_old) ∙ same ∙ get_or_append_left ks (k ∷ []) [] n n_old)
        | inr n_new ↦
            let n_last : n ≡ length ks = omega (arith, one_more, n_in, n_new) in
            let stands : key_at ks m ≡ k = sym (get_or_append_left ks (k ∷ []) [] m m_old) ∙ same ∙ ap (key_at (ks ++ k ∷ [])) n_last ∙ last in
            absurd (let clash = among ks k m m_old stands in cc (clash, e))
      ]
      | inr m_new ↦
          let m_last : m ≡ length ks = omega (arith, one_more, m_in, m_new) in
          elim (cases_lt n (length ks)) [
            | inl n_old ↦
                let stands : key_at ks n ≡ k = sym (get_or_append_left ks (k ∷ []) [] n n_old) ∙ sym same ∙ ap (key_at (ks ++ k ∷ [])) m_last ∙ last in
                absurd (let clash = among ks k n n_old stands in cc (clash, e))
            | inr n_new ↦ omega (arith, one_more, m_in, n_in, m_new, n_new)
          ]
    ]

pub stays_without_repeats : (ks : List Key) (k : Key) → IsWithoutRepeats ks → IsWithoutRepeats (with_key ks k)
stays_without_repeats ks k without_repeats = without_repeats-at (is_interned ks k) ks k refl without_repeats
