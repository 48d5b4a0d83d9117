-- Counters that are raised number by number.
use Rattle.std.proofs.Common.{◌≡◌, ◌∙◌, ◌+◌, ◌<◌, ◌≤◌, ◌^◌, ℕ, zero, suc, List, [], ◌∷◌, length, take, cond, get_or, set, sym, ap, refl, arith, inl, inr, get_or-set_same, get_or-set_other}
use Rattle.std.specs.Prelude.{◌==◌}
use Rattle.std.proofs.lemmas.Bool.{cases_eq}
use Rattle.std.proofs.lemmas.List.{ext_get_or, length-set, take_all}
use Rattle.std.proofs.lemmas.List.Sums.{sum_by-cons}
use Rattle.keyed_table.specs.Counts.{HaveCounters, SumsFit, plain, raised, raised_from}
use Rattle.keyed_table.proofs.Elements.{plain-next-other, plain-next-own}
use Rattle.keyed_table.proofs.Raised.{counter-raised, length-raised}

plain-take-le : (ids : List ℕ) (n x : ℕ) → plain (take n ids) x ≤ plain ids x
plain-take-le ids zero x = omega arith
plain-take-le [] (suc n) x = omega arith
plain-take-le (id ∷ ids) (suc n) x =
    let f : ℕ → ℕ = λ y. cond (x == y) 1 0 in
    omega (arith, sum_by-cons f id ids, sum_by-cons f id (take n ids), plain-take-le ids n x)

-- the numbers before index at are counted
pub record AreCountedTo (old ids cells : List ℕ) (at : ℕ) : Type 0 where
  pub same : length cells ≡ length old
  pub counts : (x : ℕ) → get_or cells x 0 ≡ get_or old x 0 + plain (take at ids) x

pub counted-none : (old ids : List ℕ) → AreCountedTo old ids old 0
counted-none old ids = record {
  same = refl;
  counts = λ x. let none : plain (take 0 ids) x ≡ 0 = refl in omega (arith, none);
}

pub next-within : (old ids cells : List ℕ) (at : ℕ) → HaveCounters old ids → AreCountedTo old ids cells at → at < length ids → get_or ids at 0 < length cells
next-within old ids cells at have h lt =
    let id = get_or ids at 0 in
    let some : 0 < plain ids id = omega (arith, plain-next-own ids at lt, plain-take-le ids (at + 1) id) in
    omega (arith, have id some, h.same)

pub next-fits : (old ids cells : List ℕ) (at : ℕ) → SumsFit old ids → AreCountedTo old ids cells at → at < length ids → get_or cells (get_or ids at 0) 0 + 1 < 2 ^ 64
next-fits old ids cells at fit h lt =
    let id = get_or ids at 0 in
    omega (arith, h.counts id, plain-next-own ids at lt, plain-take-le ids (at + 1) id, fit id)

pub counted-more : (old ids cells : List ℕ) (at : ℕ) → HaveCounters old ids → AreCountedTo old ids cells at → at < length ids
    → AreCountedTo old ids (set cells (get_or ids at 0) (get_or cells (get_or ids at 0) 0 + 1)) (at + 1)
counted-more old ids cells at have h lt =
    let id = get_or ids at 0 in
    let next = get_or cells id 0 + 1 in
    record {
      same = length-set cells id next ∙ h.same;
      counts = λ x. elim (cases_eq x id) [
        | inl same ↦ rw same (get_or-set_same cells id next 0 (next-within old ids cells at have h lt) ∙ omega (arith, h.counts id, plain-next-own ids at lt))
        | inr differs ↦ get_or-set_other cells id x next 0 differs ∙ omega (arith, h.counts x, plain-next-other ids at lt x differs)
      ];
    }

pub counted-all : (old ids cells : List ℕ) (at : ℕ) → AreCountedTo old ids cells at → length ids ≤ at → cells ≡ raised old ids
unfolding raised
counted-all old ids cells at h le =
    ext_get_or 0 cells (raised_from 0 old ids) (h.same ∙ sym (length-raised 0 old ids))
    (λ x lt.
    let zero_on : 0 + x ≡ x = omega arith in
    let whole : plain (take at ids) x ≡ plain ids (0 + x) = ap (λ ys. plain ys x) (take_all at ids le) ∙ ap (plain ids) (sym zero_on) in
    omega (arith, h.counts x, whole, counter-raised 0 old ids x (omega (arith, lt, h.same))))
