-- Counters that are raised by a list.
use Rattle.std.proofs.Common.{◌≡◌, ◌∙◌, ◌+◌, ◌-◌, ◌<◌, ℕ, zero, suc, List, [], ◌∷◌, length, get_or, take, sym, ap, refl, arith, inl, inr, get_or-take}
use Rattle.std.proofs.lemmas.Bool.{cases_lt}
use Rattle.std.proofs.lemmas.List.{get_or_past, length-take}
use Rattle.keyed_table.specs.Counts.{HaveCounters, SumsFit, plain, raised, raised_from}
use Rattle.keyed_table.specs.Private.Table.{IsValidTable, table_view}

pub counter-raised : (start : ℕ) (counts ids : List ℕ) (x : ℕ) → x < length counts → get_or (raised_from start counts ids) x 0 ≡ get_or counts x 0 + plain ids (start + x)
counter-raised start [] ids x lt = absurd (omega (arith, lt))
counter-raised start (n ∷ counts) ids zero lt = let e : start + 0 ≡ start = omega arith in rw e refl
counter-raised start (n ∷ counts) ids (suc x) lt =
    let e : (start + 1) + x ≡ start + suc x = omega arith in
    counter-raised (start + 1) counts ids x (omega (arith, lt)) ∙ ap (λ y. get_or counts x 0 + plain ids y) e

pub length-raised : (start : ℕ) (counts ids : List ℕ) → length (raised_from start counts ids) ≡ length counts
length-raised start [] ids = refl
length-raised start (n ∷ counts) ids = ap (λ m. suc m) (length-raised (start + 1) counts ids)

-- ---- the counters of a table, which are zero past the keys
pub cells-have : (keys : ℕ) (cells ids : List ℕ) → HaveCounters (take keys cells) ids → HaveCounters cells ids
cells-have keys cells ids have x more = omega (arith, have x more, length-take keys cells)

-- a counter of the table is the one of a key, or past the keys
cell-is : (keys : ℕ) (cells : List ℕ) (x : ℕ) → IsValidTable keys cells → get_or cells x 0 ≡ get_or (take keys cells) x 0
cell-is keys cells x valid = elim (cases_lt x keys) [
  | inl key ↦ sym (get_or-take keys cells x 0 key)
  | inr past ↦ valid.unused x past ∙ sym (get_or_past (take keys cells) x 0 (omega (arith, past, length-take keys cells)))
]

pub cells-fit : (keys : ℕ) (cells ids : List ℕ) → IsValidTable keys cells → SumsFit (take keys cells) ids → SumsFit cells ids
cells-fit keys cells ids valid fit x = rw (cell-is keys cells x valid) (fit x)

pub cells-stay-valid : (keys : ℕ) (cells ids : List ℕ) → IsValidTable keys cells → HaveCounters (take keys cells) ids → IsValidTable keys (raised cells ids)
unfolding raised
cells-stay-valid keys cells ids valid have =
    let size = length-raised 0 cells ids in
    record {
      within = rw size valid.within;
      unused = λ x past. elim (cases_lt x (length cells)) [
        | inl within ↦
            let is = counter-raised 0 cells ids x within in
            let zero_on : 0 + x ≡ x = omega arith in
            let none : plain ids (0 + x) ≡ 0 = ap (plain ids) zero_on ∙ elim (cases_lt 0 (plain ids x)) [
              | inl more ↦ absurd (omega (arith, have x more, past, length-take keys cells))
              | inr le ↦ omega (arith, le)
            ] in
            omega (arith, is, none, valid.unused x past)
        | inr beyond ↦ get_or_past (raised_from 0 cells ids) x 0 (omega (arith, beyond, size))
      ];
    }

take-raised : (start keys : ℕ) (cells ids : List ℕ) → take keys (raised_from start cells ids) ≡ raised_from start (take keys cells) ids
take-raised start zero cells ids = refl
take-raised start (suc keys) [] ids = refl
take-raised start (suc keys) (n ∷ cells) ids = ap (λ rest. (n + plain ids start) ∷ rest) (take-raised (start + 1) keys cells ids)

pub merged-view : (keys : ℕ) (cells now ids : List ℕ) → now ≡ raised cells ids → table_view keys now ≡ record { counts = raised (take keys cells) ids; capacity = length cells - keys }
unfolding raised
merged-view keys cells now ids is =
    let counts : take keys now ≡ raised_from 0 (take keys cells) ids = ap (take keys) is ∙ take-raised 0 keys cells ids in
    let capacity : length now ≡ length cells = ap length is ∙ length-raised 0 cells ids in
    rw (counts, capacity) refl
