-- Tables and numbers collected shard by shard.
use Rattle.std.proofs.Common.{◌≡◌, ◌∙◌, ◌+◌, ℕ, List, [], ◌∷◌, ◌++◌, length, map, get_or, sym, ap, refl, arith, inl, inr, length-append}
use Rattle.std.proofs.lemmas.Bool.{cases_lt}
use Rattle.std.proofs.lemmas.List.{get_or_append_left}
use Rattle.std.proofs.Math.Seq.{get_or-append_seam}
use Rattle.key_index.specs.Keys.{Key, distinct, id_of}
use Rattle.key_index.specs.Private.Sharded.{AreLocalIds, AreTables, of_shard}

pub tables-none : (shard : Key → ℕ) (keys : List Key) → AreTables shard 0 keys []
tables-none shard keys = record { each = refl; are = λ s lt. absurd (omega (arith, lt)) }

pub local_ids-none : (shard : Key → ℕ) (keys : List Key) → AreLocalIds shard 0 keys []
local_ids-none shard keys = record { each = refl; are = λ s lt. absurd (omega (arith, lt)) }

pub tables-more : (shard : Key → ℕ) (keys : List Key) (tables : List (List Key)) (n : ℕ) (table : List Key) → AreTables shard n keys tables → table ≡ distinct (of_shard shard n keys) → AreTables shard (length (tables ++ table ∷ [])) keys (tables ++ table ∷ [])
tables-more shard keys tables n table h is =
    let long : length (tables ++ table ∷ []) ≡ length tables + 1 = length-append tables (table ∷ []) in
    record {
      each = refl;
      are = λ s lt. elim (cases_lt s (length tables)) [
        | inl old ↦ get_or_append_left tables (table ∷ []) [] s old ∙ h.are s (omega (arith, old, h.each))
        | inr new ↦
            let last : s ≡ length tables = omega (arith, long, lt, new) in
            ap (λ i. get_or (tables ++ table ∷ []) i []) last ∙ get_or-append_seam tables table [] [] ∙ is
            ∙ ap (λ i. distinct (of_shard shard i keys)) (sym h.each ∙ sym last)
      ];
    }

pub local_ids-more : (shard : Key → ℕ) (keys : List Key) (local_ids : List (List ℕ)) (n m : ℕ) (more : List ℕ) → m ≡ n + 1 → AreLocalIds shard n keys local_ids → more ≡ map (id_of (distinct (of_shard shard n keys))) (of_shard shard n keys)
    → AreLocalIds shard m keys (local_ids ++ more ∷ [])
local_ids-more shard keys local_ids n m more up h is =
    let long : length (local_ids ++ more ∷ []) ≡ length local_ids + 1 = length-append local_ids (more ∷ []) in
    record {
      each = omega (arith, long, h.each, up);
      are = λ s lt. elim (cases_lt s (length local_ids)) [
        | inl old ↦ get_or_append_left local_ids (more ∷ []) [] s old ∙ h.are s (omega (arith, old, h.each))
        | inr new ↦
            let last : s ≡ length local_ids = omega (arith, h.each, lt, up, new) in
            ap (λ i. get_or (local_ids ++ more ∷ []) i []) last ∙ get_or-append_seam local_ids more [] [] ∙ is
            ∙ ap (λ i. map (id_of (distinct (of_shard shard i keys))) (of_shard shard i keys)) (sym h.each ∙ sym last)
      ];
    }
