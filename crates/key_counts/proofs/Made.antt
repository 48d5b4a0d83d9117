-- Lists that tasks made.
use Rattle.std.proofs.Common.{◌≡◌, ◌<◌, ℕ, List, [], ◌∷◌, Vec, Global, length, get_or, sym, subst, arith}
use Rattle.std.specs.Prelude.{vec_items}
use Rattle.std.proofs.lemmas.List.{get_or-map}
use Rattle.key_counts.specs.Private.Results.{AreMade}

default : {X : Type 0} (xs : List X) (i : ℕ) → i < length xs → X
default [] i lt = absurd (omega arith)
default (x ∷ xs) i lt = x

-- the lists, from each of them
pub are-made : {X : Type 0} (count : ℕ) (Made : ℕ → List X → Type 0) (lists : List (Vec X Global)) → length lists ≡ count → ((i : ℕ) (d : Vec X Global) → i < count → Made i (get_or lists i d).items) → AreMade count Made lists
are-made {X} count Made lists len each = record {
  len = len;
  each = λ i lt.
      let within : i < length lists = omega (arith, lt, len) in
      let d = default lists i within in
      subst (Made i) (sym (get_or-map vec_items lists i d [] within)) (each i d lt);
}
