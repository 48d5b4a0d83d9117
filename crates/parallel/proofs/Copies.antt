-- Lists that are copied and compared.
use Rattle.std.proofs.Common.{◌≡◌, ◌∙◌, ◌<◌, ℕ, List, [], ◌∷◌, Vec, length, map, get_or, subst, sym, arith}
use Rattle.std.specs.Prelude.{All, vec_items}
use Rattle.std.specs.List.{range_with_len}
use Rattle.std.proofs.lemmas.List.{ext_get_or, get_or-map, length-map}
use Rattle.std.proofs.lemmas.List.FromFn.{get_or-range_with_len, length-range_with_len}

element : {X : Type 0} (xs : List X) (i : ℕ) → i < length xs → X
element [] i lt = absurd (omega arith)
element (x ∷ xs) i lt = x

-- copies that are the same one by one
pub copies-same : {A B : Type 0} (lists : List (Vec ℕ B)) (copies : List (Vec ℕ A)) → length copies ≡ length lists → ((i : ℕ) (d : Vec ℕ A) → i < length lists → (get_or copies i d).items ≡ get_or (map vec_items lists) i [])
    → map vec_items copies ≡ map vec_items lists
copies-same {A} {B} lists copies many each =
    ext_get_or [] (map vec_items copies) (map vec_items lists) (length-map copies vec_items ∙ many ∙ sym (length-map lists vec_items)) (λ i lt.
    let within : i < length copies = omega (arith, lt, length-map copies vec_items) in
    let d = element copies i within in
    get_or-map vec_items copies i d [] within ∙ each i d (omega (arith, within, many)))

-- lists that are the same by index
pub same-by-index : {X : Type 0} (none : X) (xs ys : List X) (n : ℕ) → length xs ≡ n → length ys ≡ n → All (λ i. get_or xs i none ≡ get_or ys i none) (range_with_len 0 n) → xs ≡ ys
same-by-index none xs ys n long long_y h =
    ext_get_or none xs ys (long ∙ sym long_y) (λ i lt.
    let within : i < n = omega (arith, lt, long) in
    let at : get_or (range_with_len 0 n) i 0 ≡ i = get_or-range_with_len 0 n i 0 within ∙ omega arith in
    subst (λ j. get_or xs j none ≡ get_or ys j none) at (h i 0 (omega (arith, within, length-range_with_len 0 n))))
