-- Findings that are told one by one, as many as are wanted.
use Rattle.std.proofs.Common.{◌≡◌, ◌≤◌, ◌<◌, ◌+◌, ◌∙◌, ◌++◌, ℕ, List, [], ◌∷◌, Option, Some, None, length, length-append, take, get_or, sym, ap, refl, arith, append_assoc}
use Rattle.std.specs.Prelude.{flat_map}
use Rattle.std.specs.List.{cons_option}
use Rattle.std.specs.Option.{option_to_list}
use Rattle.std.proofs.lemmas.List.{append-nil, take_all, take_more}
use Rattle.std.proofs.lemmas.List.Concat.{flat_map-append}

take-front : {A : Type 0} (xs ys : List A) → take (length xs) (xs ++ ys) ≡ xs
take-front [] ys = refl
take-front (x ∷ xs) ys = ap (λ rest. x ∷ rest) (take-front xs ys)

-- all were told
pub told_all : {A : Type 0} (most : ℕ) (told left all : List A) → length told ≤ most → told ++ left ≡ all → left ≡ [] → told ≡ take most all
told_all most told left all few is none =
    let same : told ≡ all = sym (append-nil told) ∙ sym (ap (λ xs. told ++ xs) none) ∙ is in
    same ∙ sym (take_all most all (omega (arith, few, ap length same)))

-- as many as are wanted were told
pub told_enough : {A : Type 0} (most : ℕ) (told left all : List A) → length told ≤ most → most ≤ length told → told ++ left ≡ all → told ≡ take most all
told_enough most told left all few enough is =
    let long : length told ≡ most = omega (arith, few, enough) in
    sym (take-front told left) ∙ ap (λ n. take n (told ++ left)) long ∙ ap (take most) is

cons_option-is : {A : Type 0} (found : Option A) (left : List A) → cons_option found left ≡ option_to_list found ++ left
cons_option-is None left = refl
cons_option-is (Some x) left = refl

-- one more was told, or none
pub told_next : {A : Type 0} (told more left left2 all : List A) (found : Option A) → told ++ left ≡ all → left ≡ cons_option found left2 → more ≡ told ++ option_to_list found → more ++ left2 ≡ all
told_next told more left left2 all found is next grown =
    ap (λ xs. xs ++ left2) grown ∙ append_assoc told (option_to_list found) left2
    ∙ ap (λ xs. told ++ xs) (sym (cons_option-is found left2) ∙ sym next) ∙ is

one_at_most : {A : Type 0} (found : Option A) → length (option_to_list found) ≤ 1
one_at_most None = omega arith
one_at_most (Some x) = omega arith

pub told_few : {A : Type 0} (most : ℕ) (told more : List A) (found : Option A) → length told < most → more ≡ told ++ option_to_list found → length more ≤ most
told_few most told more found few grown = omega (arith, ap length grown, length-append told (option_to_list found), one_at_most found, few)

pub rows_more : {A : Type 0} (row : A → List ℕ) (xs : List A) (i : ℕ) (x : A) → i < length xs → flat_map row (take (i + 1) xs) ≡ flat_map row (take i xs) ++ row (get_or xs i x)
rows_more row xs i x lt =
    ap (flat_map row) (take_more xs i x lt) ∙ flat_map-append row (take i xs) (get_or xs i x ∷ [])
    ∙ ap (λ ys. flat_map row (take i xs) ++ ys) (append-nil (row (get_or xs i x)))

-- five texts, one after another
pub joined : (all a b c d e : List ℕ) → all ≡ a ++ (b ++ (c ++ (d ++ e))) → all ≡ (((a ++ b) ++ c) ++ d) ++ e
joined all a b c d e h = rw h (simp append_assoc)
