-- Lists that a loop consumes item by item.
use Rattle.std.proofs.Common.{◌≡◌, ◌∙◌, ◌+◌, ◌<◌, ◌≤◌, ℕ, zero, suc, List, [], ◌∷◌, length, drop, get_or, ap, refl, arith}

pub drop_next : {X : Type 0} (xs rest : List X) (n : ℕ) (x : X) → drop n xs ≡ x ∷ rest → (n < length xs) × (get_or xs n x ≡ x) × (rest ≡ drop (n + 1) xs)
drop_next [] rest zero x e = cc e
drop_next [] rest (suc n) x e = cc e
drop_next (y ∷ xs) rest zero x e = (omega arith, cc e, cc e)
drop_next (y ∷ xs) rest (suc n) x e =
    let more = drop_next xs rest n x e in
    let up : suc n + 1 ≡ suc (n + 1) = omega arith in
    (omega (arith, more.0), more.1, more.2 ∙ rw up refl)

pub drop_last : {X : Type 0} (xs : List X) (n : ℕ) → n ≤ length xs → length (drop n xs) ≡ 0 → n ≡ length xs
drop_last [] zero h e = refl
drop_last [] (suc n) h e = absurd (omega arith)
drop_last (y ∷ xs) zero h e = absurd (omega (arith, e))
drop_last (y ∷ xs) (suc n) h e = ap suc (drop_last xs n (omega arith) e)
