use Rattle.std.proofs.Common.{◌≡◌, List, [], ◌∷◌, length, refl, arith, map, get_or}
use Rattle.murmur_lanes.specs.Private.Words.{word_from}
use Rattle.murmur_lanes.proofs.words_at.Goals as goal

eight : {A B : Type 0} (f : A → B) (xs : List A) (d : A) → length xs ≡ 8 → map f xs ≡ f (get_or xs 0 d) ∷ f (get_or xs 1 d) ∷ f (get_or xs 2 d) ∷ f (get_or xs 3 d) ∷ f (get_or xs 4 d) ∷ f (get_or xs 5 d) ∷ f (get_or xs 6 d) ∷ f (get_or xs 7 d) ∷ []
eight f (a ∷ b ∷ c ∷ d ∷ e ∷ g ∷ h ∷ i ∷ []) x len = refl
eight f _ x len = absurd (omega arith)

pub returns-clause-words : goal.returns-clause-words
returns-clause-words c = cc (eight (λ key. word_from key.now c.args.at) c.args.keys.now (record { ref_ptr = (0, 0); now = [] }) c.told-keys)
