-- Where a walk begins: at the one machine value that the context tells of its parameter. Assumes
-- `Logic`.
use Rattle.std.proofs.Common.{◌≡◌, List, [], ◌∷◌, ◌++◌, sym, ap, subst}
use seplogic.Ra.Ura.{Ura}
use mir.Val.{Val}
use base.Logic.{SProp, ent, id⊢}

pub begun : {M : Type 1} (𝓤 : Ura M) (Run : List Val → SProp 𝓤) (vs : List Val) (w : Val) → vs ≡ w ∷ [] → ent 𝓤 (Run (w ∷ [])) (Run (vs ++ []))
begun 𝓤 Run vs w e = subst (λ (us : List Val). ent 𝓤 (Run (w ∷ [])) (Run us)) (sym (ap (λ (us : List Val). us ++ []) e)) (id⊢ 𝓤 (Run (w ∷ [])))
