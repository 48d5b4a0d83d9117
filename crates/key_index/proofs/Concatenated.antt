-- Keys appended to others.
use Rattle.std.proofs.Common.{◌≡◌, ◌∙◌, ◌+◌, true, false, List, [], ◌∷◌, ◌++◌, length, sym, refl, arith, inl, inr, append_assoc}
use Rattle.std.specs.Str.{bytes_eq}
use Rattle.std.proofs.lemmas.Bool.{cases_Bool}
use Rattle.key_index.specs.Keys.{Key, is_interned, id_of, with_key}
use Rattle.key_index.proofs.Firsts.{interned-append}

pub behind : (ks zs : List Key) (x : Key) → is_interned ks x ≡ false → (is_interned (ks ++ zs) x ≡ is_interned zs x) × (id_of (ks ++ zs) x ≡ length ks + id_of zs x)
behind [] zs x h = (refl, omega arith)
behind (k ∷ ks) zs x h =
    elim (cases_Bool (bytes_eq x k)) [
      | inl e ↦ absurd (let clash : true ≡ false = rw e at h in cc clash)
      | inr e ↦
          let later : is_interned ks x ≡ false = rw e at h in
          let there = behind ks zs x later in
          rw e (there.0, omega (arith, there.1))
    ]

pub new-in-both : (ks zs : List Key) (x : Key) → is_interned (ks ++ zs) x ≡ false → (is_interned ks x ≡ false) × (is_interned zs x ≡ false)
new-in-both ks zs x h =
    elim (cases_Bool (is_interned ks x)) [
      | inl e ↦ absurd (let there = (interned-append ks zs x e).0 in cc (there, h))
      | inr e ↦ (e, sym (behind ks zs x e).0 ∙ h)
    ]

pub added-behind : (ks zs : List Key) (x : Key) → is_interned (ks ++ zs) x ≡ false → ks ++ with_key zs x ≡ with_key (ks ++ zs) x
added-behind ks zs x h =
    let last : is_interned zs x ≡ false = (new-in-both ks zs x h).1 in
    rw (h, last) (sym (append_assoc ks zs (x ∷ [])))

pub none-behind : (ks zs : List Key) → ks ++ zs ≡ [] → zs ≡ []
none-behind [] zs e = e
none-behind (k ∷ ks) zs e = absurd (cc e)
