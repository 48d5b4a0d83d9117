-- The keys found so far, and the keys of the records that are left.
use Rattle.std.proofs.Common.{◌≡◌, ◌∙◌, ◌+◌, ℕ, Bool, false, ap₂, List, [], ◌∷◌, ◌++◌, Result, Ok, Err, length, ap, sym, refl, inl, inr, ◌≢◌}
use Rattle.std.proofs.lemmas.Bool.{eq-eqb}
use Rattle.std.proofs.lemmas.Bool.Decides.{eqb_tells}
use Rattle.std.specs.Prelude.{◌⊎◌}
use Rattle.lane_words.specs.declared.Refusal.{Refusal}
use Rattle.lane_words.specs.declared.Refusal.TheVariants as r
use Rattle.csv_ingest.specs.declared.lack.Lack.{Lack}
use Rattle.csv_ingest.specs.KeyFile.{Record, Taking, keys_from, keys_of_records, key_before, lack_at}
use Rattle.csv_ingest.specs.KeyFile.{after_keys}

pub after_keys-ok : (ks : List (List ℕ)) → after_keys ks (Ok []) ≡ Ok ks
after_keys-ok [] = refl
after_keys-ok (k ∷ ks) = ap (key_before k) (after_keys-ok ks)

pub after_keys-err : (ks : List (List ℕ)) (e : Refusal) → after_keys ks (Err e) ≡ Err e
after_keys-err [] e = refl
after_keys-err (k ∷ ks) e = ap (key_before k) (after_keys-err ks e)

pub after_keys-more : (ks : List (List ℕ)) (k : List ℕ) (rest : Result (List (List ℕ)) Refusal) → after_keys (ks ++ k ∷ []) rest ≡ after_keys ks (key_before k rest)
after_keys-more [] k rest = refl
after_keys-more (x ∷ ks) k rest = ap (key_before x) (after_keys-more ks k rest)

pub keys_from-key : (wanted : Taking) (width nth : ℕ) (fields : Record) (rest : List Record) (key : List ℕ) → length fields ≡ width → wanted fields ≡ Ok key
    → keys_from wanted width nth (fields ∷ rest) ≡ key_before key (keys_from wanted width (nth + 1) rest)
unfolding keys_from
keys_from-key wanted width nth fields rest key e h = rw (eq-eqb (length fields) width e, h) refl

pub keys_from-lacks : (wanted : Taking) (width nth : ℕ) (fields : Record) (rest : List Record) (lack : Lack) → length fields ≡ width → wanted fields ≡ Err lack
    → keys_from wanted width nth (fields ∷ rest) ≡ Err (lack_at nth lack)
unfolding keys_from
keys_from-lacks wanted width nth fields rest lack e h = rw (eq-eqb (length fields) width e, h) refl

pub keys_from-other : (wanted : Taking) (width nth : ℕ) (fields : Record) (rest : List Record) → length fields ≢ width
    → keys_from wanted width nth (fields ∷ rest) ≡ Err (r.BadCsv nth)
unfolding keys_from
keys_from-other wanted width nth fields rest e =
    elim (eqb_tells (length fields) width) [
      | inl t ↦ absurd (e t.1)
      | inr f ↦ rw (f.0) refl
    ]

pub keys_from-nil : (wanted : Taking) (width nth : ℕ) → keys_from wanted width nth [] ≡ Ok []
unfolding keys_from
keys_from-nil wanted width nth = refl

-- a fault at the first of the records that are left is the file's
pub fault_after : (keys : List (List ℕ)) (total : Result (List (List ℕ)) Refusal) (rows : List Record) (wanted : Taking) (width nth : ℕ) (fields : Record) (rest : List Record) (e : Refusal)
    → total ≡ after_keys keys (keys_from wanted width nth rows) → rows ≡ fields ∷ rest
    → ((e ≡ r.Memory) ⊎ ((rest : List Record) → keys_from wanted width nth (fields ∷ rest) ≡ Err e))
    → (e ≡ r.Memory) ⊎ (total ≡ Err e)
fault_after keys total rows wanted width nth fields rest e t w (inl h) = inl h
fault_after keys total rows wanted width nth fields rest e t w (inr h) = inr (rw (t, w, h rest) (after_keys-err keys e))

-- the key of the first of the records that are left
pub key_behind_keys : (keys : List (List ℕ)) (total : Result (List (List ℕ)) Refusal) (rows : List Record) (wanted : Taking) (width nth : ℕ) (fields : Record) (rest : List Record) (key : List ℕ)
    → total ≡ after_keys keys (keys_from wanted width nth rows) → rows ≡ fields ∷ rest → length fields ≡ width → wanted fields ≡ Ok key
    → total ≡ after_keys (keys ++ key ∷ []) (keys_from wanted width (nth + 1) rest)
key_behind_keys keys total rows wanted width nth fields rest key t w long is =
    t ∙ ap (λ rows. after_keys keys (keys_from wanted width nth rows)) w
    ∙ ap (after_keys keys) (keys_from-key wanted width nth fields rest key long is)
    ∙ sym (after_keys-more keys key (keys_from wanted width (nth + 1) rest))

-- the key of the first record of a file without a header, and what is found behind it
pub first_keys : (wanted : Taking) (header : Bool) (rows rest : List Record) (width : ℕ) (fields : Record) (key : List ℕ) (found : Result (List (List ℕ)) Refusal)
    → header ≡ false → rows ≡ fields ∷ rest → length fields ≡ width → wanted fields ≡ Ok key → keys_from wanted width 2 rest ≡ found
    → keys_of_records wanted header rows ≡ key_before key found
first_keys wanted header rows rest width fields key found none w long is behind =
    ap₂ (λ h rs. keys_of_records wanted h rs) none w
    ∙ ap (λ n. keys_from wanted n 1 (fields ∷ rest)) long
    ∙ keys_from-key wanted width 1 fields rest key long is
    ∙ ap (key_before key) behind

pub first_keys_fault : (wanted : Taking) (header : Bool) (rows rest : List Record) (width : ℕ) (fields : Record) (key : List ℕ) (e : Refusal)
    → header ≡ false → rows ≡ fields ∷ rest → length fields ≡ width → wanted fields ≡ Ok key
    → (e ≡ r.Memory) ⊎ (keys_from wanted width 2 rest ≡ Err e)
    → (e ≡ r.Memory) ⊎ (keys_of_records wanted header rows ≡ Err e)
first_keys_fault wanted header rows rest width fields key e none w long is (inl memory) = inl memory
first_keys_fault wanted header rows rest width fields key e none w long is (inr bad) = inr (first_keys wanted header rows rest width fields key (Err e) none w long is bad)
