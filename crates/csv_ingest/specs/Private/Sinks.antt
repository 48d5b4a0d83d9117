-- Those who take the keys of records, record by record.
use Rattle.std.specs.Prelude.{◌≡◌, ◌++◌, ℕ, List, [], ◌∷◌, Vec, length, map, vec_items, Ok}
use Rattle.std.specs.Global.{Global}
use Rattle.std.proofs.Common.{◌∙◌, ap, sym, append-nil}
use Rattle.std.proofs.lemmas.List.{append_assoc}
use Rattle.csv_ingest.specs.KeyFile.{Record, Taking}

-- a sink took the key of a record of these fields, which is as long as the first
pub record TakesRecord {S : Type 0} (Takes : S → List (List ℕ) → S → Type 0) (wanted : Taking)
    (width : ℕ) (old new : S) (fields : Record) : Type 0 where
  pub key : List ℕ
  pub long : length fields ≡ width
  pub taken : wanted fields ≡ Ok key
  pub took : Takes old (key ∷ []) new

-- the laws of a list that takes keys
pub list-nothing : (s : Vec (Vec ℕ Global) Global) → map vec_items s.items ≡ map vec_items s.items ++ []
list-nothing s = sym (append-nil (map vec_items s.items))

pub list-more : (a b c : Vec (Vec ℕ Global) Global) (first second : List (List ℕ))
    → map vec_items b.items ≡ map vec_items a.items ++ first
    → map vec_items c.items ≡ map vec_items b.items ++ second
    → map vec_items c.items ≡ map vec_items a.items ++ (first ++ second)
list-more a b c first second x y =
    y ∙ ap (λ front. front ++ second) x ∙ append_assoc (map vec_items a.items) first second
