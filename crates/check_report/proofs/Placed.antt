-- Records begin at their places.
use Rattle.std.proofs.Common.{◌≡◌, ◌+◌, ◌∙◌, ℕ, List, [], ◌∷◌, Option, Some, None, length, map, ap, refl, subst, arith}
use Rattle.std.specs.Prelude.{IfSome, slice_get, suc, zero, zip}
use Rattle.csv_ingest.specs.KeyFile.{Record}
use Rattle.csv_ingest.specs.Pieces.{file_records}
use Rattle.csv_ingest.specs.Starts.{BeginsAt, starts}
use Rattle.csv_ingest.proofs.Starts.{a_start_each, each_begins}
use Rattle.check_report.specs.Places.{IsPlaceOf, line_at, places, places_from}
use Rattle.check_report.specs.RecordFindings.{placed}
use Rattle.check_report.specs.declared.places.Place.{Place}

length-places : (file : List ℕ) (nth : ℕ) (starts : List ℕ) → length (places_from file nth starts) ≡ length starts
length-places file nth [] = refl
length-places file nth (byte ∷ starts) = ap suc (length-places file (nth + 1) starts)

zip-seconds : {A B : Type 0} (xs : List A) (ys : List B) → length xs ≡ length ys → map (λ (p : A × B). p.1) (zip xs ys) ≡ ys
zip-seconds [] [] e = refl
zip-seconds [] (y ∷ ys) e = absurd (omega (arith, e))
zip-seconds (x ∷ xs) [] e = absurd (omega (arith, e))
zip-seconds (x ∷ xs) (y ∷ ys) e = ap (λ (rest : List _). y ∷ rest) (zip-seconds xs ys (omega (arith, e)))

pub all_placed : (delimiter : ℕ) (file : List ℕ) → map (λ (at : Place × Record). at.1) (placed delimiter file) ≡ file_records delimiter file
all_placed delimiter file = zip-seconds (places delimiter file) (file_records delimiter file) (length-places file 1 (starts delimiter file) ∙ a_start_each delimiter file)

zip-at : {A B : Type 0} (xs : List A) (ys : List B) (i : ℕ) (p : A × B) → slice_get (zip xs ys) i ≡ Some p → slice_get xs i ≡ Some p.0
zip-at [] ys i p e = absurd (cc e)
zip-at (x ∷ xs) [] i p e = absurd (cc e)
zip-at {A} {B} (x ∷ xs) (y ∷ ys) zero p e =
    let same : ◌≡◌ {A = A × B} (x, y) p = cc e in
    ap (λ (q : A × B). Some q.0) same
zip-at (x ∷ xs) (y ∷ ys) (suc i) p e = zip-at xs ys i p e

-- a place among those of records that begin at these bytes
record IsAmong (file : List ℕ) (nth : ℕ) (starts : List ℕ) (i : ℕ) (place : Place) : Type 0 where
  number : place.nth ≡ nth + i
  line : place.line ≡ line_at file place.byte
  start : slice_get starts i ≡ Some place.byte

place-at : (file : List ℕ) (nth : ℕ) (starts : List ℕ) (i : ℕ) (place : Place) → slice_get (places_from file nth starts) i ≡ Some place → IsAmong file nth starts i place
place-at file nth [] i place e = absurd (cc e)
place-at file nth (byte ∷ starts) zero place e =
    let first : Place = record { nth = nth; line = line_at file byte; byte = byte } in
    let same : first ≡ place = cc e in
    subst (IsAmong file nth (byte ∷ starts) 0) same (record { number = omega arith; line = refl; start = refl })
place-at file nth (byte ∷ starts) (suc i) place e =
    let later = place-at file (nth + 1) starts i place e in
    record { number = let number = later.number in omega (arith, number); line = later.line; start = later.start }

at_place : (delimiter i : ℕ) (file : List ℕ) (at : Place × Record) → slice_get (placed delimiter file) i ≡ Some at → IsPlaceOf delimiter file i at.0
at_place delimiter i file at e =
    let w = place-at file 1 (starts delimiter file) i at.0 (zip-at (places delimiter file) (file_records delimiter file) i at e) in
    record {
      nth = let number = w.number in omega (arith, number);
      line = w.line;
      begins = subst (λ (found : Option ℕ). IfSome found (BeginsAt delimiter file i)) w.start (each_begins delimiter i file);
    }

pub each_at_its_place : (delimiter i : ℕ) (file : List ℕ) → IfSome (slice_get (placed delimiter file) i) (λ (at : Place × Record). IsPlaceOf delimiter file i at.0)
each_at_its_place delimiter i file = go (slice_get (placed delimiter file) i) (λ at. at_place delimiter i file at)
  where
    go : (found : Option (Place × Record)) → ((at : Place × Record) → found ≡ Some at → IsPlaceOf delimiter file i at.0) → IfSome found (λ (at : Place × Record). IsPlaceOf delimiter file i at.0)
    go None each = tt
    go (Some at) each = each at refl
