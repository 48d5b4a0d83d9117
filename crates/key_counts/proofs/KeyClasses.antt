-- The classes of entries, from where these were placed.
use Rattle.std.proofs.Common.{◌≡◌, ◌∙◌, ◌+◌, ◌<◌, ◌≤◌, ℕ, false, List, Vec, Global, drop, length, take, set, get_or, sym, ap, refl, subst, arith, inl, inr, get_or-set_same, get_or-set_other}
use Rattle.std.specs.Prelude.{◌%◌, All}
use Rattle.std.proofs.lemmas.Bool.{cases_Bool, cases_eq}
use Rattle.std.proofs.lemmas.List.Elements.{All-more, All-weaker}
use Rattle.key_index.specs.Keys.{Key, key_at}
use Rattle.key_index.specs.Private.KeyHash.{hash_of}
use Rattle.key_counts.specs.Counts.{Entries}
use Rattle.key_counts.specs.Private.Filter.{cell_of, is_shared, part_of}
use Rattle.key_counts.specs.Private.Hashes.{ArePlaced, placed_in}
use Rattle.key_counts.specs.Private.Results.{AreMade, list_of}
use Rattle.key_counts.specs.Private.Twins.{AreClassesIn, AreClassesOf, AreWithin, AreWritten, HasClasses, class_at, class_of}
use Rattle.key_counts.specs.Segments.{entries_of}
use Rattle.key_counts.specs.declared.filter.Filter.{Filter}
use Rattle.key_counts.specs.declared.filter.Place.{Place}
use Rattle.key_counts.specs.declared.hashes.Placed.{Placed}
use Rattle.key_counts.specs.declared.twins.TheConstants.{CLASSES}
use Rattle.key_counts.specs.declared.twins.Twins.{Twins}
use Rattle.key_counts.proofs.Placed.{placed-all, placed-below}

-- ---- classes by a filter
class-read : (filter : Filter) (key : Key) (part : ℕ) → part_of (hash_of filter.place.hasher key) ≡ part
    → class_at (1 + part % CLASSES) (list_of filter.parts.items part) (cell_of filter.place (hash_of filter.place.hasher key)) ≡ class_of filter key
unfolding class_of
class-read filter key part is = subst (λ p. class_at (1 + p % CLASSES) (list_of filter.parts.items p) (cell_of filter.place (hash_of filter.place.hasher key)) ≡ class_of filter key) is refl

pub classes-read : (filter : Filter) (skip : ℕ) (entries : Entries) (count part : ℕ)
    → All (λ e. class_at (1 + part % CLASSES) (list_of filter.parts.items part) e.cell ≡ class_of filter (drop skip (key_at entries.keys e.code))) (placed_in filter.place skip entries count part)
classes-read filter skip entries count part =
    placed-all (λ e. class_at (1 + part % CLASSES) (list_of filter.parts.items part) e.cell ≡ class_of filter (drop skip (key_at entries.keys e.code))) filter.place skip entries count part
    (λ code lt is. class-read filter (drop skip (key_at entries.keys code)) part is)

pub class-bound : (filter : Filter) (key : Key) → class_of filter key ≤ CLASSES
unfolding class_of
class-bound filter key = elim (cases_Bool (is_shared filter (hash_of filter.place.hasher key))) [
  | inl e ↦ rw e (omega arith)
  | inr e ↦ rw e (omega arith)
]

pub none-alone : (filter : Filter) (key : Key) → class_of filter key ≡ 0 → is_shared filter (hash_of filter.place.hasher key) ≡ false
unfolding class_of
none-alone filter key none = elim (cases_Bool (is_shared filter (hash_of filter.place.hasher key))) [
  | inl e ↦ absurd (omega (arith, rw e at none))
  | inr e ↦ e
]

-- ---- one more class is written
stays-right : (right : ℕ → ℕ) (xs : List ℕ) (at v code : ℕ) → at < length xs → v ≡ right at → get_or xs code 0 ≡ right code → get_or (set xs at v) code 0 ≡ right code
stays-right right xs at v code lt is was = elim (cases_eq code at) [
  | inl e ↦ subst (λ k. get_or (set xs at v) k 0 ≡ right k) (sym e) (get_or-set_same xs at v 0 lt ∙ is)
  | inr ne ↦ get_or-set_other xs at code v 0 ne ∙ was
]

pub written-more : (right : ℕ → ℕ) (list : List Placed) (old now : List ℕ) (i v : ℕ) (none : Placed) → i < length list → (get_or list i none).code < length now → v ≡ right (get_or list i none).code
    → AreWritten right (take i list) old now → AreWritten right (take (i + 1) list) old (set now (get_or list i none).code v)
written-more right list old now i v none lt below is so =
    let at = (get_or list i none).code in
    let after = set now at v in
    record {
      same = λ code was. stays-right right now at v code below is (so.same code was);
      written = All-more (λ (e : Placed). get_or after e.code 0 ≡ right e.code) list i none lt
          (All-weaker (λ (e : Placed). get_or now e.code 0 ≡ right e.code) (λ (e : Placed). get_or after e.code 0 ≡ right e.code) (λ e was. stays-right right now at v e.code below is was) (take i list) so.written)
          (get_or-set_same now at v 0 below ∙ is);
    }

-- ---- the classes of workers
pub are-within : (place : Place) (skip : ℕ) (workers : List Entries) (placed : List (Vec (Vec Placed Global) Global)) → ArePlaced place skip workers placed → AreWithin workers placed
are-within place skip workers placed so = record {
  len = so.len;
  below = λ w lt. placed-below place skip (entries_of workers w) (length (entries_of workers w).keys) (list_of placed w) (so.each w lt);
}

pub has-classes : (twins : Twins) (filter : Filter) (place : Place) (skip : ℕ) (workers : List Entries) (placed : List (Vec (Vec Placed Global) Global))
    → twins.filter.value ≡ filter → filter.place ≡ place → ArePlaced place skip workers placed → AreMade (length workers) (AreClassesIn filter workers placed) twins.classes.items
    → HasClasses twins skip workers
has-classes twins filter place skip workers placed told at so classed = record {
  len = classed.len;
  each = λ w lt.
      let own : ArePlaced filter.place skip workers placed = subst (λ (p : Place). ArePlaced p skip workers placed) (sym at) so in
      subst (λ (f : Filter). AreClassesOf (class_of f) skip (entries_of workers w) (list_of twins.classes.items w)) (sym told) (classed.each w lt skip (entries_of workers w) refl (own.each w lt));
}

-- a class that is read in the list of a worker
pub class-at : (class : Key → ℕ) (skip : ℕ) (entries : Entries) (list read : List ℕ) (code : ℕ)
    → AreClassesOf class skip entries list → read ≡ list → code < length entries.keys
    → get_or read code 0 ≡ class (drop skip (key_at entries.keys code))
class-at class skip entries list read code classes same in_keys = ap (λ cs. get_or cs code 0) same ∙ classes.each code in_keys
