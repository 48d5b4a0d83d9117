-- Placed entries.
use Rattle.std.proofs.Common.{◌≡◌, ◌∙◌, ◌+◌, ◌<◌, ℕ, zero, suc, List, [], ◌∷◌, ◌++◌, Vec, Global, Bool, length, map, take, set, cond, get_or, add-one, sym, ap, subst, arith, refl, inl, inr, ◌≢◌, get_or-set_same, get_or-set_other}
use Rattle.std.specs.Prelude.{All, Contains, ◌==◌, filter, flat_map, vec_items}
use Rattle.std.specs.List.{range_with_len}
use Rattle.std.proofs.lemmas.Bool.{cases_Bool, cases_eq, cases_lt, eq-eqb, ne_eqb}
use Rattle.std.proofs.lemmas.List.{append-nil, get_or-map, get_or_past, length-map, length-set, map-append, take_more}
use Rattle.std.proofs.lemmas.List.Concat.{flat_map-append}
use Rattle.std.proofs.lemmas.List.Elements.{All-nil, All-push, All-same, Contains-append_left, Contains-push, filter-append}
use Rattle.key_counts.specs.Counts.{Entries}
use Rattle.key_counts.specs.Private.Filter.{cells_in, cells_of, part_of}
use Rattle.key_counts.specs.Private.Hashes.{AreBelow, ArePlacedTo, hash_at, placed_at, placed_in}
use Rattle.key_counts.specs.Private.Results.{list_of}
use Rattle.key_counts.specs.declared.filter.Place.{Place}
use Rattle.key_counts.specs.declared.filter.TheConstants.{PARTS}
use Rattle.key_counts.specs.declared.hashes.Placed.{Placed}

-- the list of a task, where it is read
pub list-read : {X : Type 0} (lists : List (Vec X Global)) (i : ℕ) (own : Vec X Global) → i < length lists → own ≡ get_or lists i own → own.items ≡ list_of lists i
list-read lists i own lt is = ap vec_items is ∙ sym (get_or-map vec_items lists i own [] lt)

-- the cells of one more worker's entries
pub cells-more : (workers : List (Vec (Vec Placed Global) Global)) (part w : ℕ) (own : Vec (Vec Placed Global) Global) → w < length workers → own ≡ get_or workers w own
    → cells_of (take (w + 1) workers) part ≡ cells_of (take w workers) part ++ cells_in (list_of own.items part)
cells-more workers part w own lt is =
    let f : List (Vec Placed Global) → List ℕ = λ lists. cells_in (list_of lists part) in
    ap (λ ws. cells_of ws part) (take_more workers w own lt) ∙ ap (flat_map f) (map-append vec_items (take w workers) (get_or workers w own ∷ []))
    ∙ flat_map-append f (map vec_items (take w workers)) ((get_or workers w own).items ∷ [])
    ∙ ap (λ cs. cells_of (take w workers) part ++ cs) (append-nil (f (get_or workers w own).items) ∙ ap (λ (v : Vec (Vec Placed Global) Global). f v.items) (sym is))

-- one more number
range-more : (a n : ℕ) → range_with_len a (suc n) ≡ range_with_len a n ++ (a + n) ∷ []
range-more a zero = let none : a + 0 ≡ a = omega arith in ap (λ k. k ∷ []) (sym none)
range-more a (suc n) = let up : a + 1 + n ≡ a + suc n = omega arith in ap (λ ks. a ∷ ks) (range-more (a + 1) n ∙ ap (λ k. range_with_len (a + 1) n ++ k ∷ []) up)

-- one more entry, in this part or in another
pub placed-more : (place : Place) (skip : ℕ) (entries : Entries) (code part : ℕ)
    → placed_in place skip entries (suc code) part
    ≡ placed_in place skip entries code part ++ cond (part_of (hash_at place.hasher skip entries code) == part) (placed_at place skip entries code ∷ []) []
unfolding placed_in
placed-more place skip entries code part =
    let f : ℕ → Placed = placed_at place skip entries in
    let p : ℕ → Bool = λ n. part_of (hash_at place.hasher skip entries n) == part in
    let own : ℕ → List ℕ = λ n. filter p (n ∷ []) in
    let one : map f (own code) ≡ cond (p code) (f code ∷ []) [] = elim (cases_Bool (p code)) [
      | inl e ↦ rw e refl
      | inr e ↦ rw e refl
    ] in
    let next : 0 + code ≡ code = omega arith in
    ap (λ ns. map f (filter p ns)) (range-more 0 code ∙ ap (λ n. range_with_len 0 code ++ n ∷ []) next) ∙ ap (map f) (filter-append p (range_with_len 0 code) (code ∷ []))
    ∙ map-append f (filter p (range_with_len 0 code)) (own code) ∙ ap (λ es. map f (filter p (range_with_len 0 code)) ++ es) one

pub placed-here : (place : Place) (skip : ℕ) (entries : Entries) (code part : ℕ) → part_of (hash_at place.hasher skip entries code) ≡ part
    → placed_in place skip entries (suc code) part ≡ placed_in place skip entries code part ++ placed_at place skip entries code ∷ []
placed-here place skip entries code part is =
    placed-more place skip entries code part ∙ ap (λ b. placed_in place skip entries code part ++ cond b (placed_at place skip entries code ∷ []) []) (eq-eqb (part_of (hash_at place.hasher skip entries code)) part is)

pub placed-elsewhere : (place : Place) (skip : ℕ) (entries : Entries) (code part : ℕ) → part_of (hash_at place.hasher skip entries code) ≢ part
    → placed_in place skip entries (suc code) part ≡ placed_in place skip entries code part
placed-elsewhere place skip entries code part ne =
    placed-more place skip entries code part ∙ ap (λ b. placed_in place skip entries code part ++ cond b (placed_at place skip entries code ∷ []) []) (ne_eqb (part_of (hash_at place.hasher skip entries code)) part ne)
    ∙ append-nil (placed_in place skip entries code part)

-- the lists with one more entry
pub placed-push : (place : Place) (skip : ℕ) (entries : Entries) (code part : ℕ) (lists : List (Vec Placed Global)) (own new : Vec Placed Global)
    → part ≡ part_of (hash_at place.hasher skip entries code) → own ≡ get_or lists part own → new.items ≡ own.items ++ placed_at place skip entries code ∷ []
    → ArePlacedTo place skip entries code lists → ArePlacedTo place skip entries (code + 1) (set lists part new)
placed-push place skip entries code part lists own new at is pushed so =
    let after = set lists part new in
    let in_lists : part < length lists = omega (arith, at, so.len) in
    record {
      len = length-set lists part new ∙ so.len;
      each = λ i lt.
          let here : i < length lists = omega (arith, lt, so.len) in
          let there : i < length after = omega (arith, here, length-set lists part new) in
          let was : (get_or lists i own).items ≡ placed_in place skip entries code i = sym (get_or-map vec_items lists i own [] here) ∙ so.each i lt in
          let read : list_of after i ≡ (get_or after i own).items = get_or-map vec_items after i own [] there in
          rw (add-one code) (elim (cases_eq part i) [
            | inl e ↦
                let same : get_or after i own ≡ new = subst (λ k. get_or after k own ≡ new) e (get_or-set_same lists part new own in_lists) in
                let old : own.items ≡ placed_in place skip entries code i = ap vec_items (is ∙ ap (λ k. get_or lists k own) e) ∙ was in
                read ∙ ap vec_items same ∙ pushed ∙ ap (λ es. es ++ placed_at place skip entries code ∷ []) old ∙ sym (placed-here place skip entries code i (sym at ∙ e))
            | inr ne ↦
                read ∙ ap vec_items (get_or-set_other lists part i new own (λ e. ne (sym e))) ∙ was ∙ sym (placed-elsewhere place skip entries code i (λ e. ne (at ∙ e)))
          ]);
    }

-- ---- the entries of a part
pub placed-all : (P : Placed → Type 0) (place : Place) (skip : ℕ) (entries : Entries) (count part : ℕ)
    → ((code : ℕ) → code < count → part_of (hash_at place.hasher skip entries code) ≡ part → P (placed_at place skip entries code)) → All P (placed_in place skip entries count part)
unfolding placed_in
placed-all P place skip entries zero part each = All-nil P
placed-all P place skip entries (suc n) part each =
    let rest = placed-all P place skip entries n part (λ code lt. each code (omega (arith, lt))) in
    let more = placed_in place skip entries (suc n) part in
    elim (cases_eq (part_of (hash_at place.hasher skip entries n)) part) [
      | inl e ↦ All-same P more _ (placed-here place skip entries n part e) (All-push P (placed_in place skip entries n part) (placed_at place skip entries n) rest (each n (omega arith) e))
      | inr ne ↦ All-same P more _ (placed-elsewhere place skip entries n part ne) rest
    ]

pub placed-has : (place : Place) (skip : ℕ) (entries : Entries) (count part code : ℕ) → code < count → part_of (hash_at place.hasher skip entries code) ≡ part
    → Contains (placed_in place skip entries count part) (placed_at place skip entries code)
placed-has place skip entries zero part code lt is = absurd (omega (arith, lt))
placed-has place skip entries (suc n) part code lt is =
    elim (cases_eq code n) [
      | inl e ↦
          subst (λ k. Contains (placed_in place skip entries (suc k) part) (placed_at place skip entries code)) e
          (subst (λ (es : List Placed). Contains es (placed_at place skip entries code)) (sym (placed-here place skip entries code part is))
          (Contains-push (placed_in place skip entries code part) (placed_at place skip entries code)))
      | inr ne ↦
          subst (λ (es : List Placed). Contains es (placed_at place skip entries code)) (sym (placed-more place skip entries n part))
          (Contains-append_left (placed_in place skip entries n part) _ (placed_at place skip entries code) (placed-has place skip entries n part code (omega (arith, lt, ne)) is))
    ]

-- the codes of all parts are below the number of entries
pub placed-below : (place : Place) (skip : ℕ) (entries : Entries) (count : ℕ) (lists : List (Vec Placed Global)) → ArePlacedTo place skip entries count lists → AreBelow count lists
placed-below place skip entries count lists so = λ part.
    elim (cases_lt part PARTS) [
      | inl lt ↦ All-same (λ (e : Placed). e.code < count) (list_of lists part) _ (so.each part lt) (placed-all (λ (e : Placed). e.code < count) place skip entries count part (λ code below is. below))
      | inr le ↦ All-same (λ (e : Placed). e.code < count) (list_of lists part) [] (get_or_past (map vec_items lists) part [] (omega (arith, le, so.len, length-map lists (vec_items {X = Placed} {Z = Global})))) (All-nil (λ (e : Placed). e.code < count))
    ]
