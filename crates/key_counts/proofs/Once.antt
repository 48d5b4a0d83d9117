-- Keys that are alone in their cells.
use Rattle.std.proofs.Common.{◌≡◌, ◌≢◌, ◌∙◌, ◌+◌, ◌-◌, ◌<◌, ◌≤◌, ℕ, zero, suc, Bool, false, List, [], ◌∷◌, Vec, Global, length, map, min, take, drop, cond, get_or, add-one, sym, ap, ap₂, subst, arith, refl, inl, inr, get_or-drop, length-drop}
use Rattle.std.specs.Prelude.{◌/◌, ◌%◌, ◌==◌, All, count_by, flat_map, sum_by, vec_items}
use Rattle.std.specs.Str.{bytes_eq}
use Rattle.std.proofs.lemmas.Bool.{both_ways, cases_Bool, cases_lt, eq-eqb}
use Rattle.std.proofs.lemmas.List.{get_or-map, get_or_default, get_or_past, length-map, map-append, take_all, take_more}
use Rattle.std.proofs.lemmas.List.Sums.{sum_by-append, sum_by-cons, sum_by_push}
use Rattle.std.proofs.lemmas.Slice.Eq.{bytes_eq-Decides}
use Rattle.key_index.specs.Keys.{Key, key_at}
use Rattle.key_index.specs.Private.KeyHash.{hash_of}
use Rattle.lane_words.specs.Sums.{sum_below}
use Rattle.key_counts.specs.Counts.{Entries, no_entries}
use Rattle.key_counts.specs.Partition.{AreAll, lens_of, sum_over}
use Rattle.key_counts.specs.Private.Filter.{AreMarked, AreMarkedIn, IsFilterOf, cell_of, cells_in, cells_of, mark_at, mark_in, part_of}
use Rattle.key_counts.specs.Private.Hashes.{ArePlaced, hash_at, placed_at, placed_in}
use Rattle.key_counts.specs.Private.Results.{list_of}
use Rattle.key_counts.specs.Private.Twins.{IsOnce, class_of}
use Rattle.key_counts.specs.Segments.{IsSegment, entries_of, keys_behind, keys_in, keys_of}
use Rattle.key_counts.specs.declared.filter.Filter.{Filter}
use Rattle.key_counts.specs.declared.filter.Place.{Place}
use Rattle.key_counts.specs.declared.filter.TheConstants.{ALL_SEVERAL}
use Rattle.key_counts.specs.declared.hashes.Placed.{Placed}
use Rattle.key_counts.specs.declared.merging.Segment.{Segment}
use Rattle.key_counts.proofs.Bytes.{all-several}
use Rattle.key_counts.proofs.KeyClasses.{none-alone}
use Rattle.key_counts.proofs.Placed.{placed-here, placed-more}

-- ---- sums
sum-taken : {X : Type 0} (g : X → ℕ) (xs : List X) (from n : ℕ) (d : X) → from + n ≤ length xs → sum_by g (take n (drop from xs)) ≡ sum_below n (λ c. g (get_or xs (from + c) d))
sum-taken g xs from zero d le = refl
sum-taken g xs from (suc n) d le =
    let rest = drop from xs in
    ap (λ k. sum_by g (take k rest)) (sym (add-one n)) ∙ ap (sum_by g) (take_more rest n d (omega (arith, length-drop from xs, le))) ∙ sum_by_push g (take n rest) (get_or rest n d)
    ∙ ap₂ (λ a b. a + b) (sum-taken g xs from n d (omega (arith, le))) (ap g (get_or-drop from xs n d))

sum-le : (n : ℕ) (f g : ℕ → ℕ) → ((c : ℕ) → c < n → f c ≤ g c) → sum_below n f ≤ sum_below n g
sum-le zero f g le = omega arith
sum-le (suc n) f g le = omega (arith, sum-le n f g (λ c lt. le c (omega (arith, lt))), le n (omega arith))

sum-map : {X Y : Type 0} (g : Y → ℕ) (f : X → Y) (xs : List X) → sum_by g (map f xs) ≡ sum_by (λ x. g (f x)) xs
sum-map g f [] = refl
sum-map g f (x ∷ xs) = sum_by-cons g (f x) (map f xs) ∙ ap (λ n. g (f x) + n) (sum-map g f xs) ∙ sym (sum_by-cons (λ y. g (f y)) x xs)

sum-flat : {X Y : Type 0} (g : Y → ℕ) (f : X → List Y) (xs : List X) → sum_by g (flat_map f xs) ≡ sum_by (λ x. sum_by g (f x)) xs
sum-flat g f [] = refl
sum-flat g f (x ∷ xs) = sum_by-append g (f x) (flat_map f xs) ∙ ap (λ n. sum_by g (f x) + n) (sum-flat g f xs) ∙ sym (sum_by-cons (λ y. sum_by g (f y)) x xs)

-- ---- keys, by worker and code
abbrev is-at : (Key → Bool) → ℕ → List Entries → ℕ → ℕ → ℕ
is-at p skip workers w c = cond (p (drop skip (key_at (entries_of workers w).keys c))) 1 0

by-segment : (p : Key → Bool) (skip : ℕ) (workers : List Entries) (segments : List Segment) → All (IsSegment workers) segments
    → count_by p (keys_behind skip workers segments) ≡ sum_by (sum_over (is-at p skip workers)) segments
by-segment p skip workers [] parts = refl
by-segment p skip workers (s ∷ segments) parts =
    let one : Key → ℕ = λ key. cond (p key) 1 0 in
    let so : IsSegment workers s = parts 0 s (omega arith) in
    let here = keys_in workers s in
    ap (count_by p) (map-append (drop skip) here (keys_of workers segments)) ∙ sum_by-append one (map (drop skip) here) (keys_behind skip workers segments)
    ∙ ap₂ (λ a b. a + b)
    (sum-map one (drop skip) here ∙ sum-taken (λ key. one (drop skip key)) (entries_of workers s.worker).keys s.from (s.to - s.from) [] (omega (arith, so.order, so.within)))
    (by-segment p skip workers segments (λ k d lt. parts (suc k) d (omega (arith, lt))))
    ∙ sym (sum_by-cons (sum_over (is-at p skip workers)) s segments)

-- ---- those of a key are in its cell
abbrev has-cell : Place → Key → ℕ → ℕ
has-cell place x cell = cond (cell == cell_of place (hash_of place.hasher x)) 1 0

in-cell : (place : Place) (skip : ℕ) (entries : Entries) (x : Key) (count : ℕ)
    → sum_below count (λ c. cond (bytes_eq x (drop skip (key_at entries.keys c))) 1 0)
    ≤ sum_by (has-cell place x) (cells_in (placed_in place skip entries count (part_of (hash_of place.hasher x))))
in-cell place skip entries x zero = omega arith
in-cell place skip entries x (suc n) =
    let g = has-cell place x in
    let part = part_of (hash_of place.hasher x) in
    let key = drop skip (key_at entries.keys n) in
    let before = placed_in place skip entries n part in
    let entry = placed_at place skip entries n in
    let cell : Placed → ℕ = λ e. e.cell in
    let rest = in-cell place skip entries x n in
    elim (cases_Bool (bytes_eq x key)) [
      | inl e ↦
          let hash : hash_of place.hasher key ≡ hash_of place.hasher x = ap (hash_of place.hasher) (sym ((bytes_eq-Decides x key).0 e)) in
          let all : sum_by g (cells_in (placed_in place skip entries (suc n) part)) ≡ sum_by g (cells_in before) + g entry.cell =
          ap (λ es. sum_by g (cells_in es)) (placed-here place skip entries n part (ap part_of hash)) ∙ ap (sum_by g) (map-append cell before (entry ∷ [])) ∙ sum_by_push g (cells_in before) entry.cell in
          let own : g entry.cell ≡ 1 = ap (λ b. cond b 1 0) (eq-eqb entry.cell (cell_of place (hash_of place.hasher x)) (ap (cell_of place) hash)) in
          rw e (omega (arith, rest, all, own))
      | inr e ↦
          let more = cond (part_of (hash_at place.hasher skip entries n) == part) (entry ∷ []) [] in
          let all : sum_by g (cells_in (placed_in place skip entries (suc n) part)) ≡ sum_by g (cells_in before) + sum_by g (cells_in more) =
          ap (λ es. sum_by g (cells_in es)) (placed-more place skip entries n part) ∙ ap (sum_by g) (map-append cell before more) ∙ sum_by-append g (cells_in before) (cells_in more) in
          rw e (omega (arith, rest, all))
    ]

in-cells : (place : Place) (skip : ℕ) (workers : List Entries) (segments : List Segment) (placed : List (Vec (Vec Placed Global) Global)) (x : Key)
    → All (IsSegment workers) segments → AreAll (lens_of workers) segments → ArePlaced place skip workers placed
    → count_by (bytes_eq x) (keys_behind skip workers segments) ≤ sum_by (has-cell place x) (cells_of placed (part_of (hash_of place.hasher x)))
in-cells place skip workers segments placed x parts all so =
    let g = has-cell place x in
    let part = part_of (hash_of place.hasher x) in
    let lists : List (List (Vec Placed Global)) = map vec_items placed in
    let f = is-at (bytes_eq x) skip workers in
    let here : ℕ → ℕ = λ w. sum_below (get_or (lens_of workers) w 0) (f w) in
    let there : ℕ → ℕ = λ w. sum_by g (cells_in (list_of (list_of placed (0 + w)) part)) in
    let len : length lists ≡ length workers = length-map placed (vec_items {X = Vec Placed Global} {Z = Global}) ∙ so.len in
    let lens : length (lens_of workers) ≡ length workers = length-map workers (λ (entries : Entries). length entries.keys) in
    let keys : count_by (bytes_eq x) (keys_behind skip workers segments) ≡ sum_below (length workers) here =
    by-segment (bytes_eq x) skip workers segments parts ∙ all f ∙ ap (λ n. sum_below n here) lens in
    let cells : sum_by g (cells_of placed part) ≡ sum_below (length workers) there =
    sum-flat g (λ ls. cells_in (list_of ls part)) lists ∙ ap (sum_by (λ ls. sum_by g (cells_in (list_of ls part)))) (sym (take_all (length lists) lists (omega arith)))
    ∙ sum-taken (λ ls. sum_by g (cells_in (list_of ls part))) lists 0 (length lists) [] (omega arith) ∙ ap (λ n. sum_below n there) len in
    let fewer = sum-le (length workers) here there (λ w lt.
    let entries = entries_of workers w in
    let count : get_or (lens_of workers) w 0 ≡ length entries.keys = get_or-map (λ (its : Entries). length its.keys) workers w (no_entries false) 0 lt in
    let same : 0 + w ≡ w = omega arith in
    let own : list_of (list_of placed (0 + w)) part ≡ placed_in place skip entries (length entries.keys) part =
    ap (λ k. list_of (list_of placed k) part) same ∙ (so.each w lt).each part (omega arith) in
    let less = in-cell place skip entries x (length entries.keys) in
    rw (count, own) less) in
    omega (arith, keys, cells, fewer)

-- a key of class 0 is alone
pub once : (filter : Filter) (place : Place) (skip : ℕ) (workers : List Entries) (segments : List Segment) (placed : List (Vec (Vec Placed Global) Global))
    → All (IsSegment workers) segments → AreAll (lens_of workers) segments → ArePlaced place skip workers placed → IsFilterOf place placed filter
    → IsOnce (class_of filter) (keys_behind skip workers segments)
unfolding AreMarkedIn
once filter place skip workers segments placed parts all so its = λ x none.
    let own = filter.place in
    let hash = hash_of own.hasher x in
    let part = part_of hash in
    let cell = cell_of own hash in
    let bytes = list_of filter.parts.items part in
    let placed_so : ArePlaced own skip workers placed = subst (λ (p : Place). ArePlaced p skip workers placed) (sym its.placed) so in
    let fewer = in-cells own skip workers segments placed x parts all placed_so in
    let not_two : mark_at bytes cell ≢ 2 = λ e. both_ways _ (none-alone filter x none) (eq-eqb (mark_at bytes cell) 2 e) in
    elim (cases_lt (cell / 4) (length bytes)) [
      | inl lt ↦
          let marked : AreMarked (cells_of placed part) bytes = its.marked.each part (omega arith) in
          let is : mark_at bytes cell ≡ min 2 (sum_by (has-cell own x) (cells_of placed part)) = ap (λ b. mark_in b cell) (get_or_default bytes (cell / 4) ALL_SEVERAL 0 lt) ∙ marked cell lt in
          one-at-most (mark_at bytes cell) _ _ is fewer not_two
      | inr le ↦ absurd (not_two (ap (λ b. mark_in b cell) (get_or_past bytes (cell / 4) ALL_SEVERAL le) ∙ all-several (cell % 4) (omega arith)))
    ]
  where
    one-at-most : (mark count fewer : ℕ) → mark ≡ min 2 count → fewer ≤ count → mark ≢ 2 → fewer ≤ 1
    one-at-most mark count fewer is le ne = omega (arith, is, le, ne)
