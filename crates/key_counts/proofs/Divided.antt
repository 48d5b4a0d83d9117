-- Merged keys, part by part.
use Rattle.std.proofs.Common.{◌≡◌, ◌∙◌, ◌+◌, ◌-◌, ◌<◌, ◌≤◌, ℕ, zero, suc, List, [], ◌∷◌, ◌++◌, length, map, take, drop, get_or, sym, ap, ap₂, arith, inl, inr, append_assoc, length-append}
use Rattle.std.specs.Prelude.{slice_range}
use Rattle.std.specs.List.{fold}
use Rattle.std.proofs.lemmas.Bool.{cases_Bool}
use Rattle.std.proofs.lemmas.List.{append-nil, drop-append-le, drop_all, get_or-map, length-map, map-append, take-append-drop, take-append-le, take-take, take_all}
use Rattle.std.proofs.lemmas.List.Concat.{flat_map-append}
use Rattle.std.proofs.lemmas.List.Sums.{fold-append}
use Rattle.key_index.proofs.Firsts.{length-first}
use Rattle.key_index.specs.Keys.{Key, distinct, is_interned, with_key}
use Rattle.key_counts.specs.Counts.{total}
use Rattle.key_counts.specs.Merging.{IsDivided}
use Rattle.key_counts.specs.Private.Prepared.{AreBounds, IsPrepared, all_counts, all_keys, entries_before, keys_before, totals_before, whole_of}
use Rattle.key_counts.specs.Segments.{is_key, keys_in, keys_of, merged_counts, totals_of}
use Rattle.key_counts.specs.declared.merging.Prepared.{Prepared}
use Rattle.key_counts.specs.declared.merging.Start.{Start}
use Rattle.key_counts.proofs.Walks.{new-keys, old-keys}

-- ---- a list between two that all begin with
slice-between : {X : Type 0} (before middle now rest all : List X) → before ++ middle ≡ now → all ≡ now ++ rest → middle ≡ slice_range all (length before) (length now)
slice-between before middle now rest all joined whole =
    let parted : all ≡ before ++ (middle ++ rest) = whole ∙ ap (λ xs. xs ++ rest) (sym joined) ∙ append_assoc before middle rest in
    let after : drop (length before) all ≡ middle ++ rest =
    ap (drop (length before)) parted ∙ drop-append-le (length before) before (middle ++ rest) (omega arith) ∙ ap (λ xs. xs ++ (middle ++ rest)) (drop_all (length before) before (omega arith)) in
    let len : length now - length before ≡ length middle = omega (arith, ap length joined, length-append before middle) in
    sym (
    ap₂ (λ n xs. take n xs) len after
    ∙ take-append-le (length middle) middle rest (omega arith) ∙ take_all (length middle) middle (omega arith)
    )

-- ---- the keys that a list begins with
fold-begins : (ks zs : List Key) → (rest : List Key) × (fold with_key ks zs ≡ ks ++ rest)
fold-begins ks [] = ([], sym (append-nil ks))
fold-begins ks (z ∷ zs) =
    elim (cases_Bool (is_interned ks z)) [
      | inl e ↦ let more = fold-begins ks zs in (more.0, ap (λ ws. fold with_key ws zs) (old-keys ks z e) ∙ more.1)
      | inr e ↦ let more = fold-begins (ks ++ z ∷ []) zs in (z ∷ more.0, ap (λ ws. fold with_key ws zs) (new-keys ks z e) ∙ more.1 ∙ append_assoc ks (z ∷ []) more.0)
    ]

distinct-begins : (all : List Key) (k : ℕ) → (rest : List Key) × (distinct all ≡ distinct (take k all) ++ rest)
unfolding distinct
distinct-begins all k =
    let more = fold-begins (distinct (take k all)) (drop k all) in
    (more.0, ap (fold with_key []) (sym (take-append-drop k all)) ∙ fold-append with_key [] (take k all) (drop k all) ∙ more.1)

distinct-rise : (all : List Key) (from to : ℕ) → from ≤ to → length (distinct (take from all)) ≤ length (distinct (take to all))
distinct-rise all from to le =
    let less = length-first (take from (take to all)) (drop from (take to all)) in
    let whole = ap (λ ks. length (distinct ks)) (take-append-drop from (take to all)) in
    let same = ap (λ ks. length (distinct ks)) (take-take from to all le) in
    omega (arith, less, whole, same)

-- ---- the keys of a part, and their counts
pub keys-between : (m : Prepared) (start end : Start) (keys : List Key) → keys_before m start ++ keys ≡ keys_before m end
    → keys ≡ slice_range (distinct (all_keys m)) (length (keys_before m start)) (length (keys_before m end))
keys-between m start end keys joined =
    let begins = distinct-begins (all_keys m) (entries_before m end.segment) in
    slice-between (keys_before m start) keys (keys_before m end) begins.0 (distinct (all_keys m)) joined begins.1

pub counts-between : (m : Prepared) (start end : Start) (counts : List ℕ) → totals_before m start ++ counts ≡ totals_before m end
    → counts ≡ slice_range (merged_counts m.skip (whole_of m) m.segments.items) (length (keys_before m start)) (length (keys_before m end))
counts-between m start end counts joined =
    let f : Key → ℕ = λ x. total (is_key x) (all_keys m) (all_counts m) in
    let begins = distinct-begins (all_keys m) (entries_before m end.segment) in
    let whole : map f (distinct (all_keys m)) ≡ totals_before m end ++ map f begins.0 = ap (map f) begins.1 ∙ map-append f (keys_before m end) begins.0 in
    slice-between (totals_before m start) counts (totals_before m end) (map f begins.0) (map f (distinct (all_keys m))) joined whole
    ∙ ap₂ (slice_range (map f (distinct (all_keys m)))) (length-map (keys_before m start) f) (length-map (keys_before m end) f)

pub as-many : (m : Prepared) (start end : Start) (keys : List Key) (counts : List ℕ) → keys_before m start ++ keys ≡ keys_before m end → totals_before m start ++ counts ≡ totals_before m end → length keys ≡ length counts
as-many m start end keys counts joined added =
    let f : Key → ℕ = λ x. total (is_key x) (all_keys m) (all_counts m) in
    omega (
      arith,
      ap length joined,
      ap length added,
      length-append (keys_before m start) keys,
      length-append (totals_before m start) counts,
      length-map (keys_before m start) f,
      length-map (keys_before m end) f,
    )

-- ---- where parts begin and end
before-none : (m : Prepared) (start : Start) → start.segment ≡ 0 → keys_before m start ≡ []
unfolding distinct
before-none m start is = ap (λ i. distinct (take (entries_before m i) (all_keys m))) is

before-all : (m : Prepared) (start : Start) → start.segment ≡ length m.segments.items → keys_before m start ≡ distinct (all_keys m)
before-all m start is =
    let keys = keys_of (whole_of m) m.segments.items in
    let count : entries_before m start.segment ≡ length keys = ap (λ ss. length (keys_of (whole_of m) ss)) (take_all start.segment m.segments.items (omega (arith, is))) in
    let long : length (all_keys m) ≤ entries_before m start.segment = omega (arith, count, length-map keys (drop m.skip)) in
    ap distinct (take_all (entries_before m start.segment) (all_keys m) long)

entries-rise : (m : Prepared) (i j : ℕ) → i ≤ j → entries_before m i ≤ entries_before m j
entries-rise m i j le =
    let workers = (whole_of m) in
    let later = take j m.segments.items in
    let parted : keys_of workers later ≡ keys_of workers (take i m.segments.items) ++ keys_of workers (drop i later) =
    ap (keys_of workers) (sym (take-append-drop i later)) ∙ flat_map-append (keys_in workers) (take i later) (drop i later) ∙ ap (λ ss. keys_of workers ss ++ keys_of workers (drop i later)) (take-take i j m.segments.items le) in
    omega (arith, ap length parted, length-append (keys_of workers (take i m.segments.items)) (keys_of workers (drop i later)))

abbrev pub ends_by : (Start → ℕ) → List Start → List ℕ
ends_by f bounds = drop 1 (map f bounds)

pub ends-len : (f : Start → ℕ) (bounds : List Start) → 0 < length bounds → length (ends_by f bounds) + 1 ≡ length bounds
ends-len f [] some = absurd (omega (arith, some))
ends-len f (b ∷ bounds) some = omega (arith, length-map bounds f)

end-at : (f : Start → ℕ) (bounds : List Start) (i : ℕ) (d : Start) → i + 1 < length bounds → get_or (ends_by f bounds) i 0 ≡ f (get_or bounds (i + 1) d)
end-at f [] i d lt = absurd (omega (arith, lt))
end-at f (b ∷ bounds) i d lt =
    let next : i + 1 ≡ suc i = omega arith in
    get_or-map f bounds i d 0 (omega (arith, lt)) ∙ ap (λ n. f (get_or (b ∷ bounds) n d)) (sym next)

start-at : (f : Start → ℕ) (bounds : List Start) (i : ℕ) (d : Start) → i < length bounds → f (get_or bounds 0 d) ≡ 0 → get_or (0 ∷ ends_by f bounds) i 0 ≡ f (get_or bounds i d)
start-at f [] i d lt first = absurd (omega (arith, lt))
start-at f (b ∷ bounds) zero d lt first = sym first
start-at f (b ∷ bounds) (suc i) d lt first = get_or-map f bounds i d 0 (omega (arith, lt))

abbrev pub len_before : Prepared → Start → ℕ
len_before m b = length (keys_before m b)

-- a part is what stands between two bounds
pub part-ends : (m : Prepared) (bounds : List Start) (i : ℕ) (start end : Start) → AreBounds m bounds → i < length (ends_by (len_before m) bounds) → start ≡ get_or bounds i start → end ≡ get_or bounds (i + 1) end
    → (get_or (0 ∷ ends_by (len_before m) bounds) i 0 ≡ len_before m start) × (get_or (ends_by (len_before m) bounds) i 0 ≡ len_before m end)
part-ends m bounds i start end so lt begins ends =
    let f = len_before m in
    let len = ends-len f bounds so.some in
    let first : f (get_or bounds 0 start) ≡ 0 = ap length (before-none m (get_or bounds 0 start) (so.starts.first start so.some)) in (
      start-at f bounds i start (omega (arith, lt, len)) first ∙ ap f (sym begins),
      end-at f bounds i end (omega (arith, lt, len)) ∙ ap f (sym ends),
    )

-- the parts are all keys
pub divided : (m : Prepared) (bounds : List Start) (left : ℕ) → IsPrepared m → AreBounds m bounds
    → IsDivided (record { keys = distinct (all_keys m); counts = merged_counts m.skip (whole_of m) m.segments.items; ends = ends_by (len_before m) bounds; left = left })
divided m bounds left so are =
    let f = len_before m in
    let d : Start = record { segment = 0; entries = 0 } in
    let ends = ends_by f bounds in
    let len = ends-len f bounds are.some in
    let first : f (get_or bounds 0 d) ≡ 0 = ap length (before-none m (get_or bounds 0 d) (are.starts.first d are.some)) in
    record {
      len = length-map (distinct (all_keys m)) (λ x. total (is_key x) (all_keys m) (all_counts m));
      rise = λ i lt.
          let up = are.starts.rise i d (omega (arith, lt, len)) in
          let rising = distinct-rise (all_keys m) (entries_before m (get_or bounds i d).segment) (entries_before m (get_or bounds (i + 1) d).segment)
          (entries-rise m (get_or bounds i d).segment (get_or bounds (i + 1) d).segment up) in
          omega (arith, start-at f bounds i d (omega (arith, lt, len)) first, end-at f bounds i d (omega (arith, lt, len)), rising);
      last = start-at f bounds (length ends) d (omega (arith, len)) first ∙ ap length (before-all m (get_or bounds (length ends) d) (are.last (length ends) d len));
    }

-- the first bound and the last have all keys between them
pub keys-whole : (m : Prepared) (start end : Start) (keys : List Key) → start.segment ≡ 0 → end.segment ≡ length m.segments.items → keys_before m start ++ keys ≡ keys_before m end → keys ≡ distinct (all_keys m)
keys-whole m start end keys first last joined = ap (λ ks. ks ++ keys) (sym (before-none m start first)) ∙ joined ∙ before-all m end last

pub counts-whole : (m : Prepared) (start end : Start) (counts : List ℕ) → start.segment ≡ 0 → end.segment ≡ length m.segments.items → totals_before m start ++ counts ≡ totals_before m end
    → counts ≡ merged_counts m.skip (whole_of m) m.segments.items
counts-whole m start end counts first last joined =
    ap (λ ks. totals_of ks (all_keys m) (all_counts m) ++ counts) (sym (before-none m start first)) ∙ joined ∙ ap (λ ks. totals_of ks (all_keys m) (all_counts m)) (before-all m end last)
