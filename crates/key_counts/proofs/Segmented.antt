-- After each step the new entries of the worker that took keys become a segment.
use Rattle.std.proofs.Common.{Bool, ◌≡◌, ◌∙◌, ◌+◌, ◌*◌, ◌<◌, ◌≤◌, ℕ, zero, suc, true, List, [], ◌∷◌, ◌++◌, drop, length, map, replicate, get_or, set, sym, ap, ap₂, refl, subst, arith, inl, inr, append-nil, length-append, length-set, get_or-set_other, get_or-set_same, false}
use Rattle.std.specs.Prelude.{◌==◌, All, count_by, if◌then◌else◌, sum_by}
use Rattle.std.specs.List.{fold}
use Rattle.std.specs.Str.{bytes_eq}
use Rattle.std.proofs.lemmas.Bool.{cases_Bool, cases_eq}
use Rattle.std.proofs.lemmas.List.{get_or-map, length-map, map-append, map-set}
use Rattle.std.proofs.lemmas.List.Elements.{All-cons, All-filter, All-nil, filter-append}
use Rattle.std.proofs.lemmas.List.Sums.{count_by-le-length, fold-append, sum_by-append, sum_by-cons}
use Rattle.key_index.proofs.Growth.{among, interned}
use Rattle.key_index.specs.Keys.{Key, distinct, id_of, is_interned, with_key}
use Rattle.key_counts.specs.Counts.{Entries, Takes, no_entries, total, total_of}
use Rattle.key_counts.specs.Partition.{AreAll, HasCounts, lens_of, sum_over}
use Rattle.key_counts.specs.Rounds.{AreKnown, AreSegmented, HaveTaken}
use Rattle.key_counts.specs.Segments.{IsSegment, counts_of, entries_of, is_key, keys_behind, keys_of, merged_counts, segments_of}
use Rattle.key_counts.specs.declared.merging.Segment.{Segment}
use Rattle.key_counts.proofs.Growing.{AreNew, GrowsAt, all-keys-stay, are-grown, keys-more, none-new, one-new, parts-more}
use Rattle.key_counts.proofs.Partition.{all-none, all-total, sum-more}
use Rattle.key_counts.proofs.Rounds.{step-taken}
use Rattle.key_counts.specs.Private.TakingLaws.{added-interned}

-- ---- a step
grows-at : (keys : List Key) (workers : List Entries) (w : ℕ) (new : Entries) (segments : List Segment) (lens : List ℕ) → w < length workers → (t : Takes (entries_of workers w) new keys)
    → AreSegmented workers segments lens → GrowsAt workers w new t.added (get_or lens w 0) (length new.keys)
grows-at keys workers w new segments lens lt t so = record {
  within = lt;
  grown = t.grown;
  start = ap (λ ns. get_or ns w 0) so.lens_are ∙ get_or-map (λ (it : Entries). length it.keys) workers w (no_entries false) 0 lt;
  end = refl;
}

step-by : (taken keys : List Key) (workers : List Entries) (w : ℕ) (new : Entries) (segments more : List Segment) (lens : List ℕ) → w < length workers → (t : Takes (entries_of workers w) new keys)
    → HaveTaken taken (keys_of workers segments) workers → AreSegmented workers segments lens → AreNew (set workers w new) w t.added (get_or lens w 0) (length new.keys) more
    → HaveTaken (taken ++ keys) (keys_of (set workers w new) (segments ++ more)) (set workers w new)
    × AreSegmented (set workers w new) (segments ++ more) (set lens w (length new.keys))
step-by taken keys workers w new segments more lens lt t have so fresh =
    let now = set workers w new in
    let from = get_or lens w 0 in
    let to = length new.keys in
    let len : Entries → ℕ = λ it. length it.keys in
    let at = grows-at keys workers w new segments lens lt t so in
    let grown = are-grown workers w new t.added from to at in
    let order = keys-more workers w new t.added from to segments more at fresh so.parts in (
      subst (λ ks. HaveTaken (taken ++ keys) ks now) (sym order) (step-taken taken (keys_of workers segments) keys workers w new lt t have),
      record {
        lens_are = ap (λ ns. set ns w to) so.lens_are ∙ sym (map-set len workers w new);
        parts = parts-more workers w new t.added from to segments more at fresh so.parts;
        all = λ f.
            let few : from ≤ to = omega (arith, at.start, ap length t.grown, length-append (entries_of workers w).keys t.added) in
            let long : w < length lens = omega (arith, lt, ap length so.lens_are, length-map workers len) in
            sum_by-append (sum_over f) segments more ∙ ap₂ (λ a b. a + b) (so.all f) (fresh.sums f) ∙ sym (sum-more f lens w to long few);
        own = λ v long.
            let before : v < length workers = omega (arith, long, length-set workers w new) in
            let mine = segments_of v segments in
            let parts = All-filter (λ (s : Segment). s.worker == v) (IsSegment workers) segments so.parts in
            ap (keys_of now) (filter-append (λ (s : Segment). s.worker == v) segments more)
            ∙ elim (cases_eq w v) [
              | inl e ↦
                  let its : segments_of v more ≡ more = subst (λ u. segments_of u more ≡ more) e fresh.own in
                  let new_keys : (entries_of now v).keys ≡ (entries_of workers v).keys ++ t.added =
                  subst (λ u. (entries_of now u).keys ≡ (entries_of workers u).keys ++ t.added) e (ap (λ (it : Entries). it.keys) (get_or-set_same workers w new (no_entries false) lt) ∙ t.grown) in
                  ap (λ ss. keys_of now (mine ++ ss)) its ∙ keys-more workers w new t.added from to mine more at fresh parts
                  ∙ ap (λ ks. ks ++ t.added) (so.own v before) ∙ sym new_keys
              | inr ne ↦
                  ap (λ ss. keys_of now (mine ++ ss)) (fresh.others v ne) ∙ ap (keys_of now) (append-nil mine) ∙ all-keys-stay workers now mine grown parts ∙ so.own v before
                  ∙ sym (ap (λ (it : Entries). it.keys) (get_or-set_other workers w v new (no_entries false) (λ is. ne (sym is))))
            ];
      },
    )

-- one worker takes keys: its new entries become a segment
pub step-segmented : (taken keys : List Key) (workers : List Entries) (w : ℕ) (new : Entries) (segments : List Segment) (lens : List ℕ)
    → w < length workers → Takes (entries_of workers w) new keys
    → HaveTaken taken (keys_of workers segments) workers → AreSegmented workers segments lens
    → HaveTaken (taken ++ keys) (keys_of (set workers w new) (segments ++ (record { worker = w; from = get_or lens w 0; to = length new.keys }) ∷ [])) (set workers w new)
    × AreSegmented (set workers w new) (segments ++ (record { worker = w; from = get_or lens w 0; to = length new.keys }) ∷ []) (set lens w (length new.keys))
step-segmented taken keys workers w new segments lens lt t have so =
    let s : Segment = record { worker = w; from = get_or lens w 0; to = length new.keys } in
    step-by taken keys workers w new segments (s ∷ []) lens lt t have so
    (one-new workers w new t.added (get_or lens w 0) (length new.keys) (grows-at keys workers w new segments lens lt t so))

-- it gets no new entry: there need be no segment
pub step-same : (taken keys : List Key) (workers : List Entries) (w : ℕ) (new : Entries) (segments : List Segment) (lens : List ℕ)
    → w < length workers → Takes (entries_of workers w) new keys
    → HaveTaken taken (keys_of workers segments) workers → AreSegmented workers segments lens → get_or lens w 0 ≡ length new.keys
    → HaveTaken (taken ++ keys) (keys_of (set workers w new) segments) (set workers w new)
    × AreSegmented (set workers w new) segments (set lens w (length new.keys))
step-same taken keys workers w new segments lens lt t have so same =
    let now = set workers w new in
    let P : List Segment → Type 0 = λ ss. HaveTaken (taken ++ keys) (keys_of now ss) now × AreSegmented now ss (set lens w (length new.keys)) in
    subst P (append-nil segments)
    (step-by taken keys workers w new segments [] lens lt t have so
    (none-new workers w new t.added (get_or lens w 0) (length new.keys) (grows-at keys workers w new segments lens lt t so) same))

-- ---- the start
pub start-segmented : (coded : Bool) (n : ℕ) → AreSegmented (replicate n (no_entries coded)) [] (replicate n 0)
start-segmented coded n = record {
  lens_are = lens n;
  parts = All-nil (IsSegment (replicate n (no_entries coded)));
  all = all-none (replicate n 0) (zeros n);
  own = λ w lt. sym (nothing n w);
}
  where
    nothing : (n w : ℕ) → (entries_of (replicate n (no_entries coded)) w).keys ≡ []
    nothing zero w = refl
    nothing (suc n) zero = refl
    nothing (suc n) (suc w) = nothing n w

    lens : (n : ℕ) → replicate n 0 ≡ lens_of (replicate n (no_entries coded))
    lens zero = refl
    lens (suc n) = ap (λ ns. 0 ∷ ns) (lens n)

    is_zero : ℕ → Type 0
    is_zero m = m ≡ 0

    zeros : (n : ℕ) → All is_zero (replicate n 0)
    zeros zero = All-nil is_zero
    zeros (suc n) = All-cons is_zero 0 (replicate n 0) refl (zeros n)

pub start-taken : (coded : Bool) (n : ℕ) → HaveTaken [] [] (replicate n (no_entries coded))
unfolding total
start-taken coded n = record {
  same_order = refl;
  known = known n;
  counted = λ f. sums f n;
}
  where
    known : (n : ℕ) → AreKnown (distinct []) (replicate n (no_entries coded))
    known zero = tt
    known (suc n) = (λ k d lt. absurd (omega (arith, lt)), known n)

    nothing : (f : Key → ℕ) → total f [] [] ≡ 0
    nothing f = refl

    sums : (f : Key → ℕ) (n : ℕ) → sum_by (total_of f) (replicate n (no_entries coded)) ≡ 0
    sums f zero = refl
    sums f (suc n) = let a = sum_by-cons (total_of f) (no_entries coded) (replicate n (no_entries coded)) in let b = nothing f in let c = sums f n in omega (arith, a, b, c)

-- ---- the end
pub total-taken : (f : Key → ℕ) (taken : List Key) (workers : List Entries) (segments : List Segment) (lens : List ℕ) → All HasCounts workers
    → HaveTaken taken (keys_of workers segments) workers → AreSegmented workers segments lens
    → total f (keys_of workers segments) (counts_of workers segments) ≡ sum_by f taken
total-taken f taken workers segments lens whole have so =
    let all : AreAll (lens_of workers) segments = subst (λ ns. AreAll ns segments) so.lens_are so.all in
    all-total f workers segments whole so.parts all ∙ have.counted f

map-same : (f g : Key → ℕ) (keys : List Key) → ((x : Key) → f x ≡ g x) → map f keys ≡ map g keys
map-same f g [] same = refl
map-same f g (key ∷ keys) same = ap₂ (λ (n : ℕ) ns. n ∷ ns) (same key) (map-same f g keys same)

-- ---- keys without their first bytes
total-map : (f : Key → ℕ) (g : Key → Key) (keys : List Key) (counts : List ℕ) → total f (map g keys) counts ≡ total (λ key. f (g key)) keys counts
unfolding total
total-map f g [] counts = refl
total-map f g (key ∷ keys) [] = refl
total-map f g (key ∷ keys) (n ∷ counts) = ap (λ m. n * f (g key) + m) (total-map f g keys counts)

sum_by-map : (f : Key → ℕ) (g : Key → Key) (keys : List Key) → sum_by f (map g keys) ≡ sum_by (λ key. f (g key)) keys
sum_by-map f g [] = refl
sum_by-map f g (key ∷ keys) =
    let a = sum_by-cons f (g key) (map g keys) in
    let b = sum_by-cons (λ k. f (g k)) key keys in
    let rest = sum_by-map f g keys in
    omega (arith, a, b, rest)

-- the first appearances of what is left of keys
abbrev firsts : (Key → Key) → List Key → List Key
firsts g keys = fold with_key [] (map g keys)

firsts-last : (g : Key → Key) (keys : List Key) (key : Key) → firsts g (keys ++ key ∷ []) ≡ with_key (firsts g keys) (g key)
firsts-last g keys key = ap (fold with_key []) (map-append g keys (key ∷ [])) ∙ fold-append with_key [] (map g keys) (g key ∷ [])

firsts-known : (g : Key → Key) (keys : List Key) (key : Key) → is_interned keys key ≡ true → is_interned (firsts g keys) (g key) ≡ true
firsts-known g keys key is =
    let there = interned keys key is in
    let id = id_of keys key in
    let in_map : id < length (map g keys) = omega (arith, there.0, length-map keys g) in
    let same : get_or (map g keys) id [] ≡ g key = get_or-map g keys id [] [] there.0 ∙ ap g there.1 in
    subst (λ k. is_interned (firsts g keys) k ≡ true) same (added-interned [] (map g keys) (get_or (map g keys) id []) (among (map g keys) (get_or (map g keys) id []) id in_map refl))

firsts-with : (g : Key → Key) (keys : List Key) (key : Key) → firsts g (with_key keys key) ≡ with_key (firsts g keys) (g key)
firsts-with g keys key =
    elim (cases_Bool (is_interned keys key)) [
      | inl e ↦
          let same : with_key keys key ≡ keys = ap (λ b. if b then keys else keys ++ key ∷ []) e in
          let known : with_key (firsts g keys) (g key) ≡ firsts g keys = ap (λ b. if b then firsts g keys else firsts g keys ++ g key ∷ []) (firsts-known g keys key e) in
          ap (firsts g) same ∙ sym known
      | inr e ↦
          let new : with_key keys key ≡ keys ++ key ∷ [] = ap (λ b. if b then keys else keys ++ key ∷ []) e in
          ap (firsts g) new ∙ firsts-last g keys key
    ]

firsts-more : (g : Key → Key) (known keys : List Key) → firsts g (fold with_key known keys) ≡ fold with_key (firsts g known) (map g keys)
firsts-more g known [] = refl
firsts-more g known (key ∷ keys) = firsts-more g (with_key known key) keys ∙ ap (λ ks. fold with_key ks (map g keys)) (firsts-with g known key)

-- the same first appearances of keys are the same of what is left of them
pub same-firsts : (g : Key → Key) (xs ys : List Key) → distinct xs ≡ distinct ys → distinct (map g xs) ≡ distinct (map g ys)
unfolding distinct
same-firsts g xs ys same = sym (firsts-more g [] xs) ∙ ap (firsts g) same ∙ firsts-more g [] ys

-- how often each came, in the order of first appearance
pub merged-counts-taken : (skip : ℕ) (taken : List Key) (workers : List Entries) (segments : List Segment) (lens : List ℕ) → All HasCounts workers
    → HaveTaken taken (keys_of workers segments) workers → AreSegmented workers segments lens
    → merged_counts skip workers segments ≡ map (λ x. count_by (bytes_eq x) (map (drop skip) taken)) (distinct (map (drop skip) taken))
merged-counts-taken skip taken workers segments lens whole have so =
    let keys = keys_of workers segments in
    let counts = counts_of workers segments in
    map-same (λ x. total (is_key x) (map (drop skip) keys) counts) (λ x. count_by (bytes_eq x) (map (drop skip) taken)) (distinct (map (drop skip) keys))
    (λ x. behind-taken skip x taken workers segments lens whole have so)
    ∙ ap (map (λ x. count_by (bytes_eq x) (map (drop skip) taken))) (same-firsts (drop skip) keys taken have.same_order)
  where
    behind-taken : (skip : ℕ) (x : Key) (taken : List Key) (workers : List Entries) (segments : List Segment) (lens : List ℕ) → All HasCounts workers
        → HaveTaken taken (keys_of workers segments) workers → AreSegmented workers segments lens
        → total (is_key x) (map (drop skip) (keys_of workers segments)) (counts_of workers segments) ≡ sum_by (is_key x) (map (drop skip) taken)
    behind-taken skip x taken workers segments lens whole have so =
        total-map (is_key x) (drop skip) (keys_of workers segments) (counts_of workers segments)
        ∙ total-taken (λ key. is_key x (drop skip key)) taken workers segments lens whole have so
        ∙ sym (sum_by-map (is_key x) (drop skip) taken)

-- so no total passes the number of keys
pub total-within : (skip : ℕ) (x : Key) (taken : List Key) (workers : List Entries) (segments : List Segment) (lens : List ℕ) → All HasCounts workers
    → HaveTaken taken (keys_of workers segments) workers → AreSegmented workers segments lens
    → total (is_key x) (keys_behind skip workers segments) (counts_of workers segments) ≤ length taken
total-within skip x taken workers segments lens whole have so =
    let mapped = total-map (is_key x) (drop skip) (keys_of workers segments) (counts_of workers segments) in
    let all = total-taken (λ key. is_key x (drop skip key)) taken workers segments lens whole have so in
    let back = sum_by-map (is_key x) (drop skip) taken in
    let few : sum_by (is_key x) (map (drop skip) taken) ≤ length (map (drop skip) taken) = count_by-le-length (bytes_eq x) (map (drop skip) taken) in
    omega (arith, mapped, all, back, few, length-map taken (drop skip))
