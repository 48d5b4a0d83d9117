-- Segments added one by one hold each entry once.
use Rattle.std.proofs.Common.{◌≡◌, ◌∙◌, ◌+◌, ◌-◌, ◌*◌, ◌<◌, ◌≤◌, ℕ, zero, suc, List, [], ◌∷◌, ◌++◌, length, drop, get_or, set, sym, ap, ap₂, refl, arith, get_or-drop, get_or-take, false}
use Rattle.std.specs.Prelude.{All, slice_range, sum_by}
use Rattle.std.proofs.lemmas.List.{get_or-map, length-map}
use Rattle.std.proofs.lemmas.List.Sums.{sum_by-cons}
use Rattle.key_index.specs.Keys.{Key, key_at}
use Rattle.lane_words.specs.Sums.{sum_below}
use Rattle.key_counts.specs.Counts.{Entries, no_entries, total, total_of}
use Rattle.key_counts.specs.Partition.{AreAll, HasCounts, lens_of, sum_over}
use Rattle.key_counts.specs.Segments.{IsSegment, counts_in, counts_of, entries_of, keys_in, keys_of}
use Rattle.key_counts.specs.declared.merging.Segment.{Segment}
use Rattle.key_counts.proofs.Totals.{length-slice}

-- ---- sums
sum-same : (n : ℕ) (f g : ℕ → ℕ) → ((c : ℕ) → c < n → f c ≡ g c) → sum_below n f ≡ sum_below n g
sum-same zero f g same = refl
sum-same (suc n) f g same = ap₂ (λ a b. a + b) (sum-same n f g (λ c lt. same c (omega (arith, lt)))) (same n (omega arith))

sum-zero : (n : ℕ) (f : ℕ → ℕ) → ((c : ℕ) → f c ≡ 0) → sum_below n f ≡ 0
sum-zero zero f none = refl
sum-zero (suc n) f none = let rest = sum-zero n f none in let last = none n in omega (arith, rest, last)

sum-first : (n : ℕ) (f : ℕ → ℕ) → sum_below (suc n) f ≡ f 0 + sum_below n (λ c. f (suc c))
sum-first zero f = omega arith
sum-first (suc n) f = let rest = sum-first n f in omega (arith, rest)

sum-split : (n m : ℕ) (f : ℕ → ℕ) → sum_below (n + m) f ≡ sum_below n f + sum_below m (λ c. f (n + c))
sum-split n zero f = let same : n + 0 ≡ n = omega arith in rw same (omega arith)
sum-split n (suc m) f =
    let next : n + suc m ≡ suc (n + m) = omega arith in
    let rest = sum-split n m f in
    rw next (omega (arith, rest))

-- ---- segments one by one
pub all-none : (lens : List ℕ) → All (λ n. n ≡ 0) lens → AreAll lens []
all-none lens none = λ f.
    sym (sum-zero (length lens) (λ w. sum_below (get_or lens w 0) (f w)) (λ w. ap (λ n. sum_below n (f w)) (zero-at lens w none)))
  where
    zero-at : (lens : List ℕ) (w : ℕ) → All (λ n. n ≡ 0) lens → get_or lens w 0 ≡ 0
    zero-at [] w none = refl
    zero-at (n ∷ lens) zero none = none 0 0 (omega arith)
    zero-at (n ∷ lens) (suc w) none = zero-at lens w (λ k d lt. none (suc k) d (omega (arith, lt)))

-- one worker gets entries up to n
pub sum-more : (f : ℕ → ℕ → ℕ) (lens : List ℕ) (w n : ℕ) → w < length lens → get_or lens w 0 ≤ n
    → sum_below (length (set lens w n)) (λ v. sum_below (get_or (set lens w n) v 0) (f v))
    ≡ sum_below (length lens) (λ v. sum_below (get_or lens v 0) (f v)) + sum_below (n - get_or lens w 0) (λ c. f w (get_or lens w 0 + c))
sum-more f [] w n lt le = absurd (omega (arith, lt))
sum-more f (m ∷ lens) zero n lt le =
    let up : m + (n - m) ≡ n = omega (arith, le) in
    let here : sum_below n (f 0) ≡ sum_below m (f 0) + sum_below (n - m) (λ c. f 0 (m + c)) = ap (λ k. sum_below k (f 0)) (sym up) ∙ sum-split m (n - m) (f 0) in
    let a = sum-first (length lens) (λ v. sum_below (get_or (n ∷ lens) v 0) (f v)) in
    let b = sum-first (length lens) (λ v. sum_below (get_or (m ∷ lens) v 0) (f v)) in
    omega (arith, here, a, b)
sum-more f (m ∷ lens) (suc w) n lt le =
    let a = sum-first (length (set lens w n)) (λ v. sum_below (get_or (m ∷ set lens w n) v 0) (f v)) in
    let b = sum-first (length lens) (λ v. sum_below (get_or (m ∷ lens) v 0) (f v)) in
    let rest = sum-more (λ v. f (suc v)) lens w n (omega (arith, lt)) le in
    omega (arith, a, b, rest)

-- ---- what entries took, by code
abbrev pub took : (Key → ℕ) → Entries → ℕ → ℕ
took f entries c = get_or entries.counts c 0 * f (key_at entries.keys c)

total-by-code : (f : Key → ℕ) (keys : List Key) (counts : List ℕ) → total f keys counts ≡ sum_below (length keys) (λ c. get_or counts c 0 * f (key_at keys c))
unfolding total
total-by-code f [] counts = refl
total-by-code f (key ∷ keys) [] = sym (sum-zero (suc (length keys)) (λ c. get_or [] c 0 * f (key_at (key ∷ keys) c)) (λ c. none c (f (key_at (key ∷ keys) c))))
  where
    none : (c m : ℕ) → get_or [] c 0 * m ≡ 0
    none c m = omega arith
total-by-code f (key ∷ keys) (n ∷ counts) =
    ap (λ m. n * f key + m) (total-by-code f keys counts) ∙ sym (sum-first (length keys) (λ c. get_or (n ∷ counts) c 0 * f (key_at (key ∷ keys) c)))

total-append : (f : Key → ℕ) (xs ys : List Key) (cs ds : List ℕ) → length cs ≡ length xs → total f (xs ++ ys) (cs ++ ds) ≡ total f xs cs + total f ys ds
unfolding total
total-append f [] ys [] ds long = omega arith
total-append f [] ys (c ∷ cs) ds long = absurd (omega (arith, long))
total-append f (x ∷ xs) ys [] ds long = absurd (omega (arith, long))
total-append f (x ∷ xs) ys (c ∷ cs) ds long = let rest = total-append f xs ys cs ds (omega (arith, long)) in omega (arith, rest)

slice-read : {X : Type 0} (xs : List X) (from to c : ℕ) (d : X) → c < to - from → get_or (slice_range xs from to) c d ≡ get_or xs (from + c) d
slice-read xs from to c d lt = get_or-take (to - from) (drop from xs) c d lt ∙ get_or-drop from xs c d

segment-total : (f : Key → ℕ) (workers : List Entries) (s : Segment) → IsSegment workers s
    → total f (keys_in workers s) (counts_in workers s) ≡ sum_over (λ w. took f (entries_of workers w)) s
segment-total f workers s part =
    let its = entries_of workers s.worker in
    let keys = slice_range its.keys s.from s.to in
    let counts = slice_range its.counts s.from s.to in
    let long : length keys ≡ s.to - s.from = length-slice its.keys s.from s.to part.order part.within in
    let here : ℕ → ℕ = λ c. get_or counts c 0 * f (key_at keys c) in
    let there : ℕ → ℕ = λ c. took f its (s.from + c) in
    total-by-code f keys counts ∙ ap (λ n. sum_below n here) long
    ∙ sum-same (s.to - s.from) here there (λ c lt. ap₂ (λ n (key : Key). n * f key) (slice-read its.counts s.from s.to c 0 lt) (slice-read its.keys s.from s.to c [] lt))

pub segments-total : (f : Key → ℕ) (workers : List Entries) (segments : List Segment) → All HasCounts workers → All (IsSegment workers) segments
    → total f (keys_of workers segments) (counts_of workers segments) ≡ sum_by (sum_over (λ w. took f (entries_of workers w))) segments
segments-total f workers [] whole parts = total-by-code f [] []
segments-total f workers (s ∷ segments) whole parts =
    let part : IsSegment workers s = parts 0 s (omega arith) in
    let its = entries_of workers s.worker in
    let both : length its.counts ≡ length its.keys = whole s.worker (no_entries false) part.worker in
    let keys : length (keys_in workers s) ≡ s.to - s.from = length-slice its.keys s.from s.to part.order part.within in
    let counts : length (counts_in workers s) ≡ s.to - s.from = length-slice its.counts s.from s.to part.order (omega (arith, part.within, both)) in
    total-append f (keys_in workers s) (keys_of workers segments) (counts_in workers s) (counts_of workers segments) (counts ∙ sym keys)
    ∙ ap₂ (λ a b. a + b) (segment-total f workers s part) (segments-total f workers segments whole (λ k d lt. parts (suc k) d (omega (arith, lt))))
    ∙ sym (sum_by-cons (sum_over (λ w. took f (entries_of workers w))) s segments)

workers-total : (h : Entries → ℕ) (workers : List Entries) → sum_below (length workers) (λ w. h (entries_of workers w)) ≡ sum_by h workers
workers-total h [] = refl
workers-total h (its ∷ workers) =
    sum-first (length workers) (λ w. h (entries_of (its ∷ workers) w)) ∙ ap (λ m. h its + m) (workers-total h workers) ∙ sym (sum_by-cons h its workers)

-- all segments together took what their workers took
pub all-total : (f : Key → ℕ) (workers : List Entries) (segments : List Segment) → All HasCounts workers → All (IsSegment workers) segments → AreAll (lens_of workers) segments
    → total f (keys_of workers segments) (counts_of workers segments) ≡ sum_by (total_of f) workers
all-total f workers segments whole parts all =
    let len : Entries → ℕ = λ entries. length entries.keys in
    let none : Entries = no_entries false in
    let by_code : ℕ → ℕ = λ w. sum_below (get_or (lens_of workers) w 0) (took f (entries_of workers w)) in
    let here : ℕ → ℕ = λ w. total_of f (entries_of workers w) in
    segments-total f workers segments whole parts ∙ all (λ w. took f (entries_of workers w)) ∙ ap (λ n. sum_below n by_code) (length-map workers len)
    ∙ sum-same (length workers) by_code here
    (λ w lt. ap (λ n. sum_below n (took f (entries_of workers w))) (get_or-map len workers w none 0 lt) ∙ sym (total-by-code f (entries_of workers w).keys (entries_of workers w).counts))
    ∙ workers-total (total_of f) workers
