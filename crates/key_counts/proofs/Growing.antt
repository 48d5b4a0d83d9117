-- Segments while their workers grow.
use Rattle.std.proofs.Common.{◌≡◌, ◌≢◌, ◌∙◌, ◌+◌, ◌-◌, ◌<◌, ◌≤◌, ℕ, suc, List, [], ◌∷◌, ◌++◌, length, take, drop, set, sym, ap, ap₂, refl, arith, inl, inr, append-nil, length-append, length-drop, length-set, get_or-set_other, get_or-set_same, false}
use Rattle.std.specs.Prelude.{All, if◌then◌else◌, slice_range, sum_by}
use Rattle.std.proofs.lemmas.Bool.{cases_eq, eq-eqb}
use Rattle.std.proofs.lemmas.Bool.Decides.{eqb_tells}
use Rattle.std.proofs.lemmas.List.{drop-append-le, drop_at, nil_from_length, take-append-le, take_all}
use Rattle.std.proofs.lemmas.List.Concat.{flat_map-append}
use Rattle.std.proofs.lemmas.List.Elements.{All-append, All-cons, All-nil}
use Rattle.std.proofs.lemmas.List.Sums.{sum_by-cons}
use Rattle.key_index.specs.Keys.{Key}
use Rattle.lane_words.specs.Sums.{sum_below}
use Rattle.key_counts.specs.Counts.{Entries, no_entries}
use Rattle.key_counts.specs.Partition.{AreGrown, sum_over}
use Rattle.key_counts.specs.Segments.{IsSegment, entries_of, keys_in, keys_of, segments_of}
use Rattle.key_counts.specs.declared.merging.Segment.{Segment}

slice-stays : {X : Type 0} (xs ys : List X) (from to : ℕ) → from ≤ to → to ≤ length xs → slice_range (xs ++ ys) from to ≡ slice_range xs from to
slice-stays xs ys from to ordered within =
    let start : from ≤ length xs = omega (arith, ordered, within) in
    let long : to - from ≤ length (drop from xs) = omega (arith, length-drop from xs, within) in
    ap (take (to - from)) (drop-append-le from xs ys start) ∙ take-append-le (to - from) (drop from xs) ys long

pub slice-new : {X : Type 0} (xs ys : List X) → slice_range (xs ++ ys) (length xs) (length (xs ++ ys)) ≡ ys
slice-new xs ys =
    let long : length ys ≤ length (xs ++ ys) - length xs = omega (arith, length-append xs ys) in
    ap (take (length (xs ++ ys) - length xs)) (drop_at xs ys (length xs) refl) ∙ take_all (length (xs ++ ys) - length xs) ys long

-- a segment stays one, with the same keys
pub part-stays : (olds news : List Entries) (s : Segment) → AreGrown olds news → IsSegment olds s → IsSegment news s
part-stays olds news s grown part =
    let more = grown.each s.worker part.worker in record {
      worker = omega (arith, part.worker, grown.len);
      order = part.order;
      within = omega (arith, part.within, ap length more.1, length-append (entries_of olds s.worker).keys more.0);
    }

pub keys-stay : (olds news : List Entries) (s : Segment) → AreGrown olds news → IsSegment olds s → keys_in news s ≡ keys_in olds s
keys-stay olds news s grown part =
    let more = grown.each s.worker part.worker in
    ap (λ ks. slice_range ks s.from s.to) more.1 ∙ slice-stays (entries_of olds s.worker).keys more.0 s.from s.to part.order part.within

pub all-parts-stay : (olds news : List Entries) (segments : List Segment) → AreGrown olds news → All (IsSegment olds) segments → All (IsSegment news) segments
all-parts-stay olds news segments grown parts = λ k d lt. part-stays olds news _ grown (parts k d lt)

pub all-keys-stay : (olds news : List Entries) (segments : List Segment) → AreGrown olds news → All (IsSegment olds) segments → keys_of news segments ≡ keys_of olds segments
all-keys-stay olds news [] grown parts = refl
all-keys-stay olds news (s ∷ segments) grown parts =
    ap₂ (λ a b. a ++ b) (keys-stay olds news s grown (parts 0 s (omega arith))) (all-keys-stay olds news segments grown (λ k d lt. parts (suc k) d (omega (arith, lt))))

-- ---- one worker grows
-- worker w's keys grow to those of `new`; so many were there, and so many are there then
pub record GrowsAt (workers : List Entries) (w : ℕ) (new : Entries) (added : List Key) (from to : ℕ) : Type 0 where
  pub within : w < length workers
  pub grown : new.keys ≡ (entries_of workers w).keys ++ added
  pub start : from ≡ length (entries_of workers w).keys
  pub end : to ≡ length new.keys

pub are-grown : (workers : List Entries) (w : ℕ) (new : Entries) (added : List Key) (from to : ℕ) → GrowsAt workers w new added from to → AreGrown workers (set workers w new)
are-grown workers w new added from to at = record {
  len = length-set workers w new;
  each = λ v lt.
      elim (cases_eq v w) [
        | inl e ↦ (added, rw e (ap (λ (it : Entries). it.keys) (get_or-set_same workers w new (no_entries false) at.within) ∙ at.grown))
        | inr ne ↦
            ([], ap (λ (it : Entries). it.keys) (get_or-set_other workers w v new (no_entries false) ne) ∙ sym (append-nil (entries_of workers v).keys))
      ];
}

-- segments of what worker w has from `from` to `to`, and of nothing else
pub record AreNew (workers : List Entries) (w : ℕ) (added : List Key) (from to : ℕ) (more : List Segment) : Type 0 where
  pub parts : All (IsSegment workers) more
  pub keys : keys_of workers more ≡ added
  pub sums : (f : ℕ → ℕ → ℕ) → sum_by (sum_over f) more ≡ sum_below (to - from) (λ c. f w (from + c))
  pub own : segments_of w more ≡ more
  pub others : (v : ℕ) → w ≢ v → segments_of v more ≡ []

pub one-new : (workers : List Entries) (w : ℕ) (new : Entries) (added : List Key) (from to : ℕ) → GrowsAt workers w new added from to
    → AreNew (set workers w new) w added from to ((record { worker = w; from = from; to = to }) ∷ [])
one-new workers w new added from to at =
    let now = set workers w new in
    let s : Segment = record { worker = w; from = from; to = to } in
    let old = (entries_of workers w).keys in
    let here : (entries_of now w).keys ≡ new.keys = ap (λ (it : Entries). it.keys) (get_or-set_same workers w new (no_entries false) at.within) in
    let part : IsSegment now s = record {
      worker = omega (arith, at.within, length-set workers w new);
      order = omega (arith, at.start, at.end, ap length at.grown, length-append old added);
      within = omega (arith, at.end, ap length here);
    } in
    let its : keys_in now s ≡ added =
    ap (λ (ks : List Key). slice_range ks from to) (here ∙ at.grown) ∙ ap₂ (λ m n. slice_range (old ++ added) m n) at.start (at.end ∙ ap length at.grown) ∙ slice-new old added in
    record {
      parts = All-cons (IsSegment now) s [] part (All-nil (IsSegment now));
      keys = append-nil (keys_in now s) ∙ its;
      sums = λ f. sum_by-cons (sum_over f) s [] ∙ omega arith;
      own = ap (λ b. if b then s ∷ [] else []) (eq-eqb w w refl);
      others = λ v ne.
          elim (eqb_tells w v) [
            | inl e ↦ absurd (ne e.1)
            | inr e ↦ ap (λ b. if b then s ∷ [] else []) e.0
          ];
    }

-- if nothing is added, there need be no segment of it
pub none-new : (workers : List Entries) (w : ℕ) (new : Entries) (added : List Key) (from to : ℕ) → GrowsAt workers w new added from to → from ≡ to
    → AreNew (set workers w new) w added from to []
none-new workers w new added from to at same =
    let none : length added ≡ 0 = omega (arith, same, at.start, at.end, ap length at.grown, length-append (entries_of workers w).keys added) in
    let empty : to - from ≡ 0 = omega (arith, same) in
    record {
      parts = All-nil (IsSegment (set workers w new));
      keys = sym (nil_from_length added none);
      sums = λ f. ap (λ n. sum_below n (λ c. f w (from + c))) (sym empty);
      own = refl;
      others = λ v ne. refl;
    }

pub parts-more : (workers : List Entries) (w : ℕ) (new : Entries) (added : List Key) (from to : ℕ) (segments more : List Segment) → GrowsAt workers w new added from to
    → AreNew (set workers w new) w added from to more → All (IsSegment workers) segments → All (IsSegment (set workers w new)) (segments ++ more)
parts-more workers w new added from to segments more at fresh parts =
    let now = set workers w new in
    All-append (IsSegment now) segments more (all-parts-stay workers now segments (are-grown workers w new added from to at) parts) fresh.parts

-- segments then have the keys that they had, and those that were added
pub keys-more : (workers : List Entries) (w : ℕ) (new : Entries) (added : List Key) (from to : ℕ) (segments more : List Segment) → GrowsAt workers w new added from to
    → AreNew (set workers w new) w added from to more → All (IsSegment workers) segments → keys_of (set workers w new) (segments ++ more) ≡ keys_of workers segments ++ added
keys-more workers w new added from to segments more at fresh parts =
    let now = set workers w new in
    flat_map-append (keys_in now) segments more
    ∙ ap₂ (λ a b. a ++ b) (all-keys-stay workers now segments (are-grown workers w new added from to at) parts) fresh.keys
