-- Parts of lists, and the entries of one segment.
use Rattle.std.proofs.Common.{◌≡◌, ◌∙◌, ◌+◌, ◌-◌, ◌<◌, ◌≤◌, ℕ, suc, List, [], ◌∷◌, ◌++◌, length, map, take, drop, get_or, sym, ap, refl, arith, length-append, length-drop, get_or-drop, get_or-take, false}
use Rattle.std.specs.Prelude.{All, flat_map, slice_range}
use Rattle.std.proofs.lemmas.List.{append-nil, drop_more, get_or-append-add, get_or-map, get_or_append_left, length-map, map-append, take-append-drop, take_more}
use Rattle.std.proofs.lemmas.List.Elements.{All-take}
use Rattle.std.proofs.lemmas.List.Concat.{flat_map-append}
use Rattle.key_index.specs.Keys.{Key, key_at}
use Rattle.key_counts.specs.Counts.{Entries, no_entries}
use Rattle.key_counts.specs.Partition.{HasCounts}
use Rattle.key_counts.specs.Private.Parts.{IsPartOf, part_behind, part_counts}
use Rattle.key_counts.specs.Segments.{IsSegment, counts_in, counts_of, entries_of, keys_behind, keys_in, keys_of}
use Rattle.key_counts.specs.Private.Walks.{AreNext}
use Rattle.key_counts.specs.declared.merging.Segment.{Segment}
use Rattle.key_counts.proofs.Totals.{length-slice}

pub slice-none : {X : Type 0} (xs : List X) (from : ℕ) → slice_range xs from from ≡ []
slice-none xs from = let none : from - from ≡ 0 = omega arith in ap (λ n. take n (drop from xs)) none

pub slice-more : {X : Type 0} (xs : List X) (from i : ℕ) (d : X) → from ≤ i → i < length xs → slice_range xs from (i + 1) ≡ slice_range xs from i ++ get_or xs i d ∷ []
slice-more xs from i d le lt =
    let n : i + 1 - from ≡ (i - from) + 1 = omega (arith, le) in
    let in_rest : i - from < length (drop from xs) = omega (arith, length-drop from xs, le, lt) in
    let up : from + (i - from) ≡ i = omega (arith, le) in
    let at : get_or (drop from xs) (i - from) d ≡ get_or xs i d = rw get_or-drop (ap (λ k. get_or xs k d) up) in
    ap (λ m. take m (drop from xs)) n ∙ take_more (drop from xs) (i - from) d in_rest ∙ ap (λ y. take (i - from) (drop from xs) ++ y ∷ []) at

pub behind-next : (skip : ℕ) (keys : List Key) (from code : ℕ) → from ≤ code → code < length keys
    → map (drop skip) (slice_range keys from (code + 1)) ≡ map (drop skip) (slice_range keys from code) ++ drop skip (key_at keys code) ∷ []
behind-next skip keys from code le lt =
    ap (map (drop skip)) (slice-more keys from code [] le lt) ∙ map-append (drop skip) (slice_range keys from code) (key_at keys code ∷ [])

pub behind-none : (skip : ℕ) (keys : List Key) (from : ℕ) → map (drop skip) (slice_range keys from from) ≡ []
behind-none skip keys from = ap (map (drop skip)) (slice-none keys from)

-- one more segment
pub keys-more : (skip : ℕ) (workers : List Entries) (segments : List Segment) (i : ℕ) (d : Segment) → i < length segments
    → keys_behind skip workers (take (i + 1) segments) ≡ keys_behind skip workers (take i segments) ++ part_behind skip (entries_of workers (get_or segments i d).worker) (get_or segments i d)
keys-more skip workers segments i d lt =
    let s = get_or segments i d in
    let before = take i segments in
    ap (keys_behind skip workers) (take_more segments i d lt)
    ∙ ap (map (drop skip)) (flat_map-append (keys_in workers) before (s ∷ []) ∙ ap (λ ks. keys_of workers before ++ ks) (append-nil (keys_in workers s)))
    ∙ map-append (drop skip) (keys_of workers before) (keys_in workers s)

pub counts-more : (workers : List Entries) (segments : List Segment) (i : ℕ) (d : Segment) → i < length segments
    → counts_of workers (take (i + 1) segments) ≡ counts_of workers (take i segments) ++ part_counts (entries_of workers (get_or segments i d).worker) (get_or segments i d)
counts-more workers segments i d lt =
    let s = get_or segments i d in
    let before = take i segments in
    ap (counts_of workers) (take_more segments i d lt)
    ∙ flat_map-append (counts_in workers) before (s ∷ []) ∙ ap (λ ns. counts_of workers before ++ ns) (append-nil (counts_in workers s))

pub part-of : (workers : List Entries) (entries : Entries) (s : Segment) → IsSegment workers s → entries ≡ entries_of workers s.worker → IsPartOf entries s
part-of workers entries s so is = record {
  order = so.order;
  within = rw is so.within;
}

abbrev none : Entries
none = no_entries false

-- as many counts as keys
pub counts-len : (workers : List Entries) (segments : List Segment) → All HasCounts workers → All (IsSegment workers) segments
    → length (counts_of workers segments) ≡ length (keys_of workers segments)
counts-len workers [] counted all = refl
counts-len workers (s ∷ segments) counted all =
    let so : IsSegment workers s = all 0 s (omega arith) in
    let own : HasCounts (entries_of workers s.worker) = counted s.worker none so.worker in
    let rest = counts-len workers segments counted (λ k d lt. all (suc k) d (omega (arith, lt))) in
    let keys = length-slice (entries_of workers s.worker).keys s.from s.to so.order so.within in
    let counts = length-slice (entries_of workers s.worker).counts s.from s.to so.order (omega (arith, own, so.within)) in
    omega (arith, rest, keys, counts, length-append (keys_in workers s) (keys_of workers segments), length-append (counts_in workers s) (counts_of workers segments))

pub len-more : (workers : List Entries) (segments : List Segment) (i : ℕ) (d : Segment) → All (IsSegment workers) segments → i < length segments
    → length (keys_of workers (take (i + 1) segments)) ≡ length (keys_of workers (take i segments)) + ((get_or segments i d).to - (get_or segments i d).from)
len-more workers segments i d all lt =
    let s = get_or segments i d in
    let so : IsSegment workers s = all i d lt in
    let before = take i segments in
    let more : keys_of workers (take (i + 1) segments) ≡ keys_of workers before ++ keys_in workers s =
    ap (keys_of workers) (take_more segments i d lt) ∙ flat_map-append (keys_in workers) before (s ∷ []) ∙ ap (λ ks. keys_of workers before ++ ks) (append-nil (keys_in workers s)) in
    omega (arith, ap length more, length-append (keys_of workers before) (keys_in workers s), length-slice (entries_of workers s.worker).keys s.from s.to so.order so.within)

-- what a list of parts has in one part
part-at : {X : Type 0} (f : Segment → List X) (segments : List Segment) (i j : ℕ) (s : Segment) (d : X) → i < length segments → j < length (f (get_or segments i s))
    → get_or (flat_map f segments) (length (flat_map f (take i segments)) + j) d ≡ get_or (f (get_or segments i s)) j d
part-at f segments i j s d lt within =
    let before = flat_map f (take i segments) in
    let here = f (get_or segments i s) in
    let later = flat_map f (drop (i + 1) segments) in
    let parted : flat_map f segments ≡ before ++ (here ++ later) =
    ap (flat_map f) (sym (take-append-drop i segments)) ∙ flat_map-append f (take i segments) (drop i segments) ∙ ap (λ ss. before ++ flat_map f ss) (drop_more segments i s lt) in
    ap (λ xs. get_or xs (length before + j) d) parted ∙ get_or-append-add before (here ++ later) j d ∙ get_or_append_left here later d j within

slice-at : {X : Type 0} (xs : List X) (from to j : ℕ) (d : X) → j < to - from → get_or (slice_range xs from to) j d ≡ get_or xs (from + j) d
slice-at xs from to j d lt = get_or-take (to - from) (drop from xs) j d lt ∙ get_or-drop from xs j d

-- the entries of a segment follow those of the segments before it
pub follows : (skip : ℕ) (workers : List Entries) (segments : List Segment) (i : ℕ) (d : Segment) → All HasCounts workers → All (IsSegment workers) segments → i < length segments
    → AreNext skip (entries_of workers (get_or segments i d).worker) (get_or segments i d) (keys_behind skip workers segments) (counts_of workers segments) (length (keys_of workers (take i segments)))
follows skip workers segments i d counted all lt =
    let s = get_or segments i d in
    let so : IsSegment workers s = all i d lt in
    let own : HasCounts (entries_of workers s.worker) = counted s.worker none so.worker in
    let entries = entries_of workers s.worker in
    let before = keys_of workers (take i segments) in
    let later = keys_of workers (drop (i + 1) segments) in
    let keys_len : length (keys_in workers s) ≡ s.to - s.from = length-slice entries.keys s.from s.to so.order so.within in
    let counts_len : length (counts_in workers s) ≡ s.to - s.from = length-slice entries.counts s.from s.to so.order (omega (arith, own, so.within)) in
    let same_len = counts-len workers (take i segments) counted (All-take (IsSegment workers) i segments all) in
    let parted : keys_of workers segments ≡ before ++ (keys_in workers s ++ later) =
    ap (keys_of workers) (sym (take-append-drop i segments)) ∙ flat_map-append (keys_in workers) (take i segments) (drop i segments) ∙ ap (λ ss. before ++ keys_of workers ss) (drop_more segments i d lt) in
    let fits : length before + (s.to - s.from) ≤ length (keys_of workers segments) =
    omega (arith, ap length parted, length-append before (keys_in workers s ++ later), length-append (keys_in workers s) later, keys_len) in
    record {
      within = omega (arith, fits, length-map (keys_of workers segments) (drop skip));
      each = λ j below.
          let in_all : length before + j < length (keys_of workers segments) = omega (arith, fits, below) in
          let in_part : j < length (keys_in workers s) = omega (arith, below, keys_len) in
          let in_counts : j < length (counts_in workers s) = omega (arith, below, counts_len) in
          record {
            within = omega (arith, in_all, length-map (keys_of workers segments) (drop skip));
            same = ap (drop skip) (sym (part-at (keys_in workers) segments i j d [] lt in_part ∙ slice-at entries.keys s.from s.to j [] below))
                ∙ sym (get_or-map (drop skip) (keys_of workers segments) (length before + j) [] [] in_all);
            count = sym (slice-at entries.counts s.from s.to j 0 below) ∙ sym (part-at (counts_in workers) segments i j d 0 lt in_counts)
                ∙ ap (λ n. get_or (counts_of workers segments) (n + j) 0) same_len;
          };
    }
