-- The records of workers, chunk by chunk.
use Rattle.std.proofs.Common.{◌≡◌, ◌∙◌, ◌<◌, ℕ, zero, suc, Bool, true, false, List, [], ◌∷◌, ◌++◌, length, replicate, get_or, set, sym, ap, ap₂, refl, subst, arith, append-nil}
use Rattle.std.proofs.lemmas.List.{get_or-map, length-map, map-set}
use Rattle.std.proofs.lemmas.List.Elements.{All-cons, All-nil, All-set}
use Rattle.key_index.specs.Keys.{Key, key_at}
use Rattle.key_counts.specs.Counts.{Entries, Takes, no_entries, recorded, records_of}
use Rattle.key_counts.specs.Partition.{lens_of}
use Rattle.key_counts.specs.Recorded.{AreCoded, AreRecorded, all_records, as_records}
use Rattle.key_counts.specs.Segments.{IsSegment, entries_of, keys_of}
use Rattle.key_counts.specs.declared.merging.Segment.{Segment}
use Rattle.key_counts.proofs.Growing.{AreNew, GrowsAt, keys-more, none-new, one-new, parts-more}

-- ---- a step
flags-after : (keys : List Key) (coded : Bool) (workers : List Entries) (w : ℕ) (new : Entries) → w < length workers → Takes (entries_of workers w) new keys → AreCoded coded workers
    → AreCoded coded (set workers w new)
flags-after keys coded workers w new lt t all =
    All-set (λ (worker : Entries). worker.coded ≡ coded) workers w new (t.same ∙ all w (no_entries false) lt) all

-- the worker's records grow
grows-at : (taken keys : List Key) (coded : Bool) (workers : List Entries) (w : ℕ) (new : Entries) (chunks : List Segment) (ends : List ℕ) → w < length workers → (t : Takes (entries_of workers w) new keys)
    → AreRecorded taken coded workers chunks ends
    → GrowsAt (all_records workers) w (as_records new) (recorded (entries_of workers w).coded keys) (get_or ends w 0) (length new.codes)
grows-at taken keys coded workers w new chunks ends lt t so =
    let none = no_entries false in
    let long : w < length (all_records workers) = omega (arith, lt, length-map workers as_records) in
    let old : (entries_of (all_records workers) w).keys ≡ records_of (entries_of workers w) = ap (λ (it : Entries). it.keys) (get_or-map as_records workers w none none lt) in
    record {
      within = long;
      grown = t.records ∙ ap (λ ks. ks ++ recorded (entries_of workers w).coded keys) (sym old);
      start = ap (λ ns. get_or ns w 0) so.ends_are ∙ get_or-map (λ (it : Entries). length it.keys) (all_records workers) w none 0 long;
      end = sym (length-map new.codes (key_at new.keys));
    }

ends-after : (workers : List Entries) (w : ℕ) (new : Entries) (ends : List ℕ) → ends ≡ lens_of (all_records workers) → set ends w (length new.codes) ≡ lens_of (all_records (set workers w new))
ends-after workers w new ends is =
    ap₂ (λ ns n. set ns w n) is (sym (length-map new.codes (key_at new.keys))) ∙ sym (map-set (λ (it : Entries). length it.keys) (all_records workers) w (as_records new))
    ∙ ap lens_of (sym (map-set as_records workers w new))

-- one worker takes keys: chunks of its new records are appended
recorded-by : (taken keys : List Key) (coded : Bool) (workers : List Entries) (w : ℕ) (new : Entries) (chunks more : List Segment) (ends : List ℕ)
    → w < length workers → Takes (entries_of workers w) new keys → AreRecorded taken coded workers chunks ends
    → AreNew (set (all_records workers) w (as_records new)) w (recorded (entries_of workers w).coded keys) (get_or ends w 0) (length new.codes) more
    → AreRecorded (taken ++ keys) coded (set workers w new) (chunks ++ more) (set ends w (length new.codes))
recorded-by taken keys coded workers w new chunks more ends lt t so fresh =
    let added = recorded (entries_of workers w).coded keys in
    let same : all_records (set workers w new) ≡ set (all_records workers) w (as_records new) = map-set as_records workers w new in
    let at = grows-at taken keys coded workers w new chunks ends lt t so in
    record {
      flags = flags-after keys coded workers w new lt t so.flags;
      ends_are = ends-after workers w new ends so.ends_are;
      parts = rw same (parts-more (all_records workers) w (as_records new) added (get_or ends w 0) (length new.codes) chunks more at fresh so.parts);
      all = λ is.
          let flag : (entries_of workers w).coded ≡ true = so.flags w (no_entries false) lt ∙ is in
          ap (λ all. keys_of all (chunks ++ more)) same ∙ keys-more (all_records workers) w (as_records new) added (get_or ends w 0) (length new.codes) chunks more at fresh so.parts
          ∙ ap₂ (λ ks b. ks ++ recorded b keys) (so.all is) flag;
    }

-- its new records become a chunk
pub step-recorded : (taken keys : List Key) (coded : Bool) (workers : List Entries) (w : ℕ) (new : Entries) (chunks : List Segment) (ends : List ℕ)
    → w < length workers → Takes (entries_of workers w) new keys → AreRecorded taken coded workers chunks ends
    → AreRecorded (taken ++ keys) coded (set workers w new) (chunks ++ (record { worker = w; from = get_or ends w 0; to = length new.codes }) ∷ []) (set ends w (length new.codes))
step-recorded taken keys coded workers w new chunks ends lt t so =
    let at = grows-at taken keys coded workers w new chunks ends lt t so in
    recorded-by taken keys coded workers w new chunks ((record { worker = w; from = get_or ends w 0; to = length new.codes }) ∷ []) ends lt t so
    (one-new (all_records workers) w (as_records new) (recorded (entries_of workers w).coded keys) (get_or ends w 0) (length new.codes) at)

-- if it has no new records, there need be no chunk
pub step-recorded-same : (taken keys : List Key) (coded : Bool) (workers : List Entries) (w : ℕ) (new : Entries) (chunks : List Segment) (ends : List ℕ)
    → w < length workers → Takes (entries_of workers w) new keys → AreRecorded taken coded workers chunks ends → get_or ends w 0 ≡ length new.codes
    → AreRecorded (taken ++ keys) coded (set workers w new) chunks (set ends w (length new.codes))
step-recorded-same taken keys coded workers w new chunks ends lt t so same =
    let at = grows-at taken keys coded workers w new chunks ends lt t so in
    subst (λ cs. AreRecorded (taken ++ keys) coded (set workers w new) cs (set ends w (length new.codes))) (append-nil chunks)
    (recorded-by taken keys coded workers w new chunks [] ends lt t so
    (none-new (all_records workers) w (as_records new) (recorded (entries_of workers w).coded keys) (get_or ends w 0) (length new.codes) at same))

-- ---- the start
pub start-recorded : (coded : Bool) (n : ℕ) → AreRecorded [] coded (replicate n (no_entries coded)) [] (replicate n 0)
start-recorded coded n = record {
  flags = flags n;
  ends_are = lens n;
  parts = All-nil (IsSegment (all_records (replicate n (no_entries coded))));
  all = λ is. refl;
}
  where
    flags : (n : ℕ) → AreCoded coded (replicate n (no_entries coded))
    flags zero = All-nil (λ (worker : Entries). worker.coded ≡ coded)
    flags (suc n) = All-cons (λ (worker : Entries). worker.coded ≡ coded) (no_entries coded) (replicate n (no_entries coded)) refl (flags n)

    lens : (n : ℕ) → replicate n 0 ≡ lens_of (all_records (replicate n (no_entries coded)))
    lens zero = refl
    lens (suc n) = ap (λ ns. 0 ∷ ns) (lens n)
