-- A check of limits that begins with the entries of workers.
use Rattle.std.proofs.Common.{◌≡◌, ◌∙◌, ◌+◌, ◌*◌, ◌<◌, ◌≤◌, ℕ, zero, suc, Bool, true, false, List, [], ◌∷◌, ◌++◌, length, map, take, cond, sym, ap, refl, subst, arith, inl, inr, length-append, get_or}
use Rattle.std.specs.Prelude.{◌==◌, ◌^◌, ◌||◌, All, if◌then◌else◌, filter, Option, Some, None, slice_index, replicate}
use Rattle.std.specs.Str.{bytes_eq}
use Rattle.std.proofs.Math.Bool.{or-false}
use Rattle.std.proofs.lemmas.Slice.Eq.{bytes_eq-Decides}
use Rattle.std.specs.List.{fold, list_any, sum, sum_by}
use Rattle.std.proofs.lemmas.Bool.{cases_Bool}
use Rattle.std.proofs.lemmas.Bool.Decides.{eqb_tells}
use Rattle.std.proofs.lemmas.List.{get_or-map, get_or-replicate, get_or_default, length-map}
use Rattle.std.proofs.lemmas.List.Elements.{All-append, All-cons, All-head, All-map, All-nil, All-tail}
use Rattle.std.proofs.lemmas.List.Folds.{list_any_at, list_any_more}
use Rattle.std.proofs.lemmas.List.Sums.{sum_by-cons, sum_by_more}
use Rattle.lane_words.specs.declared.Refusal.{Refusal}
use Rattle.lane_words.specs.declared.Refusal.TheVariants as r
use Rattle.lane_words.specs.declared.limits.TheConstants.{MOST_RECORDS}
use Rattle.key_counts.specs.Counts.{AreInterned, Entries, total, total_of}
use Rattle.key_counts.specs.Rounds.{AreKnown, HaveTaken}
use Rattle.key_index.proofs.Firsts.{own}
use Rattle.key_index.proofs.Growth.{grows, interned}
use Rattle.key_index.specs.Keys.{distinct, id_of, is_interned, key_at, with_key}
use Rattle.partition_log.specs.Keys.{Key, Keyed, keys_in}
use Rattle.ingest.specs.Limits.{AreEntriesOfTopics, IsLimitCheck, Limits, is_too_long, record_taken, records_in_partition, records_taken}
use Rattle.ingest.specs.Private.Limits.{Adds, goes_to, has_long_key, have_long_keys, long_fault_of, no_records, raised}
use Rattle.ingest.specs.RecordFaults.{first_fault}
use Rattle.ingest.specs.Records.{AreOfTopics, partition_of_record}
use Rattle.ingest.proofs.FirstFault.{any-distinct, any-with_key, first_fault-long, length-distinct, length-in_partition}
use Rattle.ingest.proofs.GoingOn.{index-set}

abbrev one_if : Bool → ℕ
one_if b = cond b 1 0

-- ---- what is added
pub adds-none : (check : Limits) → Adds check (λ f. 0) false check
adds-none check = record {
  same_counts = refl;
  same_topics = refl;
  fault = refl;
  lens = λ p lt fits. omega arith;
}

pub adds-same : (old new : Limits) (sums sums2 : (Key → ℕ) → ℕ) (long long2 : Bool) → ((f : Key → ℕ) → sums f ≡ sums2 f) → long ≡ long2 → Adds old sums long new → Adds old sums2 long2 new
adds-same old new sums sums2 long long2 each same adds = record {
  same_counts = adds.same_counts;
  same_topics = adds.same_topics;
  fault = adds.fault ∙ ap (λ b. if b then Some r.KeyTooLong else old.fault) same;
  lens = λ p lt fits.
      let is = each (goes_to old.counts old.has_topics p) in
      let there = adds.lens p lt (omega (arith, is, fits)) in
      omega (arith, is, there);
}

either : (a b : Bool) (f : Option Refusal) → (if b then Some r.KeyTooLong else if a then Some r.KeyTooLong else f) ≡ (if a || b then Some r.KeyTooLong else f)
either true true f = refl
either true false f = refl
either false true f = refl
either false false f = refl

pub adds-then : (a b c : Limits) (s t : (Key → ℕ) → ℕ) (l m : Bool) → Adds a s l b → Adds b t m c → Adds a (λ f. s f + t f) (l || m) c
adds-then a b c s t l m first second = record {
  same_counts = second.same_counts ∙ first.same_counts;
  same_topics = second.same_topics ∙ first.same_topics;
  fault =
      second.fault ∙ ap (λ f. if m then Some r.KeyTooLong else f) first.fault ∙ either l m a.fault;
  lens = λ p lt fits.
      let g = goes_to a.counts a.has_topics p in
      let same : goes_to b.counts b.has_topics p ≡ g = ap (λ cs. goes_to cs b.has_topics p) first.same_counts ∙ ap (λ h. goes_to a.counts h p) first.same_topics in
      let lt2 : p < sum b.counts = omega (arith, lt, ap sum first.same_counts) in
      let one = first.lens p lt (omega (arith, fits)) in
      let two = subst (λ f. slice_index b.lens p + t f < 2 ^ 64 → slice_index c.lens p ≡ slice_index b.lens p + t f) same (second.lens p lt2) in
      let there = two (omega (arith, one, fits)) in
      omega (arith, one, there);
}

times-one : (n : ℕ) → n * 1 ≡ n
times-one n = omega arith

times-none : (n : ℕ) → n * 0 ≡ 0
times-none n = omega arith

-- the records of one entry
pub adds-one : (old new : Limits) (key : Key) (keyed : Keyed) (records : ℕ) → keyed ≡ record_taken old.has_topics key
    → new.counts ≡ old.counts → new.has_topics ≡ old.has_topics → new.fault ≡ (if is_too_long keyed.1 then Some r.KeyTooLong else old.fault)
    → new.lens ≡ raised old.lens (partition_of_record old.counts keyed) records
    → partition_of_record old.counts keyed < length old.lens
    → Adds old (λ f. records * f key) (has_long_key old.has_topics key) new
adds-one old new key keyed records is same_counts same_topics fault lens below = record {
  same_counts = same_counts;
  same_topics = same_topics;
  fault = fault ∙ ap (λ (k : Keyed). if is_too_long k.1 then Some r.KeyTooLong else old.fault) is;
  lens = λ p lt.
      subst (λ (k : Keyed). slice_index old.lens p + records * cond (partition_of_record old.counts k == p) 1 0 < 2 ^ 64
      → slice_index new.lens p ≡ slice_index old.lens p + records * cond (partition_of_record old.counts k == p) 1 0) is (at p);
}
  where
    here : ℕ
    here = partition_of_record old.counts keyed

    at : (p : ℕ) → slice_index old.lens p + records * cond (here == p) 1 0 < 2 ^ 64 → slice_index new.lens p ≡ slice_index old.lens p + records * cond (here == p) 1 0
    at p =
        let set = ap (λ ns. slice_index ns p) lens ∙ index-set old.lens here p _ below in
        elim (eqb_tells here p) [
          | inl e ↦
              let own : slice_index old.lens here ≡ slice_index old.lens p = ap (slice_index old.lens) e.1 in
              rw e.0 (λ fits. let there = rw e.0 at set in omega (arith, there, own, fits, times-one records))
          | inr e ↦ rw e.0 (λ fits. let there = rw e.0 at set in omega (arith, there, times-none records))
        ]

-- ---- the entries of one worker
pub total-more : (f : Key → ℕ) (keys : List Key) (counts : List ℕ) (i : ℕ) → length counts ≡ length keys → i < length keys
    → total f (take (i + 1) keys) (take (i + 1) counts) ≡ total f (take i keys) (take i counts) + get_or counts i 0 * f (key_at keys i)
unfolding total
total-more f [] counts i long lt = absurd (omega (arith, lt))
total-more f (key ∷ keys) [] i long lt = absurd (omega (arith, long))
total-more f (key ∷ keys) (n ∷ counts) zero long lt = omega arith
total-more f (key ∷ keys) (n ∷ counts) (suc i) long lt =
    let step : suc i + 1 ≡ suc (i + 1) = omega arith in
    let rest = total-more f keys counts i (omega (arith, long)) (omega (arith, lt)) in
    rw step (omega (arith, rest))

pub total-none : (f : Key → ℕ) → total f [] [] ≡ 0
unfolding total
total-none f = refl

pub of-topic-at : (counts : List ℕ) (has_topics : Bool) (keys : List Key) (i : ℕ) → i < length keys → AreOfTopics counts (records_taken has_topics keys)
    → (record_taken has_topics (key_at keys i)).0 < length counts
of-topic-at counts has_topics keys i lt all =
    let among : i < length (records_taken has_topics keys) = omega (arith, lt, length-map keys (record_taken has_topics)) in
    subst (λ (k : Keyed). k.0 < length counts) (get_or-map (record_taken has_topics) keys i [] (0, []) lt) (all i (0, []) among)

-- one more entry of a worker
pub adds-entry : (start now next : Limits) (keys : List Key) (counts : List ℕ) (i n : ℕ) (key : Key) → n ≡ get_or counts i 0 → length counts ≡ length keys → i < length keys → key ≡ key_at keys i
    → Adds start (λ f. total f (take i keys) (take i counts)) (have_long_keys start.has_topics (take i keys)) now
    → Adds now (λ f. n * f key) (has_long_key now.has_topics key) next
    → Adds start (λ f. total f (take (i + 1) keys) (take (i + 1) counts)) (have_long_keys start.has_topics (take (i + 1) keys)) next
adds-entry start now next keys counts i n key these long lt is first second =
    let sums = λ (f : Key → ℕ). total f (take i keys) (take i counts) + n * f key in
    let more = λ (f : Key → ℕ). total f (take (i + 1) keys) (take (i + 1) counts) in
    let each = λ (f : Key → ℕ). sym (total-more f keys counts i long lt ∙ ap (λ m. total f (take i keys) (take i counts) + m * f (key_at keys i)) (sym these)
    ∙ ap (λ k. total f (take i keys) (take i counts) + n * f k) (sym is)) in
    let any = sym (list_any_more (has_long_key start.has_topics) keys i [] lt ∙ ap (λ k. have_long_keys start.has_topics (take i keys) || has_long_key start.has_topics k) (sym is)
    ∙ ap (λ h. have_long_keys start.has_topics (take i keys) || has_long_key h key) (sym first.same_topics)) in
    adds-same start next sums more (have_long_keys start.has_topics (take i keys) || has_long_key now.has_topics key) (have_long_keys start.has_topics (take (i + 1) keys)) each any
    (adds-then start now next _ _ _ _ first second)

-- one more worker
pub adds-worker : (start now next : Limits) (workers : List Entries) (i : ℕ) (worker : Entries) → i < length workers → worker ≡ get_or workers i worker
    → Adds start (λ f. sum_by (total_of f) (take i workers)) (list_any (λ (w : Entries). have_long_keys start.has_topics w.keys) (take i workers)) now
    → Adds now (λ f. total_of f worker) (have_long_keys now.has_topics worker.keys) next
    → Adds start (λ f. sum_by (total_of f) (take (i + 1) workers)) (list_any (λ (w : Entries). have_long_keys start.has_topics w.keys) (take (i + 1) workers)) next
adds-worker start now next workers i worker lt is first second =
    let test = λ (w : Entries). have_long_keys start.has_topics w.keys in
    let sums = λ (f : Key → ℕ). sum_by (total_of f) (take i workers) + total_of f worker in
    let more = λ (f : Key → ℕ). sum_by (total_of f) (take (i + 1) workers) in
    let each = λ (f : Key → ℕ). sym (sum_by_more (total_of f) workers i worker lt ∙ ap (λ w. sum_by (total_of f) (take i workers) + total_of f w) (sym is)) in
    let any = sym (list_any_more test workers i worker lt ∙ ap (λ w. list_any test (take i workers) || test w) (sym is)
    ∙ ap (λ h. list_any test (take i workers) || have_long_keys h worker.keys) (sym first.same_topics)) in
    adds-same start next sums more (list_any test (take i workers) || have_long_keys now.has_topics worker.keys) (list_any test (take (i + 1) workers)) each any
    (adds-then start now next _ _ _ _ first second)

-- ---- the entries of all workers
sum-if : (p : Key → Bool) (keys : List Key) → list_any p keys ≡ true → 1 ≤ sum_by (λ k. one_if (p k)) keys
sum-if p [] any = absurd (cc any)
sum-if p (key ∷ keys) any =
    let more = sum_by-cons (λ (k : Key). one_if (p k)) key keys in
    elim (cases_Bool (p key)) [
      | inl e ↦ let one : one_if (p key) ≡ 1 = ap one_if e in omega (arith, more, one)
      | inr e ↦ let rest : list_any p keys ≡ true = rw e at any in omega (arith, more, sum-if p keys rest)
    ]

or-both : (a b : Bool) → (a || b) ≡ false → (a ≡ false) × (b ≡ false)
or-both true b e = absurd (cc e)
or-both false b e = (refl, e)

total-if-none : (p : Key → Bool) (keys : List Key) (counts : List ℕ) → list_any p keys ≡ false → total (λ k. one_if (p k)) keys counts ≡ 0
unfolding total
total-if-none p [] counts none = refl
total-if-none p (key ∷ keys) [] none = refl
total-if-none p (key ∷ keys) (n ∷ counts) none =
    let parts = or-both (p key) (list_any p keys) none in
    let own : n * one_if (p key) ≡ 0 = ap (λ b. n * one_if b) parts.0 ∙ times-none n in
    omega (arith, own, total-if-none p keys counts parts.1)

sum-if-none : (p : Key → Bool) (workers : List Entries) → list_any (λ worker. list_any p worker.keys) workers ≡ false → sum_by (total_of (λ k. one_if (p k))) workers ≡ 0
sum-if-none p [] none = refl
sum-if-none p (worker ∷ workers) none =
    let parts = or-both (list_any p worker.keys) (list_any (λ (w : Entries). list_any p w.keys) workers) none in
    let more = sum_by-cons (total_of (λ k. one_if (p k))) worker workers in
    let own = total-if-none p worker.keys worker.counts parts.0 in
    omega (arith, more, own, sum-if-none p workers parts.1)

any-interned : (p : Key → Bool) (known_keys keys : List Key) → AreInterned known_keys keys → list_any p known_keys ≡ true → list_any p keys ≡ true
any-interned p [] keys all any = absurd (cc any)
any-interned p (key ∷ known_keys) keys all any =
    let P = λ (k : Key). is_interned keys k ≡ true in
    elim (cases_Bool (p key)) [
      | inl e ↦
          let there = interned keys key (All-head P key known_keys all) in
          list_any_at p keys (id_of keys key) [] there.0 (ap p there.1 ∙ e)
      | inr e ↦ let rest : list_any p known_keys ≡ true = rw e at any in any-interned p known_keys keys (All-tail P key known_keys all) rest
    ]

any-known : (p : Key → Bool) (keys : List Key) (workers : List Entries) → AreKnown keys workers → list_any (λ worker. list_any p worker.keys) workers ≡ true → list_any p keys ≡ true
any-known p keys [] all any = absurd (cc any)
any-known p keys (worker ∷ workers) all any =
    elim (cases_Bool (list_any p worker.keys)) [
      | inl e ↦ any-interned p worker.keys keys all.0 e
      | inr e ↦ let rest : list_any (λ (w : Entries). list_any p w.keys) workers ≡ true = rw e at any in any-known p keys workers all.1 rest
    ]

-- a test of the keys that workers took is one of their entries' keys
pub any-taken : (p : Key → Bool) (taken order : List Key) (workers : List Entries) → HaveTaken taken order workers → list_any (λ worker. list_any p worker.keys) workers ≡ list_any p taken
any-taken p taken order workers so =
    elim (cases_Bool (list_any (λ (w : Entries). list_any p w.keys) workers)) [
      | inl e ↦ e ∙ sym (sym (any-distinct p taken) ∙ any-known p (distinct taken) workers so.known e)
      | inr e ↦
          elim (cases_Bool (list_any p taken)) [
            | inl some ↦ absurd (omega (arith, sum-if p taken some, so.counted (λ k. one_if (p k)), sum-if-none p workers e))
            | inr none ↦ e ∙ sym none
          ]
    ]

-- ---- the records of keys
counted-at : (b : Bool) (keyed : Keyed) (rest : List Keyed) → length (if b then keyed ∷ rest else rest) ≡ cond b 1 0 + length rest
counted-at true keyed rest = omega arith
counted-at false keyed rest = omega arith

pub goes_to-sum : (counts : List ℕ) (has_topics : Bool) (p : ℕ) (keys : List Key) → sum_by (goes_to counts has_topics p) keys ≡ records_in_partition counts (records_taken has_topics keys) p
goes_to-sum counts has_topics p [] = refl
goes_to-sum counts has_topics p (key ∷ keys) =
    let keyed = record_taken has_topics key in
    let test = λ (k : Keyed). partition_of_record counts k == p in
    let more = sum_by-cons (goes_to counts has_topics p) key keys in
    let here = counted-at (test keyed) keyed (filter test (records_taken has_topics keys)) in
    omega (arith, more, here, goes_to-sum counts has_topics p keys)

any-of-records : (has_topics : Bool) (keys : List Key) → have_long_keys has_topics keys ≡ list_any is_too_long (keys_in (records_taken has_topics keys))
any-of-records has_topics [] = refl
any-of-records has_topics (key ∷ keys) = ap (λ b. has_long_key has_topics key || b) (any-of-records has_topics keys)

-- records that are too few to fill a log
pub unfilled : (counts : List ℕ) (has_topics : Bool) (taken order : List Key) (workers : List Entries) → HaveTaken taken order workers → length taken ≤ MOST_RECORDS
    → long_fault_of has_topics workers ≡ first_fault counts [] (records_taken has_topics taken)
unfilled counts has_topics taken order workers so few =
    let records = records_taken has_topics taken in
    let long : length records ≡ length taken = length-map taken (record_taken has_topics) in
    let any = any-taken (has_long_key has_topics) taken order workers so ∙ any-of-records has_topics taken in
    ap (λ b. if b then Some r.KeyTooLong else None) any ∙ sym (first_fault-long counts records (omega (arith, long, few)))

-- a check begins with the records that workers took
pub begun : (counts : List ℕ) (has_topics : Bool) (taken order : List Key) (workers : List Entries) (check : Limits)
    → Adds (no_records counts has_topics) (λ f. sum_by (total_of f) workers) (list_any (λ worker. have_long_keys has_topics worker.keys) workers) check
    → HaveTaken taken order workers → length taken ≤ MOST_RECORDS
    → IsLimitCheck counts has_topics (records_taken has_topics taken) check
begun counts has_topics taken order workers check adds so few =
    let records = records_taken has_topics taken in
    let long : length records ≡ length taken = length-map taken (record_taken has_topics) in
    record {
      counts_are = adds.same_counts;
      topics_are = adds.same_topics;
      fault = adds.fault ∙ unfilled counts has_topics taken order workers so few;
      lens = λ none p lt.
          let g = goes_to counts has_topics p in
          let total = so.counted g ∙ goes_to-sum counts has_topics p taken in
          let within = length-in_partition (λ k. partition_of_record counts k == p) records in
          let nothing : slice_index (replicate (sum counts) 0) p ≡ 0 = get_or-replicate (sum counts) p 0 0 lt in
          let there = adds.lens p lt (omega (arith, total, within, nothing, long, few)) in
          omega (arith, there, total, nothing);
    }

-- ---- the topics of the entries are those of the records
all-grown : (P : Key → Type 0) (b : Bool) (keys : List Key) (key : Key) → All P keys → P key → All P (if b then keys else keys ++ key ∷ [])
all-grown P true keys key old own = old
all-grown P false keys key old own = All-append P keys (key ∷ []) old (All-cons P key [] own (All-nil P))

all-with_keys : (P : Key → Type 0) (keys more : List Key) → All P keys → All P more → All P (fold with_key keys more)
all-with_keys P keys [] old new = old
all-with_keys P keys (key ∷ more) old new =
    all-with_keys P (with_key keys key) more (all-grown P (is_interned keys key) keys key old (All-head P key more new)) (All-tail P key more new)

all-distinct : (P : Key → Type 0) (keys : List Key) → All P keys → All P (distinct keys)
unfolding distinct
all-distinct P keys all = all-with_keys P [] keys (All-nil P) all

of-interned : (P : Key → Type 0) (keys : List Key) (key : Key) → All P keys → is_interned keys key ≡ true → P key
of-interned P keys key all is = let there = interned keys key is in subst P there.1 (all (id_of keys key) [] there.0)

all-known : (P : Key → Type 0) (keys : List Key) (workers : List Entries) → All P keys → AreKnown keys workers → All (λ (worker : Entries). All P worker.keys) workers
all-known P keys [] all known_keys = All-nil (λ (w : Entries). All P w.keys)
all-known P keys (worker ∷ workers) all known_keys =
    All-cons (λ (w : Entries). All P w.keys) worker workers (λ i d lt. of-interned P keys (get_or worker.keys i d) all (known_keys.0 i d lt)) (all-known P keys workers all known_keys.1)

-- what `LimitCheck::of` asks of the topics
pub entries-of_topics : (counts : List ℕ) (has_topics : Bool) (taken order : List Key) (workers : List Entries) → HaveTaken taken order workers → AreOfTopics counts (records_taken has_topics taken)
    → AreEntriesOfTopics counts has_topics workers
entries-of_topics counts has_topics taken order workers so topics =
    let P = λ (key : Key). (record_taken has_topics key).0 < length counts in
    let each : All P taken = λ i d lt. subst (λ (key : Key). P key) (get_or_default taken i [] d lt) (of-topic-at counts has_topics taken i lt topics) in
    let all = all-known P (distinct taken) workers (all-distinct P taken each) so.known in
    λ i d lt. All-map (λ (k : Keyed). k.0 < length counts) (record_taken has_topics) (get_or workers i d).keys (all i d lt)

-- ---- the different keys are no more than the entries
-- the second keys have what a function makes of the first, and are no more
record MapsInto (f : Key → Key) (keys mapped : List Key) : Type 0 where
  pub has : (key : Key) → is_interned keys key ≡ true → is_interned mapped (f key) ≡ true
  pub fewer : length mapped ≤ length keys

or-left : (a b : Bool) → a ≡ true → (a || b) ≡ true
or-left true b e = refl
or-left false b e = absurd (cc e)

maps-more : (f : Key → Key) (keys mapped : List Key) (key : Key) → MapsInto f keys mapped → MapsInto f (with_key keys key) (with_key mapped (f key))
maps-more f keys mapped key maps = record {
  has = λ k h.
      elim (cases_Bool (bytes_eq k key)) [
        | inl e ↦
            let same : k ≡ key = (bytes_eq-Decides k key).0 e in
            subst (λ x. is_interned (with_key mapped (f key)) (f x) ≡ true) (sym same) (own mapped (f key)).0
        | inr e ↦
            let old : is_interned keys k ≡ true = sym (or-false (is_interned keys k)) ∙ ap (λ b. is_interned keys k || b) (sym e) ∙ sym (any-with_key (bytes_eq k) keys key) ∙ h in
            any-with_key (bytes_eq (f k)) mapped (f key) ∙ or-left (is_interned mapped (f k)) (bytes_eq (f k) (f key)) (maps.has k old)
      ];
  fewer = elim (cases_Bool (is_interned keys key)) [
    | inl e ↦ let there : is_interned mapped (f key) ≡ true = maps.has key e in rw (e, there) maps.fewer
    | inr e ↦
        let longer : length (with_key keys key) ≡ length keys + 1 = rw e (length-append keys (key ∷ [])) in
        omega (arith, longer, maps.fewer, (grows mapped (f key)).by_one)
  ];
}

maps-all : (f : Key → Key) (keys mapped more : List Key) → MapsInto f keys mapped → MapsInto f (fold with_key keys more) (fold with_key mapped (map f more))
maps-all f keys mapped [] maps = maps
maps-all f keys mapped (key ∷ more) maps = maps-all f (with_key keys key) (with_key mapped (f key)) more (maps-more f keys mapped key maps)

fewer-mapped : (f : Key → Key) (keys : List Key) → length (distinct (map f keys)) ≤ length (distinct keys)
unfolding distinct
fewer-mapped f keys = (maps-all f [] [] keys (record { has = λ k h. absurd (cc h); fewer = omega arith })).fewer

keys-of_records : (has_topics : Bool) (keys : List Key) → keys_in (records_taken has_topics keys) ≡ map (λ key. (record_taken has_topics key).1) keys
keys-of_records has_topics [] = refl
keys-of_records has_topics (key ∷ keys) = ap (λ (ks : List Key). (record_taken has_topics key).1 ∷ ks) (keys-of_records has_topics keys)

-- what `LimitCheck::take` asks of the different keys
pub few-different : (has_topics : Bool) (taken order : List Key) (workers : List Entries) → HaveTaken taken order workers → length order < MOST_RECORDS
    → length (distinct (keys_in (records_taken has_topics taken))) < MOST_RECORDS
few-different has_topics taken order workers so few =
    let stripped = ap (λ ks. length (distinct ks)) (keys-of_records has_topics taken) in
    let fewer = fewer-mapped (λ key. (record_taken has_topics key).1) taken in
    omega (arith, stripped, fewer, ap length so.same_order, length-distinct order, few)
