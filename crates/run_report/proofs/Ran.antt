-- The rows after a run are those that the records and the plan define.
use Rattle.std.proofs.Common.{◌≡◌, ◌∙◌, ◌+◌, ◌<◌, ◌≤◌, ℕ, zero, suc, Bool, true, false, ◌||◌, List, [], ◌∷◌, ◌++◌, length, map, cond, get_or, Option, Some, None, sym, ap, ap₂, refl, arith, inl, inr, subst, append_assoc, slice_get}
use Rattle.std.specs.Prelude.{◌==◌, ◌⊎◌, All, filter, find, unwrap_or, Result, Ok, Err, IsOk, fold}
use Rattle.std.specs.List.{sum}
use Rattle.std.specs.Option.{option_map}
use Rattle.std.specs.Str.{bytes_eq}
use Rattle.std.proofs.lemmas.Bool.Decides.{eqb_tells}
use Rattle.std.proofs.lemmas.List.{length-map}
use Rattle.std.proofs.lemmas.List.Elements.{All-head, All-tail, All-weaker}
use Rattle.std.proofs.lemmas.List.Folds.{list_any-append}
use Rattle.std.proofs.lemmas.List.Sums.{sum_by-cons}
use Rattle.std.proofs.lemmas.Slice.Eq.{bytes_eq-Decides}
use Rattle.lane_words.specs.Sums.{sum_below}
use Rattle.lane_words.specs.declared.Refusal.{Refusal}
use Rattle.lane_words.specs.declared.Refusal.TheVariants as r
use Rattle.partition_log.specs.Keys.{Key, Keyed, distinct, is_interned, key_at, keys_in, plain, with_key}
use Rattle.partition_log.specs.Logs.{IsOfTopic}
use Rattle.partition_log.proofs.Numbered.{number-back}
use Rattle.partition_log.proofs.Parted.{sum-plus, sum-same, sum-zero}
use Rattle.partition_log.proofs.Valid.{place-below}
use Rattle.commit_store.specs.Commits.{committed_at}
use Rattle.group_machine.specs.Cluster.{ClusterState}
use Rattle.group_laws.specs.Rounds.{without_flags, seat_without_flags}
use Rattle.group_machine.specs.Slots.{each_changed, present, reseated_from}
use Rattle.group_machine.specs.State.{GroupState, name_of, owner_of}
use Rattle.group_machine.specs.declared.group.Move.{Move}
use Rattle.group_machine.specs.declared.group.Seat.{Seat}
use Rattle.group_machine.specs.declared.group.Slot.{Slot}
use Rattle.group_machine.proofs.PresentLemmas.{present_each}
use Rattle.script.specs.declared.plan.Change.{Change}
use Rattle.partitioner.specs.declared.topic.Topic.{Topic}
use Rattle.workers.specs.Plans.{settled}
use Rattle.workers.specs.Runs.{IsRunRefusal}
use Rattle.command_line.specs.declared.options.Options.{Options}
use Rattle.ingest.specs.RecordFaults.{fault_or, first_fault, IsKeyFault}
use Rattle.report_rows.specs.CountRows.{counts_of, count_rows, listed_rows, top_rows, AreCountsByNumber}
use Rattle.report_rows.specs.Rows.{total_row}
use Rattle.report_rows.specs.ReplayRows.{closing_rows, committed_count_rows, listed_committed_rows, committed_total, appended_total, end_of, move_row, move_rows, name_or_empty, offset_row, offset_rows, owner_row, owner_rows, rows_below}
use Rattle.run_report.specs.RunReport.{ended_rows, group_rows, records_to, report_of_plan, text_of_run}
use Rattle.run_report.specs.Private.Runs.{EndsRun, IsRunOver}
use Rattle.report_rows.proofs.Counts.{counts-are}
use Rattle.ingest.specs.Records.{partition_counts, partition_of_record}
use Rattle.ingest.proofs.Placed.{log-long, partitions-are}
use Rattle.report_rows.proofs.Replayed.{counted_is}

-- ---- rows do not depend on flags
name_reseated : (m : ℕ) (f : ℕ → Option Seat → Option Seat) (slots : List Slot) (k : ℕ)
    → option_map (λ (s : Slot). s.name) (slice_get (reseated_from m f slots) k) ≡ option_map (λ (s : Slot). s.name) (slice_get slots k)
name_reseated m f [] k = refl
name_reseated m f (s ∷ slots) zero = refl
name_reseated m f (s ∷ slots) (suc k) = name_reseated (suc m) f slots k

name_without_flags : (g : GroupState) (member : ℕ) → name_of (without_flags g) member ≡ name_of g member
name_without_flags g zero = refl
name_without_flags g (suc k) = name_reseated 1 (λ m. option_map seat_without_flags) g.slots k

named_without_flags : (g : GroupState) (member : Option ℕ) → name_or_empty (without_flags g) member ≡ name_or_empty g member
named_without_flags g None = refl
named_without_flags g (Some member) = ap (λ name. unwrap_or name []) (name_without_flags g member)

found_without_flags : (p : ℕ × Seat → Bool) → ((m : ℕ) (x : Seat) → p (m, seat_without_flags x) ≡ p (m, x)) → (ms : List (ℕ × Seat))
    → option_map (λ (m : ℕ × Seat). m.0) (find p (map (λ (m : ℕ × Seat). (m.0, seat_without_flags m.1)) ms)) ≡ option_map (λ (m : ℕ × Seat). m.0) (find p ms)
found_without_flags p same [] = refl
found_without_flags p same (m ∷ ms) = rw (same m.0 m.1) (go (p m) _ _ (found_without_flags p same ms))
  where
    go : (b : Bool) (xs ys : Option (ℕ × Seat)) → option_map (λ (m : ℕ × Seat). m.0) xs ≡ option_map (λ (m : ℕ × Seat). m.0) ys
        → option_map (λ (m : ℕ × Seat). m.0) (cond b (Some (m.0, seat_without_flags m.1)) xs) ≡ option_map (λ (m : ℕ × Seat). m.0) (cond b (Some m) ys)
    go true xs ys e = refl
    go false xs ys e = e

present_without_flags : (p : ℕ × Seat → Bool) → ((m : ℕ) (x : Seat) → p (m, seat_without_flags x) ≡ p (m, x)) → (slots : List Slot)
    → option_map (λ (m : ℕ × Seat). m.0) (find p (present (each_changed (λ m. seat_without_flags) slots))) ≡ option_map (λ (m : ℕ × Seat). m.0) (find p (present slots))
present_without_flags p same slots = ap (λ ms. option_map (λ (m : ℕ × Seat). m.0) (find p ms)) (present_each (λ m. seat_without_flags) slots) ∙ found_without_flags p same (present slots)

owner_without_flags : (g : GroupState) (q : ℕ) → owner_of (without_flags g) q ≡ owner_of g q
owner_without_flags g q = present_without_flags _ (λ m x. refl) g.slots

move_without_flags : (topics : List Topic) (g : GroupState) (move : Move) → move_row topics (without_flags g) move ≡ move_row topics g move
unfolding move_row
move_without_flags topics g move = rw (named_without_flags g move.last, named_without_flags g (Some move.holder)) refl

moves_without_flags : (topics : List Topic) (g : GroupState) (moves : List Move) → move_rows topics (without_flags g) moves ≡ move_rows topics g moves
unfolding move_rows
moves_without_flags topics g [] = refl
moves_without_flags topics g (move ∷ moves) = ap₂ (λ a b. a ++ b) (move_without_flags topics g move) (moves_without_flags topics g moves)

owner_row_without_flags : (topics : List Topic) (g : GroupState) (p : ℕ) → owner_row topics (without_flags g) p ≡ owner_row topics g p
unfolding owner_row
owner_row_without_flags topics g p = rw (owner_without_flags g p, named_without_flags g (owner_of g p)) refl

rows_same : (n : ℕ) (row other : ℕ → List ℕ) → ((p : ℕ) → p < n → row p ≡ other p) → rows_below n row ≡ rows_below n other
rows_same zero row other h = refl
rows_same (suc n) row other h = ap₂ (λ a b. a ++ b) (rows_same n row other (λ p lt. h p (omega (arith, lt)))) (h n (omega arith))

group_without_flags : (topics : List Topic) (g : GroupState) → group_rows topics (without_flags g) ≡ group_rows topics g
group_without_flags topics g = ap₂ (λ a b. a ++ b) (moves_without_flags topics g g.moves) (rows_same g.partitions (owner_row topics (without_flags g)) (owner_row topics g) (λ p lt. owner_row_without_flags topics g p))

-- ---- the ends of the logs
partitions_are : (counts : List ℕ) (records : List Keyed) (plan : List Change) (s : ClusterState) → IsRunOver counts records plan s → s.logs.partitions ≡ sum counts
partitions_are counts records plan s h = partitions-are s.logs counts h.valid.logs h.counts_are

ends_are : (counts : List ℕ) (records : List Keyed) (plan : List Change) (s : ClusterState) → IsRunOver counts records plan s → (p : ℕ) → p < s.group.partitions
    → (committed_at s.store p ≡ records_to counts records p) × (end_of s.logs p ≡ records_to counts records p)
ends_are counts records plan s h p lt =
    let below : p < s.logs.partitions = omega (arith, lt, h.valid.logs_partitions) in
    let long : end_of s.logs p ≡ records_to counts records p = log-long s.logs counts records p h.counts_are h.logs below in
    (h.run.ends p below ∙ long, long)

offsets_are : (topics : List Topic) (counts : List ℕ) (records : List Keyed) (plan : List Change) (s : ClusterState) → IsRunOver counts records plan s → offset_rows topics s ≡ ended_rows topics counts records
offsets_are topics counts records plan s h =
    let n : s.group.partitions ≡ sum counts = sym h.valid.logs_partitions ∙ partitions_are counts records plan s h in
    rows_same s.group.partitions (λ p. offset_row topics p (committed_at s.store p) (end_of s.logs p)) (λ p. offset_row topics p (records_to counts records p) (records_to counts records p))
    (λ p lt. let ends = ends_are counts records plan s h p lt in ap₂ (offset_row topics p) ends.0 ends.1)
    ∙ ap (λ m. rows_below m (λ p. offset_row topics p (records_to counts records p) (records_to counts records p))) n

-- ---- the totals: each record is in one partition
at_partition : ℕ → ℕ → ℕ
at_partition place p = cond (place == p) 1 0

not_there : (place n : ℕ) → n ≤ place → sum_below n (at_partition place) ≡ 0
unfolding at_partition
not_there place zero le = refl
not_there place (suc n) le =
    let none : (place == n) ≡ false = elim (eqb_tells place n) [
      | inl t ↦ absurd (omega (arith, t.1, le))
      | inr f ↦ f.0
    ] in
    rw none (omega (arith, not_there place n (omega (arith, le))))

there : (place n : ℕ) → place < n → sum_below n (at_partition place) ≡ 1
unfolding at_partition
there place zero lt = absurd (omega (arith, lt))
there place (suc n) lt =
    elim (eqb_tells place n) [
      | inl t ↦ rw t.0 (omega (arith, not_there place n (omega (arith, t.1))))
      | inr f ↦ rw f.0 (omega (arith, there place n (omega (arith, lt, f.1))))
    ]

one_record : (b : Bool) (keyed : Keyed) (records : List Keyed) → length (cond b (keyed ∷ records) records) ≡ cond b 1 0 + length records
one_record true keyed records = omega arith
one_record false keyed records = omega arith

parted : (n : ℕ) (counts : List ℕ) (records : List Keyed) → All (λ keyed. partition_of_record counts keyed < n) records → sum_below n (records_to counts records) ≡ length records
unfolding at_partition
parted n counts [] placed = sum-zero n
parted n counts (keyed ∷ records) placed =
    let place = partition_of_record counts keyed in
    sum-same n (records_to counts (keyed ∷ records)) (λ p. at_partition place p + records_to counts records p)
    (λ p lt. one_record (partition_of_record counts keyed == p) keyed (filter (λ (k : Keyed). partition_of_record counts k == p) records))
    ∙ sum-plus n (at_partition place) (records_to counts records)
    ∙ ap (λ m. m + sum_below n (records_to counts records)) (there place n (All-head (λ (k : Keyed). partition_of_record counts k < n) keyed records placed))
    ∙ omega (arith, parted n counts records (All-tail (λ (k : Keyed). partition_of_record counts k < n) keyed records placed))

totals_are : (counts : List ℕ) (records : List Keyed) (plan : List Change) (s : ClusterState) → IsRunOver counts records plan s → (committed_total s ≡ length records) × (appended_total s ≡ length records)
totals_are counts records plan s h =
    let n : s.group.partitions ≡ s.logs.partitions = sym h.valid.logs_partitions in
    let placed : All (λ keyed. partition_of_record counts keyed < s.logs.partitions) records =
    All-weaker (IsOfTopic s.logs) (λ keyed. partition_of_record counts keyed < s.logs.partitions) (λ keyed topic.
    subst (λ cs. partition_of_record cs keyed < s.logs.partitions) h.counts_are (place-below s.logs keyed h.valid.logs topic)) records h.logs.topics in
    let all : sum_below s.group.partitions (records_to counts records) ≡ length records = ap (λ m. sum_below m (records_to counts records)) n ∙ parted s.logs.partitions counts records placed in (
      sum-same s.group.partitions (committed_at s.store) (records_to counts records) (λ p lt. (ends_are counts records plan s h p lt).0) ∙ all,
      sum-same s.group.partitions (end_of s.logs) (records_to counts records) (λ p lt. (ends_are counts records plan s h p lt).1) ∙ all,
    )

-- ---- the counts: each of the distinct keys was counted at least once
one_more : (seen : List Key) (x k : Key) → is_interned (with_key seen x) k ≡ true → (is_interned seen k ≡ true) ⊎ (bytes_eq k x ≡ true)
one_more seen x k h = go (is_interned seen x) h
  where
    last : (a b : Bool) → (a || (b || false)) ≡ true → (a ≡ true) ⊎ (b ≡ true)
    last true b e = inl refl
    last false true e = inr refl
    last false false e = absurd (cc e)

    go : (b : Bool) → is_interned (cond b seen (seen ++ x ∷ [])) k ≡ true → (is_interned seen k ≡ true) ⊎ (bytes_eq k x ≡ true)
    go true e = inl e
    go false e = last (is_interned seen k) (bytes_eq k x) (sym (list_any-append (bytes_eq k) seen (x ∷ [])) ∙ e)

interned_there : (seen keys : List Key) (k : Key) → is_interned (fold with_key seen keys) k ≡ true → (is_interned seen k ≡ true) ⊎ (is_interned keys k ≡ true)
interned_there seen [] k h = inl h
interned_there seen (x ∷ keys) k h = go (interned_there (with_key seen x) keys k h)
  where
    or_left : (b d : Bool) → b ≡ true → (b || d) ≡ true
    or_left true d e = refl
    or_left false d e = absurd (cc e)

    or_right : (b d : Bool) → d ≡ true → (b || d) ≡ true
    or_right true d e = refl
    or_right false d e = e

    first : (is_interned seen k ≡ true) ⊎ (bytes_eq k x ≡ true) → (is_interned seen k ≡ true) ⊎ (is_interned (x ∷ keys) k ≡ true)
    first (inl e) = inl e
    first (inr e) = inr (or_left (bytes_eq k x) (is_interned keys k) e)

    go : (is_interned (with_key seen x) k ≡ true) ⊎ (is_interned keys k ≡ true) → (is_interned seen k ≡ true) ⊎ (is_interned (x ∷ keys) k ≡ true)
    go (inl e) = first (one_more seen x k e)
    go (inr e) = inr (or_right (bytes_eq k x) (is_interned keys k) e)

counted_there : (keys : List Key) (k : Key) → is_interned keys k ≡ true → plain keys k ≡ 0 → ⊥
counted_there [] k h e = absurd (cc h)
counted_there (x ∷ keys) k h e = go (bytes_eq k x) (counted_there keys k) h (sym (sum_by-cons (λ y. cond (bytes_eq k y) 1 0) x keys) ∙ e)
  where
    go : (b : Bool) → (is_interned keys k ≡ true → plain keys k ≡ 0 → ⊥) → (b || is_interned keys k) ≡ true → cond b 1 0 + plain keys k ≡ 0 → ⊥
    go true later h e = omega (arith, e)
    go false later h e = later h (omega (arith, e))

distinct_counted : (keys : List Key) (k : Key) → is_interned (distinct keys) k ≡ true → plain keys k ≡ 0 → ⊥
unfolding distinct
distinct_counted keys k h = elim (interned_there [] keys k h) [
  | inl e ↦ absurd (cc e)
  | inr e ↦ counted_there keys k e
]

counted_rows : (keys some : List Key) → ((k : Key) → is_interned some k ≡ true → plain keys k ≡ 0 → ⊥) → committed_count_rows some (map (plain keys) some) ≡ count_rows some (map (plain keys) some)
unfolding committed_count_rows count_rows
counted_rows keys [] h = refl
counted_rows keys (k ∷ some) h =
    ap₂ (λ a b. a ++ b) (counted_is k (plain keys k) (h k (here k))) (counted_rows keys some (λ x e. h x (later (bytes_eq x k) (is_interned some x) e)))
  where
    here : (k : Key) → is_interned (k ∷ some) k ≡ true
    here k = let same : bytes_eq k k ≡ true = (bytes_eq-Decides k k).1 refl in rw same refl

    later : (b d : Bool) → d ≡ true → (b || d) ≡ true
    later true d e = refl
    later false d e = e

by_number : (counts : List ℕ) (records : List Keyed) (plan : List Change) (s : ClusterState) → IsRunOver counts records plan s → AreCountsByNumber s.logs s.store.counts
by_number counts records plan s h = record {
  one_each = h.valid.a_counter_each;
  counted = λ n lt. ap (λ m. get_or s.store.counts m 0) (sym (number-back s.logs.keys n h.valid.logs.without_repeats lt)) ∙ h.run.counts (key_at s.logs.keys n);
}

counts_are : (top : Option ℕ) (counts : List ℕ) (records : List Keyed) (plan : List Change) (s : ClusterState) → IsRunOver counts records plan s
    → listed_committed_rows top s.logs.keys s.store.counts ≡ listed_rows top (distinct (keys_in records)) (counts_of (keys_in records))
unfolding counts_of
counts_are None counts records plan s h =
    ap₂ committed_count_rows h.logs.numbers (counts-are records s.logs s.store.counts h.valid.logs h.logs (by_number counts records plan s h))
    ∙ counted_rows (keys_in records) (distinct (keys_in records)) (distinct_counted (keys_in records))
counts_are (Some most) counts records plan s h =
    ap₂ (top_rows most) h.logs.numbers (counts-are records s.logs s.store.counts h.valid.logs h.logs (by_number counts records plan s h))

-- ---- the text
concatenated : (m o f c t : List ℕ) → m ++ (((o ++ f) ++ c) ++ t) ≡ ((m ++ o) ++ f) ++ (c ++ t)
concatenated m o f c t =
    sym (append_assoc m ((o ++ f) ++ c) t) ∙ ap (λ x. x ++ t) (sym (append_assoc m (o ++ f) c) ∙ ap (λ x. x ++ c) (sym (append_assoc m o f)))
    ∙ append_assoc ((m ++ o) ++ f) c t

-- the moves and the closing rows after a run
pub text_is : (topics : List Topic) (top : Option ℕ) (counts : List ℕ) (records : List Keyed) (plan : List Change) (s : ClusterState) → IsRunOver counts records plan s
    → move_rows topics s.group s.group.moves ++ closing_rows topics top s ≡ text_of_run topics top counts records plan
unfolding text_of_run
text_is topics top counts records plan s h =
    let keys = keys_in records in
    let n = sum counts in
    let group : group_rows topics s.group ≡ group_rows topics (settled n plan) = sym (group_without_flags topics s.group) ∙ ap (group_rows topics) (h.run.group ∙ ap (λ m. settled m plan) (partitions_are counts records plan s h)) in
    let long : length records ≡ length keys = sym (length-map records (λ (keyed : Keyed). keyed.1)) in
    let totals = totals_are counts records plan s h in
    concatenated (move_rows topics s.group s.group.moves) (owner_rows topics s.group) (offset_rows topics s) (listed_committed_rows top s.logs.keys s.store.counts) (total_row (committed_total s) (appended_total s))
    ∙ ap (λ g. (g ++ offset_rows topics s) ++ (listed_committed_rows top s.logs.keys s.store.counts ++ total_row (committed_total s) (appended_total s))) group
    ∙ ap (λ o. (group_rows topics (settled n plan) ++ o) ++ (listed_committed_rows top s.logs.keys s.store.counts ++ total_row (committed_total s) (appended_total s))) (offsets_are topics counts records plan s h)
    ∙ ap (λ c. (group_rows topics (settled n plan) ++ ended_rows topics counts records) ++ (c ++ total_row (committed_total s) (appended_total s))) (counts_are top counts records plan s h)
    ∙ ap₂ (λ c t. (group_rows topics (settled n plan) ++ ended_rows topics counts records) ++ (listed_rows top (distinct keys) (counts_of keys) ++ total_row c t)) (totals.0 ∙ long) (totals.1 ∙ long)

pub text_reported : (options : Options) (records : List Keyed) (plan : List Change) (text : List ℕ) → first_fault (partition_counts options) [] records ≡ None
    → text ≡ text_of_run options.topics.items options.top (partition_counts options) records plan → report_of_plan options records plan ≡ Ok text
unfolding report_of_plan
text_reported options records plan text none is = ap (λ fault. fault_or fault (text_of_run options.topics.items options.top (partition_counts options) records plan)) none ∙ ap Ok (sym is)

fault_reported : (options : Options) (records : List Keyed) (plan : List Change) (fault : Refusal) → first_fault (partition_counts options) [] records ≡ Some fault → report_of_plan options records plan ≡ Err fault
unfolding report_of_plan
fault_reported options records plan fault some = ap (λ o. fault_or o (text_of_run options.topics.items options.top (partition_counts options) records plan)) some

is_ok : {T : Type 0} (expected : Result T Refusal) (text : T) → expected ≡ Ok text → IsOk expected
is_ok expected text e = rw e refl

key_ends : (report : Result (List ℕ) Refusal) (e : Refusal) → IsKeyFault e → (e ≡ r.Memory) ⊎ (report ≡ Err e) → EndsRun report e
key_ends report r.KeyTooLong k (inr h) = h
key_ends report r.LogFull k (inr h) = h
key_ends report r.Memory k h = tt
key_ends report r.KeyTooLong k (inl m) = absurd (cc m)
key_ends report r.LogFull k (inl m) = absurd (cc m)
key_ends report e k h = absurd k

pub key_ends_run : (options : Options) (records : List Keyed) (plan : List Change) (e : Refusal) → IsKeyFault e → (e ≡ r.Memory) ⊎ (first_fault (partition_counts options) [] records ≡ Some e) → EndsRun (report_of_plan options records plan) e
key_ends_run options records plan e k (inl m) = key_ends (report_of_plan options records plan) e k (inl m)
key_ends_run options records plan e k (inr h) = key_ends (report_of_plan options records plan) e k (inr (fault_reported options records plan e h))

pub refusal_ends_run : (options : Options) (records : List Keyed) (plan : List Change) (e : Refusal) → first_fault (partition_counts options) [] records ≡ None → IsRunRefusal e → EndsRun (report_of_plan options records plan) e
refusal_ends_run options records plan e none h = go h
  where
    reported : IsOk (report_of_plan options records plan)
    reported = is_ok (report_of_plan options records plan) _ (text_reported options records plan _ none refl)

    go : IsRunRefusal e → EndsRun (report_of_plan options records plan) e
    go (inl m) = subst (EndsRun (report_of_plan options records plan)) (sym m) tt
    go (inr (inl m)) = subst (EndsRun (report_of_plan options records plan)) (sym m) reported
    go (inr (inr m)) = subst (EndsRun (report_of_plan options records plan)) (sym m) reported
