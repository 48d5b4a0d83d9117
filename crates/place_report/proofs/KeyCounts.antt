-- The records of each key in each topic, counted by key number.
use Rattle.std.proofs.Common.{◌≡◌, ◌≢◌, ◌∙◌, ◌+◌, ◌-◌, ◌*◌, ◌^◌, ◌%◌, ◌<◌, ◌≤◌, ℕ, zero, suc, List, [], ◌∷◌, ◌++◌, length, take, get_or, get_or-take, sym, ap, refl, subst, arith, inl, inr, suc-mul}
use Rattle.std.specs.Prelude.{◌==◌, ◌⊎◌}
use Rattle.std.specs.List.{sum}
use Rattle.std.proofs.lemmas.Bool.{cases_eq, cases_lt}
use Rattle.std.proofs.Math.Seq.{get_or-append_seam}
use Rattle.std.proofs.lemmas.List.{get_or_append_left, get_or_past}
use Rattle.std.proofs.lemmas.List.Sums.{count_by-le-length, sum_by_more, sum_by_more_le}
use Rattle.std.proofs.lemmas.Nat.{mul-le}
use Rattle.lane_words.specs.Sums.{sum_below}
use Rattle.keyed_table.specs.Counts as table
use Rattle.keyed_table.proofs.Elements.{occurs-somewhere}
use Rattle.keyed_table.proofs.Raised.{counter-raised, length-raised}
use Rattle.partitioner.specs.Place.{AreCounts, partitions_before, place_in_topic, place_of}
use Rattle.partition_log.specs.Keys.{Key, key_at, plain}
use Rattle.partition_log.specs.Logs.{IsValidLogs, PartitionLogs, keys_of_log, log_at, place_in}
use Rattle.partition_log.proofs.Numbered.{by_number, number-back}
use Rattle.place_report.specs.Private.KeyCounts.{AreCountsBetween, AreTopicCounts, HaveTopicCounts, so_far}

-- ---- counters of some logs
most_so_far : (l : PartitionLogs) (p n : ℕ) → IsValidLogs l → so_far l p n ≤ p * (2 ^ 32 - 1)
most_so_far l zero n a = omega arith
most_so_far l (suc p) n a =
    let step : suc p * (2 ^ 32 - 1) ≡ p * (2 ^ 32 - 1) + (2 ^ 32 - 1) = suc-mul p (2 ^ 32 - 1) in
    omega (arith, step, most_so_far l p n a, a.few_records p, count_by-le-length (λ y. n == y) (log_at l p))

pub have_counters : (l : PartitionLogs) (from p : ℕ) (counts : List ℕ) → IsValidLogs l → AreCountsBetween l from p counts → table.HaveCounters counts (log_at l p)
have_counters l from p counts a h x more =
    let there = occurs-somewhere (log_at l p) x more in
    omega (arith, there.2, (a.entries p there.0 there.1).numbered, h.one_each)

pub sums_fit : (l : PartitionLogs) (from p : ℕ) (counts : List ℕ) → IsValidLogs l → AreCountsBetween l from p counts → p < l.partitions → table.SumsFit counts (log_at l p)
sums_fit l from p counts a h lt x =
    let some = count_by-le-length (λ y. x == y) (log_at l p) in
    elim (cases_lt x (length l.keys)) [
      | inl interned ↦
          let most : p * (2 ^ 32 - 1) ≤ 4096 * (2 ^ 32 - 1) = mul-le p (2 ^ 32 - 1) 4096 (2 ^ 32 - 1) (omega (arith, lt, a.few_partitions)) (omega arith) in
          omega (arith, h.counted x interned, most_so_far l p x a, most, some, a.few_records p)
      | inr past ↦ omega (arith, get_or_past counts x 0 (omega (arith, h.one_each, past)), some, a.few_records p)
    ]

pub next_counts : (l : PartitionLogs) (from p : ℕ) (counts : List ℕ) → AreCountsBetween l from p counts → AreCountsBetween l from (p + 1) (table.raised counts (log_at l p))
unfolding table.raised
next_counts l from p counts h = record {
  one_each = length-raised 0 counts (log_at l p) ∙ h.one_each;
  counted = λ n lt.
      let next : p + 1 ≡ suc p = omega arith in
      let at_n : 0 + n ≡ n = omega arith in
      let raised = counter-raised 0 counts (log_at l p) n (omega (arith, lt, h.one_each)) ∙ ap (λ m. get_or counts n 0 + table.plain (log_at l p) m) at_n in
      let sum : so_far l from n + (get_or counts n 0 + table.plain (log_at l p) n) ≡ so_far l p n + table.plain (log_at l p) n = omega (arith, h.counted n lt) in
      ap (λ m. so_far l from n + m) raised ∙ sum ∙ ap (λ q. so_far l q n) (sym next);
}

-- ---- topics have partitions of their own
next_topic : (counts : List ℕ) (t : ℕ) → t < length counts → partitions_before counts (t + 1) ≡ partitions_before counts t + get_or counts t 0
next_topic counts t lt = sum_by_more (λ (n : ℕ). n) counts t 0 lt

no_less : (counts : List ℕ) (t more : ℕ) → t + more ≤ length counts → partitions_before counts t ≤ partitions_before counts (t + more)
no_less counts t zero le = let e : t + 0 ≡ t = omega arith in omega (arith, ap (partitions_before counts) e)
no_less counts t (suc more) le =
    let e : t + suc more ≡ (t + more) + 1 = omega arith in
    omega (arith, ap (partitions_before counts) e, next_topic counts (t + more) (omega (arith, le)), no_less counts t more (omega (arith, le)))

later_topic : (counts : List ℕ) (t u : ℕ) → t < u → u < length counts → partitions_before counts t + get_or counts t 0 ≤ partitions_before counts u
later_topic counts t u lt within =
    let e : (t + 1) + (u - (t + 1)) ≡ u = omega arith in
    omega (arith, next_topic counts t (omega (arith, lt, within)), no_less counts (t + 1) (u - (t + 1)) (omega (arith, lt, within)), ap (partitions_before counts) e)

in_topic : (counts : List ℕ) (t : ℕ) (key : Key) → AreCounts counts → t < length counts
    → (partitions_before counts t ≤ place_in_topic counts t key) × (place_in_topic counts t key < partitions_before counts t + get_or counts t 0)
unfolding place_of
in_topic counts t key a lt =
    let some : 1 ≤ get_or counts t 0 = a.each t 0 lt in
    (omega arith, omega (arith, some))

topics_apart : (counts : List ℕ) (t u : ℕ) (key : Key) → AreCounts counts → t < length counts → u < length counts → partitions_before counts t ≤ place_in_topic counts u key
    → place_in_topic counts u key < partitions_before counts t + get_or counts t 0 → t ≡ u
topics_apart counts t u key a t_in u_in from to =
    let there = in_topic counts u key a u_in in
    elim (cases_lt t u) [
      | inl before ↦ absurd (omega (arith, later_topic counts t u before u_in, there.0, to))
      | inr not_before ↦ elim (cases_lt u t) [
        | inl behind ↦ absurd (omega (arith, later_topic counts u t behind t_in, there.1, from))
        | inr not_behind ↦ omega (arith, not_before, not_behind)
      ]
    ]

-- ---- of a topic's logs one has the key
none_between : (f : ℕ → ℕ) (from more : ℕ) → ((q : ℕ) → from ≤ q → q < from + more → f q ≡ 0) → sum_below (from + more) f ≡ sum_below from f
none_between f from zero none = let e : from + 0 ≡ from = omega arith in ap (λ n. sum_below n f) e
none_between f from (suc more) none =
    let e : from + suc more ≡ suc (from + more) = omega arith in
    ap (λ n. sum_below n f) e ∙ omega (arith, none_between f from more (λ q le lt. none q le (omega (arith, lt))), none (from + more) (omega arith) (omega arith))

one_between : (f : ℕ → ℕ) (from more place : ℕ) → from ≤ place → place < from + more → ((q : ℕ) → from ≤ q → q < from + more → q ≢ place → f q ≡ 0) → sum_below (from + more) f ≡ sum_below from f + f place
one_between f from zero place le lt none = absurd (omega (arith, le, lt))
one_between f from (suc more) place le lt none =
    let e : from + suc more ≡ suc (from + more) = omega arith in
    elim (cases_eq place (from + more)) [
      | inl last ↦
          ap (λ n. sum_below n f) e
          ∙ omega (arith, none_between f from more (λ q q_le q_lt. none q q_le (omega (arith, q_lt)) (λ is. absurd (omega (arith, is, last, q_lt)))), ap f last)
      | inr not_last ↦
          ap (λ n. sum_below n f) e
          ∙ omega (arith, one_between f from more place le (omega (arith, lt, not_last)) (λ q q_le q_lt other. none q q_le (omega (arith, q_lt)) other), none (from + more) (omega arith) (omega arith) (λ is. not_last (sym is)))
    ]

zero_or_more : (n : ℕ) → (n ≡ 0) ⊎ (0 < n)
zero_or_more zero = inl refl
zero_or_more (suc n) = inr (omega arith)

-- an entry of a log of the topic is in the partition that the topic assigns to its key
elsewhere_none : (l : PartitionLogs) (t n q : ℕ) → IsValidLogs l → t < length l.counts → n < length l.keys → partitions_before l.counts t ≤ q → q < partitions_before l.counts t + get_or l.counts t 0
    → q ≢ place_in l (t, key_at l.keys n) → table.plain (log_at l q) n ≡ 0
elsewhere_none l t n q a t_in n_in from to other =
    elim (zero_or_more (table.plain (log_at l q) n)) [
      | inl none ↦ none
      | inr some ↦
          let there = occurs-somewhere (log_at l q) n some in
          let entry = (a.entries q there.0 there.1).placed in
          let u = entry.0 in
          let key = key_at l.keys n in
          let goes : place_in l (u, key) ≡ q = ap (λ m. place_in l (u, key_at l.keys m)) (sym there.2) ∙ entry.2 in
          let same : t ≡ u = topics_apart l.counts t u key a.counted t_in entry.1 (omega (arith, goes, from)) (omega (arith, goes, to)) in
          absurd (other (sym goes ∙ ap (λ v. place_in l (v, key)) (sym same)))
    ]

pub topic_counts_are : (l : PartitionLogs) (t from to : ℕ) (counts : List ℕ) → IsValidLogs l → t < length l.counts → from ≡ partitions_before l.counts t → to ≡ from + get_or l.counts t 0 → AreCountsBetween l from to counts
    → AreTopicCounts l t counts
topic_counts_are l t from to counts a t_in from_is to_is h = record {
  one_each = h.one_each;
  counted = λ n lt.
      let key = key_at l.keys n in
      let place = place_in l (t, key) in
      let there = in_topic l.counts t key a.counted t_in in
      let f = λ (q : ℕ). table.plain (log_at l q) n in
      let all = one_between f from (get_or l.counts t 0) place (omega (arith, there.0, from_is)) (omega (arith, there.1, from_is))
      (λ q q_le q_lt other. elsewhere_none l t n q a t_in lt (omega (arith, q_le, from_is)) (omega (arith, q_lt, from_is)) other) in
      omega (arith, h.counted n lt, ap (λ q. sum_below q f) to_is, all);
}

pub topics_next : (l : PartitionLogs) (t from to : ℕ) → t < length l.counts → from ≡ partitions_before l.counts t → to ≡ from + get_or l.counts t 0 → to ≡ partitions_before l.counts (t + 1)
topics_next l t from to lt from_is to_is = omega (arith, next_topic l.counts t lt, from_is, to_is)

pub one_table_more : (l : PartitionLogs) (t : ℕ) (tables more : List table.Counters) (new : table.Counters) → more ≡ tables ++ new ∷ [] → length tables ≡ t → AreTopicCounts l t new.counts
    → ((u : ℕ) (d : table.Counters) → u < t → AreTopicCounts l u (get_or tables u d).counts)
    → (u : ℕ) (d : table.Counters) → u < t + 1 → AreTopicCounts l u (get_or more u d).counts
one_table_more l t tables more new is long last before u d lt =
    elim (cases_lt u t) [
      | inl earlier ↦
          let same : get_or more u d ≡ get_or tables u d = ap (λ ts. get_or ts u d) is ∙ get_or_append_left tables (new ∷ []) d u (omega (arith, earlier, long)) in
          subst (λ (one : table.Counters). AreTopicCounts l u one.counts) (sym same) (before u d earlier)
      | inr not_earlier ↦
          let at : u ≡ length tables = omega (arith, not_earlier, lt, long) in
          let same : get_or more u d ≡ new = ap (λ ts. get_or ts u d) is ∙ ap (λ v. get_or (tables ++ new ∷ []) v d) at ∙ get_or-append_seam tables new [] d in
          let topic : t ≡ u = omega (arith, at, long) in
          subst (λ (v : ℕ). AreTopicCounts l v (get_or more u d).counts) topic (subst (λ (one : table.Counters). AreTopicCounts l t one.counts) (sym same) last)
    ]

pub count_named : (l : PartitionLogs) (p n : ℕ) → IsValidLogs l → n < length l.keys → plain (keys_of_log l p) (key_at l.keys n) ≡ table.plain (log_at l p) n
count_named l p n a lt =
    by_number l.keys (log_at l p) (key_at l.keys n) a.without_repeats (λ i within. (a.entries p i within).numbered)
    ∙ ap (λ m. table.plain (log_at l p) m) (number-back l.keys n a.without_repeats lt)
