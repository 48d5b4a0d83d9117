-- Logs remain valid when a record is appended.
use Rattle.std.proofs.Common.{◌≡◌, ◌≢◌, ◌∙◌, ◌+◌, ◌<◌, ◌≤◌, ℕ, Bool, true, false, List, [], ◌∷◌, ◌++◌, length, map, get_or, replicate, suc, zero, sym, ap, refl, arith, inl, inr, length-append, subst}
use Rattle.std.specs.Prelude.{◌⊎◌, ◌||◌, ◌&&◌, if◌then◌else◌, not, Contains, slice_set, nat_le, nat_lt, IsOk, Ok, Err}
use Rattle.std.specs.List.{sum}
use Rattle.std.proofs.Math.ListN.{length-set}
use Rattle.std.proofs.Common.{get_or-set_same, get_or-set_other}
use Rattle.std.proofs.lemmas.Bool.{cases_eq, cases_lt, le-leb}
use Rattle.std.proofs.lemmas.Bool.Decides.{nat_tests}
use Rattle.std.proofs.lemmas.List.{get_or_append_left}
use Rattle.std.proofs.lemmas.List.Elements.{Contains-append_left}
use Rattle.std.proofs.Math.Seq.{get_or-append_seam}
use Rattle.lane_words.specs.Answers.{Answers}
use Rattle.lane_words.specs.declared.limits.TheConstants.{LONGEST_KEY, MOST_RECORDS}
use Rattle.lane_words.specs.declared.Refusal.{Refusal}
use Rattle.lane_words.specs.declared.Refusal.TheVariants as r
use Rattle.partitioner.proofs.Counts.{place_in_topic-below, some_partitions}
use Rattle.partition_log.specs.Keys.{Key, Keyed, distinct, is_interned, key_at, id_of, with_key}
use Rattle.partition_log.specs.Logs.{AreCounts, AreLogsOf, IsEntryOf, IsOfTopic, IsPlaceOf, IsUsed, IsValidLogs, PartitionLogs, answer_at, exceeds_limits, is_full_for, log_at, place_in, with_record_at}
use Rattle.key_index.proofs.Growth.{grows, stays_without_repeats}

pub log-same : (l : PartitionLogs) (at : ℕ) (key : Key) → at < length l.logs
    → log_at (with_record_at l at key) (at) ≡ log_at l (at) ++ id_of l.keys key ∷ []
log-same l at key lt = get_or-set_same l.logs (at) _ [] lt

pub log-other : (l : PartitionLogs) (at : ℕ) (key : Key) (p : ℕ) → p ≢ at → log_at (with_record_at l at key) p ≡ log_at l p
log-other l at key p ne = get_or-set_other l.logs (at) p _ [] ne

pub is_place : (p q : ℕ) → (p ≡ q) ⊎ (p ≢ q)
is_place p q = cases_eq p q

capacity-records : (a b : Bool) → (a || b) ≡ false → a ≡ false
capacity-records true b h = h
capacity-records false b h = refl

capacity-keys : (a c d : Bool) → (a || (not c && d)) ≡ false → c ≡ false → d ≡ false
capacity-keys true c d h e = absurd (cc h)
capacity-keys false true d h e = absurd (cc e)
capacity-keys false false d h e = h

below : (most n : ℕ) → nat_le most n ≡ false → n < most
below most n e =
    elim (cases_lt n most) [
      | inl lt ↦ lt
      | inr le ↦ absurd (let t = le-leb most n le in cc (t, e))
    ]

pub has_capacity : (keys : List Key) (records : ℕ) (key : Key) → exceeds_limits keys records key ≡ false → records < MOST_RECORDS
has_capacity keys records key h = below MOST_RECORDS records (capacity-records _ _ h)

interned_or_new : (b : Bool) → (b ≡ true) ⊎ (b ≡ false)
interned_or_new true = inl refl
interned_or_new false = inr refl

keys_fit : (keys : List Key) (records : ℕ) (key : Key) → exceeds_limits keys records key ≡ false → length keys ≤ MOST_RECORDS → length (with_key keys key) ≤ MOST_RECORDS
keys_fit keys records key h few =
    let g = grows keys key in
    elim (interned_or_new (is_interned keys key)) [
      | inl interned ↦ let same = g.same_count interned in rw same few
      | inr new ↦ let capacity : length keys < MOST_RECORDS = below MOST_RECORDS (length keys) (capacity-keys (nat_le MOST_RECORDS records) (is_interned keys key) (nat_le MOST_RECORDS (length keys)) h new) in omega (arith, g.by_one, capacity)
    ]

entry-more : (l : PartitionLogs) (at : ℕ) (key : Key) (p n : ℕ) → IsEntryOf l p n → IsEntryOf (with_record_at l at key) p n
entry-more l at key p n e =
    let g = grows l.keys key in record {
      numbered = omega (arith, g.longer, e.numbered);
      placed = subst (λ k. IsPlaceOf l k p) (sym (g.stays n e.numbered)) e.placed;
    }

entries-more : (l : PartitionLogs) (at : ℕ) (key : Key) → IsValidLogs l → IsPlaceOf l key at → at < length l.logs → (p i : ℕ) → i < length (log_at (with_record_at l at key) p)
    → IsEntryOf (with_record_at l at key) p (get_or (log_at (with_record_at l at key) p) i 0)
entries-more l at key a goes lt p i i_in =
    let g = grows l.keys key in
    elim (is_place p (at)) [
      | inr ne ↦
          let same = log-other l at key p ne in
          subst (λ (log : List ℕ). IsEntryOf (with_record_at l at key) p (get_or log i 0)) (sym same) (entry-more l at key p _ (a.entries p i (rw (← same) i_in)))
      | inl is ↦
          let old = log_at l (at) in
          let more : log_at (with_record_at l at key) p ≡ old ++ id_of l.keys key ∷ [] = ap (log_at (with_record_at l at key)) is ∙ log-same l at key lt in
          let long : length (old ++ id_of l.keys key ∷ []) ≡ length old + 1 = length-append old (id_of l.keys key ∷ []) in
          let within : i < length (old ++ id_of l.keys key ∷ []) = rw (← more) i_in in
          subst (λ (log : List ℕ). IsEntryOf (with_record_at l at key) p (get_or log i 0)) (sym more)
          (elim (cases_lt i (length old)) [
            | inl i_old ↦
                subst (λ n. IsEntryOf (with_record_at l at key) p n) (sym (get_or_append_left old (id_of l.keys key ∷ []) 0 i i_old))
                (subst (λ q. IsEntryOf (with_record_at l at key) q (get_or old i 0)) (sym is) (entry-more l at key (at) _ (a.entries (at) i i_old)))
            | inr i_new ↦
                let last : i ≡ length old = omega (arith, long, within, i_new) in
                subst (λ n. IsEntryOf (with_record_at l at key) p n) (sym (ap (λ j. get_or (old ++ id_of l.keys key ∷ []) j 0) last ∙ get_or-append_seam old (id_of l.keys key) [] 0))
                (record { numbered = g.numbered; placed = subst (λ k. IsPlaceOf l k p) (sym g.found) (subst (λ q. IsPlaceOf l key q) (sym is) goes) })
          ])
    ]

contains-more : (l : PartitionLogs) (at : ℕ) (key : Key) (q n : ℕ) → at < length l.logs → Contains (log_at l q) n → Contains (log_at (with_record_at l at key) q) n
contains-more l at key q n lt h =
    elim (is_place q (at)) [
      | inr ne ↦ subst (λ (log : List ℕ). Contains log n) (sym (log-other l at key q ne)) h
      | inl is ↦
          subst (λ (log : List ℕ). Contains log n) (sym (ap (log_at (with_record_at l at key)) is ∙ log-same l at key lt))
          (Contains-append_left (log_at l (at)) (id_of l.keys key ∷ []) n (subst (λ r. Contains (log_at l r) n) is h))
    ]

used-more : (l : PartitionLogs) (at : ℕ) (key : Key) → IsValidLogs l → at < l.partitions → (n : ℕ) → n < length (with_key l.keys key) → IsUsed (with_record_at l at key) n
used-more l at key a within n n_in =
    let g = grows l.keys key in
    let lt : at < length l.logs = rw a.a_log_each within in
    elim (cases_lt n (length l.keys)) [
      | inl n_old ↦ let there = a.used n n_old in (there.0, there.1, contains-more l at key there.0 n lt there.2)
      | inr n_new ↦
          let is : n ≡ id_of l.keys key = g.new_only n n_new n_in in
          let old = log_at l at in
          let long : length (old ++ id_of l.keys key ∷ []) ≡ length old + 1 = length-append old (id_of l.keys key ∷ []) in
          let last : Contains (old ++ id_of l.keys key ∷ []) n = (length old, omega (arith, long), get_or-append_seam old (id_of l.keys key) [] n ∙ sym is) in
          (at, within, subst (λ (log : List ℕ). Contains log n) (sym (log-same l at key lt)) last)
    ]

records-more : (l : PartitionLogs) (at : ℕ) (key : Key) → IsValidLogs l → at < length l.logs → is_full_for l at key ≡ false → (p : ℕ) → length (log_at (with_record_at l at key) p) ≤ MOST_RECORDS
records-more l at key a lt capacity p =
    elim (is_place p (at)) [
      | inr ne ↦ rw (log-other l at key p ne) (a.few_records p)
      | inl is ↦
          let old = log_at l (at) in
          let long : length (log_at (with_record_at l at key) p) ≡ length old + 1 =
          ap (λ q. length (log_at (with_record_at l at key) q)) is ∙ ap length (log-same l at key lt) ∙ length-append old (id_of l.keys key ∷ []) in
          omega (arith, long, has_capacity l.keys (length old) key capacity)
    ]

short-more : (l : PartitionLogs) (key : Key) → IsValidLogs l → length key ≤ LONGEST_KEY → (n : ℕ) → n < length (with_key l.keys key) → length (key_at (with_key l.keys key) n) ≤ LONGEST_KEY
short-more l key a short n n_in =
    let g = grows l.keys key in
    elim (cases_lt n (length l.keys)) [
      | inl n_old ↦ rw (g.stays n n_old) (a.short n n_old)
      | inr n_new ↦
          let stands : key_at (with_key l.keys key) n ≡ key = ap (key_at (with_key l.keys key)) (g.new_only n n_new n_in) ∙ g.found in
          rw stands short
    ]

pub valid : (l : PartitionLogs) (at : ℕ) (key : Key) → IsValidLogs l → IsPlaceOf l key at → at < l.partitions → length key ≤ LONGEST_KEY → is_full_for l at key ≡ false → IsValidLogs (with_record_at l at key)
valid l at key a goes within short capacity =
    let lt : at < length l.logs = rw a.a_log_each within in record {
      counted = a.counted;
      in_all = a.in_all;
      some_partitions = a.some_partitions;
      few_partitions = a.few_partitions;
      a_log_each = length-set l.logs at _ ∙ a.a_log_each;
      without_repeats = stays_without_repeats l.keys key a.without_repeats;
      short = short-more l key a short;
      entries = entries-more l at key a goes lt;
      used = used-more l at key a within;
      few_keys = keys_fit l.keys (length (log_at l at)) key capacity a.few_keys;
      few_records = records-more l at key a lt capacity;
    }

pub place-below : (l : PartitionLogs) (keyed : Keyed) → IsValidLogs l → IsOfTopic l keyed → place_in l keyed < l.partitions
place-below l keyed a topic =
    let within = place_in_topic-below l.counts keyed.0 keyed.1 a.counted topic in
    omega (arith, within, a.in_all)

pub goes-below : (l : PartitionLogs) (key : Key) (at : ℕ) → IsValidLogs l → IsPlaceOf l key at → at < l.partitions
goes-below l key at a goes = subst (λ p. p < l.partitions) goes.2 (place-below l (goes.0, key) a goes.1)

capacity-of : (b : Bool) (n offset : ℕ) → Answers {T = ℕ} (if b then Err r.LogFull else Ok n) (Ok offset) → b ≡ false
capacity-of true n offset (inl e) = absurd (cc e)
capacity-of true n offset (inr e) = absurd (cc e)
capacity-of false n offset answer = refl

pub grown : (l : PartitionLogs) (key : Key) (at offset : ℕ) (keys : List Key) (logs : List (List ℕ)) → IsValidLogs l → IsPlaceOf l key at → length key ≤ LONGEST_KEY
    → keys ≡ with_key l.keys key → logs ≡ slice_set l.logs at (get_or l.logs at [] ++ id_of l.keys key ∷ [])
    → Answers {T = ℕ} (if exceeds_limits l.keys (length (get_or l.logs at [])) key then Err r.LogFull else Ok (length (get_or l.logs at []))) (Ok offset)
    → (let new : PartitionLogs = record { counts = l.counts; partitions = l.partitions; keys = keys; logs = logs } in (new ≡ with_record_at l at key) × IsValidLogs new)
grown l key at offset keys logs a goes short ks ls answer =
    let same : (let new : PartitionLogs = record { counts = l.counts; partitions = l.partitions; keys = keys; logs = logs } in new) ≡ with_record_at l at key = rw (ks, ls) refl in
    let capacity : is_full_for l at key ≡ false = capacity-of _ _ _ answer in
    (same, subst IsValidLogs (sym same) (valid l at key a goes (goes-below l key at a goes) short capacity))

fits : {T : Type 0} (a b : Bool) (v : T) → IsOk {E = Refusal} (if a then Err r.KeyTooLong else if b then Err r.LogFull else Ok v) → (a ≡ false) × (b ≡ false)
fits true b v ok = absurd (cc ok)
fits false true v ok = absurd (cc ok)
fits false false v ok = (refl, refl)

short_enough : (most n : ℕ) → nat_lt most n ≡ false → n ≤ most
short_enough most n e = grind (arith, nat_tests)

pub accepted-parts : (l : PartitionLogs) (at : ℕ) (key : Key) → IsOk (answer_at l at key) → (length key ≤ LONGEST_KEY) × (is_full_for l at key ≡ false)
accepted-parts l at key ok =
    let fit = fits (nat_lt LONGEST_KEY (length key)) (is_full_for l at key) (at, length (log_at l at)) ok in
    (short_enough LONGEST_KEY (length key) fit.0, fit.1)

no-log : (n p : ℕ) → get_or (replicate {A = List ℕ} n []) p [] ≡ []
no-log zero p = refl
no-log (suc n) zero = refl
no-log (suc n) (suc p) = no-log n p

many-logs : (n : ℕ) → length (replicate {A = List ℕ} n []) ≡ n
many-logs zero = refl
many-logs (suc n) = ap suc (many-logs n)

pub empty-valid : (counts : List ℕ) → AreCounts counts → (let new : PartitionLogs = record { counts = counts; partitions = sum counts; keys = []; logs = replicate (sum counts) [] } in IsValidLogs new × AreLogsOf [] new)
unfolding distinct
empty-valid counts a = (
  record {
    counted = a;
    in_all = refl;
    some_partitions = some_partitions counts a;
    few_partitions = a.within;
    a_log_each = many-logs (sum counts);
    without_repeats = λ m n lt. absurd (omega (arith, lt));
    short = λ n lt. absurd (omega (arith, lt));
    entries = λ p i lt. let none = ap length (no-log (sum counts) p) in absurd (omega (arith, lt, none));
    used = λ n lt. absurd (omega (arith, lt));
    few_keys = omega arith;
    few_records = λ p. let none = ap length (no-log (sum counts) p) in omega (arith, none);
  },
  record {
    topics = λ i d lt. absurd (omega (arith, lt));
    numbers = refl;
    records = λ p lt. ap (map (key_at [])) (no-log (sum counts) p);
  },
)

pub opened : (counts : List ℕ) (count : ℕ) (keys : List Key) (logs : List (List ℕ)) → AreCounts counts → count ≡ sum counts → keys ≡ [] → logs ≡ replicate count []
    → (let new : PartitionLogs = record { counts = counts; partitions = sum counts; keys = keys; logs = logs } in IsValidLogs new × AreLogsOf [] new)
opened counts count keys logs a is ks ls = rw (ks, ls, is) (empty-valid counts a)
