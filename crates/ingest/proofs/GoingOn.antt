-- A check of limits that goes on with more records.
use Rattle.std.proofs.Common.{◌≡◌, ◌∙◌, ◌+◌, ◌<◌, ◌≢◌, ℕ, Bool, true, false, List, [], ◌∷◌, ◌++◌, length, cond, sym, ap, refl, subst, arith, inl, inr, length-append, get_or, get_or-set_other, get_or-set_same}
use Rattle.std.specs.Prelude.{◌==◌, if◌then◌else◌, filter, nat_le, not, Option, Some, None, IfNone, slice_index, slice_set}
use Rattle.std.specs.List.{sum}
use Rattle.std.specs.Option.{is_some, option_or}
use Rattle.std.proofs.lemmas.Bool.Decides.{eqb_tells}
use Rattle.std.proofs.lemmas.List.Elements.{filter-append}
use Rattle.lane_words.specs.declared.Refusal.{Refusal}
use Rattle.lane_words.specs.declared.Refusal.TheVariants as r
use Rattle.lane_words.specs.declared.limits.TheConstants.{MOST_RECORDS}
use Rattle.partition_log.specs.Keys.{Key, Keyed, distinct, keys_in}
use Rattle.ingest.specs.Limits.{ChecksKeys, GoesOn, IsLimitCheck, Limits, is_too_long, record_taken, records_in_partition, records_taken}
use Rattle.ingest.specs.Private.LimitLaws.{fewer-keys}
use Rattle.ingest.specs.Private.Limits.{fault_at, with_one}
use Rattle.ingest.specs.RecordFaults.{first_fault, record_fault}
use Rattle.ingest.specs.Records.{partition_of_record}
use Rattle.ingest.proofs.FirstFault.{first_fault-append, first_fault-one, fits-table}

-- ---- the number of records in a partition
one-at : (b : Bool) (keyed : Keyed) → length (if b then keyed ∷ [] else []) ≡ cond b 1 0
one-at true keyed = refl
one-at false keyed = refl

in_partition-more : (counts : List ℕ) (records : List Keyed) (keyed : Keyed) (p : ℕ)
    → records_in_partition counts (records ++ keyed ∷ []) p ≡ records_in_partition counts records p + cond (partition_of_record counts keyed == p) 1 0
in_partition-more counts records keyed p =
    let test = λ (k : Keyed). partition_of_record counts k == p in
    ap length (filter-append test records (keyed ∷ []))
    ∙ length-append (filter test records) (filter test (keyed ∷ []))
    ∙ ap (λ n. length (filter test records) + n) (one-at (partition_of_record counts keyed == p) keyed)

pub index-set : (xs : List ℕ) (p q n : ℕ) → p < length xs → slice_index (slice_set xs p n) q ≡ cond (p == q) n (slice_index xs q)
index-set xs p q n lt =
    elim (eqb_tells p q) [
      | inl e ↦ rw e.0 (subst (λ i. get_or (slice_set xs p n) i 0 ≡ n) e.1 (get_or-set_same xs p n 0 lt))
      | inr e ↦ let ne : q ≢ p = λ is. e.1 (sym is) in rw e.0 (get_or-set_other xs p q n 0 ne)
    ]

added-at : (b : Bool) (x y : ℕ) → (b ≡ true → x ≡ y) → cond b (x + 1) y ≡ y + cond b 1 0
added-at true x y same = ap (λ n. n + 1) (same refl)
added-at false x y same = omega arith

with_one-at : (xs : List ℕ) (p q : ℕ) → p < length xs → slice_index (with_one xs p) q ≡ slice_index xs q + cond (p == q) 1 0
with_one-at xs p q lt =
    index-set xs p q (slice_index xs p + 1) lt
    ∙ elim (eqb_tells p q) [
      | inl e ↦ added-at (p == q) (slice_index xs p) (slice_index xs q) (λ is. ap (slice_index xs) e.1)
      | inr e ↦ rw e.0 (omega arith)
    ]

-- ---- one record
fault_at-is : (counts lens : List ℕ) (before : List Keyed) (keyed : Keyed) → length (distinct (keys_in before)) < MOST_RECORDS
    → slice_index lens (partition_of_record counts keyed) ≡ records_in_partition counts before (partition_of_record counts keyed)
    → fault_at counts lens keyed ≡ record_fault counts before keyed
fault_at-is counts lens before keyed few here =
    let n = records_in_partition counts before (partition_of_record counts keyed) in
    let fits = fits-table MOST_RECORDS n (distinct (keys_in before)) keyed.1 few in
    ap (λ m. if is_too_long keyed.1 then Some r.KeyTooLong else if nat_le MOST_RECORDS m then Some r.LogFull else None) here
    ∙ ap (λ b. if is_too_long keyed.1 then Some r.KeyTooLong else if b then Some r.LogFull else None) (sym fits)

first_fault-next : (counts : List ℕ) (before : List Keyed) (keyed : Keyed)
    → first_fault counts [] (before ++ keyed ∷ []) ≡ option_or (first_fault counts [] before) (record_fault counts before keyed)
first_fault-next counts before keyed =
    first_fault-append counts [] before (keyed ∷ []) ∙ ap (option_or (first_fault counts [] before)) (first_fault-one counts before keyed)

where_none : {A : Type 0} (fault : Option Refusal) → IfNone fault A → fault ≡ None → A
where_none None a none = a
where_none (Some x) a none = absurd (cc none)

pub goes-appended : (old new : Limits) (key : Key) (keyed : Keyed) → keyed ≡ record_taken old.has_topics key → old.fault ≡ None
    → new.counts ≡ old.counts → new.has_topics ≡ old.has_topics → new.fault ≡ fault_at old.counts old.lens keyed
    → IfNone new.fault (new.lens ≡ with_one old.lens (partition_of_record old.counts keyed))
    → length old.lens ≡ sum old.counts → partition_of_record old.counts keyed < sum old.counts
    → GoesOn old (key ∷ []) new
goes-appended old new key keyed is none same_counts same_topics fault lens len below = λ (counts : List ℕ) (has_topics : Bool) (before : List Keyed) (known : IsLimitCheck counts has_topics before old) few.
    let cs : old.counts ≡ counts = known.counts_are in
    let one : keyed ≡ record_taken has_topics key = is ∙ ap (λ t. record_taken t key) known.topics_are in
    let p = partition_of_record counts keyed in
    let below2 : p < sum counts = subst (λ ns. partition_of_record ns keyed < sum ns) cs below in
    let here = known.lens none p below2 in
    let few_before : length (distinct (keys_in before)) < MOST_RECORDS = omega (arith, fewer-keys before (record_taken has_topics key ∷ []), few) in
    let long : p < length old.lens = omega (arith, below2, len, ap sum cs) in
    let start : first_fault counts [] before ≡ None = sym known.fault ∙ none in
    let next : new.fault ≡ first_fault counts [] (before ++ keyed ∷ []) =
    fault ∙ ap (λ ns. fault_at ns old.lens keyed) cs ∙ fault_at-is counts old.lens before keyed few_before here
    ∙ sym (first_fault-next counts before keyed ∙ ap (λ f. option_or f (record_fault counts before keyed)) start) in
    let after : IsLimitCheck counts has_topics (before ++ keyed ∷ []) new = record {
      counts_are = same_counts ∙ cs;
      topics_are = same_topics ∙ known.topics_are;
      fault = next;
      lens = λ now q lt.
          ap (λ ns. slice_index ns q) (where_none new.fault lens now ∙ ap (λ ns. with_one old.lens (partition_of_record ns keyed)) cs)
          ∙ with_one-at old.lens p q long
          ∙ ap (λ n. n + cond (p == q) 1 0) (known.lens none q lt)
          ∙ sym (in_partition-more counts before keyed q);
    } in
    subst (λ k. IsLimitCheck counts has_topics (before ++ k ∷ []) new) one after

stays-at : {T : Type 0} (a b : Option T) → (a ≡ None → ⊥) → option_or a b ≡ a
stays-at None b some = absurd (some refl)
stays-at (Some x) b some = refl

-- ---- the same, of a call
pub pair-is : (topic : ℕ) (key : Key) (keyed : Keyed) → topic ≡ keyed.0 → key ≡ keyed.1 → (let one : Keyed = (topic, key) in one) ≡ keyed
pair-is topic key keyed first second = rw (first, second) refl

pub none-if : {T : Type 0} (o : Option T) (b : Bool) → is_some o ≡ not b → b ≡ true → o ≡ None
none-if None b is e = refl
none-if (Some x) true is e = absurd (cc is)
none-if (Some x) false is e = absurd (cc e)

pub some-if : {T : Type 0} (o : Option T) (b : Bool) → is_some o ≡ not b → b ≡ false → o ≡ None → ⊥
some-if None true is e none = cc e
some-if None false is e none = cc is
some-if (Some x) b is e none = cc none

-- a fault stays
pub goes-nowhere : (old : Limits) (keys : List Key) → (old.fault ≡ None → ⊥) → GoesOn old keys old
goes-nowhere old keys some = λ (counts : List ℕ) (has_topics : Bool) (before : List Keyed) (known : IsLimitCheck counts has_topics before old) few.
    let more = records_taken has_topics keys in
    let stuck = stays-at (first_fault counts [] before) (first_fault counts before more) (λ none. some (known.fault ∙ none)) in record {
      counts_are = known.counts_are;
      topics_are = known.topics_are;
      fault = known.fault ∙ sym (first_fault-append counts [] before more ∙ stuck);
      lens = λ now. absurd (some now);
    }

-- ---- the record of a key that a sink takes
pub checks-one : (old new : Limits) (item : Key) (topic : ℕ) (key : Key) → record_taken old.has_topics item ≡ (topic, key) → new.counts ≡ old.counts → new.has_topics ≡ old.has_topics
    → ((i : Key) → record_taken old.has_topics i ≡ (topic, key) → topic < length old.counts → GoesOn old (i ∷ []) new)
    → ChecksKeys old (item ∷ []) new
checks-one old new item topic key is same_counts same_topics state = record {
  same_counts = same_counts;
  same_topics = same_topics;
  state = λ topics. state item is (subst (λ (k : Keyed). k.0 < length old.counts) is (topics 0 (0, []) (omega arith)));
}

pub taken-with : (has_topics : Bool) (index : ℕ) (key : Key) → has_topics ≡ true → record_taken has_topics (index ∷ key) ≡ (index, key)
taken-with has_topics index key is = ap (λ b. record_taken b (index ∷ key)) is

pub taken-without : (has_topics : Bool) (item : Key) → has_topics ≡ false → record_taken has_topics item ≡ (0, item)
taken-without has_topics item is = ap (λ b. record_taken b item) is
