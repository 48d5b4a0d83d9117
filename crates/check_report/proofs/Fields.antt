-- The faults of a record, and what its fields are.
use Rattle.std.proofs.Common.{◌≡◌, ◌≢◌, ◌≤◌, ◌<◌, ◌+◌, ◌-◌, ◌∙◌, ℕ, List, [], ◌∷◌, Bool, true, false, Option, Some, None, cond, true≢false, length, map, sym, ap, refl, arith}
use Rattle.std.specs.Prelude.{◌||◌, Ok, Err, if◌then◌else◌, nat_lt}
use Rattle.std.specs.List.{list_any, position_from}
use Rattle.std.specs.Str.{bytes_eq}
use Rattle.std.proofs.lemmas.Bool.{le-ltb, lt-ltb}
use Rattle.csv.specs.Records.{field_at}
use Rattle.csv_ingest.specs.KeyFile.{Record, behind_index, behind_topic, key_before, keys_from, lack_at}
use Rattle.csv_ingest.proofs.Keys.{keys_from-key, keys_from-lacks, keys_from-nil, keys_from-other}
use Rattle.csv_ingest.specs.declared.lack.Lack.{Lack}
use Rattle.csv_ingest.specs.declared.lack.Lack.TheVariants as l
use Rattle.lane_words.specs.declared.Refusal.TheVariants as r
use Rattle.lane_words.specs.declared.limits.TheConstants.{LONGEST_KEY}
use Rattle.partitioner.specs.declared.topic.Topic.{Topic}
use Rattle.check_report.specs.Private.RecordFindings.{HasKeyOf, taken}
use Rattle.check_report.specs.RecordFindings.{Wants, key_taken, read_refusal, record_refusal, taking_among}
use Rattle.check_report.specs.Warnings.{delimiter_words}

-- ---- faults
pub refusal-width : (wants : Wants) (width nth : ℕ) (fields : Record) → length fields ≢ width → record_refusal wants width nth fields ≡ Some (r.BadCsv nth)
unfolding record_refusal
refusal-width wants width nth fields other = ap (read_refusal wants.topics) (keys_from-other (taking_among wants.topics wants.column wants.topic_column) width nth fields [] other)

pub refusal-lack : (wants : Wants) (width nth : ℕ) (fields : Record) (lack : Lack) → length fields ≡ width → taken wants fields ≡ Err lack → record_refusal wants width nth fields ≡ Some (lack_at nth lack)
unfolding record_refusal
refusal-lack wants width nth fields lack same is = ap (read_refusal wants.topics) (keys_from-lacks (taking_among wants.topics wants.column wants.topic_column) width nth fields [] lack same is)

or-false : (b : Bool) → (b || false) ≡ b
or-false true = refl
or-false false = refl

refusal-key : (wants : Wants) (width nth : ℕ) (fields : Record) (item : List ℕ) → length fields ≡ width → taken wants fields ≡ Ok item
    → record_refusal wants width nth fields ≡ if nat_lt LONGEST_KEY (length (key_taken wants.topics item)) then Some r.KeyTooLong else None
unfolding record_refusal
refusal-key wants width nth fields item same is =
    let wanted = taking_among wants.topics wants.column wants.topic_column in
    let read : keys_from wanted width nth (fields ∷ []) ≡ Ok (item ∷ []) =
    keys_from-key wanted width nth fields [] item same is ∙ ap (key_before item) (keys_from-nil wanted width (nth + 1)) in
    ap (read_refusal wants.topics) read
    ∙ ap (λ b. if b then Some r.KeyTooLong else None) (or-false (nat_lt LONGEST_KEY (length (key_taken wants.topics item))))

pub refusal-long : (wants : Wants) (width nth : ℕ) (fields : Record) (n : ℕ) → length fields ≡ width → HasKeyOf wants fields n → LONGEST_KEY < n → record_refusal wants width nth fields ≡ Some r.KeyTooLong
refusal-long wants width nth fields n same has long =
    refusal-key wants width nth fields has.item same has.there
    ∙ ap (λ b. if b then Some r.KeyTooLong else None) (ap (nat_lt LONGEST_KEY) (sym has.long) ∙ lt-ltb LONGEST_KEY n long)

pub refusal-none : (wants : Wants) (width nth : ℕ) (fields : Record) (n : ℕ) → length fields ≡ width → HasKeyOf wants fields n → n ≤ LONGEST_KEY → record_refusal wants width nth fields ≡ None
refusal-none wants width nth fields n same has short =
    refusal-key wants width nth fields has.item same has.there
    ∙ ap (λ b. if b then Some r.KeyTooLong else None) (ap (nat_lt LONGEST_KEY) (sym has.long) ∙ le-ltb LONGEST_KEY n short)

-- ---- what is taken
pub taken-alone : (wants : Wants) (fields : Record) (key : List ℕ) → wants.topics ≡ [] → field_at fields (wants.column - 1) ≡ Some key → HasKeyOf wants fields (length key)
taken-alone wants fields key none at = record {
  item = key;
  there = rw (none, at) refl;
  long = rw none refl;
}

position-some : (p : List ℕ → Bool) (topics : List Topic) (i : ℕ) → list_any (λ t. p t.name) topics ≡ true → (k : ℕ) × (position_from p i (map (λ t. t.name) topics) ≡ Some k)
position-some p [] i e = absurd (true≢false (sym e))
position-some p (t ∷ ts) i e = go (p t.name) e (position-some p ts (i + 1))
  where
    go : (b : Bool) → (b || list_any (λ t. p t.name) ts) ≡ true → (list_any (λ t. p t.name) ts ≡ true → (k : ℕ) × (position_from p (i + 1) (map (λ t. t.name) ts) ≡ Some k))
        → (k : ℕ) × (cond b (Some i) (position_from p (i + 1) (map (λ t. t.name) ts)) ≡ Some k)
    go true e more = (i, refl)
    go false e more = more e

position-none : (p : List ℕ → Bool) (topics : List Topic) (i : ℕ) → list_any (λ t. p t.name) topics ≡ false → position_from p i (map (λ t. t.name) topics) ≡ None
position-none p [] i e = refl
position-none p (t ∷ ts) i e = go (p t.name) e (position-none p ts (i + 1))
  where
    go : (b : Bool) → (b || list_any (λ t. p t.name) ts) ≡ false → (list_any (λ t. p t.name) ts ≡ false → position_from p (i + 1) (map (λ t. t.name) ts) ≡ None)
        → cond b (Some i) (position_from p (i + 1) (map (λ t. t.name) ts)) ≡ None
    go true e more = absurd (true≢false e)
    go false e more = more e

pub taken-in_topic : (wants : Wants) (fields : Record) (key name : List ℕ) → wants.topics ≢ [] → field_at fields (wants.column - 1) ≡ Some key → field_at fields (wants.topic_column - 1) ≡ Some name
    → list_any (λ t. bytes_eq name t.name) wants.topics ≡ true → HasKeyOf wants fields (length key)
taken-in_topic wants fields key name some at named known =
    let found = position-some (bytes_eq name) wants.topics 0 known in
    record {
      item = found.0 ∷ key;
      there = go wants.topics some found.1;
      long = long found.0 wants.topics some;
    }
  where
    go : {k : ℕ} (topics : List Topic) → topics ≢ [] → position_from (bytes_eq name) 0 (map (λ t. t.name) topics) ≡ Some k → taking_among topics wants.column wants.topic_column fields ≡ Ok (k ∷ key)
    go [] some e = absurd (some refl)
    go (topic ∷ topics) some e = rw (at, named) (ap (λ o. behind_index o key) e)

    long : (k : ℕ) (topics : List Topic) → topics ≢ [] → length key ≡ length (key_taken topics (k ∷ key))
    long k [] some = absurd (some refl)
    long k (topic ∷ topics) some = refl

pub taken-no_such : (wants : Wants) (fields : Record) (key name : List ℕ) → wants.topics ≢ [] → field_at fields (wants.column - 1) ≡ Some key → field_at fields (wants.topic_column - 1) ≡ Some name
    → list_any (λ t. bytes_eq name t.name) wants.topics ≡ false → taken wants fields ≡ Err l.Topic
taken-no_such wants fields key name some at named unknown = go wants.topics some (position-none (bytes_eq name) wants.topics 0 unknown)
  where
    go : (topics : List Topic) → topics ≢ [] → position_from (bytes_eq name) 0 (map (λ t. t.name) topics) ≡ None → taking_among topics wants.column wants.topic_column fields ≡ Err l.Topic
    go [] some e = absurd (some refl)
    go (topic ∷ topics) some e = rw (at, named) (ap (λ o. behind_index o key) e)

pub alone : (fields : Record) (field : List ℕ) → length fields ≡ 1 → field_at fields 0 ≡ Some field → fields ≡ field ∷ []
unfolding field_at
alone [] field one at = absurd (omega (arith, one))
alone (f ∷ []) field one at = ap (λ (x : List ℕ). x ∷ []) (cc at)
alone (f ∷ next ∷ fields) field one at = absurd (omega (arith, one))

pub not_none : (fields : Record) → length fields ≡ 1 → field_at fields 0 ≢ None
unfolding field_at
not_none [] one e = absurd (omega (arith, one))
not_none (f ∷ fields) one e = absurd (cc e)
