-- The first record that can't be appended, where no log can be full.
use Rattle.std.proofs.Common.{◌≡◌, ◌∙◌, ◌+◌, ◌<◌, ◌≤◌, ℕ, Bool, true, false, List, [], ◌∷◌, ◌++◌, length, sym, ap, refl, arith, inl, inr, append_assoc, length-append}
use Rattle.std.specs.Prelude.{◌==◌, if◌then◌else◌, ◌&&◌, ◌||◌, not, filter, nat_le, Option, Some, None}
use Rattle.std.specs.List.{fold, list_any}
use Rattle.std.specs.Option.{option_or}
use Rattle.std.proofs.Math.Bool.{or-false}
use Rattle.std.proofs.lemmas.Bool.{cases_Bool, lt-leb}
use Rattle.std.proofs.lemmas.List.{append-nil, length-map}
use Rattle.std.proofs.lemmas.List.Folds.{list_any-append, list_any_at}
use Rattle.std.proofs.lemmas.List.Sums.{count_by-le-length, length-filter}
use Rattle.lane_words.specs.declared.Refusal.TheVariants as r
use Rattle.lane_words.specs.declared.limits.TheConstants.{MOST_RECORDS}
use Rattle.key_index.proofs.Growth.{grows, interned}
use Rattle.key_index.specs.Keys.{id_of, is_interned, with_key}
use Rattle.partition_log.specs.Keys.{Key, Keyed, distinct, keys_in}
use Rattle.partition_log.specs.Logs.{exceeds_limits}
use Rattle.ingest.specs.Limits.{is_too_long, long_fault}
use Rattle.ingest.specs.RecordFaults.{first_fault, record_fault, records_in_its_partition}
use Rattle.ingest.specs.Records.{partition_of_record}

-- ---- the fault of records in two parts
or_assoc : {T : Type 0} (a b c : Option T) → option_or (option_or a b) c ≡ option_or a (option_or b c)
or_assoc None b c = refl
or_assoc (Some x) b c = refl

pub first_fault-append : (counts : List ℕ) (before xs ys : List Keyed) → first_fault counts before (xs ++ ys) ≡ option_or (first_fault counts before xs) (first_fault counts (before ++ xs) ys)
unfolding first_fault
first_fault-append counts before [] ys = ap (λ b. first_fault counts b ys) (sym (append-nil before))
first_fault-append counts before (x ∷ xs) ys =
    let now = record_fault counts before x in
    let next = before ++ x ∷ [] in
    ap (option_or now) (first_fault-append counts next xs ys ∙ ap (λ b. option_or (first_fault counts next xs) (first_fault counts b ys)) (append_assoc before (x ∷ []) xs))
    ∙ sym (or_assoc now (first_fault counts next xs) (first_fault counts (before ++ x ∷ xs) ys))

pub first_fault-one : (counts : List ℕ) (before : List Keyed) (keyed : Keyed) → first_fault counts before (keyed ∷ []) ≡ record_fault counts before keyed
unfolding first_fault
first_fault-one counts before keyed = or-none (record_fault counts before keyed)
  where
    or-none : {T : Type 0} (a : Option T) → option_or a None ≡ a
    or-none None = refl
    or-none (Some x) = refl

-- ---- while no log can be full
and-false : (b : Bool) → (b && false) ≡ false
and-false true = refl
and-false false = refl

-- in a table of fewer keys than there can be, a log is full by its records alone
pub fits-table : (m n : ℕ) (keys : List Key) (key : Key) → length keys < m → (nat_le m n || (not (is_interned keys key) && nat_le m (length keys))) ≡ nat_le m n
fits-table m n keys key few_keys =
    let second : nat_le m (length keys) ≡ false = lt-leb m (length keys) few_keys in
    rw second (ap (λ b. nat_le m n || b) (and-false (not (is_interned keys key))) ∙ or-false (nat_le m n))

-- a log of fewer records than there can be, in a table of fewer keys than there can be, is not full
fits-at : (m n : ℕ) (keys : List Key) (key : Key) → n < m → length keys < m → (nat_le m n || (not (is_interned keys key) && nat_le m (length keys))) ≡ false
fits-at m n keys key few few_keys = fits-table m n keys key few_keys ∙ lt-leb m n few

length-keys : (ks zs : List Key) → length (fold with_key ks zs) ≤ length ks + length zs
length-keys ks [] = omega arith
length-keys ks (z ∷ zs) = omega (arith, (grows ks z).by_one, length-keys (with_key ks z) zs)

pub length-distinct : (keys : List Key) → length (distinct keys) ≤ length keys
unfolding distinct
length-distinct keys = omega (arith, length-keys [] keys)

pub length-in_partition : (p : Keyed → Bool) (records : List Keyed) → length (filter p records) ≤ length records
length-in_partition p records = omega (arith, length-filter p records, count_by-le-length p records)

fault-alone : (counts : List ℕ) (before : List Keyed) (keyed : Keyed) → length before < MOST_RECORDS
    → record_fault counts before keyed ≡ (if is_too_long keyed.1 then Some r.KeyTooLong else None)
fault-alone counts before keyed few =
    let p = λ (other : Keyed). partition_of_record counts other == partition_of_record counts keyed in
    let keys = length-map before (λ (k : Keyed). k.1) in
    let fits : exceeds_limits (distinct (keys_in before)) (records_in_its_partition counts before keyed) keyed.1 ≡ false =
    fits-at MOST_RECORDS (length (filter p before)) (distinct (keys_in before)) keyed.1 (omega (arith, length-in_partition p before)) (omega (arith, length-distinct (keys_in before), keys)) in
    ap (λ b. if is_too_long keyed.1 then Some r.KeyTooLong else if b then Some r.LogFull else None) fits

or-long : (a b : Bool) → option_or (if a then Some r.KeyTooLong else None) (if b then Some r.KeyTooLong else None) ≡ (if a || b then Some r.KeyTooLong else None)
or-long true b = refl
or-long false b = refl

faults-alone : (counts : List ℕ) (before records : List Keyed) → length before + length records ≤ MOST_RECORDS → first_fault counts before records ≡ long_fault (keys_in records)
unfolding first_fault
faults-alone counts before [] few = refl
faults-alone counts before (keyed ∷ records) few =
    let now = fault-alone counts before keyed (omega arith) in
    let later = faults-alone counts (before ++ keyed ∷ []) records (omega (arith, length-append before (keyed ∷ []))) in
    ap (λ f. option_or f (first_fault counts (before ++ keyed ∷ []) records)) now
    ∙ ap (option_or (if is_too_long keyed.1 then Some r.KeyTooLong else None)) later
    ∙ or-long (is_too_long keyed.1) (list_any is_too_long (keys_in records))

-- as many records as a log takes can fill none: the first that can't be appended has too long a key
pub first_fault-long : (counts : List ℕ) (records : List Keyed) → length records ≤ MOST_RECORDS → first_fault counts [] records ≡ long_fault (keys_in records)
first_fault-long counts records few = faults-alone counts [] records (omega arith)

-- ---- a test of the keys is one of the different keys
or-true : (a b : Bool) → (b ≡ true → a ≡ true) → (a || b) ≡ a
or-true true b h = refl
or-true false true h = sym (h refl)
or-true false false h = refl

pub any-with_key : (p : Key → Bool) (ks : List Key) (z : Key) → list_any p (with_key ks z) ≡ (list_any p ks || p z)
any-with_key p ks z =
    elim (cases_Bool (is_interned ks z)) [
      | inl e ↦
          let there = interned ks z e in
          let any : p z ≡ true → list_any p ks ≡ true = λ is. list_any_at p ks (id_of ks z) [] there.0 (ap p there.1 ∙ is) in
          rw e (sym (or-true (list_any p ks) (p z) any))
      | inr e ↦ rw e (list_any-append p ks (z ∷ []) ∙ ap (λ b. list_any p ks || b) (or-false (p z)))
    ]

or-assoc : (a b c : Bool) → ((a || b) || c) ≡ (a || (b || c))
or-assoc true b c = refl
or-assoc false b c = refl

any-with_keys : (p : Key → Bool) (ks zs : List Key) → list_any p (fold with_key ks zs) ≡ (list_any p ks || list_any p zs)
any-with_keys p ks [] = sym (or-false (list_any p ks))
any-with_keys p ks (z ∷ zs) =
    any-with_keys p (with_key ks z) zs ∙ ap (λ b. b || list_any p zs) (any-with_key p ks z) ∙ or-assoc (list_any p ks) (p z) (list_any p zs)

pub any-distinct : (p : Key → Bool) (keys : List Key) → list_any p (distinct keys) ≡ list_any p keys
unfolding distinct
any-distinct p keys = any-with_keys p [] keys
