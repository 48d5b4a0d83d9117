-- The records of a file, and their given column.
use Rattle.std.proofs.Common.{◌≡◌, ◌∙◌, ℕ, zero, suc, Bool, true, false, List, [], ◌∷◌, length, map, sym, ap, ap₂, refl, subst, arith, inl, inr}
use Rattle.std.specs.Prelude.{IfOk, Result, Ok, Err, zip}
use Rattle.std.specs.Borrow.{Bor}
use Rattle.std.specs.Result.{result_map_both}
use Rattle.std.proofs.lemmas.Bool.{le-ltb, lt-ltb}
use Rattle.std.proofs.lemmas.List.{length-map}
use Rattle.csv_ingest.specs.KeyFile.{Record, Taking, key_in, keys_of, keys_of_records, taken_of, topic_key_in}
use Rattle.csv_ingest.specs.Pieces.{file_records}
use Rattle.csv_ingest.proofs.Pieces.{keys_from-count}
use Rattle.lane_words.specs.Answers.{Answers}
use Rattle.lane_words.specs.declared.Refusal.{Refusal}
use Rattle.lane_words.specs.declared.Refusal.TheVariants as r
use Rattle.partition_log.specs.Appends.{in_first, lent}
use Rattle.partition_log.specs.Keys.{Key, Keyed, keys_in, of_first}
use Rattle.partition_log.specs.Logs.{PartitionLogs, place_in}
use Rattle.partitioner.specs.declared.topic.Topic.{Topic}
use Rattle.command_line.specs.declared.options.Options.{Options}
use Rattle.ingest.specs.Records.{ReadRecords, column_in, record_of, records_among, records_in, records_of, topic_column_in, with_column}
use Rattle.place_report.specs.Given.{both, earlier_fault, record_number, records_and_given}
use Rattle.place_report.specs.Private.Given.{both_seen, records_seen, texts_in, texts_seen}

-- ---- as many texts as records
taken_length : (wanted other : Taking) (header : Bool) (rows : List Record) (keys others : List (List ℕ)) → keys_of_records wanted header rows ≡ Ok keys → keys_of_records other header rows ≡ Ok others → length keys ≡ length others
taken_length wanted other header [] keys others is are =
    let none : keys ≡ [] = cc is in
    let none_other : others ≡ [] = cc are in
    ap length none ∙ sym (ap length none_other)
taken_length wanted other false (first ∷ rest) keys others is are =
    keys_from-count wanted (length first) 1 (first ∷ rest) keys is ∙ sym (keys_from-count other (length first) 1 (first ∷ rest) others are)
taken_length wanted other true (first ∷ rest) keys others is are =
    keys_from-count wanted (length first) 2 rest keys is ∙ sym (keys_from-count other (length first) 2 rest others are)

taken : {A : Type 0} (f : List (List ℕ) → A) (answer : Result (List (List ℕ)) Refusal) (found : A) → result_map_both f (λ fault. fault) answer ≡ Ok found → (keys : List (List ℕ)) × (answer ≡ Ok keys) × (f keys ≡ found)
taken f (Ok keys) found is = (keys, refl, cc is)
taken f (Err fault) found is = absurd (cc is)

among_length : (delimiter : ℕ) (header : Bool) (topics : List Topic) (column topic_column given : ℕ) (file : List ℕ) (found : List Keyed) (texts : List (List ℕ)) → records_among delimiter header topics file column topic_column ≡ Ok found
    → keys_of delimiter given header file ≡ Ok texts → length texts ≡ length found
among_length delimiter header [] column topic_column given file found texts is are =
    let keys = taken in_first (keys_of delimiter column header file) found is in
    taken_length (key_in given) (key_in column) header (file_records delimiter file) texts keys.0 are keys.1
    ∙ sym (length-map keys.0 of_first) ∙ ap length keys.2
among_length delimiter header (topic ∷ topics) column topic_column given file found texts is are =
    let wanted = topic_key_in column topic_column (map (λ t. t.name) (topic ∷ topics)) in
    let keys = taken (map record_of) (taken_of delimiter wanted header file) found is in
    taken_length (key_in given) wanted header (file_records delimiter file) texts keys.0 are keys.1
    ∙ sym (length-map keys.0 record_of) ∙ ap length keys.2

-- records that were read with a column were read with one that was found
with_column-ok : (looked_up : Result ℕ Refusal) (read : ℕ → Result (List Keyed) Refusal) (found : List Keyed) → with_column looked_up read ≡ Ok found → (column : ℕ) × (read column ≡ Ok found)
with_column-ok (Ok column) read found is = (column, is)
with_column-ok (Err fault) read found is = absurd (cc is)

records_length : (options : Options) (given : ℕ) (file : List ℕ) (found : List Keyed) (texts : List (List ℕ)) → records_of options file ≡ Ok found → keys_of options.delimiter given options.header file ≡ Ok texts
    → length texts ≡ length found
unfolding records_of
records_length options given file found texts is are =
    let column = with_column-ok (column_in options.delimiter file options.column) _ found is in
    let topic = with_column-ok (topic_column_in options.delimiter file options.topics.items options.topic_column) _ found column.1 in
    among_length options.delimiter options.header options.topics.items column.0 topic.0 given file found texts topic.1 are

first_keys : (keys : List Key) → keys_in (in_first keys) ≡ keys
first_keys [] = refl
first_keys (key ∷ keys) = ap (λ (ks : List Key). key ∷ ks) (first_keys keys)

as_answered : {T : Type 0} (expected : Result T Refusal) (answer : T) → Answers expected (Ok answer) → expected ≡ Ok answer
as_answered expected answer (inl is) = sym is
as_answered expected answer (inr is) = absurd (cc is)

pub as_many : (options : Options) (given : ℕ) (file : List ℕ) (alone : Result (List Keyed) Refusal) (read : Result (ReadRecords × ReadRecords) Refusal) (found texts : Result ReadRecords Refusal)
    → alone ≡ result_map_both in_first (λ fault. fault) (keys_of options.delimiter given options.header file) → both_seen read ≡ both (records_seen found) (texts_seen texts)
    → Answers (records_of options file) (records_seen found) → Answers alone (records_seen texts)
    → IfOk read (λ r. length (texts_in r.1) ≡ length (records_in r.0))
as_many options given file alone (Err fault) found texts of_given is records_are texts_are = tt
as_many options given file alone (Ok read) (Ok found) (Ok texts) of_given is records_are texts_are =
    let pair : ◌≡◌ {A = List Keyed × List (List ℕ)} (records_in read.0, texts_in read.1) (records_in found, texts_in texts) = cc is in
    let one = ap (λ (p : List Keyed × List (List ℕ)). p.0) pair in
    let other = ap (λ (p : List Keyed × List (List ℕ)). p.1) pair in
    let keys = taken in_first (keys_of options.delimiter given options.header file) (records_in texts) (sym of_given ∙ as_answered alone (records_in texts) texts_are) in
    ap length (other ∙ sym (ap keys_in keys.2) ∙ first_keys keys.0) ∙ records_length options given file (records_in found) keys.0 (as_answered (records_of options file) (records_in found) records_are) keys.1
    ∙ sym (ap length one)
as_many options given file alone (Ok read) (Ok found) (Err fault) of_given is records_are texts_are = absurd (cc is)
as_many options given file alone (Ok read) (Err fault) (Ok texts) of_given is records_are texts_are = absurd (cc is)
as_many options given file alone (Ok read) (Err fault) (Err other) of_given is records_are texts_are = absurd (cc is)

-- ---- the answers of two readings
text-answers : (keys : Result (List (List ℕ)) Refusal) (texts : Result ReadRecords Refusal) → Answers (result_map_both in_first (λ fault. fault) keys) (records_seen texts) → Answers keys (texts_seen texts)
text-answers (Ok keys) (Ok texts) (inl is) = let same : records_in texts ≡ in_first keys = cc is in inl (ap Ok (ap keys_in same ∙ first_keys keys))
text-answers (Ok keys) (Err fault) (inl is) = absurd (cc is)
text-answers (Err fault) (Ok texts) (inl is) = absurd (cc is)
text-answers (Err fault) (Err other) (inl is) = let same : other ≡ fault = cc is in inl (ap Err same)
text-answers keys (Ok texts) (inr is) = absurd (cc is)
text-answers keys (Err other) (inr is) = let same : other ≡ r.Memory = cc is in inr (ap Err same)

none-earlier : (first second : Refusal) → record_number first ≡ 0 → earlier_fault first second ≡ first
none-earlier first second is = rw (is, le-ltb (record_number second) 0 (omega arith)) refl

memory-then : {A B : Type 0} (other : Result B Refusal) → both {A = A} (Err r.Memory) other ≡ Err r.Memory
memory-then (Ok b) = refl
memory-then (Err fault) = ap Err (none-earlier r.Memory fault refl)

then-memory : {A B : Type 0} (one : Result A Refusal) (other : Result B Refusal) → Answers (both one other) (both one (Err r.Memory))
then-memory (Ok a) other = inr refl
then-memory {A = A} {B = B} (Err fault) other = go (record_number fault) refl
  where
    first : (other : Result B Refusal) → record_number fault ≡ 0 → both {A = A} {B = B} (Err fault) other ≡ Err fault
    first (Ok b) is = refl
    first (Err second) is = ap Err (none-earlier fault second is)

    told : (n : ℕ) → record_number fault ≡ suc n → both {A = A} {B = B} (Err fault) (Err r.Memory) ≡ Err r.Memory
    told n is = rw (is, lt-ltb 0 (suc n) (omega arith)) refl

    go : (n : ℕ) → record_number fault ≡ n → Answers (both {A = A} (Err fault) other) (both {A = A} {B = B} (Err fault) (Err r.Memory))
    go zero is = inl (first (Err r.Memory) is ∙ sym (first other is))
    go (suc n) is = inr (told n is)

both-answers : {A B : Type 0} (one found : Result A Refusal) (other texts : Result B Refusal) → Answers one found → Answers other texts → Answers (both one other) (both found texts)
both-answers one found other texts (inl is) (inl are) = inl (ap₂ both is are)
both-answers one found other texts (inr is) are = inr (ap (λ f. both f texts) is ∙ memory-then texts)
both-answers one found other texts (inl is) (inr are) = subst (λ answer. Answers (both one other) answer) (sym (ap₂ both is are)) (then-memory one other)

pub both-seen : (options : Options) (given : ℕ) (file : List ℕ) (alone : Result (List Keyed) Refusal) (read : Result (ReadRecords × ReadRecords) Refusal) (found texts : Result ReadRecords Refusal)
    → alone ≡ result_map_both in_first (λ fault. fault) (keys_of options.delimiter given options.header file) → both_seen read ≡ both (records_seen found) (texts_seen texts)
    → Answers (records_of options file) (records_seen found) → Answers alone (records_seen texts)
    → Answers (records_and_given options given file) (both_seen read)
both-seen options given file alone read found texts of_given is records_are texts_are =
    let keys = keys_of options.delimiter given options.header file in
    let answers = text-answers keys texts (subst (λ expected. Answers expected (records_seen texts)) of_given texts_are) in
    rw is (both-answers (records_of options file) (records_seen found) keys (texts_seen texts) records_are answers)

-- ---- places
pub topic_places : (l : PartitionLogs) (topics : List ℕ) (slices : List (Bor Key)) (found : List Keyed) → zip topics (lent slices) ≡ found → map (λ keyed. place_in l (keyed.0, keyed.1.now)) (zip topics slices) ≡ map (place_in l) found
topic_places l topics slices found is = go topics slices ∙ ap (map (place_in l)) is
  where
    go : (topics : List ℕ) (slices : List (Bor Key)) → map (λ keyed. place_in l (keyed.0, keyed.1.now)) (zip topics slices) ≡ map (place_in l) (zip topics (lent slices))
    go [] slices = refl
    go (topic ∷ topics) [] = refl
    go (topic ∷ topics) (slice ∷ slices) = ap (λ (ps : List ℕ). place_in l (topic, slice.now) ∷ ps) (go topics slices)

-- ---- the given column alone
pub column-alone : (options : Options) (given : ℕ) (file : List ℕ) → options.topics.items ≡ [] → column_in options.delimiter file options.column ≡ Ok given
    → records_of options file ≡ result_map_both in_first (λ fault. fault) (keys_of options.delimiter given options.header file)
unfolding records_of
column-alone options given file none found = rw (found, none) refl
