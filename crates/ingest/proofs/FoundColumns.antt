-- The columns of a file, found before its first record is counted.
use Rattle.std.proofs.Common.{◌≡◌, ◌∙◌, ℕ, List, [], ◌∷◌, ◌++◌, Bool, true, false, Option, Some, None, Result, Ok, Err, IfErr, sym, ap, refl, subst, inl, inr}
use Rattle.std.specs.Prelude.{◌⊎◌, IfOk, IfSome, OnOk}
use Rattle.std.specs.Io.KnownBytes.{Consumes, IsAtEnd}
use Rattle.byte_io.proofs.ConsecutiveCalls.{consumes_more}
use Rattle.lane_words.specs.Answers.{Answers}
use Rattle.lane_words.specs.declared.Refusal.{Refusal}
use Rattle.lane_words.specs.declared.Refusal.TheVariants as r
use Rattle.partitioner.specs.declared.topic.Topic.{Topic}
use Rattle.command_line.specs.declared.options.Options.{Options}
use Rattle.command_line.specs.declared.options.Column.{Column}
use Rattle.command_line.specs.declared.options.Column.TheVariants.{Number, Named}
use Rattle.command_line.specs.declared.options.TheConstants.{LAST_COLUMN}
use Rattle.csv_ingest.specs.Header.{HasHeader, header_of}
use Rattle.csv_ingest.specs.Pieces.{file_records}
use Rattle.csv_ingest.proofs.Headers.{column-same}
use Rattle.key_stream.specs.Counting.{Refills}
use Rattle.ingest.specs.Private.Columns.{AreColumns, FindsColumns, FoundColumns, IsColumnFault, IsFilled, KnowsColumns, MayFollow, ReadsHeader, key_column, topic_column}
use Rattle.ingest.specs.Records.{column_in, records_among, records_of, topic_column_in}
use Rattle.ingest.specs.declared.columns.Columns.{Columns}

column-by_header : (delimiter : ℕ) (file other : List ℕ) (column : Column) → header_of (file_records delimiter file) ≡ header_of (file_records delimiter other) → column_in delimiter file column ≡ column_in delimiter other column
column-by_header delimiter file other (Number n) same = refl
column-by_header delimiter file other (Named name) same = column-same LAST_COLUMN name.items (file_records delimiter file) (file_records delimiter other) same

topic-by_header : (delimiter : ℕ) (file other : List ℕ) (topics : List Topic) (column : Column) → header_of (file_records delimiter file) ≡ header_of (file_records delimiter other)
    → topic_column_in delimiter file topics column ≡ topic_column_in delimiter other topics column
topic-by_header delimiter file other [] column same = refl
topic-by_header delimiter file other (topic ∷ topics) column same = column-by_header delimiter file other column same

-- ---- a window that is filled
consumes-none : (left : Option (List ℕ)) → Consumes left left []
consumes-none None = tt
consumes-none (Some xs) = refl

pub filled-more : (at_end end : Bool) (left left2 left3 : Option (List ℕ)) (window window2 : List ℕ) → IsFilled at_end left left2 window → Refills at_end end left2 left3 window window2 → IsFilled end left left3 window2
filled-more true end left left2 left3 window window2 so f = rw (f.0, f.1, f.2) so
filled-more false end left left2 left3 window window2 so f = record {
  consumed = subst (Consumes left left3) (sym f.0.1) (consumes_more left left2 left3 window f.0.0 so.consumed f.0.2);
  ended = f.1;
}

pub header-within : (delimiter : ℕ) (at_end : Bool) (left left2 : Option (List ℕ)) (window : List ℕ) → HasHeader delimiter window → IsFilled at_end left left2 window → ReadsHeader delimiter at_end left left2 window
header-within delimiter at_end left left2 window has so = record { filled = so; header = λ more end. has more }

pub knows-named : (options : Options) (at_end : Bool) (left left2 : Option (List ℕ)) (window : List ℕ) → ReadsHeader options.delimiter at_end left left2 window → KnowsColumns options at_end left left2 window
knows-named options at_end left left2 window so = record {
  filled = so.filled;
  key = λ more end. column-by_header options.delimiter (window ++ more) window options.column (so.header more end);
  topic = λ more end. topic-by_header options.delimiter (window ++ more) window options.topics.items options.topic_column (so.header more end);
}

pub knows-ok : (options : Options) (at_end : Bool) (left left2 : Option (List ℕ)) (window : List ℕ) (result : Result (Unit {0}) Refusal) → OnOk result (ReadsHeader options.delimiter at_end left left2 window)
    → OnOk result (KnowsColumns options at_end left left2 window)
knows-ok options at_end left left2 window (Ok u) so = knows-named options at_end left left2 window so
knows-ok options at_end left left2 window (Err e) so = tt

-- ---- what is found
answered : {T : Type 0} (expected : Result T Refusal) (e : Refusal) → Answers expected (Err e) → (e ≡ r.Memory) ⊎ (expected ≡ Err e)
answered expected e (inl is) = inr (sym is)
answered expected e (inr memory) = inl (cc memory)

found-is : {T : Type 0} (expected : Result T Refusal) (x : T) → Answers expected (Ok x) → expected ≡ Ok x
found-is expected x (inl is) = sym is
found-is expected x (inr memory) = absurd (cc memory)

pub finds-both : (options : Options) (file : List ℕ) (columns : Columns) → Answers (key_column options file) (Ok columns.key) → Answers (topic_column options file) (Ok columns.topic) → FindsColumns options file (Ok columns)
finds-both options file columns key topic = record { key = found-is (key_column options file) columns.key key; topic = found-is (topic_column options file) columns.topic topic }

pub found : (options : Options) (at_end : Bool) (left left2 : Option (List ℕ)) (window : List ℕ) (result : Result Columns Refusal) → KnowsColumns options at_end left left2 window → FindsColumns options window result
    → IfOk result (FoundColumns options at_end left left2 window)
found options at_end left left2 window (Err e) so finds = tt
found options at_end left left2 window (Ok columns) so finds = record {
  filled = so.filled;
  known = λ more end. record { key = so.key more end ∙ finds.key; topic = so.topic more end ∙ finds.topic };
}

-- ---- the records of a file whose columns are known
pub records-columns : (options : Options) (file : List ℕ) (columns : Columns) → AreColumns options file columns
    → records_of options file ≡ records_among options.delimiter options.header options.topics.items file columns.key columns.topic
unfolding records_of
records-columns options file columns so = rw (so.key, so.topic) refl

records-fault : (options : Options) (file : List ℕ) (e : Refusal) → IsColumnFault options file e → records_of options file ≡ Err e
unfolding records_of
records-fault options file e (inl key) = rw key refl
records-fault options file e (inr topic) = rw (topic.1, topic.2) refl

pub missing : (options : Options) (at_end : Bool) (left left2 : Option (List ℕ)) (window : List ℕ) (result : Result Columns Refusal) → KnowsColumns options at_end left left2 window → FindsColumns options window result
    → IfErr result (λ e. (e ≡ r.Memory) ⊎ ((e ≡ r.ReadFailed) ⊎ IfSome left (λ bytes. records_of options bytes ≡ Err e)))
missing options at_end left left2 window (Ok columns) so finds = tt
missing options at_end left left2 window (Err e) so (inl memory) = inl memory
missing options at_end left left2 window (Err e) so (inr fault) = inr (inr (known left left2 so.filled.consumed so.filled.ended))
  where
    there : (more : List ℕ) → MayFollow at_end more → IsColumnFault options window e → IsColumnFault options (window ++ more) e
    there more end (inl key) = inl (so.key more end ∙ key)
    there more end (inr topic) = inr (topic.0, so.key more end ∙ topic.1, so.topic more end ∙ topic.2)

    known : (left left2 : Option (List ℕ)) → Consumes left left2 window → (at_end ≡ true → IsAtEnd left2) → IfSome left (λ bytes. records_of options bytes ≡ Err e)
    known None left2 consumed ended = tt
    known (Some bytes) None consumed ended = absurd consumed
    known (Some bytes) (Some more) consumed ended = ap (records_of options) consumed ∙ records-fault options (window ++ more) e (there more ended fault)
