-- A file that is counted, from its columns and what is counted of it.
use Rattle.std.proofs.Common.{◌≡◌, ◌∙◌, ℕ, List, ◌++◌, Bool, true, Option, Some, None, Result, Ok, Err, sym, ap, subst, inl, inr}
use Rattle.std.specs.Prelude.{◌⊎◌, IfErr, IfOk}
use Rattle.std.specs.Io.KnownBytes.{Consumes, IsAtEnd}
use Rattle.std.specs.Result.{result_map_both}
use Rattle.byte_io.proofs.ConsecutiveCalls.{consumes_more}
use Rattle.lane_words.specs.declared.Refusal.{Refusal}
use Rattle.lane_words.specs.declared.Refusal.TheVariants as r
use Rattle.command_line.specs.declared.options.Options.{Options}
use Rattle.csv_ingest.specs.KeyFile.{Taking}
use Rattle.key_stream.specs.declared.counting.Counting.{Counting}
use Rattle.ingest.specs.Counted.{CountsFile}
use Rattle.ingest.specs.Limits.{records_taken}
use Rattle.ingest.specs.Private.Columns.{AreColumns, FoundColumns, IsRecordsFault}
use Rattle.ingest.specs.Private.Counted.{CountsColumns, CountsSource, IsColumnsFault, IsSourceFault, TakesColumns}
use Rattle.ingest.specs.Records.{names_topics, partition_counts, records_of}
use Rattle.ingest.specs.declared.columns.Columns.{Columns}
use Rattle.ingest.proofs.FoundColumns.{records-columns}

pub columns-ok : {E : Type 0} (options : Options) (columns : Columns) (wanted : Taking) (first : List ℕ) (first_end : Bool) (left left2 : Option (List ℕ)) (counting : Counting) (result : Result (Option Refusal) E)
    → TakesColumns options columns.key columns.topic wanted
    → IfOk result (CountsSource options.delimiter wanted options.header (partition_counts options) (names_topics options) first first_end left left2 counting)
    → IfOk result (CountsColumns options columns first first_end left left2 counting)
columns-ok options columns wanted first first_end left left2 counting (Ok refusal) takes so = record { wanted = wanted; takes = takes; counts = so }
columns-ok options columns wanted first first_end left left2 counting (Err e) takes so = tt

columns-fault : (options : Options) (columns : Columns) (wanted : Taking) (first : List ℕ) (left : Option (List ℕ)) (e : Refusal) → TakesColumns options columns.key columns.topic wanted
    → IsSourceFault options.delimiter wanted options.header first left e → IsColumnsFault options columns first left e
columns-fault options columns wanted first None e takes fault = tt
columns-fault options columns wanted first (Some rest) e takes fault =
    takes (first ++ rest) ∙ ap (result_map_both (records_taken (names_topics options)) (λ fault. fault)) fault

pub columns-err : {T : Type 0} (options : Options) (columns : Columns) (wanted : Taking) (first : List ℕ) (left : Option (List ℕ)) (result : Result T Refusal) → TakesColumns options columns.key columns.topic wanted
    → IfErr result (λ e. (e ≡ r.Memory) ⊎ ((e ≡ r.ReadFailed) ⊎ IsSourceFault options.delimiter wanted options.header first left e))
    → IfErr result (λ e. (e ≡ r.Memory) ⊎ ((e ≡ r.ReadFailed) ⊎ IsColumnsFault options columns first left e))
columns-err options columns wanted first left (Ok x) takes fault = tt
columns-err options columns wanted first left (Err e) takes fault =
    elim fault [
      | inl memory ↦ inl memory
      | inr other ↦ elim other [ inl read ↦ inr (inl read) | inr bad ↦ inr (inr (columns-fault options columns wanted first left e takes bad)) ]
    ]

-- ---- the file behind its columns
counts-file : (options : Options) (at_end : Bool) (left left2 left3 : Option (List ℕ)) (window : List ℕ) (columns : Columns) (counting : Counting) (refusal : Option Refusal) → FoundColumns options at_end left left2 window columns
    → CountsColumns options columns window at_end left2 left3 counting refusal → CountsFile options left left3 counting refusal
counts-file options at_end left left2 left3 window columns counting refusal found so =
    let c = so.counts in
    let here : AreColumns options c.read columns = subst (λ file. AreColumns options file columns) (sym c.bytes.whole) (found.known c.bytes.more c.bytes.follows) in
    record {
      read = c.read;
      consumed = subst (Consumes left left3) (sym c.bytes.whole) (consumes_more left left2 left3 window c.bytes.more found.filled.consumed c.bytes.consumed);
      ended = c.ended;
      wanted = so.wanted;
      counted = c.counted;
      records = records-columns options c.read columns here ∙ so.takes c.read ∙ ap (result_map_both (records_taken (names_topics options)) (λ fault. fault)) c.counted.so.so.taken;
      topics = c.topics;
      refused = c.refused;
    }

pub file-ok : {E : Type 0} (options : Options) (at_end : Bool) (left left2 left3 : Option (List ℕ)) (window : List ℕ) (columns : Columns) (counting : Counting) (result : Result (Option Refusal) E)
    → FoundColumns options at_end left left2 window columns
    → IfOk result (CountsColumns options columns window at_end left2 left3 counting) → IfOk result (CountsFile options left left3 counting)
file-ok options at_end left left2 left3 window columns counting (Ok refusal) found so = counts-file options at_end left left2 left3 window columns counting refusal found so
file-ok options at_end left left2 left3 window columns counting (Err e) found so = tt

file-fault : (options : Options) (at_end : Bool) (left left2 : Option (List ℕ)) (window : List ℕ) (columns : Columns) (e : Refusal) → FoundColumns options at_end left left2 window columns → IsColumnsFault options columns window left2 e
    → IsRecordsFault options left e
file-fault options at_end left left2 window columns e found fault = known left left2 found.filled.consumed found.filled.ended fault
  where
    known : (left left2 : Option (List ℕ)) → Consumes left left2 window → (at_end ≡ true → IsAtEnd left2) → IsColumnsFault options columns window left2 e → IsRecordsFault options left e
    known None left2 consumed ended fault = tt
    known (Some bytes) None consumed ended fault = absurd consumed
    known (Some bytes) (Some rest) consumed ended fault =
        ap (records_of options) consumed ∙ records-columns options (window ++ rest) columns (found.known rest ended) ∙ fault

pub file-err : {T : Type 0} (options : Options) (at_end : Bool) (left left2 : Option (List ℕ)) (window : List ℕ) (columns : Columns) (result : Result T Refusal) → FoundColumns options at_end left left2 window columns
    → IfErr result (λ e. (e ≡ r.Memory) ⊎ ((e ≡ r.ReadFailed) ⊎ IsColumnsFault options columns window left2 e))
    → IfErr result (λ e. (e ≡ r.Memory) ⊎ ((e ≡ r.ReadFailed) ⊎ IsRecordsFault options left e))
file-err options at_end left left2 window columns (Ok x) found fault = tt
file-err options at_end left left2 window columns (Err e) found fault =
    elim fault [
      | inl memory ↦ inl memory
      | inr other ↦ elim other [ inl read ↦ inr (inl read) | inr bad ↦ inr (inr (file-fault options at_end left left2 window columns e found bad)) ]
    ]
