-- The report of a file, from what was counted of it.
use Rattle.std.proofs.Common.{◌≡◌, ◌∙◌, ◌++◌, ◌∷◌, [], ℕ, Bool, true, false, List, Result, Ok, Err, Option, Some, None, ap, append-nil, drop, inl, inr, length, refl, subst, sym}
use Rattle.std.proofs.lemmas.List.{length-map}
use Rattle.std.specs.Io.KnownBytes.{Consumes, IsAtEnd}
use Rattle.std.specs.Prelude.{◌⊎◌, IfSome, Vec, flat_map, vec_items}
use Rattle.std.specs.Global.{Global}
use Rattle.lane_words.specs.declared.Refusal.{Refusal}
use Rattle.lane_words.specs.declared.Refusal.TheVariants as r
use Rattle.command_line.specs.declared.options.Options.{Options}
use Rattle.key_index.specs.Keys.{Key, distinct}
use Rattle.key_stream.specs.Counting.{occurrences}
use Rattle.key_stream.specs.Tally.{AreCountersOf}
use Rattle.key_stream.specs.declared.tally.Counters.{Counters}
use Rattle.key_stream.specs.declared.counting.Counting.{Counting}
use Rattle.partition_log.specs.Keys.{keys_in}
use Rattle.report_rows.specs.CountRows.{counts_of, listed_rows, plain_text}
use Rattle.report_rows.specs.Rows.{total_row}
use Rattle.ingest.specs.Counted.{CountsFile}
use Rattle.ingest.specs.Limits.{records_taken}
use Rattle.ingest.specs.RecordFaults.{IsKeyFault, fault_or}
use Rattle.ingest.proofs.Failures.{first_fault-kind}
use Rattle.ingest.specs.Records.{names_topics, partition_counts}
use Rattle.ingest.specs.Reports.{IsFaultOf, IsNoWrite, failed_reads, report_of_read}
use Rattle.count_report.specs.CountReport.{report_of_count, report_of_records}
use Rattle.count_report.specs.Private.Counted.{ReportsCounted, TellsCounters, keys_read, skipped, text_of}

pub keys-behind : (has_topics : Bool) (keys : List Key) → keys_in (records_taken has_topics keys) ≡ keys_read has_topics keys
keys-behind has_topics [] = refl
keys-behind false (key ∷ keys) = ap (λ ks. key ∷ ks) (keys-behind false keys)
keys-behind true ([] ∷ keys) = ap (λ ks. [] ∷ ks) (keys-behind true keys)
keys-behind true ((index ∷ key) ∷ keys) = ap (λ ks. key ∷ ks) (keys-behind true keys)

occurrences-are : (keys : List Key) → occurrences keys ≡ counts_of keys
unfolding counts_of
occurrences-are keys = refl

pub reported : (options : Options) (left left2 : Option (List ℕ)) (counting : Counting) (file : CountsFile options left left2 counting None) (texts : List ℕ)
    → texts ≡ text_of options.top (keys_read (names_topics options) file.counted.keys) counting.round.keys → report_of_count options file.read ≡ Ok texts
reported options left left2 counting file texts is =
    let taken = file.counted.keys in
    let keys = keys_in (records_taken (names_topics options) taken) in
    let same : keys ≡ keys_read (names_topics options) taken = keys-behind (names_topics options) taken in
    let total : counting.round.keys ≡ length keys = file.counted.so.counted ∙ sym (length-map taken (drop (skipped (names_topics options)))) ∙ ap length (sym same) in
    let text : texts ≡ plain_text options.top keys =
    is ∙ ap (λ ks. text_of options.top ks counting.round.keys) (sym same) ∙ ap (λ ns. listed_rows options.top (distinct keys) ns ++ total_row counting.round.keys counting.round.keys) (occurrences-are keys)
    ∙ ap (λ n. listed_rows options.top (distinct keys) (counts_of keys) ++ total_row n n) total in
    ap (report_of_read (report_of_records options.top (partition_counts options))) file.records
    ∙ ap (λ fault. fault_or fault (plain_text options.top keys)) file.refused ∙ ap Ok (sym text)

pub reports : (options : Options) (counting : Counting) (counters : Counters) → AreCountersOf counting counters → (texts : Vec (Vec ℕ Global) Global)
    → TellsCounters options counters counting.round.keys texts → ReportsCounted options counting texts
reports options counting counters counted texts each = λ left left2 file.
    reported options left left2 counting file (flat_map vec_items texts.items)
    (each file.counted.keys (counted options.delimiter file.wanted options.header file.read file.counted).0)

-- ---- the bytes of the source
whole : (bytes read : List ℕ) (left2 : Option (List ℕ)) → Consumes (Some bytes) left2 read → IsAtEnd left2 → read ≡ bytes
whole bytes read None consumed ended = absurd consumed
whole bytes read (Some rest) consumed ended = sym (consumed ∙ ap (λ more. read ++ more) ended ∙ append-nil read)

pub reported-source : (options : Options) (left left2 : Option (List ℕ)) (counting : Counting) (file : CountsFile options left left2 counting None) (texts : List ℕ)
    → report_of_count options file.read ≡ Ok texts → IfSome left (λ bytes. report_of_count options bytes ≡ Ok texts)
reported-source options left left2 counting file texts is = known left file.consumed
  where
    known : (left : Option (List ℕ)) → Consumes left left2 file.read → IfSome left (λ bytes. report_of_count options bytes ≡ Ok texts)
    known None consumed = tt
    known (Some bytes) consumed = subst (λ read. report_of_count options read ≡ Ok texts) (whole bytes file.read left2 consumed file.ended) is

-- ---- a file that is refused
refused-record : (options : Options) (left left2 : Option (List ℕ)) (counting : Counting) (refusal : Refusal) → CountsFile options left left2 counting (Some refusal)
    → IfSome left (λ bytes. report_of_count options bytes ≡ Err refusal)
refused-record options left left2 counting refusal file = known left file.consumed
  where
    here : report_of_count options file.read ≡ Err refusal
    here =
        let keys = keys_in (records_taken (names_topics options) file.counted.keys) in
        ap (report_of_read (report_of_records options.top (partition_counts options))) file.records ∙ ap (λ fault. fault_or fault (plain_text options.top keys)) file.refused

    known : (left : Option (List ℕ)) → Consumes left left2 file.read → IfSome left (λ bytes. report_of_count options bytes ≡ Err refusal)
    known None consumed = tt
    known (Some bytes) consumed = subst (λ read. report_of_count options read ≡ Err refusal) (whole bytes file.read left2 consumed file.ended) here

fault-of : (expected : Result (List ℕ) Refusal) (e : Refusal) → IsNoWrite e → (e ≡ r.Memory) ⊎ ((e ≡ r.ReadFailed) ⊎ (expected ≡ Err e)) → IsFaultOf expected e
fault-of expected r.ReadFailed kind so = tt
fault-of expected r.Memory kind so = tt
fault-of expected r.WriteFailed kind so = absurd kind
fault-of expected e kind (inl memory) = absurd (cc memory)
fault-of expected e kind (inr (inl read)) = absurd (cc read)
fault-of expected e kind (inr (inr is)) = is

-- the same of a record that can't be appended
key-fault : (options : Options) (left left2 : Option (List ℕ)) (counting : Counting) (refusal : Refusal) → CountsFile options left left2 counting (Some refusal) → IsKeyFault refusal
key-fault options left left2 counting refusal file =
    first_fault-kind (partition_counts options) [] (records_taken (names_topics options) file.counted.keys) refusal file.refused

key-fault-of : (expected : Result (List ℕ) Refusal) (e : Refusal) → IsKeyFault e → expected ≡ Err e → IsFaultOf expected e
key-fault-of expected r.ReadFailed kind is = tt
key-fault-of expected r.Memory kind is = tt
key-fault-of expected r.WriteFailed kind is = absurd kind
key-fault-of expected e kind is = is

pub refused-fault : (options : Options) (left left2 : Option (List ℕ)) (counting : Counting) (refusal : Refusal) → CountsFile options left left2 counting (Some refusal)
    → IfSome left (λ bytes. IsFaultOf (report_of_count options bytes) refusal)
refused-fault options None left2 counting refusal file = tt
refused-fault options (Some bytes) left2 counting refusal file =
    key-fault-of (report_of_count options bytes) refusal (key-fault options (Some bytes) left2 counting refusal file) (refused-record options (Some bytes) left2 counting refusal file)

write-kind : (e : Refusal) → IsKeyFault e → IsNoWrite e
write-kind r.WriteFailed kind = absurd kind
write-kind e kind = tt

pub refused-kind : (options : Options) (left left2 : Option (List ℕ)) (counting : Counting) (refusal : Refusal) → CountsFile options left left2 counting (Some refusal) → IsNoWrite refusal
refused-kind options left left2 counting refusal file = write-kind refusal (key-fault options left left2 counting refusal file)

no-reads : (e : Refusal) → IsKeyFault e → failed_reads {T = Unit {0}} (Err e) ≡ 0
no-reads r.ReadFailed kind = absurd kind
no-reads e kind = refl

pub refused-reads : (options : Options) (left left2 : Option (List ℕ)) (counting : Counting) (refusal : Refusal) → CountsFile options left left2 counting (Some refusal) → failed_reads {T = Unit {0}} (Err refusal) ≡ 0
refused-reads options left left2 counting refusal file = no-reads refusal (key-fault options left left2 counting refusal file)
