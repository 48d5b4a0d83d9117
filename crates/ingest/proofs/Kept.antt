-- The records that are kept of a file, from what was counted of it.
use Rattle.std.proofs.Common.{◌≡◌, ◌∙◌, ℕ, Bool, true, List, ◌++◌, Ok, Option, Some, None, sym, ap, ap₂, subst, append-nil}
use Rattle.std.specs.Prelude.{IfSome}
use Rattle.std.specs.Io.KnownBytes.{Consumes, IsAtEnd}
use Rattle.lane_words.specs.declared.Refusal.{Refusal}
use Rattle.command_line.specs.declared.options.Options.{Options}
use Rattle.key_index.specs.Keys.{Key}
use Rattle.key_counts.specs.Rounds.{HaveTaken}
use Rattle.key_counts.specs.Segments.{keys_of}
use Rattle.key_stream.specs.Tally.{AreCountersOf}
use Rattle.key_stream.specs.declared.counting.Counting.{Counting}
use Rattle.key_stream.specs.declared.tally.Counters.{Counters}
use Rattle.ingest.specs.Counted.{AreReadFor, CountsFile, IsReadFrom}
use Rattle.ingest.specs.Limits.{records_taken}
use Rattle.ingest.specs.Private.Records.{AreKept, keys_kept}
use Rattle.ingest.specs.Records.{ReadRecords, names_topics, records_of}

pub keys-are : (options : Options) (left left2 : Option (List ℕ)) (counting : Counting) (refusal : Option Refusal) (counters : Counters) → AreCountersOf counting counters → counting.coded ≡ true
    → (file : CountsFile options left left2 counting refusal) → keys_kept counters.workers.items counters.chunks.items ≡ file.counted.keys
keys-are options left left2 counting refusal counters are coded file =
    let have = are options.delimiter file.wanted options.header file.read file.counted in
    have.0.recorded.all (have.1 ∙ coded)

pub are-kept : (options : Options) (left left2 : Option (List ℕ)) (counting : Counting) (refusal : Option Refusal) (counters : Counters) → AreCountersOf counting counters → counting.coded ≡ true
    → CountsFile options left left2 counting refusal → AreKept counters.workers.items counters.segments.items counters.chunks.items
are-kept options left left2 counting refusal counters are coded file =
    let have = are options.delimiter file.wanted options.header file.read file.counted in
    let workers = counters.workers.items in
    record {
      parts = have.0.recorded.parts;
      lens = have.0.lens;
      entries = have.0.parts;
      so =
          subst (λ keys. HaveTaken keys (keys_of workers counters.segments.items) workers) (sym (keys-are options left left2 counting refusal counters are coded file))
          have.0.taken;
    }

pub read-from : (options : Options) (counting : Counting) (refusal : Option Refusal) (counters : Counters) (has_topics : Bool) → AreCountersOf counting counters → counting.coded ≡ true → has_topics ≡ names_topics options
    → (let read : ReadRecords = record { records = records_taken has_topics (keys_kept counters.workers.items counters.chunks.items); refusal = refusal } in
    IsReadFrom options counting refusal read)
read-from options counting refusal counters has_topics are coded named = λ left left2 file.
    ap₂ (λ (b : Bool) (keys : List Key). let read : ReadRecords = record { records = records_taken b keys; refusal = refusal } in read) named
    (keys-are options left left2 counting refusal counters are coded file)

-- ---- the bytes of the source
whole : (bytes read : List ℕ) (left2 : Option (List ℕ)) → Consumes (Some bytes) left2 read → IsAtEnd left2 → read ≡ bytes
whole bytes read None consumed ended = absurd consumed
whole bytes read (Some rest) consumed ended = sym (consumed ∙ ap (λ more. read ++ more) ended ∙ append-nil read)

pub records-are : (options : Options) (left left2 : Option (List ℕ)) (counting : Counting) (refusal : Option Refusal) (read : ReadRecords) → IsReadFrom options counting refusal read
    → CountsFile options left left2 counting refusal → IfSome left (λ bytes. records_of options bytes ≡ Ok read.records)
records-are options None left2 counting refusal read is file = tt
records-are options (Some bytes) left2 counting refusal read is file =
    subst (λ (bs : List ℕ). records_of options bs ≡ Ok read.records) (whole bytes file.read left2 file.consumed file.ended)
    (file.records ∙ ap Ok (sym (ap (λ (r : ReadRecords). r.records) (is (Some bytes) left2 file))))

pub read-for : (options : Options) (left left2 : Option (List ℕ)) (counting : Counting) (refusal : Option Refusal) (read : ReadRecords) → IsReadFrom options counting refusal read
    → CountsFile options left left2 counting refusal → AreReadFor options read
unfolding AreReadFor
read-for options left left2 counting refusal read is file = rw (is left left2 file) (record { topics = file.topics; refused = file.refused })
