-- A file that is counted within the limits of its logs.
use Rattle.std.specs.Prelude.{◌≡◌, ℕ, Bool, List, [], Option, Ok}
use Rattle.std.specs.Io.KnownBytes.{Consumes, IsAtEnd}
use Rattle.command_line.specs.declared.options.Options.{Options}
use Rattle.lane_words.specs.declared.Refusal.{Refusal}
use Rattle.csv_ingest.specs.KeyFile.{Taking}
use Rattle.key_stream.specs.Counting.{IsCounted}
use Rattle.key_stream.specs.declared.counting.Counting.{Counting}
use Rattle.ingest.specs.Limits.{records_taken}
use Rattle.ingest.specs.RecordFaults.{first_fault}
use Rattle.ingest.specs.Records.{AreOfTopics, ReadRecords, names_topics, partition_counts, records_of}

-- nothing is counted yet, whatever is to be taken of a file
abbrev pub HasCountedNothing : Counting → Type 0
HasCountedNothing counting =
    (delimiter : ℕ) (wanted : Taking) (header : Bool)
    → IsCounted delimiter wanted header [] counting

-- records were read for these options: each is of one of their topics, and the refusal is that of
-- their logs
pub record IsReadFor (options : Options) (read : ReadRecords) : Type 0 where
  pub topics : AreOfTopics (partition_counts options) read.records
  pub refused : first_fault (partition_counts options) [] read.records ≡ read.refusal

-- the same, for those who only hand it on
unfoldable pub AreReadFor : Options → ReadRecords → Type 0
AreReadFor options read = IsReadFor options read

-- a source was read to its end, and all its bytes were counted: the keys are those of the records
-- of a file of these bytes; and why the first of them that can't be appended can't
pub record CountsFile (options : Options) (left left2 : Option (List ℕ)) (counting : Counting)
    (refusal : Option Refusal) : Type 0 where
  pub read : List ℕ
  pub consumed : Consumes left left2 read
  pub ended : IsAtEnd left2
  pub wanted : Taking
  pub counted : IsCounted options.delimiter wanted options.header read counting
  pub records : records_of options read ≡ Ok (records_taken (names_topics options) counted.keys)
  pub topics : AreOfTopics (partition_counts options)
      (records_taken (names_topics options) counted.keys)
  pub refused : first_fault (partition_counts options) []
      (records_taken (names_topics options) counted.keys) ≡ refusal

-- the records of a file that was counted
abbrev pub IsReadFrom : Options → Counting → Option Refusal → ReadRecords → Type 0
IsReadFrom options counting refusal read =
    (left left2 : Option (List ℕ)) (file : CountsFile options left left2 counting refusal)
    → read
    ≡ record { records = records_taken (names_topics options) file.counted.keys; refusal = refusal }
