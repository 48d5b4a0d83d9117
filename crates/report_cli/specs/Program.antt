-- What the program does with the words of its command line: what it writes, and its exit status.
use Rattle.std.specs.Prelude.{◌≡◌, ◌⊎◌, ◌+◌, ℕ, Bool, false, if◌then◌else◌, List, Option, Some, None, Result, Ok, Err, IfOk, IfSome, IsErrAnd, MatchResult, codes, map, string_bytes}
use Rattle.std.specs.Borrow.{Bor}
use Rattle.std.specs.Io.KnownBytes.{Appends, Keeps}
use Rattle.std.specs.Result.{result_map_both}
use Rattle.lane_words.specs.Refusal.{code_of}
use Rattle.lane_words.specs.declared.Refusal.{Refusal}
use Rattle.lane_words.specs.declared.Refusal.TheVariants as r
use Rattle.byte_io.specs.Devices.{AppendsPrefix}
use Rattle.check_report.specs.CheckReport.{findings_of, report_of_check}
use Rattle.check_report.specs.Findings.{has_fault}
use Rattle.command_line.specs.CommandLine.{HaveBadList, IsBadListReport, IsJobOf, IsRefusal}
use Rattle.command_line.specs.Explanations.{explained}
use Rattle.command_line.specs.declared.words.Job.{Job}
use Rattle.command_line.specs.declared.words.Job.TheVariants.{Count, Place, Check, Replay, Trace, Draw, Run, Explain}
use Rattle.command_line.specs.declared.words.Usage.{Usage}
use Rattle.command_line.specs.declared.words.Usage.TheVariants.{Help, Bad, Memory}
use Rattle.count_report.specs.CountReport.{report_of_count}
use Rattle.draw_report.specs.DrawReport.{report_of_draw}
use Rattle.ingest.specs.Reports.{WritesAtEndAlone, WritesIfFileKnown, WritesIfKnown, WritesReport, failed_writes, written}
use Rattle.place_report.specs.Given.{has_misplaced}
use Rattle.place_report.specs.PlaceReport.{report_of_place}
use Rattle.replay_report.specs.ReplayReport.{report_of_replay}
use Rattle.run_report.specs.RunReport.{WritesRunIfKnown, report_of_run}
use Rattle.trace_report.specs.TraceReport.{report_of_trace}
use Rattle.report_cli.specs.Faults.{fault_text, status_of}
use Rattle.report_cli.specs.Files.{Files}
use Rattle.report_cli.specs.Input.{AsksForTwoTables, HasNoCode, ReadsInputTwice}
use Rattle.report_cli.specs.declared.program.NoWords.{NoWords}
use Rattle.report_cli.specs.declared.program.NoWords.TheVariants as none

-- ---- standard output and standard error
-- a stream: the bytes written to it, if they are known, and the number of writes that failed
pub record Stream : Type 0 where
  pub written : Option (List ℕ)
  pub failures : ℕ

-- a stream before and after
pub record Change : Type 0 where
  pub old : Stream
  pub new : Stream

-- a sink as a stream
abbrev pub stream_of : {K : Type 0} → (K → Option (List ℕ)) → (K → ℕ) → K → Stream
stream_of contents count sink = record { written = contents sink; failures = count sink }

-- what became of a sink
abbrev pub change : {K : Type 0} → (K → Option (List ℕ)) → (K → ℕ) → K → K → Change
change contents count old new = record {
  old = stream_of contents count old;
  new = stream_of contents count new;
}

-- nothing is written
abbrev pub IsSilent : Change → Type 0
IsSilent stream =
    Keeps stream.old.written stream.new.written × (stream.new.failures ≡ stream.old.failures)

-- a text is written, or a prefix of it if a write failed
abbrev pub Prints : List ℕ → Change → Type 0
Prints text stream =
    (Appends stream.old.written stream.new.written text
    × (stream.new.failures ≡ stream.old.failures))
    ⊎ (AppendsPrefix stream.old.written stream.new.written text
    × (stream.new.failures ≡ stream.old.failures + 1))

-- ---- a job
-- what a job with this answer writes, given the bytes that paths stand for: its report
abbrev pub WritesOf : (List ℕ → Option (List ℕ)) → Job → Option (List ℕ) → Option (List ℕ)
    → Result Bool Refusal → Type 0
WritesOf named (Count file options) old new answer =
    WritesIfFileKnown (report_of_count options) (named file.now) old new (written answer)
WritesOf named (Place file options place) old new answer =
    WritesIfFileKnown (report_of_place options place) (named file.now) old new (written answer)
WritesOf named (Check file None options check) old new answer =
    WritesIfFileKnown (λ bytes. report_of_check options check bytes None)
    (named file.now) old new (written answer)
WritesOf named (Check file (Some script) options check) old new answer =
    WritesIfKnown (λ bytes lines. report_of_check options check bytes (Some lines))
    (named file.now) (named script.now) old new (written answer)
WritesOf named (Replay file script options) old new answer =
    WritesIfKnown (report_of_replay options)
    (named file.now) (named script.now) old new (written answer)
WritesOf named (Trace file script options) old new answer =
    WritesIfKnown (report_of_trace options)
    (named file.now) (named script.now) old new (written answer)
WritesOf named (Draw file script options) old new answer =
    WritesIfKnown (report_of_draw options)
    (named file.now) (named script.now) old new (written answer)
WritesOf named (Run file script options) old new answer =
    WritesRunIfKnown (report_of_run options)
    (named file.now) (named script.now) old new (written answer)
WritesOf named (Explain None) old new answer =
    WritesReport (Ok (explained None)) old new (written answer)
WritesOf named (Explain (Some code)) old new answer =
    (refusal : Refusal) × (code_of refusal ≡ code)
    × WritesReport (Ok (explained (Some refusal))) old new (written answer)

-- whether a job finds what its status tells: a place a misplaced record, and a check a fault
abbrev pub FindsOf : (List ℕ → Option (List ℕ)) → Job → Bool → Type 0
FindsOf named (Place file options place) found =
    IfSome (named file.now) (λ bytes. found ≡ has_misplaced options place.given bytes)
FindsOf named (Check file None options check) found =
    IfSome (named file.now) (λ bytes. found ≡ has_fault (findings_of options check bytes None))
FindsOf named (Check file (Some script) options check) found =
    IfSome (named file.now) (λ bytes. IfSome (named script.now) (λ lines.
    found ≡ has_fault (findings_of options check bytes (Some lines))))
FindsOf named job found = found ≡ false

-- what a job writes to standard output, and its answer: what it found, or its fault. It fails with
-- `ReadFailed` only if an open or a read failed
pub record HasAnswer (files : Files) (job : Job) (out : Change) (answer : Result Bool Refusal)
    : Type 0 where
  pub writes : WritesOf files.bytes_at job out.old.written out.new.written answer
  pub found : IfOk answer (FindsOf files.bytes_at job)
  pub at_end : WritesAtEndAlone out.old.written out.new.written (written answer)
  pub failures : out.new.failures ≡ out.old.failures + failed_writes (written answer)
  pub cause : answer ≡ Err r.ReadFailed → files.HasFailed

-- how the program ends with an answer: silently, with status 1 if something was found and otherwise
-- 0, or with the line of the fault on standard error, and its status
abbrev pub Ends : Result Bool Refusal → Change → ℕ → Type 0
Ends (Ok found) err status = IsSilent err × (status ≡ (if found then 1 else 0))
Ends (Err fault) err status = Prints (fault_text fault) err × (status ≡ status_of fault)

-- a job is done
abbrev pub DoesJob : Files → Job → Change → Change → ℕ → Type 0
DoesJob files job out err status =
    (answer : Result Bool Refusal) × HasAnswer files job out answer × Ends answer err status

-- ---- the words
-- the texts of words
abbrev pub lent_texts : List (Bor (List ℕ)) → List (List ℕ)
lent_texts words = map (λ word. word.now) words

-- the texts of the words that the program was given, or why it has none
abbrev pub texts_of : Result (Bor (List (Bor (List ℕ)))) NoWords
    → Result (List (List ℕ)) NoWords
texts_of words = result_map_both (λ given. lent_texts given.now) (λ why. why) words

-- a usage error with this text, on standard error alone
abbrev pub IsUsageError : List ℕ → Change → Change → ℕ → Type 0
IsUsageError text out err status = IsSilent out × Prints text err × (status ≡ 2)

-- why a job that clap accepts can't be done
abbrev pub two_inputs : List ℕ
two_inputs = codes "error: only one of FILE and SCRIPT can be standard input\n"

abbrev pub two_tables : List ℕ
two_tables = codes "error: --keys and --given cannot be used together\n"

abbrev pub no_such_code : List ℕ
no_such_code =
    codes "error: no refusal or fault has this number; keycount explain lists all of them\n"

abbrev pub IsUnusable : Job → List ℕ → Type 0
IsUnusable job text =
    (ReadsInputTwice job × (text ≡ two_inputs))
    ⊎ ((AsksForTwoTables job × (text ≡ two_tables)) ⊎ (HasNoCode job × (text ≡ no_such_code)))

-- a job is done, or can't be, and then it is a usage error
abbrev pub DoesIfUsable : Files → Job → Change → Change → ℕ → Type 0
DoesIfUsable files job out err status =
    ((text : List ℕ) × IsUnusable job text × IsUsageError text out err status)
    ⊎ (((text : List ℕ) → IsUnusable job text → ⊥) × DoesJob files job out err status)

-- there is no job: help and the version go to standard output
abbrev pub Refuses : Usage → Change → Change → ℕ → Type 0
Refuses (Help text) out err status =
    Prints (string_bytes text) out × IsSilent err × (status ≡ 0)
Refuses (Bad text) out err status = IsUsageError (string_bytes text) out err status
Refuses Memory out err status = IsSilent out × Ends (Err r.Memory) err status

-- what is done with what the words ask for
abbrev pub Does : Files → Result Job Usage → Change → Change → ℕ → Type 0
Does files (Ok job) out err status = DoesIfUsable files job out err status
Does files (Err usage) out err status = Refuses usage out err status

-- the words are understood, and done
pub record Obeys (files : Files) (words : List (List ℕ)) (out err : Change) (status : ℕ)
    : Type 0 where
  pub read : Result Job Usage
  pub understood : MatchResult read (IsJobOf words) (IsRefusal words)
  pub bad_topics : HaveBadList words → IsErrAnd read IsBadListReport
  pub does : Does files read out err status

-- what the program does with its words; without them it ends with a usage error if they are no
-- text, and otherwise for want of memory
abbrev pub RunsProgram : Files → Result (List (List ℕ)) NoWords → Change → Change → ℕ → Type 0
RunsProgram files (Ok words) out err status = Obeys files words out err status
RunsProgram files (Err none.NotText) out err status =
    IsUsageError (codes "error: a word of the command line is not UTF-8 text\n") out err status
RunsProgram files (Err none.Memory) out err status =
    IsSilent out × Ends (Err r.Memory) err status
