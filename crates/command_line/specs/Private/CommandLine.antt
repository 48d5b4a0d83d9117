-- What clap has checked of the words, and what its errors become.
use Rattle.std.specs.Prelude.{◌≡◌, ◌⊎◌, ℕ, Bool, List, Option, Some, None, codes, false, ⊤, ◌≢◌, IsSome, pos, string_bytes}
use Rattle.clap.specs.Simple.{App, app_of}
use Rattle.clap.specs.Values.{IsSignedIn}
use Rattle.clap.specs.Walk.{Row, Text, first_of}
use Rattle.clap.specs.declared.builder.command.Command.{Command}
use Rattle.clap.specs.declared.builder.command.Command.TheViews.{out-Command}
use Rattle.clap.specs.declared.error.kind.ErrorKind.{ErrorKind}
use Rattle.lane_words.specs.declared.limits.TheConstants.{MOST_PARTITIONS}
use Rattle.clap.specs.declared.error.kind.ErrorKind.TheVariants as kind
use Rattle.command_line.specs.Columns.{IsBadColumn}
use Rattle.command_line.specs.Delimiters.{IsBadDelimiter}
use Rattle.command_line.specs.CommandLine.{HasBadColumn, HasBadDelimiter, HasJob, IsRequest, bad_topics, name_of}
use Rattle.command_line.specs.Topics.{IsBadList}
use Rattle.command_line.specs.declared.words.Job.{Job}
use Rattle.command_line.specs.declared.words.Usage.{Usage}
use Rattle.command_line.specs.declared.words.Usage.TheVariants.{Help, Bad, Memory}
use Rattle.command_line.specs.declared.options.TheConstants.{LAST_CODE, LAST_COLUMN, MOST_BATCH, MOST_ROWS}

-- the text, if there is one, denotes a number from 1 to `most`
abbrev pub IsOptionalNumber : Option Text → ℕ → Type 0
IsOptionalNumber None most = ⊤
IsOptionalNumber (Some text) most = IsSignedIn (pos 1) (pos most) text

-- what clap has checked of the options of all jobs
pub record AreOptionRows (rows : List Row) : Type 0 where
  pub partitions : IsOptionalNumber (first_of (codes "partitions") rows) MOST_PARTITIONS
  pub top : IsOptionalNumber (first_of (codes "top") rows) MOST_ROWS

-- what clap has checked of the words after `count`
pub record AreCountRows (rows : List Row) : Type 0 where
  pub file : IsSome (first_of (codes "file") rows)
  pub options : AreOptionRows rows

-- what clap has checked of the words after `place`
pub record ArePlaceRows (rows : List Row) : Type 0 where
  pub file : IsSome (first_of (codes "file") rows)
  pub options : AreOptionRows rows
  pub given : IsOptionalNumber (first_of (codes "given") rows) LAST_COLUMN

-- what clap has checked of the words after `check`
pub record AreCheckRows (rows : List Row) : Type 0 where
  pub file : IsSome (first_of (codes "file") rows)
  pub options : AreOptionRows rows
  pub most : IsOptionalNumber (first_of (codes "most") rows) MOST_ROWS

-- what clap has checked of the words after `replay`, `trace`, `draw` or `run`
pub record AreScriptRows (rows : List Row) : Type 0 where
  pub file : IsSome (first_of (codes "file") rows)
  pub script : IsSome (first_of (codes "script") rows)
  pub options : AreOptionRows rows
  pub batch : IsOptionalNumber (first_of (codes "batch") rows) MOST_BATCH

-- what clap has checked of the words after `explain`
pub record AreExplainRows (rows : List Row) : Type 0 where
  pub code : IsOptionalNumber (first_of (codes "code") rows) LAST_CODE
  pub no_topics : first_of (codes "topics") rows ≡ None

-- the subcommands that take a script
abbrev pub IsOfScript : Text → Type 0
IsOfScript name = (name ≡ codes "replay") ⊎ (name ≡ codes "trace") ⊎ (name ≡ codes "draw")
    ⊎ (name ≡ codes "run")

-- what clap has checked of the words after the subcommand of this name
abbrev pub AreRowsOf : Text → List Row → Type 0
AreRowsOf name rows =
    ((name ≡ codes "count") × AreCountRows rows) ⊎ (IsOfScript name × AreScriptRows rows)
    ⊎ ((name ≡ codes "explain") × AreExplainRows rows)
    ⊎ ((name ≡ codes "place") × ArePlaceRows rows) ⊎ ((name ≡ codes "check") × AreCheckRows rows)

-- clap parses by this command as by `app`
abbrev pub IsReadAs : App → Command → Type 0
IsReadAs app c = app_of c ≡ app

-- the same, and the command has no global argument
pub record IsCommand (app : App) (c : Command) : Type 0 where
  pub read_as : IsReadAs app c
  pub local : (out-Command c).has_globals ≡ false

-- what an error of clap becomes: a request for help or for the version `Help`, any other `Bad`
abbrev pub IsUsageOf : Usage → ErrorKind → Type 0
IsUsageOf (Help text) k = IsRequest k
IsUsageOf (Bad text) k =
    (k ≢ kind.DisplayHelp) × (k ≢ kind.DisplayVersion) × (k ≢ kind.OutOfMemory)
IsUsageOf Memory k = ⊤

-- the job of the subcommand of this name, with the files and options that clap found
abbrev pub IsJobOfRows : Text → List Row → Job → Type 0
IsJobOfRows name rows job = (name_of job ≡ name) × HasJob rows job

-- a list of topics is reported as not valid only where the one that clap found is not
abbrev pub ReportsBadList : List Row → Usage → Type 0
ReportsBadList rows (Help text) = ⊥
ReportsBadList rows (Bad text) =
    IsBadList (first_of (codes "topics") rows) × (string_bytes text ≡ bad_topics)
ReportsBadList rows Memory = ⊤

-- an error is reported, or memory runs out
abbrev pub IsBadReport : Usage → Type 0
IsBadReport (Help text) = ⊥
IsBadReport (Bad text) = ⊤
IsBadReport Memory = ⊤

-- a value is reported as no column only where it is none
abbrev pub ReportsBadColumn : Bool → Option Text → Usage → Type 0
ReportsBadColumn header value (Help text) = ⊥
ReportsBadColumn header value (Bad text) = IsBadColumn header value
ReportsBadColumn header value Memory = ⊤

-- a value is reported as no delimiter only where it is none
abbrev pub ReportsBadDelimiter : Option Text → Usage → Type 0
ReportsBadDelimiter value (Help text) = ⊥
ReportsBadDelimiter value (Bad text) = IsBadDelimiter value
ReportsBadDelimiter value Memory = ⊤

-- an option is reported as not valid only where it is not: the list of topics, or then a column or
-- the delimiter
abbrev pub ReportsBadOption : List Row → Usage → Type 0
ReportsBadOption rows (Help text) = ⊥
ReportsBadOption rows (Bad text) =
    (IsBadList (first_of (codes "topics") rows) × (string_bytes text ≡ bad_topics))
    ⊎ (HasBadColumn rows ⊎ HasBadDelimiter rows)
ReportsBadOption rows Memory = ⊤
