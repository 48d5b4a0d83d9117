-- The command line of keycount, as clap describes one.
use Rattle.std.specs.Prelude.{◌≡◌, ◌⊎◌, ℕ, List, [], Option, Some, None, Ok, true, false, codes, Bool, ⊤, ◌≢◌, option_map, pos, string_bytes}
use Rattle.std.specs.Str.Parse.{ParsesUnsigned}
use Rattle.clap.specs.Simple.{App, new_app, new_rule, with_rule, with_subcommand, subcommand_of}
use Rattle.clap.specs.Walk.{Row, Rule, Text, first_of, one_of}
use Rattle.clap.specs.Kinds.{IsAmong}
use Rattle.clap.specs.Faults.{fault_of}
use Rattle.clap.specs.declared.error.kind.ErrorKind.{ErrorKind}
use Rattle.lane_words.specs.declared.limits.TheConstants.{MOST_PARTITIONS}
use Rattle.clap.specs.declared.builder.action.ArgAction.TheVariants as action
use Rattle.clap.specs.declared.builder.value_parser.ValueParser.TheVariants as parser
use Rattle.clap.specs.declared.error.kind.ErrorKind.TheVariants as kind
use Rattle.command_line.specs.declared.options.CheckOptions.{CheckOptions}
use Rattle.command_line.specs.declared.options.Options.{Options}
use Rattle.command_line.specs.declared.options.PlaceOptions.{PlaceOptions}
use Rattle.command_line.specs.declared.words.Job.{Job}
use Rattle.command_line.specs.declared.words.Job.TheVariants.{Count, Place, Check, Replay, Trace, Draw, Run, Explain}
use Rattle.command_line.specs.declared.words.Usage.{Usage}
use Rattle.command_line.specs.declared.words.Usage.TheVariants.{Help, Bad, Memory}
use Rattle.command_line.specs.declared.options.TheConstants.{DEFAULT_BATCH, DEFAULT_MOST, LAST_CODE, LAST_COLUMN, MOST_BATCH, MOST_ROWS}
use Rattle.command_line.specs.Columns.{IsBadColumn, IsColumnOf}
use Rattle.command_line.specs.Delimiters.{IsBadDelimiter, IsDelimiterOf}
use Rattle.command_line.specs.Options.{AreInRange, IsPlaceInRange, IsCheckInRange}
use Rattle.command_line.specs.Topics.{AreTopicsOf, IsBadList}
use Rattle.partitioner.specs.declared.topic.Topic.{Topic}

-- an argument that takes a value, and may be left out
abbrev pub value_argument : Text → Rule
value_argument name = record (new_rule name) { value_names = 1; action = Some action.Set }

-- the argument whose value is a number from 1 to `most`
abbrev pub with_numbers : Rule → ℕ → Rule
with_numbers argument most = record argument {
  parser = Some (parser.Signed (pos 1) (pos most));
}

-- a required path
abbrev pub path : Text → Rule
path name = record (value_argument name) { required = true }

-- an option whose value is any text
abbrev pub text_option : Text → Rule
text_option name = record (value_argument name) { long = Some name }

-- an option whose value is a number from 1 to `most`
abbrev pub number_option : Text → ℕ → Rule
number_option name most = with_numbers (text_option name) most

-- a flag
abbrev pub flag : Text → Rule
flag name = record (new_rule name) { long = Some name; action = Some action.SetTrue }

-- the options that all subcommands have
abbrev pub with_options : App → App
with_options app =
    let partitions = with_rule app (number_option (codes "partitions") MOST_PARTITIONS) in
    let column = with_rule partitions (text_option (codes "column")) in
    let header = with_rule column (flag (codes "header")) in
    let topics = with_rule header (text_option (codes "topics")) in
    let topic_column = with_rule topics (text_option (codes "topic-column")) in
    with_rule topic_column (text_option (codes "delimiter"))

-- `--top`
abbrev pub with_top : App → App
with_top app = with_rule app (number_option (codes "top") MOST_ROWS)

-- the subcommand `count`
abbrev pub count_app : App
count_app = with_top (with_options (with_rule (new_app (codes "count")) (path (codes "file"))))

-- the subcommand `place`
abbrev pub place_app : App
place_app =
    let options = with_options (with_rule (new_app (codes "place")) (path (codes "file"))) in
    let keys = with_rule options (flag (codes "keys")) in
    with_rule keys (number_option (codes "given") LAST_COLUMN)

-- the subcommand `check`
abbrev pub check_app : App
check_app =
    let file = with_rule (new_app (codes "check")) (path (codes "file")) in
    let options = with_options (with_rule file (value_argument (codes "script"))) in
    let plan = with_rule options (flag (codes "plan")) in
    with_rule plan (number_option (codes "most") MOST_ROWS)

-- what `replay`, `trace`, `draw` and `run` have: a file, a script, the common options and `--batch`
abbrev pub with_script : App → App
with_script app =
    let file = with_rule app (path (codes "file")) in
    let script = with_rule file (path (codes "script")) in
    with_rule (with_options script) (number_option (codes "batch") MOST_BATCH)

-- the subcommand `replay`
abbrev pub replay_app : App
replay_app = with_top (with_script (new_app (codes "replay")))

-- the subcommand `trace`
abbrev pub trace_app : App
trace_app = with_script (new_app (codes "trace"))

-- the subcommand `draw`
abbrev pub draw_app : App
draw_app = with_script (new_app (codes "draw"))

-- the subcommand `run`
abbrev pub run_app : App
run_app = with_top (with_script (new_app (codes "run")))

-- an argument that may be left out, and else is a number from 1 to `LAST_CODE`
abbrev pub code_argument : Rule
code_argument = with_numbers (value_argument (codes "code")) LAST_CODE

-- the subcommand `explain`
abbrev pub explain_app : App
explain_app = with_rule (new_app (codes "explain")) code_argument

-- the program without its subcommands: it requires one, and has `--version`
abbrev pub keycount_top : App
keycount_top =
    let app = new_app (codes "keycount") in
    let top = app.top in
    record app {
      top = record top { no_binary_name = true; subcommand_required = true; has_version = true };
    }

-- the program
abbrev pub keycount_app : App
keycount_app =
    let count = with_subcommand keycount_top count_app.top in
    let place = with_subcommand count place_app.top in
    let replay = with_subcommand place replay_app.top in
    let trace = with_subcommand replay trace_app.top in
    let draw = with_subcommand trace draw_app.top in
    let run = with_subcommand draw run_app.top in
    with_subcommand (with_subcommand run check_app.top) explain_app.top

-- n is the number that the text denotes, or the default without one
abbrev pub IsNumber : Option Text → ℕ → ℕ → Type 0
IsNumber None default n = n ≡ default
IsNumber (Some text) default n = ParsesUnsigned {E = ℕ} 32 10 text (Ok n)

-- the number that the text denotes, if there is one
abbrev pub IsNumberIfGiven : Option Text → Option ℕ → Type 0
IsNumberIfGiven None number = number ≡ None
IsNumberIfGiven (Some text) number = (n : ℕ) × (number ≡ Some n) × IsNumber (Some text) 0 n

-- the value of a flag
abbrev pub IsFlag : Option Text → Bool → Type 0
IsFlag None given = given ≡ false
IsFlag (Some text) given =
    (text ≡ codes "true" → given ≡ true) × (text ≡ codes "false" → given ≡ false)

-- the options are those that clap found, and each is within its bounds
pub record HasOptions (rows : List Row) (options : Options) : Type 0 where
  pub partitions : IsNumber (first_of (codes "partitions") rows) 4 options.partitions
  pub column : IsColumnOf options.header (first_of (codes "column") rows) 1 options.column
  pub header : IsFlag (one_of (codes "header") rows) options.header
  pub delimiter : IsDelimiterOf (first_of (codes "delimiter") rows) options.delimiter
  pub topics : AreTopicsOf (first_of (codes "topics") rows) options.topics.items
  pub topic_column : IsColumnOf options.header (first_of (codes "topic-column") rows) 2
      options.topic_column
  pub in_range : AreInRange options

-- the options that `place` alone has are those that clap found
pub record HasPlaceOptions (rows : List Row) (place : PlaceOptions) : Type 0 where
  pub keys : IsFlag (one_of (codes "keys") rows) place.keys
  pub given : IsNumberIfGiven (first_of (codes "given") rows) place.given
  pub in_range : IsPlaceInRange place

-- the options that `check` alone has are those that clap found
pub record HasCheckOptions (rows : List Row) (check : CheckOptions) : Type 0 where
  pub plan : IsFlag (one_of (codes "plan") rows) check.plan
  pub most : IsNumber (first_of (codes "most") rows) DEFAULT_MOST check.most
  pub in_range : IsCheckInRange check

-- the paths and options of a job with a script are those that clap found
pub record HasScript (rows : List Row) (file script : Text) (options : Options) : Type 0 where
  pub file_is : first_of (codes "file") rows ≡ Some file
  pub script_is : first_of (codes "script") rows ≡ Some script
  pub options_are : HasOptions rows options
  pub batch : IsNumber (first_of (codes "batch") rows) DEFAULT_BATCH options.batch

-- the job has the files, options and code that clap found; the batch of a count, a place and a
-- check is the default, and a place, a check, a trace and a picture have no top
abbrev pub HasJob : List Row → Job → Type 0
HasJob rows (Count file options) = (first_of (codes "file") rows ≡ Some file.now)
    × HasOptions rows options × (options.batch ≡ DEFAULT_BATCH)
    × IsNumberIfGiven (first_of (codes "top") rows) options.top
HasJob rows (Place file options place) = (first_of (codes "file") rows ≡ Some file.now)
    × HasOptions rows options × (options.batch ≡ DEFAULT_BATCH) × (options.top ≡ None)
    × HasPlaceOptions rows place
HasJob rows (Check file script options check) = (first_of (codes "file") rows ≡ Some file.now)
    × (first_of (codes "script") rows ≡ option_map (λ path. path.now) script)
    × HasOptions rows options × (options.batch ≡ DEFAULT_BATCH) × (options.top ≡ None)
    × HasCheckOptions rows check
HasJob rows (Replay file script options) = HasScript rows file.now script.now options
    × IsNumberIfGiven (first_of (codes "top") rows) options.top
HasJob rows (Trace file script options) =
    HasScript rows file.now script.now options × (options.top ≡ None)
HasJob rows (Draw file script options) =
    HasScript rows file.now script.now options × (options.top ≡ None)
HasJob rows (Run file script options) = HasScript rows file.now script.now options
    × IsNumberIfGiven (first_of (codes "top") rows) options.top
HasJob rows (Explain code) = IsNumberIfGiven (first_of (codes "code") rows) code

-- the name of the subcommand of a job
abbrev pub name_of : Job → Text
name_of (Count file options) = codes "count"
name_of (Place file options place) = codes "place"
name_of (Check file script options check) = codes "check"
name_of (Replay file script options) = codes "replay"
name_of (Trace file script options) = codes "trace"
name_of (Draw file script options) = codes "draw"
name_of (Run file script options) = codes "run"
name_of (Explain code) = codes "explain"

-- the job that the words ask for: clap accepts them, and finds its subcommand and arguments
pub record IsJobOf (words : List Text) (job : Job) : Type 0 where
  pub rows : List Row
  pub taken : fault_of keycount_app words ≡ []
  pub subcommand : subcommand_of keycount_app words ≡ Some (name_of job, rows)
  pub found : HasJob rows job

-- a request instead of a job: for help or for the version
abbrev pub IsRequest : ErrorKind → Type 0
IsRequest k = (k ≡ kind.DisplayHelp) ⊎ (k ≡ kind.DisplayVersion)

-- clap rejects the words, and not for a request for help or for the version
abbrev pub AreNotUnderstood : List Text → Type 0
AreNotUnderstood words =
    (k : ErrorKind) × IsAmong k (fault_of keycount_app words) × (k ≢ kind.DisplayHelp)
    × (k ≢ kind.DisplayVersion)

-- clap accepts the words, and the value of `--topics` is not a list of topics
pub record HaveBadList (words : List Text) : Type 0 where
  pub name : Text
  pub rows : List Row
  pub taken : fault_of keycount_app words ≡ []
  pub subcommand : subcommand_of keycount_app words ≡ Some (name, rows)
  pub list : IsBadList (first_of (codes "topics") rows)

-- the list of topics is valid, and the value of `--column` or of `--topic-column` gives no column
pub record HasBadColumn (rows : List Row) : Type 0 where
  pub topics : List Topic
  pub list : AreTopicsOf (first_of (codes "topics") rows) topics
  pub header : Bool
  pub is_header : IsFlag (one_of (codes "header") rows) header
  pub bad : IsBadColumn header (first_of (codes "column") rows)
      ⊎ IsBadColumn header (first_of (codes "topic-column") rows)

-- clap accepts the words, and a column is not valid
pub record HaveBadColumn (words : List Text) : Type 0 where
  pub name : Text
  pub rows : List Row
  pub taken : fault_of keycount_app words ≡ []
  pub subcommand : subcommand_of keycount_app words ≡ Some (name, rows)
  pub column : HasBadColumn rows

-- the list of topics is valid, and the value of `--delimiter` gives no delimiter
pub record HasBadDelimiter (rows : List Row) : Type 0 where
  pub topics : List Topic
  pub list : AreTopicsOf (first_of (codes "topics") rows) topics
  pub bad : IsBadDelimiter (first_of (codes "delimiter") rows)

-- clap accepts the words, and the delimiter is not valid
pub record HaveBadDelimiter (words : List Text) : Type 0 where
  pub name : Text
  pub rows : List Row
  pub taken : fault_of keycount_app words ≡ []
  pub subcommand : subcommand_of keycount_app words ≡ Some (name, rows)
  pub delimiter : HasBadDelimiter rows

-- the error for a list of topics that is not valid
abbrev pub bad_topics : Text
bad_topics = codes "bad topics\n"

-- the list is reported as not valid, unless memory runs out
abbrev pub IsBadListReport : Usage → Type 0
IsBadListReport (Help text) = ⊥
IsBadListReport (Bad text) = string_bytes text ≡ bad_topics
IsBadListReport Memory = ⊤

-- Why there is no job: clap rejects the words (a request for help or the version becomes `Help`,
-- any other error `Bad`), or it accepts them and the list of topics is not valid, or a column, or
-- the delimiter.
abbrev pub IsRefusal : List Text → Usage → Type 0
IsRefusal words (Help text) =
    (k : ErrorKind) × IsAmong k (fault_of keycount_app words) × IsRequest k
IsRefusal words (Bad text) =
    AreNotUnderstood words
    ⊎ ((HaveBadList words × (string_bytes text ≡ bad_topics))
    ⊎ (HaveBadColumn words ⊎ HaveBadDelimiter words))
IsRefusal words Memory = ⊤
