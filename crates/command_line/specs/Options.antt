-- The bounds of the options of a job.
use Rattle.std.specs.Prelude.{◌≡◌, ◌≤◌, Bool, true, IfSome}
use Rattle.lane_words.specs.declared.limits.TheConstants.{MOST_PARTITIONS}
use Rattle.partitioner.specs.Topic.{MayBeTopics}
use Rattle.command_line.specs.Delimiters.{is_delimiter}
use Rattle.command_line.specs.declared.options.CheckOptions.{CheckOptions}
use Rattle.command_line.specs.declared.options.Column.{Column}
use Rattle.command_line.specs.declared.options.Column.TheVariants.{Number, Named}
use Rattle.command_line.specs.declared.options.Options.{Options}
use Rattle.command_line.specs.declared.options.PlaceOptions.{PlaceOptions}
use Rattle.command_line.specs.declared.options.TheConstants.{LAST_COLUMN, MOST_BATCH}

-- a column that can be read: by a number within the bounds, or by a name if there is a header
abbrev pub IsColumnIn : Bool → Column → Type 0
IsColumnIn header (Number n) = (1 ≤ n) × (n ≤ LAST_COLUMN)
IsColumnIn header (Named name) = header ≡ true

-- each option is within its bounds
pub record AreInRange (options : Options) : Type 0 where
  pub partitions : (1 ≤ options.partitions) × (options.partitions ≤ MOST_PARTITIONS)
  pub column : IsColumnIn options.header options.column
  pub delimiter : is_delimiter options.delimiter ≡ true
  pub batch : (1 ≤ options.batch) × (options.batch ≤ MOST_BATCH)
  pub topics : MayBeTopics options.topics.items
  pub topic_column : IsColumnIn options.header options.topic_column
  pub top : IfSome options.top (λ most. 1 ≤ most)

-- the given column of a place, if there is one, is within its bounds
abbrev pub IsPlaceInRange : PlaceOptions → Type 0
IsPlaceInRange place = IfSome place.given (λ column. (1 ≤ column) × (column ≤ LAST_COLUMN))

-- a check tells at least one fault
abbrev pub IsCheckInRange : CheckOptions → Type 0
IsCheckInRange check = 1 ≤ check.most
