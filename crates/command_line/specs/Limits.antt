-- The limits, each by its number. Code and definitions read the same constants, so that they would
-- agree with any other number, too.
use Rattle.std.specs.Prelude.{◌≡◌, ◌-◌, ◌^◌}
use Rattle.command_line.specs.declared.options.TheConstants.{DEFAULT_BATCH, DEFAULT_DELIMITER, DEFAULT_MOST, LAST_CODE, LAST_COLUMN, MOST_BATCH, MOST_ROWS}
use Rattle.command_line.specs.declared.topics.TheConstants.{MOST_DIGITS}

-- of options: the last column, the largest batch, the most rows, the last code, and the most digits
-- of a topic's partitions
pub record AreOptionLimits : Type 0 where
  pub column : LAST_COLUMN ≡ 65535
  pub batch : MOST_BATCH ≡ 1000000
  pub rows : MOST_ROWS ≡ 2 ^ 32 - 1
  pub code : LAST_CODE ≡ 90
  pub digits : MOST_DIGITS ≡ 4

-- what holds without an option: the delimiter is a comma, a poll reads 500 records, and 20 faults
-- of each input are told
pub record AreDefaults : Type 0 where
  pub delimiter : DEFAULT_DELIMITER ≡ 44
  pub batch : DEFAULT_BATCH ≡ 500
  pub most : DEFAULT_MOST ≡ 20
