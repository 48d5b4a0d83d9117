-- The limits, each by its number. Code and definitions read the same constants, so that they would
-- agree with any other number, too.
use Rattle.std.specs.Prelude.{◌≡◌, ◌-◌, ◌^◌}
use Rattle.script.specs.declared.limits.TheConstants.{LONGEST_LINE, MOST_DIGITS, NO_PARTITION}

-- of a script: bytes of a line, digits of a number, and what stands for no partition
pub record AreScriptLimits : Type 0 where
  pub line : LONGEST_LINE ≡ 256
  pub digits : MOST_DIGITS ≡ 10
  pub no_partition : NO_PARTITION ≡ 2 ^ 32 - 1
