-- The limits, each by its number. Code and definitions read the same constants, so that they would
-- agree with any other number, too.
use Rattle.std.specs.Prelude.{◌≡◌}
use Rattle.world.specs.declared.event.TheConstants.{MOST_COMMITS}

-- of a world: the commits under way
pub record AreWorldLimits : Type 0 where
  pub commits : MOST_COMMITS ≡ 65536
