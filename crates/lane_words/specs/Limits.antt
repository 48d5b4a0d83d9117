-- The limits, each by its number. Code and definitions read the same constants, so that they would
-- agree with any other number, too.
use Rattle.std.specs.Prelude.{◌≡◌, ◌-◌, ◌^◌}
use Rattle.lane_words.specs.declared.limits.TheConstants.{LAST_GENERATION, LONGEST_KEY, MOST_MEMBERS, MOST_PARTITIONS, MOST_RECORDS, MOST_TOPICS}

-- of a group: its partitions, topics, members and generations
pub record AreGroupLimits : Type 0 where
  pub partitions : MOST_PARTITIONS ≡ 4096
  pub topics : MOST_TOPICS ≡ 8
  pub members : MOST_MEMBERS ≡ 512
  pub generation : LAST_GENERATION ≡ 2 ^ 32 - 1

-- of records: bytes of a key, records of a log and distinct keys
pub record AreRecordLimits : Type 0 where
  pub key : LONGEST_KEY ≡ 65535
  pub records : MOST_RECORDS ≡ 2 ^ 32 - 1
