-- Lists of topics, parsed item by item.
use Rattle.std.specs.Prelude.{◌≢◌, ℕ, ◌+◌, ◌<◌, ◌≤◌, if◌then◌else◌, List, length, Option, Some, None, Vec}
use Rattle.std.specs.Global.{Global}
use Rattle.std.specs.List.{All}
use Rattle.std.specs.Str.Parse.{digits_value}
use Rattle.lane_words.specs.declared.limits.TheConstants.{MOST_PARTITIONS, MOST_TOPICS}
use Rattle.partitioner.specs.Topic.{partitions_in}
use Rattle.partitioner.specs.declared.topic.Topic.{Topic}
use Rattle.command_line.specs.Topics.{is_count, IsBadList, ListsTopics}

-- the number of partitions that the digits denote
abbrev pub count_of : List ℕ → Option ℕ
count_of digits = if is_count digits then Some (digits_value 10 digits) else None

-- no topic has this name
abbrev pub IsNew : List Topic → List ℕ → Type 0
IsNew topics name = All (λ topic. topic.name ≢ name) topics

-- the topic may follow these in a list
pub record MayFollow (topics : List Topic) (topic : Topic) : Type 0 where
  pub capacity : length topics < MOST_TOPICS
  pub named : IsNew topics topic.name
  pub within : partitions_in topics + topic.partitions ≤ MOST_PARTITIONS

-- the topics of the list, or `None` where it is not valid
abbrev pub AreParsedTopics : List ℕ → Option (Vec Topic Global) → Type 0
AreParsedTopics list None = IsBadList (Some list)
AreParsedTopics list (Some topics) = ListsTopics list topics.items
