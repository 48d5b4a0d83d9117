-- The value of `--topics`: a list of topics.
use Rattle.std.specs.Prelude.{◌≡◌, ℕ, ◌==◌, ◌&&◌, nat_le, Bool, if◌then◌else◌, List, [], length, map, Option, Some, None}
use Rattle.std.specs.Char.{is_ascii_digit}
use Rattle.std.specs.List.{after_first, before_first, list_all, slice_split}
use Rattle.std.specs.Str.Parse.{digits_value}
use Rattle.partitioner.specs.Name.{is_name}
use Rattle.lane_words.specs.declared.limits.TheConstants.{MOST_PARTITIONS}
use Rattle.partitioner.specs.Topic.{AreTopics}
use Rattle.partitioner.specs.declared.topic.Topic.{Topic}
use Rattle.command_line.specs.declared.topics.TheConstants.{MOST_DIGITS}

abbrev pub is_comma : ℕ → Bool
is_comma byte = byte == 44

abbrev pub is_colon : ℕ → Bool
is_colon byte = byte == 58

-- 1 to `MOST_DIGITS` decimal digits of a number from 1 to `MOST_PARTITIONS`; leading zeros are
-- allowed
abbrev pub is_count : List ℕ → Bool
is_count digits =
    list_all is_ascii_digit digits
    && nat_le 1 (length digits)
    && nat_le (length digits) MOST_DIGITS
    && nat_le 1 (digits_value 10 digits)
    && nat_le (digits_value 10 digits) MOST_PARTITIONS

-- an item NAME:N, split at its first colon: a topic of this name with N partitions
unfoldable pub topic_of : List ℕ → Option Topic
topic_of item =
    let name = before_first is_colon item in
    let digits = after_first is_colon item in
    if is_name name && is_count digits
    then Some (record { name = name; partitions = digits_value 10 digits })
    else None

-- the list, split at its commas, is of these topics, and they are valid together
pub record ListsTopics (list : List ℕ) (topics : List Topic) : Type 0 where
  pub items : map topic_of (slice_split is_comma list) ≡ map Some topics
  pub rules : AreTopics topics

-- the topics of a list; none without a list
abbrev pub AreTopicsOf : Option (List ℕ) → List Topic → Type 0
AreTopicsOf None topics = topics ≡ []
AreTopicsOf (Some list) topics = ListsTopics list topics

-- there is a list, and it is not one of topics
abbrev pub IsBadList : Option (List ℕ) → Type 0
IsBadList list = (topics : List Topic) → AreTopicsOf list topics → ⊥
