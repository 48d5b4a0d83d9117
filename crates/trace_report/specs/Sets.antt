-- Sets of partitions as text: ranges, `0-1 3`, and with topics each topic's name before its own,
-- `orders 0-1 clicks 0`.
use Rattle.std.specs.Prelude.{ℕ, suc, ◌+◌, ◌-◌, ◌==◌, ◌&&◌, not, nat_le, nat_lt, Bool, false, List, [], ◌∷◌, ◌++◌, codes, decimal, drop, filter, flat_map, map, if◌then◌else◌}
use Rattle.std.specs.List.{list_any}
use Rattle.std.specs.Option.{option_map_or}
use Rattle.bit_planes.specs.PartitionSet.{PartitionSet, elements, set_where}
use Rattle.group_machine.specs.State.{GroupState, granted_of, members}
use Rattle.consumer.specs.Consumer.{is_held}
use Rattle.partitioner.specs.declared.topic.Topic.{Topic}
use Rattle.world.specs.World.{WorldState, consumer_of}
use Rattle.replay_steps.specs.Steps.{name_of_member}
use Rattle.trace_report.specs.declared.texts.TheConstants.{SEMICOLON, SPACE}

-- ---- texts one after another
-- each text after this character
abbrev pub each_after : ℕ → List (List ℕ) → List ℕ
each_after mark texts = flat_map (λ text. mark ∷ text) texts

-- texts with this character between each two
abbrev pub separated : ℕ → List (List ℕ) → List ℕ
separated mark texts = drop 1 (each_after mark texts)

-- ---- ranges
-- a range before others: it takes in the next one if that begins where it ends
abbrev pub before_range : ℕ × ℕ → List (ℕ × ℕ) → List (ℕ × ℕ)
before_range run [] = run ∷ []
before_range run (next ∷ others) =
    if suc run.1 == next.0 then (run.0, next.1) ∷ others else run ∷ next ∷ others

-- the ranges of ascending numbers, each by its first and its last
abbrev pub ranges : List ℕ → List (ℕ × ℕ)
ranges [] = []
ranges (n ∷ ns) = before_range (n, n) (ranges ns)

-- `3`, or `0-1`
abbrev pub range_text : ℕ × ℕ → List ℕ
range_text run =
    if run.0 == run.1 then decimal run.0 else decimal run.0 ++ codes "-" ++ decimal run.1

abbrev pub range_texts : List ℕ → List (List ℕ)
range_texts ns = map range_text (ranges ns)

-- ---- sets
-- those of these numbers from one on and below another, less the first
abbrev pub numbers_among : ℕ → ℕ → List ℕ → List ℕ
numbers_among from to ns = map (λ n. n - from) (filter (λ n. nat_le from n && nat_lt n to) ns)

-- the same of the elements of a set
abbrev pub numbers_within : PartitionSet → ℕ → ℕ → List ℕ
numbers_within s from to = numbers_among from to (elements s)

-- a topic's name before the ranges of its partitions, if there are any
abbrev pub texts_of_topic : List ℕ → List ℕ → List (List ℕ)
texts_of_topic name [] = []
texts_of_topic name (n ∷ ns) = name ∷ range_texts (n ∷ ns)

-- the texts of a set's elements in these topics, of which the first begins with this partition
unfoldable pub texts_of_topics : List Topic → ℕ → PartitionSet → List (List ℕ)
texts_of_topics [] from s = []
texts_of_topics (topic ∷ topics) from s =
    texts_of_topic topic.name (numbers_within s from (from + topic.partitions))
    ++ texts_of_topics topics (from + topic.partitions) s

-- the texts of a set: without topics its ranges alone
abbrev pub set_texts : List Topic → PartitionSet → List (List ℕ)
set_texts [] s = range_texts (elements s)
set_texts topics s = texts_of_topics topics 0 s

-- ---- who may read what
-- a present member, and the partitions that it is granted
abbrev pub granted_entry : List Topic → WorldState → ℕ → List ℕ
granted_entry topics w m =
    name_of_member w m ++ each_after SPACE (set_texts topics (granted_of w.cluster.group m))

-- each present member in order of numbers
unfoldable pub granted_cell : List Topic → WorldState → List ℕ
granted_cell topics w = separated SEMICOLON (map (granted_entry topics w) (members w.cluster.group))

-- a member's consumer holds a partition
abbrev pub reads : WorldState → ℕ → ℕ → Bool
reads w p m = option_map_or (λ c. is_held c p) (consumer_of w m) false

-- a present member's consumer holds a partition
abbrev pub is_read : WorldState → ℕ → Bool
is_read w p = list_any (reads w p) (members w.cluster.group)

-- the partitions that nobody reads
unfoldable pub unread : WorldState → PartitionSet
unread w = set_where w.cluster.group.partitions (λ p. not (is_read w p))

unfoldable pub unread_cell : List Topic → WorldState → List ℕ
unread_cell topics w = separated SPACE (set_texts topics (unread w))
