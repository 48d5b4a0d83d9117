-- What is taken of each record of a file.
use Rattle.std.specs.Prelude.{⊤, ◌≤◌, ◌<◌, ◌^◌, ℕ, List, length, map, Option, Some, None}
use Rattle.csv_ingest.specs.KeyFile.{Taking, key_in, topic_key_in}
use Rattle.csv_ingest.specs.declared.wanted.Topics.{Topics}

-- the key's column, and in a file of several topics the topic's column and the names of all topics
abbrev pub Columns : Type 0
Columns = ℕ × Option (ℕ × List (List ℕ))

-- how the fields of these columns are taken
abbrev pub taking_with : ℕ → Option (ℕ × List (List ℕ)) → Taking
taking_with column None = key_in column
taking_with column (Some topics) = topic_key_in column topics.0 topics.1

abbrev pub taking : Columns → Taking
taking columns = taking_with columns.0 columns.1

-- how topics are seen
abbrev pub topics_view : Option Topics → Option (ℕ × List (List ℕ))
topics_view None = None
topics_view (Some topics) = Some (topics.column, map (λ name. name.now) topics.names.now)

-- topics whose indices fit a byte, and whose column is counted from 1
abbrev pub AreValidTopics : Option Topics → Type 0
AreValidTopics None = ⊤
AreValidTopics (Some topics) =
    (1 ≤ topics.column) × (topics.column < 2 ^ 32) × (length topics.names.now ≤ 2 ^ 8)
