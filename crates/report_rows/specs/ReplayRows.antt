-- The rows of a replay and of a run.
use Rattle.std.specs.Prelude.{ℕ, zero, suc, ◌-◌, nat_lt, List, [], ◌∷◌, ◌++◌, Option, Some, None, codes, decimal, length, unwrap_or, if◌then◌else◌}
use Rattle.csv.specs.Writing.{row_text}
use Rattle.lane_words.specs.Sums.{sum_below}
use Rattle.partition_log.specs.Logs.{PartitionLogs, log_at}
use Rattle.commit_store.specs.Commits.{committed_at}
use Rattle.group_machine.specs.declared.group.Move.{Move}
use Rattle.group_machine.specs.State.{GroupState, name_of, owner_of}
use Rattle.group_machine.specs.Cluster.{ClusterState}
use Rattle.partitioner.specs.declared.topic.Topic.{Topic}
use Rattle.report_rows.specs.Rows.{row_writer, total_row}
use Rattle.report_rows.specs.CountRows.{counted_row, rows_by, top_rows}

-- the name of a member, or nothing if there is none
abbrev pub name_or_empty : GroupState → Option ℕ → List ℕ
name_or_empty g None = []
name_or_empty g (Some member) = unwrap_or (name_of g member) []

-- the fields of a row that name a partition: without topics its number alone, and with topics the
-- name of its topic and its number there. Partitions are numbered over all topics, in their order.
unfoldable pub partition_fields : List Topic → ℕ → List (List ℕ)
partition_fields [] p = decimal p ∷ []
partition_fields (topic ∷ topics) p =
    if nat_lt p topic.partitions then topic.name ∷ decimal p ∷ []
    else partition_fields topics (p - topic.partitions)

-- the row of a move: the completed generation, the partition, the name of the member that was last
-- granted it, which is empty at first, and the name of its new owner
unfoldable pub move_row : List Topic → GroupState → Move → List ℕ
move_row topics g move =
    row_text row_writer
    (codes "move" ∷ decimal move.generation ∷ partition_fields topics move.partition
    ++ name_or_empty g move.last ∷ name_or_empty g (Some move.holder) ∷ [])

-- the rows of moves, in their order
unfoldable pub move_rows : List Topic → GroupState → List Move → List ℕ
move_rows topics g [] = []
move_rows topics g (move ∷ moves) = move_row topics g move ++ move_rows topics g moves

-- the row of a refused line of a script: its number, and the code of the refusal
unfoldable pub refused_row : ℕ → ℕ → List ℕ
refused_row line code = row_text row_writer (codes "refused" ∷ decimal line ∷ decimal code ∷ [])

-- the rows of the numbers below n, in ascending order
abbrev pub rows_below : ℕ → (ℕ → List ℕ) → List ℕ
rows_below zero row = []
rows_below (suc n) row = rows_below n row ++ row n

-- the row of a partition and its owner, whose name is empty if nobody owns it
unfoldable pub owner_row : List Topic → GroupState → ℕ → List ℕ
owner_row topics g p =
    row_text row_writer
    (codes "owner" ∷ partition_fields topics p ++ name_or_empty g (owner_of g p) ∷ [])

-- the row of each partition and its owner
abbrev pub owner_rows : List Topic → GroupState → List ℕ
owner_rows topics g = rows_below g.partitions (owner_row topics g)

-- the row of a partition, its committed offset and its end offset
unfoldable pub offset_row : List Topic → ℕ → ℕ → ℕ → List ℕ
offset_row topics p committed end =
    row_text row_writer
    (codes "offset" ∷ partition_fields topics p ++ decimal committed ∷ decimal end ∷ [])

-- the end offset of a partition, which is the number of its records
abbrev pub end_of : PartitionLogs → ℕ → ℕ
end_of l p = length (log_at l p)

-- the row of each partition, its committed offset and its end offset
abbrev pub offset_rows : List Topic → ClusterState → List ℕ
offset_rows topics s =
    rows_below s.group.partitions
    (λ p. offset_row topics p (committed_at s.store p) (end_of s.logs p))

-- the rows of the keys with a count above 0, in the order of the keys
unfoldable pub committed_count_rows : List (List ℕ) → List ℕ → List ℕ
committed_count_rows keys counts = rows_by counted_row keys counts

-- the rows of all keys with a count above 0, or of those of the top
abbrev pub listed_committed_rows : Option ℕ → List (List ℕ) → List ℕ → List ℕ
listed_committed_rows None keys counts = committed_count_rows keys counts
listed_committed_rows (Some most) keys counts = top_rows most keys counts

-- the number of records committed: the sum of the committed offsets
abbrev pub committed_total : ClusterState → ℕ
committed_total s = sum_below s.group.partitions (committed_at s.store)

-- the number of records appended: the sum of the end offsets
abbrev pub appended_total : ClusterState → ℕ
appended_total s = sum_below s.group.partitions (end_of s.logs)

-- the rows after the last line of a script or of a plan: the owner of each partition, its offsets,
-- the counts of the committed records by key or those of the top, and the totals
abbrev pub closing_rows : List Topic → Option ℕ → ClusterState → List ℕ
closing_rows topics top s =
    owner_rows topics s.group ++ offset_rows topics s
    ++ listed_committed_rows top s.logs.keys s.store.counts
    ++ total_row (committed_total s) (appended_total s)
