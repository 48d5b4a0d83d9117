-- The rows of a replay, row by row.
use Rattle.std.proofs.Common.{◌≡◌, ◌∙◌, ◌+◌, ◌-◌, ◌*◌, ◌^◌, ◌<◌, ◌≤◌, ℕ, zero, suc, cond, ltb, List, [], ◌∷◌, ◌++◌, length, drop, get_or, sym, ap, refl, arith, drop-cons, append_assoc, add-one, suc-mul}
use Rattle.std.specs.Prelude.{Some, codes, decimal}
use Rattle.std.proofs.lemmas.Bool.{le-ltb, lt-ltb, ne_eqb}
use Rattle.std.proofs.lemmas.List.{append-nil, drop_all}
use Rattle.std.proofs.lemmas.Nat.{mul-le}
use Rattle.lane_words.specs.Sums.{sum_below}
use Rattle.commit_store.specs.Commits.{committed_at}
use Rattle.group_machine.specs.declared.group.Move.{Move}
use Rattle.group_machine.specs.State.{GroupState, owner_of}
use Rattle.group_machine.specs.Cluster.{ClusterState, IsValidCluster}
use Rattle.csv.specs.Writing.{row_text}
use Rattle.report_rows.specs.CountRows.{count_row, counted_row}
use Rattle.report_rows.specs.Rows.{row_writer}
use Rattle.partitioner.specs.declared.topic.Topic.{Topic}
use Rattle.report_rows.specs.ReplayRows.{end_of, move_row, move_rows, name_or_empty, offset_row, owner_row, partition_fields, rows_below}

-- ---- the topic of a partition
fields-first : (topics : List Topic) (i p : ℕ) (topic : Topic) → i < length topics → topic ≡ get_or topics i topic
    → partition_fields (drop i topics) p ≡ cond (ltb p topic.partitions) (topic.name ∷ decimal p ∷ []) (partition_fields (drop (i + 1) topics) (p - topic.partitions))
unfolding partition_fields
fields-first topics i p topic h is =
    rw (add-one, drop-cons topics i topic)
    (ap (λ (t : Topic). cond (ltb p t.partitions) (t.name ∷ decimal p ∷ []) (partition_fields (drop (suc i) topics) (p - t.partitions))) (sym is))

pub fields_here : (topics : List Topic) (i p : ℕ) (topic : Topic) → i < length topics → topic ≡ get_or topics i topic → p < topic.partitions → partition_fields (drop i topics) p ≡ topic.name ∷ decimal p ∷ []
fields_here topics i p topic h is lt = fields-first topics i p topic h is ∙ rw (lt-ltb p topic.partitions lt) refl

pub fields_later : (topics : List Topic) (i p : ℕ) (topic : Topic) → i < length topics → topic ≡ get_or topics i topic → topic.partitions ≤ p
    → partition_fields (drop i topics) p ≡ partition_fields (drop (i + 1) topics) (p - topic.partitions)
fields_later topics i p topic h is le = fields-first topics i p topic h is ∙ rw (le-ltb p topic.partitions le) refl

pub fields_end : (topics : List Topic) (i p : ℕ) → length topics ≤ i → partition_fields (drop i topics) p ≡ decimal p ∷ []
unfolding partition_fields
fields_end topics i p h = ap (λ ts. partition_fields ts p) (drop_all i topics h)

-- ---- rows by the fields of a partition
pub move_row-is : (topics : List Topic) (g : GroupState) (move : Move) (fields : List (List ℕ)) → partition_fields topics move.partition ≡ fields
    → move_row topics g move ≡ row_text row_writer (codes "move" ∷ decimal move.generation ∷ fields ++ name_or_empty g move.last ∷ name_or_empty g (Some move.holder) ∷ [])
unfolding move_row
move_row-is topics g move fields e = ap (λ fs. row_text row_writer (codes "move" ∷ decimal move.generation ∷ fs ++ name_or_empty g move.last ∷ name_or_empty g (Some move.holder) ∷ [])) e

pub owner_row-is : (topics : List Topic) (g : GroupState) (p : ℕ) (fields : List (List ℕ)) → partition_fields topics p ≡ fields
    → owner_row topics g p ≡ row_text row_writer (codes "owner" ∷ fields ++ name_or_empty g (owner_of g p) ∷ [])
unfolding owner_row
owner_row-is topics g p fields e = ap (λ fs. row_text row_writer (codes "owner" ∷ fs ++ name_or_empty g (owner_of g p) ∷ [])) e

pub offset_row-is : (topics : List Topic) (p committed end : ℕ) (fields : List (List ℕ)) → partition_fields topics p ≡ fields
    → offset_row topics p committed end ≡ row_text row_writer (codes "offset" ∷ fields ++ decimal committed ∷ decimal end ∷ [])
unfolding offset_row
offset_row-is topics p committed end fields e = ap (λ fs. row_text row_writer (codes "offset" ∷ fs ++ decimal committed ∷ decimal end ∷ [])) e

-- ---- moves
moves-first : (topics : List Topic) (g : GroupState) (moves : List Move) (i : ℕ) (d : Move) → i < length moves
    → move_rows topics g (drop i moves) ≡ move_row topics g (get_or moves i d) ++ move_rows topics g (drop (i + 1) moves)
unfolding move_rows
moves-first topics g moves i d h = rw (add-one, drop-cons moves i d) refl

pub moves_step : (text : List ℕ) (topics : List Topic) (g : GroupState) (moves : List Move) (i : ℕ) (d : Move) (all : List ℕ) → i < length moves
    → text ++ move_rows topics g (drop i moves) ≡ all
    → (text ++ move_row topics g (get_or moves i d)) ++ move_rows topics g (drop (i + 1) moves) ≡ all
moves_step text topics g moves i d all h e = append_assoc text _ _ ∙ ap (λ t. text ++ t) (sym (moves-first topics g moves i d h)) ∙ e

pub moves_end : (text : List ℕ) (topics : List Topic) (g : GroupState) (moves : List Move) (i : ℕ) (all : List ℕ) → length moves ≤ i → text ++ move_rows topics g (drop i moves) ≡ all → text ≡ all
unfolding move_rows
moves_end text topics g moves i all h e = sym (append-nil text) ∙ rw (drop_all i moves h) at e

-- ---- counts
pub counted_is : (key : List ℕ) (n : ℕ) → (n ≡ 0 → ⊥) → counted_row key n ≡ count_row key n
counted_is key n some = rw (ne_eqb n 0 some) refl

-- ---- partitions

pub row_more : (text : List ℕ) (n : ℕ) (row : ℕ → List ℕ) → (text ++ rows_below n row) ++ row n ≡ text ++ rows_below (n + 1) row
row_more text n row = append_assoc text _ _ ∙ ap (λ k. text ++ rows_below k row) (sym (add-one n))

sum-most : (n most : ℕ) (f : ℕ → ℕ) → ((k : ℕ) → f k ≤ most) → sum_below n f ≤ n * most
sum-most zero most f few = omega arith
sum-most (suc n) most f few =
    let step : suc n * most ≡ n * most + most = suc-mul n most in
    omega (arith, step, sum-most n most f few, few n)

sum-fits : (s : ClusterState) (n : ℕ) (f : ℕ → ℕ) → IsValidCluster s → n < s.group.partitions → ((k : ℕ) → f k ≤ 2 ^ 32 - 1) → sum_below n f + f n < 2 ^ 64
sum-fits s n f valid below few =
    let most : n * (2 ^ 32 - 1) ≤ 4096 * (2 ^ 32 - 1) = mul-le n (2 ^ 32 - 1) 4096 (2 ^ 32 - 1) (omega (arith, below, valid.group.sized.few_partitions)) (omega arith) in
    omega (arith, most, sum-most n (2 ^ 32 - 1) f few, few n)

pub appended-fits : (s : ClusterState) (n : ℕ) → IsValidCluster s → n < s.group.partitions → sum_below n (end_of s.logs) + end_of s.logs n < 2 ^ 64
appended-fits s n valid below = sum-fits s n (end_of s.logs) valid below (λ k. omega (arith, valid.logs.few_records k))

pub committed-fits : (s : ClusterState) (n : ℕ) → IsValidCluster s → n < s.group.partitions → sum_below n (committed_at s.store) + committed_at s.store n < 2 ^ 64
committed-fits s n valid below = sum-fits s n (committed_at s.store) valid below (λ k. omega (arith, valid.exact.within k, valid.logs.few_records k))

-- ---- the rows at the end
pub rows-concatenated : (text a b c d : List ℕ) → (((text ++ a) ++ b) ++ c) ++ d ≡ text ++ (((a ++ b) ++ c) ++ d)
rows-concatenated text a b c d =
    ap (λ t. (t ++ c) ++ d) (append_assoc text a b) ∙ ap (λ t. t ++ d) (append_assoc text (a ++ b) c) ∙ append_assoc text ((a ++ b) ++ c) d
