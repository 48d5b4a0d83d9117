-- Loading: appends in a world over logs are appends to the logs.
use Rattle.std.proofs.Common.{◌≡◌, ◌∙◌, ℕ, Bool, true, false, List, [], ◌∷◌, ◌++◌, length, replicate, sym, ap, refl}
use Rattle.std.specs.Prelude.{Result, Ok, Err, IsOk, cond}
use Rattle.std.proofs.lemmas.List.{length-append, replicate_more}
use Rattle.lane_words.specs.declared.Refusal.{Refusal}
use Rattle.commit_store.specs.Commits.{Commits}
use Rattle.partition_log.specs.Appends.{AreAccepted, placed, with_records}
use Rattle.partition_log.specs.Keys.{Key, Keyed, is_interned}
use Rattle.partition_log.specs.Logs.{PartitionLogs, append_answer, with_record}
use Rattle.ingest.specs.Records.{AreLogsWith, empty_logs}
use Rattle.replay_report.specs.ReplayReport.{loaded, opening_world}
use Rattle.world.specs.Runs.{world_over}
use Rattle.world.specs.Steps.{append_outcome, Outcome}
use Rattle.world.specs.World.{WorldState}

-- a store with nothing committed and a counter at 0 for each key
abbrev opening_store : ℕ → List Key → Commits
opening_store partitions keys = record { offsets = replicate partitions 0; counts = replicate (length keys) 0; capacity = 0 }

-- with one more key, which may be new
store_after : (b : Bool) (partitions : ℕ) (keys : List Key) (key : Key) → (let s = opening_store partitions keys in cond b s (record s { counts = s.counts ++ 0 ∷ [] })) ≡ opening_store partitions (cond b keys (keys ++ key ∷ []))
store_after true partitions keys key = refl
store_after false partitions keys key =
    ap (λ (counts : List ℕ). let s : Commits = record { offsets = replicate partitions 0; counts = counts; capacity = 0 } in s) (replicate_more (length keys) 0 ∙ ap (λ n. replicate {A = ℕ} n 0) (sym (length-append keys (key ∷ []))))

-- one record that is accepted
appended_over : (l : PartitionLogs) (keyed : Keyed) (answer : Result (ℕ × ℕ) Refusal) → IsOk answer → (let o : Outcome = append_outcome (world_over l) keyed answer in o.after) ≡ world_over (with_record l keyed)
unfolding world_over
appended_over l keyed (Ok at) ok =
    ap (λ (s : Commits). let w : WorldState = record {
      cluster = record { group = (world_over l).cluster.group; logs = with_record l keyed; store = s };
      consumers = [];
      mail = [];
    } in w) (store_after (is_interned l.keys keyed.1) l.partitions l.keys keyed.1)
appended_over l keyed (Err why) ok = absurd (cc ok)

-- records that are all accepted
pub loaded_over : (l : PartitionLogs) (records : List Keyed) → AreAccepted l (placed l records) → loaded (world_over l) records ≡ world_over (with_records l (placed l records))
unfolding loaded with_records world_over
loaded_over l [] all = refl
loaded_over l (keyed ∷ records) all =
    ap (λ w. loaded w records) (appended_over l keyed (append_answer l keyed) all.0)
    ∙ loaded_over (with_record l keyed) records all.1

-- a replay begins in the world over the logs of its records
pub begins_loaded : (counts : List ℕ) (records : List Keyed) (l : PartitionLogs) → AreLogsWith counts records l → world_over l ≡ loaded (opening_world counts) records
unfolding opening_world world_over
begins_loaded counts records l logs =
    ap world_over logs.1 ∙ sym (loaded_over (empty_logs counts) records logs.0)
