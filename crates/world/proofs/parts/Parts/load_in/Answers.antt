use Rattle.std.proofs.Common.{◌∙◌, ℕ, ap, map}
use Rattle.std.specs.Borrow.{Bor}
use Rattle.std.specs.List.{zip}
use Rattle.partition_log.specs.Appends.{lent}
use Rattle.partition_log.specs.Keys.{Key}
use Rattle.partition_log.specs.Logs.{PartitionLogs, place_in}
use Rattle.world.specs.Runs.{appends_in}
use Rattle.world.specs.Private.View.{world_view}
use Rattle.world.proofs.Loading.{load_history, load_stops_first, records_in, topics_placed}
use Rattle.world.proofs.parts.Parts.load_in.Goals as goal

pub returns-in_default-clause-step : goal.returns-in_default-clause-step
returns-in_default-clause-step g c = load_stops_first (world_view c.args.self.now) (appends_in c.args.topics.now c.args.keys.now)

pub append_placed-requires-clause-partitions : goal.append_placed-requires-clause-partitions
append_placed-requires-clause-partitions g c =
    let l = c.args.self.now.cluster.logs in
    let topics = c.args.topics.now in
    let keys = c.args.keys.now in
    let places = c.deref.ensures.value ∙ c.in-Ok.ensures.partitions ∙ ap (λ (x : PartitionLogs). map (λ (keyed : ℕ × Bor Key). place_in x (keyed.0, keyed.1.now)) (zip topics keys)) c.logs.ensures.logs in
    (appends_in topics keys, topics_placed l c.deref.result.now topics keys c.requires.topics places)

pub returns-clause-step : goal.returns-clause-step
returns-clause-step g c =
    let l = c.args.self.now.cluster.logs in
    let topics = c.args.topics.now in
    let keys = c.args.keys.now in
    let places = c.deref.ensures.value ∙ c.in-Ok.ensures.partitions ∙ ap (λ (x : PartitionLogs). map (λ (keyed : ℕ × Bor Key). place_in x (keyed.0, keyed.1.now)) (zip topics keys)) c.logs.ensures.logs in
    c.append_placed.ensures.step (appends_in topics keys) (topics_placed l c.deref.result.now topics keys c.requires.topics places)

pub returns-clause-history : goal.returns-clause-history
returns-clause-history g c =
    let topics = c.args.topics.now in
    let keys = c.args.keys.now in
    load_history (world_view c.args.self.now) (appends_in topics keys) (zip topics (lent keys)) c.append_placed.result (world_view c.append_placed.new.self) (records_in topics keys) c.requires.valid (returns-clause-step g c)
