use Rattle.std.proofs.Common.{◌∙◌, ap, map}
use Rattle.std.specs.Borrow.{Bor}
use Rattle.partition_log.specs.Keys.{Key, of_first}
use Rattle.partition_log.specs.Logs.{PartitionLogs, place_in}
use Rattle.world.specs.Runs.{appends_of}
use Rattle.world.specs.Private.View.{world_view}
use Rattle.world.proofs.Loading.{first_placed, load_history, load_stops_first, records_first}
use Rattle.world.proofs.parts.Parts.load.Goals as goal

pub returns-in_default-clause-step : goal.returns-in_default-clause-step
returns-in_default-clause-step g c = load_stops_first (world_view c.args.self.now) (appends_of c.args.keys.now)

pub append_placed-requires-clause-partitions : goal.append_placed-requires-clause-partitions
append_placed-requires-clause-partitions g c =
    let l = c.args.self.now.cluster.logs in
    let places = c.deref.ensures.value ∙ c.in-Ok.ensures.partitions ∙ ap (λ (x : PartitionLogs). map (λ (key : Bor Key). place_in x (of_first key.now)) c.args.keys.now) c.logs.ensures.logs in
    (appends_of c.args.keys.now, first_placed l c.deref.result.now c.args.keys.now c.requires.cluster.logs places)

pub returns-clause-step : goal.returns-clause-step
returns-clause-step g c =
    let l = c.args.self.now.cluster.logs in
    let places = c.deref.ensures.value ∙ c.in-Ok.ensures.partitions ∙ ap (λ (x : PartitionLogs). map (λ (key : Bor Key). place_in x (of_first key.now)) c.args.keys.now) c.logs.ensures.logs in
    c.append_placed.ensures.step (appends_of c.args.keys.now) (first_placed l c.deref.result.now c.args.keys.now c.requires.cluster.logs places)

pub returns-clause-history : goal.returns-clause-history
returns-clause-history g c =
    let keys = c.args.keys.now in
    load_history (world_view c.args.self.now) (appends_of keys) (map (λ (key : Bor Key). of_first key.now) keys) c.append_placed.result (world_view c.append_placed.new.self) (records_first keys) c.requires (returns-clause-step g c)
