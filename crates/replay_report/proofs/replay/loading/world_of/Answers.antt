use Rattle.std.proofs.Common.{◌∙◌}
use Rattle.ingest.specs.Records.{partition_counts, records_in}
use Rattle.replay_report.proofs.Loaded.{begins_loaded}
use Rattle.replay_report.proofs.replay.loading.world_of.Goals as goal

pub returns-clause-world : goal.returns-clause-world
returns-clause-world g c =
    c.in_ok-over.ensures.state
    ∙ begins_loaded (partition_counts c.args.options.now) (records_in c.args.records) c.in_ok-logs.logs c.in_ok-logs.ensures.value
