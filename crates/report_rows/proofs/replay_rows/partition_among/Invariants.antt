use Rattle.std.proofs.Common.{◌≡◌, drop}
use Rattle.report_rows.specs.ReplayRows.{partition_fields}
use Rattle.report_rows.proofs.replay_rows.partition_among.Given as goal

abbrev pub invariant-loop-topic : goal.invariant-loop-topic
invariant-loop-topic l =
    partition_fields l.topics l.partition ≡ partition_fields (drop l.topic-index l.topics) l.number
