use Rattle.std.proofs.Common.{subst, sym}
use Rattle.partition_log.specs.Private.Shares.{IsFillable}
use Rattle.partition_log.proofs.shares.counts_in.Goals as goal

pub count_chunk-requires : goal.count_chunk-requires
count_chunk-requires c = subst (λ n. IsFillable n c.coded_chunk.result) (sym c.loop-i.invariant) (c.coded_chunk.ensures.valid c.args.partitions c.requires.tables)
