use Rattle.std.proofs.Common.{◌≡◌, ap, map, subst, sym, vec_items}
use Rattle.std.proofs.lemmas.Result.{IfOk-weaker}
use Rattle.partition_log.specs.Private.Shares.{AreFilled, AreMerged, filled_by}
use Rattle.partition_log.proofs.Sharing.{merged-filled, parts-long}
use Rattle.partition_log.proofs.shares.logs_of_chunks.Goals as goal

pub merged_logs-requires-after_bounds : goal.merged_logs-requires-after_bounds
merged_logs-requires-after_bounds g c κs within =
    let taken = c.args.taken.now in
    rw c.deref.ensures.value (parts-long c.args.partitions taken.workers.now c.args.tables.now c.share_size-size.result taken.chunks.now c.in_ok-parts.parts.items c.in_ok-parts.ensures)

pub returns : goal.returns
returns g c =
    let partitions = c.args.partitions in
    let taken = c.args.taken.now in
    let tables = c.args.tables.now in
    let parts_are = ap (map (λ part. map vec_items part.items)) c.deref.ensures.value in
    let filled_so = subst (AreFilled partitions taken.workers.now tables c.share_size-size.result taken.chunks.now) (sym parts_are) c.in_ok-parts.ensures in
    IfOk-weaker c.merged_logs.result (λ logs. AreMerged partitions (map (λ part. map vec_items part.items) c.deref.result.now) (map vec_items logs.items))
    (λ logs. map vec_items logs.items ≡ filled_by partitions taken.workers.now tables taken.chunks.now)
    (λ logs so. merged-filled partitions taken.workers.now tables c.share_size-size.result taken.chunks.now (map (λ part. map vec_items part.items) c.deref.result.now) (map vec_items logs.items) filled_so so)
    c.merged_logs.ensures
