use Rattle.place_report.proofs.RecordList.{adds-chunk}
use Rattle.place_report.proofs.record_list.list_of.Goals as goal

pub loop-i-preserved : goal.loop-i-preserved
loop-i-preserved c =
    adds-chunk c.args.taken.now c.loop-i.i _ _ c.loop-i.list c.add_chunk.new.list c.loop-i-test.true c.requires.chunks c.loop-i.invariant c.in_ok-add_chunk.ensures
