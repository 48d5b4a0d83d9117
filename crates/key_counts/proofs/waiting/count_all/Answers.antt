use Rattle.key_counts.proofs.Steps.{took-more}
use Rattle.key_counts.proofs.waiting.count_all.Goals as goal

pub loop-i-preserved : goal.loop-i-preserved
loop-i-preserved c =
    took-more c.args.counts.now c.loop-i.counts c.count_in.new.counts c.args.waiting.now c.loop-i.i c.index-waiting-i.result c.loop-i-test.true
    c.index-waiting-i.is c.loop-i.invariant c.in_ok-count_in.ensures
