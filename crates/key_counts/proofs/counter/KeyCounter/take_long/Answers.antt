use Rattle.key_counts.proofs.Steps.{later-long-answer}
use Rattle.key_counts.proofs.counter.KeyCounter.take_long.Goals as goal

pub returns : goal.returns
returns c =
    later-long-answer c.take_long.result c.args.self.now c.settle.new.self c.self.inside.counts c.take_long.new.self c.self.inside.waiting.items c.args.key.now
    c.in_ok-settle.ensures.entries c.in_ok-settle.ensures.waiting c.self.view_is c.take_long.ensures
