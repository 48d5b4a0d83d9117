use Rattle.std.proofs.Common.{arith}
use Rattle.world.proofs.Runs.{history_more, one_step_more}
use Rattle.world.proofs.world.World.run.Goals as goal

pub loop-event-preserved : goal.loop-event-preserved
loop-event-preserved c =
    let so_far = c.loop-event.invariant.so_far in
    let event = c.event-item.result in
    record {
      counted = omega (arith, c.push_reserved.ensures.len, c.loop-event.invariant.counted);
      capacity = omega (arith, c.push_reserved.ensures.capacity, c.loop-event.invariant.capacity);
      so_far = one_step_more c.args.events.now c.loop-event.replies.items c.push_reserved.new.self.items c.args.self.now c.loop-event.self c.step.new.self c.loop-event.event-index event event c.step.result
          so_far c.step.ensures.step c.event-item.is c.loop-event-test.true c.push_reserved.ensures.items;
      history = history_more c.args.events.now c.loop-event.replies.items c.push_reserved.new.self.items c.args.self.now c.loop-event.self c.step.new.self c.loop-event.event-index event event c.step.result
          so_far c.loop-event.invariant.history c.step.ensures.history c.event-item.is c.loop-event-test.true c.push_reserved.ensures.items;
      valid = c.step.ensures.valid;
    }
