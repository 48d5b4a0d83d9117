use Rattle.workers.specs.Private.View.{planned_view}
use Rattle.workers.proofs.Progressed.{rejoined_progress}
use Rattle.workers.proofs.planned.Planned.rejoin_announced.Goals as goal

pub invariant_of-self-then-is_announced : goal.invariant_of-self-then-is_announced
invariant_of-self-then-is_announced c = rejoined_progress (planned_view c.self.inside) c.args.member c.args.generation c.args.claim.now c.rejoin.new.self c.self.invariant c.in_ok-rejoin.ensures.answer c.in_ok-rejoin.ensures.ok

pub invariant_of-self-else-is_announced : goal.invariant_of-self-else-is_announced
invariant_of-self-else-is_announced c = rejoined_progress (planned_view c.self.inside) c.args.member c.args.generation c.args.claim.now c.rejoin.new.self c.self.invariant c.in_ok-rejoin.ensures.answer c.in_ok-rejoin.ensures.ok
