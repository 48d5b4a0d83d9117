use Rattle.key_stream.proofs.Turns.{from-start}
use Rattle.key_stream.proofs.counting.work_all.Goals as goal

pub returns-clause-worked : goal.returns-clause-worked
returns-clause-worked g c =
    from-start c.args.layout.now c.args.chunks c.args.workers.now c.forget_turns.new.workers c.work_first.new.workers c.forget_turns.ensures.len c.work_first.ensures.len c.forget_turns.ensures.entries
    c.forget_turns.ensures.turns c.work_first.ensures.each
