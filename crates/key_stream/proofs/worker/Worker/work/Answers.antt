use Rattle.std.proofs.Common.{refl}
use Rattle.key_stream.proofs.Turns.{more-work, no-turn}
use Rattle.key_stream.proofs.worker.Worker.work.Goals as goal

pub returns-then-is_err : goal.returns-then-is_err
returns-then-is_err c = no-turn c.args.layout.now c.args.chunks c.args.self.now _ refl c.prepare.ensures

pub loop-init : goal.loop-init
loop-init c = no-turn c.args.layout.now c.args.chunks c.args.self.now _ refl c.prepare.ensures

pub returns-then-not-unwrap_or : goal.returns-then-not-unwrap_or
returns-then-not-unwrap_or c = more-work c.args.layout.now c.args.chunks c.args.self.now c.loop.self c.take_turn.new.self c.loop.invariant c.take_turn.ensures

pub loop-preserved : goal.loop-preserved
loop-preserved c = more-work c.args.layout.now c.args.chunks c.args.self.now c.loop.self c.take_turn.new.self c.loop.invariant c.take_turn.ensures
