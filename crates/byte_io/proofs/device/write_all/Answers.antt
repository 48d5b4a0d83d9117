use Rattle.std.proofs.Common.{rules, arith, length-drop}
use Rattle.byte_io.proofs.ConsecutiveCalls.{appends_more, slice_end}
use Rattle.byte_io.proofs.device.write_all.Goals as goal

pub loop-taken-preserved : goal.loop-taken-preserved
loop-taken-preserved g c =
    let rest = slice_end c.loop-taken.taken c.args.bytes.now in
    let at_most = rw rest at c.in-Ok.ensures.bound in
    record {
      counted = search rules;
      within = omega (arith, length-drop c.loop-taken.taken c.args.bytes.now, at_most);
      wrote = appends_more _ _ _ c.args.bytes.now c.loop-taken.taken c.in-Ok.n c.loop-taken.invariant.wrote (rw rest at c.in-Ok.ensures.bytes);
    }

pub returns-in-Err-clause-kind : goal.returns-in-Err-clause-kind
returns-in-Err-clause-kind g c = search rules

pub loop-taken-init : goal.loop-taken-init
loop-taken-init g c = search rules
