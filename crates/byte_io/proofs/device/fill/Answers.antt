use Rattle.std.proofs.Common.{rules, ap, arith, length, length-drop, ◌-◌}
use Rattle.byte_io.proofs.ConsecutiveCalls.{consumes_more, buffer-filled, buffer-long, slice_end}
use Rattle.byte_io.proofs.device.fill.Goals as goal

pub loop-filled-preserved : goal.loop-filled-preserved
loop-filled-preserved g c =
    let buffer = c.loop-filled.buffer in
    let filled = c.loop-filled.filled in
    let n = c.in-Ok.n in
    let within = c.loop-filled.invariant.within in
    let some = c.in-Ok.ensures.bound.0 in
    let read = c.in-Ok.ensures.bytes in
    record {
      counted = search rules;
      within = let long = buffer-long filled (length buffer - filled) buffer c.read.new.buf within (omega (arith, c.read.auto.buf, ap length (slice_end filled buffer), length-drop filled buffer)) in omega (arith, long, within, some);
      read = rw (buffer-filled filled n (length buffer - filled) buffer c.read.new.buf within some) (consumes_more _ _ _ _ _ c.loop-filled.invariant.read read.0);
    }
