use Rattle.std.proofs.Common.{◌≡◌, ◌∙◌, refl, rules, arith, true, length, length-append, length-take, ap, take}
use Rattle.std.specs.Prelude.{is_ok, not}
use Rattle.byte_io.proofs.ConsecutiveCalls.{consumes_more, grown, whole_read}
use Rattle.byte_io.proofs.device.read_through.Goals as goal

pub returns-in-Ok-eq0-clause-value : goal.returns-in-Ok-eq0-clause-value
returns-in-Ok-eq0-clause-value g c =
    let last = rw c.in-Ok-eq0.field-0-test at c.in-Ok-eq0.ensures.bytes in
    whole_read _ _ _ c.loop.all.items c.loop.invariant.read last.0 (last.1 refl (omega arith))

pub loop-preserved : goal.loop-preserved
loop-preserved g c =
    let taken : is_ok c.extend_from_slice.result ≡ true = c.is_err.ensures.negation ∙ ap not c.if-is_err.false in
    let buffer = take c.in-Ok.n c.read.new.buf in
    let all = grown (is_ok c.extend_from_slice.result) c.loop.all.items buffer c.extend_from_slice.new.self.items taken c.extend_from_slice.ensures.items in
    record {
      counted = search rules;
      turns = omega (arith, ap length all, length-append c.loop.all.items buffer, length-take c.in-Ok.n c.read.new.buf, c.in-Ok.ensures.bound, c.in-Ok.n-test.1);
      read = rw all (consumes_more _ _ _ c.loop.all.items buffer c.loop.invariant.read c.in-Ok.ensures.bytes.0);
    }

pub returns-in-Err-clause-failures : goal.returns-in-Err-clause-failures
returns-in-Err-clause-failures g c = search rules
