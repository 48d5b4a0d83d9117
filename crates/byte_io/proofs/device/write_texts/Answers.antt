use Rattle.std.proofs.Common.{vec_items}
use Rattle.byte_io.proofs.ConsecutiveCalls.{err_holds, texts_prefix}
use Rattle.byte_io.proofs.device.write_texts.Goals as goal

pub returns-in_err-write_all-clause-err : goal.returns-in_err-write_all-clause-err
returns-in_err-write_all-clause-err g c =
    let begun = rw c.as_slice.ensures.value at c.in_err-write_all.ensures.err in
    let whole = texts_prefix vec_items c.args.texts.now c.loop-i.i c.index-texts-i.result _ _ _ c.loop-i-test.true c.index-texts-i.is c.loop-i.invariant.wrote begun in
    err_holds c.from_residual.result whole
