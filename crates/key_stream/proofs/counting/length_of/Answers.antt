use Rattle.std.proofs.Common.{arith, ◌+◌, ◌∙◌, ap, sym, length, get_or, []}
use Rattle.key_stream.proofs.Lengths.{length-next, length-within}
use Rattle.key_stream.proofs.counting.length_of.Goals as goal

pub overflow_add-sum : goal.overflow_add-sum
overflow_add-sum c =
    let e = length-within c.args.pieces.now c.loop-i.i (record { ref_ptr = (0, 0); now = [] }) c.loop-i-test.true in
    let f = c.loop-i.invariant in
    let b = c.requires in
    omega (arith, e, f, b)

pub loop-i-preserved : goal.loop-i-preserved
loop-i-preserved c =
    ap (λ n. n + length (get_or c.args.pieces.now c.loop-i.i (record { ref_ptr = (0, 0); now = [] })).now) c.loop-i.invariant ∙ sym (length-next c.args.pieces.now c.loop-i.i (record { ref_ptr = (0, 0); now = [] }) c.loop-i-test.true)
