use Rattle.std.proofs.Common.{◌<◌, ◌∙◌, arith, get_or, drop, length}
use Rattle.key_counts.proofs.Totals.{added-at, added-end, added-fits}
use Rattle.key_counts.proofs.classes.add_counts.Goals as goal

pub overflow_add-totals : goal.overflow_add-totals
overflow_add-totals c =
    let ids = c.args.ids.now in
    let counts = c.args.counts.now in
    let k = c.loop-k.k in
    let lt : k < length ids = omega arith in
    let id = get_or ids k 0 in
    let below = c.requires.ids k 0 lt in
    omega (arith, added-fits ids counts k lt c.requires.len, c.loop-k.invariant id below, c.requires.sums id below)

pub loop-k-preserved : goal.loop-k-preserved
loop-k-preserved c =
    let ids = c.args.ids.now in
    let k = c.loop-k.k in
    let lt : k < length ids = omega arith in
    let below : get_or ids k 0 < length c.loop-k.totals = omega (arith, c.requires.ids k 0 lt, c.loop-k.auto.totals) in
    λ id id_in. added-at c.loop-k.totals ids c.args.counts.now k id lt c.requires.len below ∙ c.loop-k.invariant id id_in

pub returns : goal.returns
returns c =
    λ id id_in.
    let end = added-end c.args.ids.now (drop c.loop-k.k c.args.counts.now) c.loop-k.k id (omega arith) in
    omega (arith, end, c.loop-k.invariant id id_in)
