use Rattle.std.proofs.Common.{◌≡◌, ap, arith, get_or, length}
use Rattle.key_counts.specs.declared.merging.Start.{Start}
use Rattle.key_counts.proofs.Bounds.{left-less, starts-rise}
use Rattle.key_counts.proofs.merging.Merging.forget_from.Goals as goal

pub forget_from-requires-clause-left : goal.forget_from-requires-clause-left
forget_from-requires-clause-left g c κs within =
    let m = c.self.inside.prepared in
    let bounds = c.self.inside.bounds.items in
    let left = c.self.inside.left in
    let here : Start = c.index.result.now in
    let read : here ≡ get_or bounds c.args.part here = c.index.ensures in
    let up = starts-rise m (length m.segments.items) bounds c.args.part left here c.self.invariant.1.starts (omega arith) c.self.invariant.2 in
    left-less m (get_or bounds left here).segment here.segment (c.self.invariant.3 here) (omega (arith, up, ap (λ (s : Start). s.segment) read))
