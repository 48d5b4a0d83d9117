use Rattle.std.proofs.Common.{rules}
use Rattle.std.specs.Fork.{AcceptsAt, ChangesAt}
use Rattle.parallel.proofs.Slices.{both-change, others-accept}
use Rattle.parallel.proofs.each.+slices.Goals as goal

pub call_slices-call_both-requires-clause-others : goal.call_slices-call_both-requires-clause-others
call_slices-call_both-requires-clause-others g t c κs within =
    let cut = c.split_at_mut-first in
    others-accept (AcceptsAt g.F.Fn c.args.f.now) c.args.from c.min-count.result c.args.items.now cut.result.0.now cut.result.1.now cut.ensures.value (search rules) c.requires.accepts

pub call_slices-returns : goal.call_slices-returns
call_slices-returns g t c =
    let cut = c.split_at_mut-first in
    both-change (ChangesAt g.F.Fn c.args.f.now) c.args.from c.min-count.result c.args.items.now cut.result.0.now cut.result.1.now c.call_both.new.first c.call_both.new.others
    cut.ensures.value (search rules) c.call_both.ensures.first c.call_both.ensures.others
