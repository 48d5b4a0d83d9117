use Rattle.std.proofs.Common.{◌++◌, ◌∙◌, ◌+◌, ap, sym, arith, drop}
use Rattle.report_rows.proofs.Ranking.{entries, entries_all, entries_more, numbers_below, ranked_are}
use Rattle.report_rows.proofs.top_rows.ranked.Goals as goal

pub loop-id-preserved : goal.loop-id-preserved
loop-id-preserved c =
    entries_more c.args.counts.now c.loop-id.ranked.items c.loop-id.id (omega arith) c.loop-id.invariant
    ∙ ap (λ made. made ++ entries (c.loop-id.id + 1) (drop (c.loop-id.id + 1) c.args.counts.now)) (sym c.in_ok-push.ensures.items)

pub returns-clause-value : goal.returns-clause-value
returns-clause-value c =
    ranked_are c.args.counts.now c.loop-id.ranked.items c.sort_unstable.new.self.items
    (entries_all c.args.counts.now c.loop-id.ranked.items c.loop-id.id (omega arith) c.loop-id.invariant) c.sort_unstable.ensures.permutation c.sort_unstable.ensures.sorted

pub returns-clause-bound : goal.returns-clause-bound
returns-clause-bound c =
    numbers_below c.args.counts.now c.loop-id.ranked.items c.sort_unstable.new.self.items
    (entries_all c.args.counts.now c.loop-id.ranked.items c.loop-id.id (omega arith) c.loop-id.invariant) c.sort_unstable.ensures.permutation
