use Rattle.std.proofs.Common.{◌∙◌, ◌+◌, ℕ, List, ap, sym, subst, arith}
use Rattle.keyed_table.specs.Counts.{HaveCounters, SumsFit, raised}
use Rattle.place_report.specs.Private.KeyCounts.{AreCountsBetween}
use Rattle.place_report.proofs.KeyCounts.{have_counters, next_counts, sums_fit}
use Rattle.place_report.proofs.topic_counts.counts_between.Goals as goal

pub add_list-requires-clause-numbers : goal.add_list-requires-clause-numbers
add_list-requires-clause-numbers c =
    subst (λ (ids : List ℕ). HaveCounters c.loop-p.table.counts ids) (sym c.all_ids.ensures)
    (have_counters c.args.logs.now c.args.from c.loop-p.p c.loop-p.table.counts c.requires.valid c.loop-p.invariant)

pub add_list-requires-clause-sums : goal.add_list-requires-clause-sums
add_list-requires-clause-sums c =
    subst (λ (ids : List ℕ). SumsFit c.loop-p.table.counts ids) (sym c.all_ids.ensures)
    (sums_fit c.args.logs.now c.args.from c.loop-p.p c.loop-p.table.counts c.requires.valid c.loop-p.invariant (omega arith))

pub loop-p-preserved : goal.loop-p-preserved
loop-p-preserved c =
    let raised_is = ap (λ t. t.counts) c.add_list.ensures ∙ ap (raised c.loop-p.table.counts) c.all_ids.ensures in
    subst (λ (counts : List ℕ). AreCountsBetween c.args.logs.now c.args.from (c.loop-p.p + 1) counts) (sym raised_is)
    (next_counts c.args.logs.now c.args.from c.loop-p.p c.loop-p.table.counts c.loop-p.invariant)
