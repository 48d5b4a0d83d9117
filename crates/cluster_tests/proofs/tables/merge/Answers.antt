use Rattle.std.proofs.Common.{rules, length, ap, arith}
use Rattle.std.specs.Prelude.{IsTrue}
use Rattle.cluster_tests.proofs.tables.merge.Goals as goal

pub merge-requires-clause-numbers : goal.merge-requires-clause-numbers
merge-requires-clause-numbers g c x more =
    let can : IsTrue c.can_take.result = search rules in
    let within = c.can_take.ensures.numbers can x (rw c.ids.ensures more) in
    omega (arith, within, ap length c.counts.ensures)
