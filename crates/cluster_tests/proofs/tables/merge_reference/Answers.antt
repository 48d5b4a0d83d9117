use Rattle.std.proofs.Common.{rules, arith}
use Rattle.std.specs.Prelude.{IsTrue}
use Rattle.cluster_tests.proofs.tables.merge_reference.Goals as goal

pub raise-requires-clause-numbers : goal.raise-requires-clause-numbers
raise-requires-clause-numbers g c x more =
    let can : IsTrue c.can_take.result = search rules in
    let within = c.can_take.ensures.numbers can x (rw c.ids.ensures more) in
    omega (arith, within)
