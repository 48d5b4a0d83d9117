use Rattle.std.proofs.Common.{◌<◌, ℕ, List, length, get_or, arith}
use Rattle.keyed_table.specs.Counts.{plain}
use Rattle.keyed_table.proofs.Elements.{occurs-somewhere}
use Rattle.cluster_tests.proofs.tables.can_take.Goals as goal

have-below : (ids : List ℕ) (bound : ℕ) → ((i : ℕ) → i < length ids → get_or ids i 0 < bound) → (x : ℕ) → 0 < plain ids x → x < bound
have-below ids bound below x more =
    let found = occurs-somewhere ids x more in
    omega (arith, below found.0 found.1, found.2)

pub returns-then-are_below-clause-numbers : goal.returns-then-are_below-clause-numbers
returns-then-are_below-clause-numbers c can x more =
    let below = have-below c.args.ids.now (length c.args.counts.now) (c.are_below.ensures c.if-are_below.true) x more in
    omega (arith, below)
