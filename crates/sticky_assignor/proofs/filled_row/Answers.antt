use Rattle.std.proofs.Common.{◌≤◌, ◌∙◌, refl, ap, arith}
use Rattle.bit_planes.specs.PartitionSet.{size, union, minus, lowest}
use Rattle.sticky_assignor.proofs.Steps.{retained_whole, row_alone, free_alone, given_is}
use Rattle.sticky_assignor.proofs.filled_row.Goals as goal

pub returns-then-quota-count-clause-row : goal.returns-then-quota-count-clause-row
returns-then-quota-count-clause-row c = row_alone c.args.row.now c.lowest.result c.args.free.now c.args.quota c.requires.partitions (omega (arith, c.requires.counts, c.if-quota-count.true)) c.lowest.ensures.value

pub returns-then-quota-count-clause-free : goal.returns-then-quota-count-clause-free
returns-then-quota-count-clause-free c = free_alone c.args.row.now c.args.free.now c.args.quota (omega (arith, c.requires.counts, c.if-quota-count.true))

pub returns-then-count-quota-clause-row : goal.returns-then-count-quota-clause-row
returns-then-count-quota-clause-row c =
    let row = c.args.row.now in
    let quota = c.args.quota in
    let fits : size row ≤ quota = omega (arith, c.requires.counts, c.if-quota-count.false) in
    c.insert_all.ensures.value
    ∙ (ap (λ s. union s c.lowest-given.result) (c.copy-filled.ensures ∙ retained_whole row quota fits)
    ∙ ap (union (lowest quota row)) (given_is row c.args.free.now c.lowest-given.result quota c.args.count _ c.requires.counts c.if-quota-count.false refl c.lowest-given.ensures.value))

pub returns-then-count-quota-clause-free : goal.returns-then-count-quota-clause-free
returns-then-count-quota-clause-free c =
    c.remove_all.ensures.value
    ∙ ap (minus c.args.free.now) (given_is c.args.row.now c.args.free.now c.lowest-given.result c.args.quota c.args.count _ c.requires.counts c.if-quota-count.false refl c.lowest-given.ensures.value)

pub returns-else-count-quota-clause-row : goal.returns-else-count-quota-clause-row
returns-else-count-quota-clause-row c =
    let row = c.args.row.now in
    let quota = c.args.quota in
    let fits : size row ≤ quota = omega (arith, c.requires.counts, c.if-quota-count.false) in
    row_alone row c.copy-filled.result c.args.free.now quota c.requires.partitions (omega (arith, c.requires.counts, c.if-count-quota.false)) (c.copy-filled.ensures ∙ retained_whole row quota fits)

pub returns-else-count-quota-clause-free : goal.returns-else-count-quota-clause-free
returns-else-count-quota-clause-free c = free_alone c.args.row.now c.args.free.now c.args.quota (omega (arith, c.requires.counts, c.if-count-quota.false))
