use Rattle.std.proofs.Common.{◌∙◌, ap, arith, rules}
use Rattle.bit_planes.specs.PartitionSet.{minus}
use Rattle.sticky_assignor.proofs.Steps.{retained_whole}
use Rattle.sticky_assignor.proofs.remove_retained.Goals as goal

pub returns-then-count-quota-clause-value : goal.returns-then-count-quota-clause-value
returns-then-count-quota-clause-value c = c.remove_all.ensures.value ∙ ap (minus c.args.free.now) (retained_whole c.args.row.now c.args.quota (omega (arith, c.requires.counts, c.if-count-quota.true)))

pub returns-else-count-quota-clause-value : goal.returns-else-count-quota-clause-value
returns-else-count-quota-clause-value c = search rules
