use Rattle.std.proofs.Common.{◌∙◌, ap}
use Rattle.bit_planes.specs.PartitionSet.{is_in}
use Rattle.coop_rebalance.proofs.Granted.{others_granted, others_alone}
use Rattle.coop_rebalance.proofs.withholding.Grants.of_others.Goals as goal

pub returns-in-Some-clause-elements : goal.returns-in-Some-clause-elements
returns-in-Some-clause-elements c = λ q.
    c.to_others.ensures.elements q ∙ others_granted c.args.self.now.some c.args.self.now.several c.in-Some.own.now c.args.granted.now c.args.member q c.get.ensures.valid c.requires c.in-Some.ensures.value

pub returns-in-None-clause-elements : goal.returns-in-None-clause-elements
returns-in-None-clause-elements c = λ q.
    ap (λ s. is_in s q) c.copy.ensures ∙ others_alone c.args.self.now.some c.args.self.now.several c.args.granted.now c.args.member q c.get.ensures.valid c.requires c.in-None.ensures.value
