use Rattle.std.proofs.Common.{ℕ, ◌∙◌, List, ap, subst}
use Rattle.bit_planes.specs.PartitionSet.{elements}
use Rattle.consumer.specs.Consumer.{ConsumerState}
use Rattle.keycount_c.specs.Consumers.{held_by}
use Rattle.keycount_c.specs.Lists.{IsListed}
use Rattle.keycount_c.proofs.Holding.{elements_held}
use Rattle.keycount_c.proofs.member.calls.keycount_consumer_holding.Goals as goal

pub returns-clause-answer : goal.returns-clause-answer
returns-clause-answer c =
    let same = elements_held c.deref.result.now c.holding.result.now c.holding.ensures.partitions c.holding.ensures.elements ∙ ap (λ (h : ConsumerState). elements (held_by h)) c.deref.ensures in
    rw (c.in-Some.ensures.value)
    (subst (λ (items : List ℕ). IsListed items c.args.partitions.now c.list_elements-answer.result c.list_elements-answer.new.out c.list_elements-answer.new.count) same c.list_elements-answer.ensures)
