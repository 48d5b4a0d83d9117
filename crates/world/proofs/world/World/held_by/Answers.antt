use Rattle.std.proofs.Common.{rules, ◌≡◌, ◌∙◌, ap, arith, sym}
use Rattle.bit_planes.specs.PartitionSet.{empty_set}
use Rattle.world.proofs.Walks.{held_whole, holds_none}
use Rattle.world.proofs.world.World.held_by.Goals as goal

pub returns-after-loop-p : goal.returns-after-loop-p
returns-after-loop-p c =
    let i = c.loop-p.invariant in
    held_whole c.loop-p.held c.args.self.now c.args.member c.loop-p.p c.in-Some.consumer.now i.consumer (i.partitions ∙ i.same) (omega (arith, c.loop-p-test.false, i.same)) i.elements

pub returns-in_default : goal.returns-in_default
returns-in_default c =
    let partitions : c.partitions-partitions.result ≡ c.args.self.now.cluster.group.partitions = search rules in
    c.new-held.ensures.value ∙ ap empty_set partitions ∙ sym (holds_none c.args.self.now c.args.member c.in_default.ensures.value)
