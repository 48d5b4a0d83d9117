use Rattle.std.proofs.Common.{◌∙◌, List, [], ap}
use Rattle.consumer.specs.Consumer.{ConsumerState}
use Rattle.group_machine.specs.Cluster.{CommitTerms}
use Rattle.group_machine.specs.State.{GroupState}
use Rattle.world.specs.World.{WorldState}
use Rattle.world.proofs.Over.{over_is}
use Rattle.world.proofs.world.World.over.Goals as goal

pub returns-clause-state : goal.returns-clause-state
returns-clause-state c =
    let s = c.in_ok-cluster.cluster in
    let new = c.in_ok-cluster.ensures in
    let sized = new.valid.store_partitions ∙ ap (λ (g : GroupState). g.partitions) new.group in
    ap (λ (cs : List ConsumerState). let w : WorldState = record { cluster = s; consumers = cs; mail = c.new-2.result.items } in w) c.new.ensures.items
    ∙ ap (λ (m : List CommitTerms). let w : WorldState = record { cluster = s; consumers = []; mail = m } in w) c.new-2.ensures.items
    ∙ over_is c.args.logs s new.group new.logs sized new.offsets new.counters new.capacity
