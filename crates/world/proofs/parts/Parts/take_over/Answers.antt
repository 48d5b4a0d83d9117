use Rattle.std.proofs.Common.{◌∙◌, ◌++◌, ◌∷◌, [], ap}
use Rattle.group_machine.specs.Steps.{take_over_answer, taken_over_by}
use Rattle.consumer.specs.Consumer.{ConsumerState, joined_as, out_of_group}
use Rattle.world.specs.declared.event.Reply.TheVariants as reply
use Rattle.world.specs.Private.View.{world_view}
use Rattle.world.proofs.Outcomes.{entered}
use Rattle.world.proofs.parts.Parts.take_over.Goals as goal

pub returns-in-Ok-take_over : goal.returns-in-Ok-take_over
returns-in-Ok-take_over c =
    let w = world_view c.args.self.now in
    let g = w.cluster.group in
    let name = c.args.name.now in
    entered (λ m. reply.TakenOver m) (taken_over_by g name) w (take_over_answer g name) c.in-Ok-take_over.member c.take_over.new.self c.enter.new.consumers.items
    c.in-Ok-take_over.ensures.answer c.in-Ok-take_over.ensures.ok
    (c.enter.ensures ∙ ap (λ cs. cs ++ joined_as c.in-Ok.consumer c.in-Ok-take_over.member ∷ []) c.new_consumer.ensures.same
    ∙ ap (λ (x : ConsumerState). w.consumers ++ joined_as x c.in-Ok-take_over.member ∷ []) (c.in-Ok.ensures.value ∙ ap out_of_group c.partitions-partitions.ensures.count))
