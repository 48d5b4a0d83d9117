use Rattle.std.proofs.Common.{◌∙◌, ◌++◌, ◌∷◌, [], Ok, ap, subst}
use Rattle.lane_words.specs.Answers.{Answers}
use Rattle.group_machine.specs.Cluster.{with_group}
use Rattle.group_machine.specs.Steps.{join_answer, joined_by}
use Rattle.consumer.specs.Consumer.{ConsumerState, joined_as, out_of_group}
use Rattle.world.specs.declared.event.Reply.TheVariants as reply
use Rattle.world.specs.Private.View.{world_view}
use Rattle.world.proofs.Outcomes.{entered}
use Rattle.world.proofs.parts.Parts.join.Goals as goal

pub returns-in-Ok-join : goal.returns-in-Ok-join
returns-in-Ok-join c =
    let w = world_view c.args.self.now in
    let g = w.cluster.group in
    let name = c.args.name.now in
    entered (λ m. reply.Joined m) (joined_by g name) w (join_answer g name) c.in-Ok-join.member c.join.new.self c.enter.new.consumers.items
    (subst (λ x. Answers (join_answer g x) (Ok c.in-Ok-join.member)) c.copy.ensures c.in-Ok-join.ensures.answer)
    (c.in-Ok-join.ensures.ok ∙ ap (λ x. with_group w.cluster (joined_by g x)) c.copy.ensures)
    (c.enter.ensures ∙ ap (λ cs. cs ++ joined_as c.in-Ok.consumer c.in-Ok-join.member ∷ []) c.new_consumer.ensures.same
    ∙ ap (λ (x : ConsumerState). w.consumers ++ joined_as x c.in-Ok-join.member ∷ []) (c.in-Ok.ensures.value ∙ ap out_of_group c.partitions-partitions.ensures.count))
