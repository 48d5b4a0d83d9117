use Rattle.std.proofs.Common.{rules, ◌∙◌, ◌<◌, ap, sym}
use Rattle.lane_words.specs.declared.limits.TheConstants.{LAST_GENERATION}
use Rattle.group_machine.specs.Slots.{is_ready_in}
use Rattle.group_machine.specs.Private.Changes.{slots_after}
use Rattle.group_machine.proofs.group.Group.plan_completion.Goals as goal

pub returns-clause-ok : goal.returns-clause-ok
returns-clause-ok c name =
    let p = c.args.self.now.partitions in
    let more : c.args.self.now.generation < LAST_GENERATION = search rules in (
      ap (λ slots. is_ready_in (slots_after p name c.args.change slots)) (sym c.deref.ensures.value) ∙ sym (c.is_ready_after.ensures p name) ∙ c.if-not-is_ready_after.false,
      more,
      c.in_ok-completion.ensures name,
    )
