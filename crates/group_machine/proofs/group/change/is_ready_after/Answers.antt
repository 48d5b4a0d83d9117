use Rattle.std.proofs.Common.{◌∙◌, ◌+◌, ◌||◌, Some, ap, sym, drop}
use Rattle.group_machine.specs.Slots.{is_anybody_in}
use Rattle.group_machine.proofs.ChangeLemmas.{mid, any_more, all_more, any_same, all_same, ready_end, ready_not}
use Rattle.group_machine.proofs.group.change.is_ready_after.Goals as goal
use Rattle.group_machine.proofs.group.change.is_ready_after.Goals.{in-Some+else-not-joined, in_default-joined}

pub returns-then-not-joined : goal.returns-then-not-joined
returns-then-not-joined c p name =
    let is = sym c.joined.ensures ∙ c.in-Some.is ∙ ap (λ b. Some b) c.if-not-joined.true in
    ready_not p name c.args.change c.args.slots.now (c.loop-index.invariant.all ∙ all_more c.args.change c.args.slots.now c.loop-index.index c.index-slots-index.result _ c.loop-index-test.true c.index-slots-index.is is)

pub loop-index-preserved : goal.loop-index-preserved
loop-index-preserved c =
    let change = c.args.change in
    let slots = c.args.slots.now in
    let at = c.loop-index.index in
    let was = c.loop-index.invariant in
    elim c.match-joined.branch [
      | in-Some+else-not-joined w ↦
          let is = sym c.joined.ensures ∙ w.in-Some.is ∙ ap (λ b. Some b) w.if-not-joined.false in
          record {
            some = was.some ∙ any_more change slots at c.index-slots-index.result c.loop-index.anybody c.loop-index-test.true c.index-slots-index.is is ∙ ap (λ b. b || is_anybody_in (drop (at + 1) (mid change slots))) (sym w.anybody-is);
            all = was.all ∙ all_more change slots at c.index-slots-index.result _ c.loop-index-test.true c.index-slots-index.is is;
          }
      | in_default-joined w ↦
          let none = sym c.joined.ensures ∙ w.in_default-joined.is in
          record {
            some = was.some ∙ ap (λ b. c.loop-index.anybody || b) (any_same change slots at c.index-slots-index.result c.loop-index-test.true c.index-slots-index.is none) ∙ ap (λ b. b || is_anybody_in (drop (at + 1) (mid change slots))) (sym w.anybody-is);
            all = was.all ∙ all_same change slots at c.index-slots-index.result c.loop-index-test.true c.index-slots-index.is none;
          }
    ]

pub returns : goal.returns
returns c p name = ready_end p name c.args.change c.args.slots.now c.loop-index.index c.loop-index.anybody c.loop-index-test.false c.loop-index.invariant.some c.loop-index.invariant.all
