use Rattle.std.proofs.Common.{rules, ◌≢◌, Err, sym, subst}
use Rattle.lane_words.specs.declared.Refusal.TheVariants as r
use Rattle.world.specs.Courses.{answer_in}
use Rattle.replay_steps.specs.Private.Walks.{IsPerformed}
use Rattle.replay_steps.proofs.Lines.{event_performed, step_came}
use Rattle.replay_steps.proofs.perform.perform_event.Goals as goal

pub returns : goal.returns
returns g c batch =
    let Shows = g.O.StepObserver.Shows in
    let w = c.args.world.now in
    let w2 = c.step-reply.new.self in
    let e = c.event_of-event.result in
    let other : answer_in c.step-reply.result ≢ Err r.Memory = search rules in
    let comes = step_came w w2 e c.step-reply.result c.step-reply.ensures.step other in
    subst (λ outcome. IsPerformed Shows outcome c.args.walk.now.observer c.answer-answer.result w2 c.show_event.new.self.observer) (sym (c.event_of-event.ensures batch c.args.walk.now.line))
    (event_performed Shows c.args.walk.now.observer c.show_event.new.self.observer w w2 c.args.action.now e c.step-reply.result c.args.walk.now.line c.args.walk.now.next c.member_of-member.result c.name_for-name.result.now c.step_event.result c.answer-answer.result
    comes c.requires.start c.step_event.ensures c.member_of-member.ensures c.name_for-name.ensures c.answer-answer.ensures c.in_ok-show_event.ensures.shown)
