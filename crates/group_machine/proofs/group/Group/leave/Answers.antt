use Rattle.std.proofs.Common.{rules, ◌∙◌, ◌≡◌, [], None, Result, Err, ap, sym, subst, length, inl, true, is_some}
use Rattle.std.proofs.lemmas.List.{with_items_is}
use Rattle.std.specs.Vec.{with_items}
use Rattle.lane_words.specs.Answers.{Answers}
use Rattle.lane_words.specs.declared.Refusal.{Refusal}
use Rattle.group_machine.specs.Slots.{seat_of, without_seat, only_of}
use Rattle.group_machine.specs.State.{GroupState, is_present}
use Rattle.group_machine.specs.Completion.{completed}
use Rattle.group_machine.specs.Steps.{leaving, left, leave_answer}
use Rattle.group_machine.specs.Private.Changes.{IsChanged, IsPlanned}
use Rattle.group_machine.specs.Private.GroupView.{group_view}
use Rattle.group_machine.proofs.PresentLemmas.{length_reseated}
use Rattle.group_machine.proofs.StepLemmas.{leaving_changed}
use Rattle.group_machine.proofs.TableLemmas.{with_phase, leave_go, refused_answer, planned_answer}
use Rattle.group_machine.proofs.group.Group.leave.Goals as goal

pub plan_completion-requires-clause-state : goal.plan_completion-requires-clause-state
plan_completion-requires-clause-state c name =
    let g : GroupState = group_view c.args.self.now in
    let here : is_present g c.args.member ≡ true = ap (λ slots. is_some (seat_of slots c.args.member)) (sym c.deref.ensures.value) ∙ sym c.is_present.ensures ∙ c.if-not-is_present.false in
    leaving_changed g c.args.member c.requires here

pub returns-in_err-planned-clause-answer : goal.returns-in_err-planned-clause-answer
returns-in_err-planned-clause-answer c =
    let g : GroupState = group_view c.args.self.now in
    let here : is_present g c.args.member ≡ true = ap (λ slots. is_some (seat_of slots c.args.member)) (sym c.deref.ensures.value) ∙ sym c.is_present.ensures ∙ c.if-not-is_present.false in
    let same : c.from_residual.result ≡ Err c.in_err-planned.field-0.0 = search rules in
    subst (λ (answer : Result (Unit {0}) Refusal). Answers (leave_answer g c.args.member) answer) (sym same)
    (subst (λ (expected : Result (Unit {0}) Refusal). Answers expected (Err c.in_err-planned.field-0.0)) (sym (leave_go g c.args.member here)) (refused_answer (leaving g c.args.member) tt c.in_err-planned.field-0.0 (c.in_err-planned.ensures.err [])))

pub complete-requires-clause-state : goal.complete-requires-clause-state
complete-requires-clause-state c =
    let g : GroupState = group_view c.args.self.now in
    let here : is_present g c.args.member ≡ true = ap (λ slots. is_some (seat_of slots c.args.member)) (sym c.deref.ensures.value) ∙ sym c.is_present.ensures ∙ c.if-not-is_present.false in
    let same : group_view c.plan_completion.new.self ≡ g = c.plan_completion.ensures.same in
    let items = with_items_is c.plan_completion.new.self.slots c.remove.new.slots (ap length c.remove.ensures ∙ length_reseated (only_of c.args.member (λ before. None)) c.deref_mut.result.now ∙ c.deref_mut.ensures.len) in
    let slots = items ∙ c.remove.ensures ∙ ap (λ s. without_seat s c.args.member) (c.deref_mut.ensures.value ∙ ap (λ a. a.slots) same) in
    let phase = c.phase_left-self.ensures ∙ ap (λ s. (left g s).phase) (c.deref-2.ensures.value ∙ slots) in
    let during = ap (λ a. with_phase a c.phase_left-self.result (with_items c.plan_completion.new.self.slots c.remove.new.slots).items) same ∙ ap (with_phase g c.phase_left-self.result) slots ∙ ap (λ p. with_phase g p (without_seat g.slots c.args.member)) phase in
    subst IsChanged (sym during) (leaving_changed g c.args.member c.requires here)

pub complete-requires-clause-planned : goal.complete-requires-clause-planned
complete-requires-clause-planned c =
    let g : GroupState = group_view c.args.self.now in
    let same : group_view c.plan_completion.new.self ≡ g = c.plan_completion.ensures.same in
    let items = with_items_is c.plan_completion.new.self.slots c.remove.new.slots (ap length c.remove.ensures ∙ length_reseated (only_of c.args.member (λ before. None)) c.deref_mut.result.now ∙ c.deref_mut.ensures.len) in
    let slots = items ∙ c.remove.ensures ∙ ap (λ s. without_seat s c.args.member) (c.deref_mut.ensures.value ∙ ap (λ a. a.slots) same) in
    let phase = c.phase_left-self.ensures ∙ ap (λ s. (left g s).phase) (c.deref-2.ensures.value ∙ slots) in
    let during = ap (λ a. with_phase a c.phase_left-self.result (with_items c.plan_completion.new.self.slots c.remove.new.slots).items) same ∙ ap (with_phase g c.phase_left-self.result) slots ∙ ap (λ p. with_phase g p (without_seat g.slots c.args.member)) phase in
    subst (λ (h : GroupState). IsPlanned h c.in_ok-planned.planned) (sym during) (c.in_ok-planned.ensures.ok [])

pub returns-clause-answer : goal.returns-clause-answer
returns-clause-answer c =
    let g : GroupState = group_view c.args.self.now in
    let here : is_present g c.args.member ≡ true = ap (λ slots. is_some (seat_of slots c.args.member)) (sym c.deref.ensures.value) ∙ sym c.is_present.ensures ∙ c.if-not-is_present.false in
    inl (planned_answer (leaving g c.args.member) tt c.in_ok-planned.planned (c.in_ok-planned.ensures.ok []) ∙ sym (leave_go g c.args.member here))

pub returns-clause-ok : goal.returns-clause-ok
returns-clause-ok c =
    let g : GroupState = group_view c.args.self.now in
    let same : group_view c.plan_completion.new.self ≡ g = c.plan_completion.ensures.same in
    let items = with_items_is c.plan_completion.new.self.slots c.remove.new.slots (ap length c.remove.ensures ∙ length_reseated (only_of c.args.member (λ before. None)) c.deref_mut.result.now ∙ c.deref_mut.ensures.len) in
    let slots = items ∙ c.remove.ensures ∙ ap (λ s. without_seat s c.args.member) (c.deref_mut.ensures.value ∙ ap (λ a. a.slots) same) in
    let phase = c.phase_left-self.ensures ∙ ap (λ s. (left g s).phase) (c.deref-2.ensures.value ∙ slots) in
    let during = ap (λ a. with_phase a c.phase_left-self.result (with_items c.plan_completion.new.self.slots c.remove.new.slots).items) same ∙ ap (with_phase g c.phase_left-self.result) slots ∙ ap (λ p. with_phase g p (without_seat g.slots c.args.member)) phase in
    c.complete.ensures.state ∙ ap completed during
