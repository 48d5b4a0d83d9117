use Rattle.std.proofs.Common.{rules, ◌∙◌, ◌≡◌, [], None, Result, Err, ap, sym, subst, length, inl, true}
use Rattle.std.proofs.lemmas.List.{with_items_is}
use Rattle.std.specs.Vec.{with_items}
use Rattle.std.specs.Option.{option_map}
use Rattle.lane_words.specs.Answers.{Answers}
use Rattle.lane_words.specs.declared.Refusal.{Refusal}
use Rattle.group_machine.specs.declared.group.Phase.TheVariants.{Preparing}
use Rattle.group_machine.specs.Slots.{one_changed, only_of}
use Rattle.group_machine.specs.State.{GroupState, is_present, member_of}
use Rattle.group_machine.specs.Completion.{completed}
use Rattle.group_machine.specs.Steps.{rejoined_seat, rejoining, rejoin_refusal, rejoin_answer}
use Rattle.group_machine.specs.Private.Changes.{IsChanged, IsPlanned}
use Rattle.group_machine.specs.Private.GroupView.{group_view}
use Rattle.group_machine.proofs.PresentLemmas.{length_reseated}
use Rattle.group_machine.proofs.StepLemmas.{rejoining_changed}
use Rattle.group_machine.proofs.TableLemmas.{with_phase, accepted_present, rejoin_go, refused_answer, planned_answer}
use Rattle.group_machine.proofs.group.Group.rejoin.Goals as goal

pub plan_completion-requires-clause-state : goal.plan_completion-requires-clause-state
plan_completion-requires-clause-state c name =
    let g : GroupState = group_view c.args.self.now in
    let here : is_present g c.args.member ≡ true = accepted_present g c.args.generation c.args.claim.now (member_of g c.args.member) (sym c.why_no_rejoin.ensures ∙ c.in_default.is) in
    rejoining_changed g c.args.member c.requires here

pub returns-in_err-planned-clause-answer : goal.returns-in_err-planned-clause-answer
returns-in_err-planned-clause-answer c =
    let g : GroupState = group_view c.args.self.now in
    let none : rejoin_refusal g c.args.generation c.args.claim.now (member_of g c.args.member) ≡ None = sym c.why_no_rejoin.ensures ∙ c.in_default.is in
    let same : c.from_residual.result ≡ Err c.in_err-planned.field-0.0 = search rules in
    subst (λ (answer : Result (Unit {0}) Refusal). Answers (rejoin_answer g c.args.member c.args.generation c.args.claim.now) answer) (sym same)
    (subst (λ (expected : Result (Unit {0}) Refusal). Answers expected (Err c.in_err-planned.field-0.0)) (sym (rejoin_go g c.args.member c.args.generation c.args.claim.now none)) (refused_answer (rejoining g c.args.member) tt c.in_err-planned.field-0.0 (c.in_err-planned.ensures.err [])))

pub complete-requires-clause-state : goal.complete-requires-clause-state
complete-requires-clause-state c =
    let g : GroupState = group_view c.args.self.now in
    let here : is_present g c.args.member ≡ true = accepted_present g c.args.generation c.args.claim.now (member_of g c.args.member) (sym c.why_no_rejoin.ensures ∙ c.in_default.is) in
    let same : group_view c.plan_completion.new.self ≡ g = c.plan_completion.ensures.same in
    let items = with_items_is c.plan_completion.new.self.slots c.rejoin.new.slots (ap length c.rejoin.ensures ∙ length_reseated (only_of c.args.member (option_map rejoined_seat)) c.deref_mut.result.now ∙ c.deref_mut.ensures.len) in
    let slots = items ∙ c.rejoin.ensures ∙ ap (λ s. one_changed rejoined_seat s c.args.member) (c.deref_mut.ensures.value ∙ ap (λ a. a.slots) same) in
    let during = ap (λ a. with_phase a Preparing (with_items c.plan_completion.new.self.slots c.rejoin.new.slots).items) same ∙ ap (with_phase g Preparing) slots in
    subst IsChanged (sym during) (rejoining_changed g c.args.member c.requires here)

pub complete-requires-clause-planned : goal.complete-requires-clause-planned
complete-requires-clause-planned c =
    let g : GroupState = group_view c.args.self.now in
    let same : group_view c.plan_completion.new.self ≡ g = c.plan_completion.ensures.same in
    let items = with_items_is c.plan_completion.new.self.slots c.rejoin.new.slots (ap length c.rejoin.ensures ∙ length_reseated (only_of c.args.member (option_map rejoined_seat)) c.deref_mut.result.now ∙ c.deref_mut.ensures.len) in
    let slots = items ∙ c.rejoin.ensures ∙ ap (λ s. one_changed rejoined_seat s c.args.member) (c.deref_mut.ensures.value ∙ ap (λ a. a.slots) same) in
    let during = ap (λ a. with_phase a Preparing (with_items c.plan_completion.new.self.slots c.rejoin.new.slots).items) same ∙ ap (with_phase g Preparing) slots in
    subst (λ (h : GroupState). IsPlanned h c.in_ok-planned.planned) (sym during) (c.in_ok-planned.ensures.ok [])

pub returns-clause-answer : goal.returns-clause-answer
returns-clause-answer c =
    let g : GroupState = group_view c.args.self.now in
    let none : rejoin_refusal g c.args.generation c.args.claim.now (member_of g c.args.member) ≡ None = sym c.why_no_rejoin.ensures ∙ c.in_default.is in
    inl (planned_answer (rejoining g c.args.member) tt c.in_ok-planned.planned (c.in_ok-planned.ensures.ok []) ∙ sym (rejoin_go g c.args.member c.args.generation c.args.claim.now none))

pub returns-clause-ok : goal.returns-clause-ok
returns-clause-ok c =
    let g : GroupState = group_view c.args.self.now in
    let same : group_view c.plan_completion.new.self ≡ g = c.plan_completion.ensures.same in
    let items = with_items_is c.plan_completion.new.self.slots c.rejoin.new.slots (ap length c.rejoin.ensures ∙ length_reseated (only_of c.args.member (option_map rejoined_seat)) c.deref_mut.result.now ∙ c.deref_mut.ensures.len) in
    let slots = items ∙ c.rejoin.ensures ∙ ap (λ s. one_changed rejoined_seat s c.args.member) (c.deref_mut.ensures.value ∙ ap (λ a. a.slots) same) in
    let during = ap (λ a. with_phase a Preparing (with_items c.plan_completion.new.self.slots c.rejoin.new.slots).items) same ∙ ap (with_phase g Preparing) slots in
    c.complete.ensures.state ∙ ap completed during
