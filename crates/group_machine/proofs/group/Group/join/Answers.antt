use Rattle.std.proofs.Common.{rules, ◌∙◌, ◌+◌, ◌≡◌, ◌<◌, ◌∷◌, ◌++◌, [], ℕ, Result, Ok, Err, ap, sym, subst, length, arith, inl, true, false}
use Rattle.lane_words.specs.declared.limits.TheConstants.{MOST_MEMBERS}
use Rattle.lane_words.specs.Answers.{Answers}
use Rattle.lane_words.specs.declared.Refusal.{Refusal}
use Rattle.group_machine.specs.declared.group.Phase.TheVariants.{Preparing}
use Rattle.group_machine.specs.State.{GroupState}
use Rattle.group_machine.specs.Steps.{is_name_used, newcomer, joining, join_answer}
use Rattle.group_machine.specs.Private.Changes.{IsChanged, IsPlanned}
use Rattle.group_machine.specs.Private.GroupView.{group_view}
use Rattle.group_machine.proofs.StepLemmas.{joining_changed}
use Rattle.group_machine.proofs.TableLemmas.{used_answer, many_answer, join_go, refused_answer, planned_answer, with_phase}
use Rattle.group_machine.proofs.group.Group.join.Goals as goal

pub returns-then-is_used-clause-answer : goal.returns-then-is_used-clause-answer
returns-then-is_used-clause-answer c =
    let g : GroupState = group_view c.args.self.now in
    let used : is_name_used g c.args.name ≡ true = ap (λ slots. is_name_used (record g { slots = slots }) c.args.name) (sym c.deref.ensures.value) ∙ sym c.is_used.ensures ∙ c.if-is_used.true in
    inl (used_answer g c.args.name used)

pub returns-then-len-ge-MOST_MEMBERS-clause-answer : goal.returns-then-len-ge-MOST_MEMBERS-clause-answer
returns-then-len-ge-MOST_MEMBERS-clause-answer c =
    let g : GroupState = group_view c.args.self.now in
    let fresh : is_name_used g c.args.name ≡ false = ap (λ slots. is_name_used (record g { slots = slots }) c.args.name) (sym c.deref.ensures.value) ∙ sym c.is_used.ensures ∙ c.if-is_used.false in
    inl (many_answer g c.args.name fresh (omega (arith, c.if-len-ge-MOST_MEMBERS.true, c.len.ensures, c.deref.ensures.len, ap length c.deref.ensures.value)))

pub plan_completion-requires-clause-state : goal.plan_completion-requires-clause-state
plan_completion-requires-clause-state c name =
    let g : GroupState = group_view c.args.self.now in
    let capacity : length g.slots < MOST_MEMBERS = omega (arith, c.if-len-ge-MOST_MEMBERS.false, c.len.ensures, c.deref.ensures.len, ap length c.deref.ensures.value) in
    joining_changed g name c.requires capacity

pub returns-in_err-planned-clause-answer : goal.returns-in_err-planned-clause-answer
returns-in_err-planned-clause-answer c =
    let g : GroupState = group_view c.args.self.now in
    let fresh : is_name_used g c.args.name ≡ false = ap (λ slots. is_name_used (record g { slots = slots }) c.args.name) (sym c.deref.ensures.value) ∙ sym c.is_used.ensures ∙ c.if-is_used.false in
    let capacity : length g.slots < MOST_MEMBERS = omega (arith, c.if-len-ge-MOST_MEMBERS.false, c.len.ensures, c.deref.ensures.len, ap length c.deref.ensures.value) in
    let same : c.from_residual.result ≡ Err c.in_err-planned.field-0.0 = search rules in
    subst (λ (answer : Result ℕ Refusal). Answers (join_answer g c.args.name) answer) (sym same)
    (subst (λ (expected : Result ℕ Refusal). Answers expected (Err c.in_err-planned.field-0.0)) (sym (join_go g c.args.name fresh capacity)) (refused_answer (joining g c.args.name) (length g.slots + 1) c.in_err-planned.field-0.0 (c.in_err-planned.ensures.err c.args.name)))

pub complete-requires-clause-state : goal.complete-requires-clause-state
complete-requires-clause-state c =
    let g : GroupState = group_view c.args.self.now in
    let same : group_view c.plan_completion.new.self ≡ g = c.plan_completion.ensures.same in
    let slots = c.push_reserved.ensures.items ∙ ap (λ s. s ++ c.newcomer.result ∷ []) (c.reserve.ensures.items ∙ ap (λ a. a.slots) same) ∙ ap (λ s. g.slots ++ s ∷ []) (c.newcomer.ensures ∙ ap (λ a. newcomer a.partitions c.args.name) same) in
    let during = ap (λ a. with_phase a Preparing c.push_reserved.new.self.items) same ∙ ap (with_phase g Preparing) slots in
    let capacity : length g.slots < MOST_MEMBERS = omega (arith, c.if-len-ge-MOST_MEMBERS.false, c.len.ensures, c.deref.ensures.len, ap length c.deref.ensures.value) in
    subst IsChanged (sym during) (joining_changed g c.args.name c.requires capacity)

pub complete-requires-clause-planned : goal.complete-requires-clause-planned
complete-requires-clause-planned c =
    let g : GroupState = group_view c.args.self.now in
    let same : group_view c.plan_completion.new.self ≡ g = c.plan_completion.ensures.same in
    let slots = c.push_reserved.ensures.items ∙ ap (λ s. s ++ c.newcomer.result ∷ []) (c.reserve.ensures.items ∙ ap (λ a. a.slots) same) ∙ ap (λ s. g.slots ++ s ∷ []) (c.newcomer.ensures ∙ ap (λ a. newcomer a.partitions c.args.name) same) in
    let during = ap (λ a. with_phase a Preparing c.push_reserved.new.self.items) same ∙ ap (with_phase g Preparing) slots in
    subst (λ (h : GroupState). IsPlanned h c.in_ok-planned.planned) (sym during) (c.in_ok-planned.ensures.ok c.args.name)

pub returns-clause-answer : goal.returns-clause-answer
returns-clause-answer c =
    let g : GroupState = group_view c.args.self.now in
    let fresh : is_name_used g c.args.name ≡ false = ap (λ slots. is_name_used (record g { slots = slots }) c.args.name) (sym c.deref.ensures.value) ∙ sym c.is_used.ensures ∙ c.if-is_used.false in
    let capacity : length g.slots < MOST_MEMBERS = omega (arith, c.if-len-ge-MOST_MEMBERS.false, c.len.ensures, c.deref.ensures.len, ap length c.deref.ensures.value) in
    let number : c.len-2.result + 1 ≡ length g.slots + 1 = omega (arith, c.len-2.ensures, c.deref.ensures.len, ap length c.deref.ensures.value) in
    inl (ap (λ (n : ℕ). Ok n) number ∙ planned_answer (joining g c.args.name) (length g.slots + 1) c.in_ok-planned.planned (c.in_ok-planned.ensures.ok c.args.name) ∙ sym (join_go g c.args.name fresh capacity))
