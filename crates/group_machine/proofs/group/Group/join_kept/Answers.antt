use Rattle.std.proofs.Common.{◌∙◌, ◌≡◌, ◌+◌, ℕ, List, Ok, ap, sym, subst, length, is_some, inl, inr, rules}
use Rattle.std.proofs.lemmas.List.{with_items_is}
use Rattle.std.specs.Option.{option_map}
use Rattle.lane_words.specs.Answers.{Answers}
use Rattle.group_machine.specs.Slots.{one_changed, only_of, seat_of}
use Rattle.group_machine.specs.State.{GroupState, is_present}
use Rattle.group_machine.specs.Steps.{static_seat, join_answer, joined_by}
use Rattle.group_machine.specs.Valid.{IsValidGroup}
use Rattle.group_machine.specs.Private.GroupView.{group_view}
use Rattle.group_machine.proofs.PresentLemmas.{length_reseated}
use Rattle.group_machine.proofs.JoinLemmas.{joined_newcomer}
use Rattle.group_machine.proofs.JoinLemmas.{accepted_join}
use Rattle.group_machine.proofs.StepLemmas.{static_valid, with_slots}
use Rattle.group_machine.proofs.group.Group.join_kept.Goals as goal

next_number : (g : GroupState) (name : List ℕ) (n : ℕ) → Answers (join_answer g name) (Ok n) → n ≡ length g.slots + 1
next_number g name n (inl same) = (accepted_join g name n (sym same)).1
next_number g name n (inr wrong) = absurd (cc wrong)

pub make_static-requires : goal.make_static-requires
make_static-requires c =
    let old : GroupState = group_view c.args.self.now in
    let number : c.in_ok-number.number ≡ length old.slots + 1 = next_number old c.args.name c.in_ok-number.number c.in_ok-number.ensures.answer in
    let joined : group_view c.join.new.self ≡ joined_by old c.args.name = c.in_ok-number.ensures.ok in
    ap (λ slots. is_some (seat_of slots c.in_ok-number.number)) c.deref_mut.ensures.value
    ∙ ap (λ (h : GroupState). is_present h c.in_ok-number.number) joined
    ∙ ap (is_present (joined_by old c.args.name)) number ∙ joined_newcomer old c.args.name

pub returns-clause-valid : goal.returns-clause-valid
returns-clause-valid c =
    let g : GroupState = group_view c.join.new.self in
    let long = ap length c.make_static.ensures ∙ length_reseated (only_of c.in_ok-number.number (option_map static_seat)) c.deref_mut.result.now ∙ c.deref_mut.ensures.len in
    let slots = with_items_is c.join.new.self.slots c.make_static.new.slots long ∙ c.make_static.ensures ∙ ap (λ s. one_changed static_seat s c.in_ok-number.number) c.deref_mut.ensures.value in
    subst IsValidGroup (sym (ap (with_slots g) slots)) (static_valid g c.in_ok-number.number c.join.ensures.valid)

pub returns-clause-answer : goal.returns-clause-answer
returns-clause-answer c = search rules
