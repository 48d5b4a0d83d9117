use Rattle.std.proofs.Common.{◌∙◌, ◌≡◌, ◌<◌, Some, ap, sym, subst, length, arith, rules}
use Rattle.lane_words.specs.declared.limits.TheConstants.{MOST_MEMBERS}
use Rattle.group_machine.specs.State.{GroupState, is_present, static_in, static_member}
use Rattle.group_machine.specs.Steps.{handing_on}
use Rattle.group_machine.specs.Valid.{IsValidGroup}
use Rattle.group_machine.specs.Private.GroupView.{group_view}
use Rattle.group_machine.proofs.StepLemmas.{with_slots}
use Rattle.group_machine.proofs.SeatMoves.{handed_valid}
use Rattle.group_machine.proofs.TakeOverLemmas.{static_member_present}
use Rattle.group_machine.proofs.group.Group.take_over.Goals as goal

pub hand_on-requires-clause-present : goal.hand_on-requires-clause-present
hand_on-requires-clause-present c =
    let g : GroupState = group_view c.args.self.now in
    let is_static : static_member g c.args.name.now ≡ Some c.in-Some.member = ap (λ slots. static_in slots c.args.name.now) (sym c.deref.ensures.value) ∙ sym c.static_member.ensures ∙ c.in-Some.is in
    ap (λ slots. is_present (with_slots g slots) c.in-Some.member) c.reserve.ensures.items ∙ static_member_present g c.args.name.now c.in-Some.member is_static

pub returns-clause-valid : goal.returns-clause-valid
returns-clause-valid c =
    let g : GroupState = group_view c.args.self.now in
    let is_static : static_member g c.args.name.now ≡ Some c.in-Some.member = ap (λ slots. static_in slots c.args.name.now) (sym c.deref.ensures.value) ∙ sym c.static_member.ensures ∙ c.in-Some.is in
    let capacity : length g.slots < MOST_MEMBERS = omega (arith, c.if-len-ge-MOST_MEMBERS.false, c.len.ensures) in
    let after = c.hand_on.ensures ∙ ap (λ slots. handing_on (with_slots g slots) c.args.name.now c.in-Some.member) c.reserve.ensures.items in
    subst IsValidGroup (sym after) (handed_valid g c.args.name.now c.in-Some.member c.requires (static_member_present g c.args.name.now c.in-Some.member is_static) capacity)

pub returns-then-len-ge-MOST_MEMBERS-clause-answer : goal.returns-then-len-ge-MOST_MEMBERS-clause-answer
returns-then-len-ge-MOST_MEMBERS-clause-answer c = search rules
