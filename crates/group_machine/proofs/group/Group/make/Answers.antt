use Rattle.std.proofs.Common.{◌∙◌, ◌++◌, ℕ, List, None, ap, sym, subst, length, get_or}
use Rattle.std.proofs.lemmas.List.{with_items_is}
use Rattle.std.proofs.lemmas.List.FromFn.{length-map-range_with_len}
use Rattle.std.specs.Option.{option_or, option_map}
use Rattle.bit_planes.specs.SetRows.{SetRows}
use Rattle.group_machine.specs.Moves.{taker, last_by}
use Rattle.group_machine.specs.declared.group.Slot.{Slot}
use Rattle.group_machine.specs.Slots.{each_changed}
use Rattle.group_machine.specs.State.{GroupState}
use Rattle.group_machine.specs.Completion.{completed_seat}
use Rattle.group_machine.specs.Private.Walks.{AreSeatsOver}
use Rattle.group_machine.specs.Private.GroupView.{group_view}
use Rattle.group_machine.proofs.PresentLemmas.{length_reseated}
use Rattle.group_machine.proofs.TableLemmas.{seats_over, rows_below, complete_is}
use Rattle.group_machine.proofs.group.Group.make.Goals as goal

pub give-requires-clause-valid : goal.give-requires-clause-valid
give-requires-clause-valid c =
    let g : GroupState = group_view c.args.self.now in
    let below = rows_below g c.args.completion.now.next c.requires.state c.requires.nonempty c.requires.completion.rows in
    subst (λ (p : ℕ). AreSeatsOver p c.deref_mut-2.result.now) (sym below) (subst (λ (slots : List Slot). AreSeatsOver g.partitions slots) (sym c.deref_mut-2.ensures.value) (seats_over g c.requires.state.consistent))

pub hold-requires : goal.hold-requires
hold-requires c =
    let g : GroupState = group_view c.args.self.now in
    ap length (c.deref-2.ensures.value ∙ c.requires.completion.taken) ∙ length-map-range_with_len (taker g c.args.completion.now.next) 0 g.partitions
    ∙ sym (ap length c.deref_mut.ensures.value ∙ c.requires.state.sized.a_holder_each)

pub returns : goal.returns
returns c =
    let g : GroupState = group_view c.args.self.now in
    let next : SetRows = c.args.completion.now.next in
    let takers = c.args.completion.now.takers.items in
    let planned = c.requires.completion in
    let same_long = ap length c.give.ensures ∙ length_reseated (λ m. option_map (completed_seat next m)) c.deref_mut-2.result.now ∙ c.deref_mut-2.ensures.len in
    let slots = with_items_is c.args.self.now.slots c.give.new.slots same_long ∙ c.give.ensures ∙ ap (each_changed (completed_seat next)) c.deref_mut-2.ensures.value in
    let few = ap length c.hold.ensures ∙ length-map-range_with_len (λ q. option_or (get_or c.deref-2.result.now q None) (get_or c.deref_mut.result.now q None)) 0 (length c.deref_mut.result.now) ∙ c.deref_mut.ensures.len in
    let last = with_items_is c.args.self.now.last c.hold.new.last few ∙ c.hold.ensures ∙ ap (λ ts. last_by ts c.deref_mut.result.now) c.deref-2.ensures.value ∙ ap (last_by takers) c.deref_mut.ensures.value
    ∙ ap (λ ts. last_by ts g.last) planned.taken in
    let moves = c.append.ensures ∙ ap (λ ms. g.moves ++ ms) (c.deref.ensures.value ∙ planned.moved) in
    complete_is g next _ _ _ planned.rows slots last moves
