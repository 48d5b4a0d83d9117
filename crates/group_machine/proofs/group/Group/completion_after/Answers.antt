use Rattle.std.proofs.Common.{◌∙◌, ◌≡◌, ◌+◌, List, [], ap, sym, subst, length, arith}
use Rattle.std.proofs.lemmas.List.FromFn.{length-map-range_with_len}
use Rattle.bit_planes.specs.SetRows.{SetRows}
use Rattle.coop_rebalance.specs.Rounds.{AreGranted, next_rows}
use Rattle.group_machine.specs.Slots.{granted_in}
use Rattle.group_machine.specs.declared.group.Slot.{Slot}
use Rattle.group_machine.specs.State.{GroupState, granted_rows}
use Rattle.group_machine.specs.Moves.{taker_in, takers_in, moves_by}
use Rattle.group_machine.specs.Private.Walks.{AreSeatsOver}
use Rattle.group_machine.specs.Private.Changes.{slots_after, after}
use Rattle.group_machine.specs.Private.GroupView.{group_view}
use Rattle.group_machine.proofs.TableLemmas.{seats_over, owned_rows, rows_below, rows_disjoint}
use Rattle.group_machine.proofs.group.Group.completion_after.Goals as goal

pub granted_rows-requires-clause-valid : goal.granted_rows-requires-clause-valid
granted_rows-requires-clause-valid c = subst (λ (slots : List Slot). AreSeatsOver c.args.self.now.partitions slots) (sym c.deref.ensures.value) (seats_over (group_view c.args.self.now) c.requires.valid.consistent)

pub next_rows-requires : goal.next_rows-requires
next_rows-requires c =
    let g : GroupState = after c.args.change [] (group_view c.args.self.now) in
    let is : c.in_ok-granted.granted ≡ granted_rows g = c.in_ok-granted.ensures [] ∙ ap (λ slots. granted_in g.partitions (slots_after g.partitions [] c.args.change slots)) c.deref.ensures.value in
    subst AreGranted (sym is) (owned_rows g (c.requires.state []) (c.requires.nonempty []))

pub takers_of-requires-clause-partitions : goal.takers_of-requires-clause-partitions
takers_of-requires-clause-partitions c =
    let g : GroupState = after c.args.change [] (group_view c.args.self.now) in
    let is : c.in_ok-granted.granted ≡ granted_rows g = c.in_ok-granted.ensures [] ∙ ap (λ slots. granted_in g.partitions (slots_after g.partitions [] c.args.change slots)) c.deref.ensures.value in
    rows_below g c.in_ok-next.next (c.requires.state []) (c.requires.nonempty []) (c.in_ok-next.ensures ∙ ap next_rows is) ∙ sym (ap (λ r. r.partitions) is)

pub takers_of-requires-clause-disjoint : goal.takers_of-requires-clause-disjoint
takers_of-requires-clause-disjoint c =
    let g : GroupState = after c.args.change [] (group_view c.args.self.now) in
    let is : c.in_ok-granted.granted ≡ granted_rows g = c.in_ok-granted.ensures [] ∙ ap (λ slots. granted_in g.partitions (slots_after g.partitions [] c.args.change slots)) c.deref.ensures.value in
    rows_disjoint g c.in_ok-next.next (c.requires.state []) (c.requires.nonempty []) (c.in_ok-next.ensures ∙ ap next_rows is)

pub moves_of-requires-clause-len : goal.moves_of-requires-clause-len
moves_of-requires-clause-len c =
    let g : GroupState = after c.args.change [] (group_view c.args.self.now) in
    let is : c.in_ok-granted.granted ≡ granted_rows g = c.in_ok-granted.ensures [] ∙ ap (λ slots. granted_in g.partitions (slots_after g.partitions [] c.args.change slots)) c.deref.ensures.value in
    ap length c.deref-2.ensures.value ∙ (ap length c.in_ok-takers.ensures ∙ length-map-range_with_len (taker_in c.in_ok-granted.granted.rows c.in_ok-next.next) 0 c.in_ok-granted.granted.partitions) ∙ ap (λ r. r.partitions) is ∙ sym c.requires.valid.sized.a_holder_each ∙ sym (ap length c.deref-3.ensures.value)

pub returns : goal.returns
returns c name =
    let g : GroupState = after c.args.change name (group_view c.args.self.now) in
    let next : SetRows = c.in_ok-next.next in
    let takers = c.in_ok-takers.takers.items in
    let is : c.in_ok-granted.granted ≡ granted_rows g = c.in_ok-granted.ensures name ∙ ap (λ slots. granted_in g.partitions (slots_after g.partitions name c.args.change slots)) c.deref.ensures.value in
    let taken : takers ≡ takers_in (granted_rows g) next = c.in_ok-takers.ensures ∙ ap (λ r. takers_in r next) is in
    record {
      rows = c.in_ok-next.ensures ∙ ap next_rows is;
      taken = taken;
      moved = c.in_ok-moves.ensures
          ∙ ap (λ ts. moves_by (g.generation + 1) ts c.deref-3.result.now) (c.deref-2.ensures.value ∙ taken)
          ∙ ap (moves_by (g.generation + 1) (takers_in (granted_rows g) next)) c.deref-3.ensures.value;
    }

pub moves_of-requires-clause-bound : goal.moves_of-requires-clause-bound
moves_of-requires-clause-bound c =
    let g : GroupState = after c.args.change [] (group_view c.args.self.now) in
    let is : c.in_ok-granted.granted ≡ granted_rows g = c.in_ok-granted.ensures [] ∙ ap (λ slots. granted_in g.partitions (slots_after g.partitions [] c.args.change slots)) c.deref.ensures.value in
    let long = ap length c.deref-2.ensures.value ∙ ap length c.in_ok-takers.ensures ∙ length-map-range_with_len (taker_in c.in_ok-granted.granted.rows c.in_ok-next.next) 0 c.in_ok-granted.granted.partitions ∙ ap (λ r. r.partitions) is in
    omega (arith, long, c.requires.valid.sized.few_partitions)
