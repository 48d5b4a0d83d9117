use Rattle.std.proofs.Common.{◌+◌, ◌∙◌, ◌≡◌, suc, ap, sym, arith, get_or, subst, List, false}
use Rattle.std.specs.Prelude.{Some}
use Rattle.std.specs.Option.{option_map}
use Rattle.bit_planes.specs.PartitionSet.{union}
use Rattle.group_machine.specs.declared.group.Slot.{Slot}
use Rattle.group_machine.specs.Completion.{completed_seat}
use Rattle.group_machine.proofs.WalkLemmas.{AreGiven, given_seat_at, given_set_at, given_all}
use Rattle.group_machine.proofs.group.completion.give.Goals as goal
use Rattle.group_machine.proofs.group.completion.give.Goals.{in-Some, in_default}

pub complete_seat-requires : goal.complete_seat-requires
complete_seat-requires c =
    let at = given_seat_at (λ m. option_map (completed_seat c.args.next.now m)) c.args.slots.now c.loop-index.slots c.loop-index.index c.index-slots-index.result c.in-Some.seat c.loop-index.invariant.given (omega (arith, c.loop-index-test.true, c.loop-index.auto.slots)) c.in-Some.is in
    (c.requires.valid (suc c.loop-index.index) c.in-Some.seat at).granted ∙ sym c.row_for.ensures.partitions

pub loop-index-preserved : goal.loop-index-preserved
loop-index-preserved c =
    let next = c.args.next.now in
    let index = c.loop-index.index in
    let now = c.loop-index.slots in
    let d = c.index-slots-index.result in
    elim c.match-slots-index.branch [
      | in-Some w ↦
          let new : w.complete_seat.new.seat ≡ completed_seat next (index + 1) w.in-Some.seat =
          w.complete_seat.ensures ∙ ap (λ r. record { joined = false; synced = false; is_static = w.in-Some.seat.is_static; granted = union w.in-Some.seat.granted r; assigned = r }) w.row_for.ensures.row in
          let seat : Some w.complete_seat.new.seat ≡ option_map (completed_seat next (index + 1)) (get_or now index d).seat = ap (λ x. Some x) new ∙ ap (option_map (completed_seat next (index + 1))) (sym w.in-Some.is) in
          record {
            long = c.match-slots-index.auto.slots ∙ c.loop-index.invariant.long;
            given = subst (λ (slots : List Slot). AreGiven (λ m. option_map (completed_seat next m)) c.args.slots.now slots (index + 1)) (sym w.slots-is)
                (given_set_at (λ m. option_map (completed_seat next m)) c.args.slots.now now index d (Some w.complete_seat.new.seat) c.loop-index.invariant.given (omega (arith, c.loop-index-test.true, c.loop-index.auto.slots)) seat);
          }
      | in_default w ↦ record {
        long = c.match-slots-index.auto.slots ∙ c.loop-index.invariant.long;
        given = subst (λ (slots : List Slot). AreGiven (λ m. option_map (completed_seat next m)) c.args.slots.now slots (index + 1)) (sym w.slots-is)
            (given_set_at (λ m. option_map (completed_seat next m)) c.args.slots.now now index d (get_or now index d).seat c.loop-index.invariant.given (omega (arith, c.loop-index-test.true, c.loop-index.auto.slots)) (w.in_default.is ∙ ap (option_map (completed_seat next (index + 1))) (sym w.in_default.is)));
      }
    ]

pub returns : goal.returns
returns c = given_all (λ m. option_map (completed_seat c.args.next.now m)) c.args.slots.now c.loop-index.slots c.loop-index.index c.loop-index.invariant.given (omega (arith, c.loop-index-test.false))
