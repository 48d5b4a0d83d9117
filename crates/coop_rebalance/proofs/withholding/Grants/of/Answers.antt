use Rattle.std.proofs.Common.{◌∙◌, length, sym}
use Rattle.std.proofs.lemmas.List.{length_push}
use Rattle.bit_planes.proofs.Walks.{row_turn, row_end}
use Rattle.coop_rebalance.proofs.Granted.{grants_again, grants_fresh, grants_all}
use Rattle.coop_rebalance.proofs.withholding.Grants.of.Goals as goal
use Rattle.coop_rebalance.proofs.withholding.Grants.of.Goals.{then-meets, else-meets}

pub meets-requires : goal.meets-requires
meets-requires c =
    let turn = row_turn c.args.granted.now _ _ _ c.loop-row.yielded _ (c.in-Some.field-0-0, c.in-Some.row) c.iter-row-items.ensures.valid (cc) c.loop-row.yielded_by c.in-Some.is c.next.ensures.steps in
    turn.below ∙ sym c.loop-row.invariant.so_far.some_below

pub minus-requires : goal.minus-requires
minus-requires c =
    let turn = row_turn c.args.granted.now _ _ _ c.loop-row.yielded _ (c.in-Some.field-0-0, c.in-Some.row) c.iter-row-items.ensures.valid (cc) c.loop-row.yielded_by c.in-Some.is c.next.ensures.steps in
    turn.below ∙ sym c.loop-row.invariant.so_far.some_below

pub insert_all-requires : goal.insert_all-requires
insert_all-requires c =
    let turn = row_turn c.args.granted.now _ _ _ c.loop-row.yielded _ (c.in-Some.field-0-0, c.in-Some.row) c.iter-row-items.ensures.valid (cc) c.loop-row.yielded_by c.in-Some.is c.next.ensures.steps in
    c.loop-row.invariant.so_far.several_below ∙ sym (c.minus-then-meets.ensures.partitions ∙ turn.below)

pub insert_all-requires-in-loop-row : goal.insert_all-requires-in-loop-row
insert_all-requires-in-loop-row c =
    let turn = row_turn c.args.granted.now _ _ _ c.loop-row.yielded _ (c.in-Some.field-0-0, c.in-Some.row) c.iter-row-items.ensures.valid (cc) c.loop-row.yielded_by c.in-Some.is c.next.ensures.steps in
    c.loop-row.invariant.so_far.some_below ∙ sym turn.below

pub loop-row-preserved : goal.loop-row-preserved
loop-row-preserved c =
    let turn = row_turn c.args.granted.now _ _ _ c.loop-row.yielded _ (c.in-Some.field-0-0, c.in-Some.row) c.iter-row-items.ensures.valid (cc) c.loop-row.yielded_by c.in-Some.is c.next.ensures.steps in
    let next = length_push c.loop-row.yielded (c.in-Some.field-0-0, c.in-Some.row) in
    record {
      next = tt;
      ends = tt;
      so_far = elim c.if-meets.branch [
        | then-meets w ↦
            rw (next, turn.more, c.insert_all-in-loop-row.ensures.value, w.several-is, w.insert_all.ensures.value, w.minus-then-meets.ensures.value, w.minus.ensures.value)
            (grants_again _ _ (c.in-Some.field-0-0, c.in-Some.row.now) c.loop-row.some c.loop-row.several turn.below c.loop-row.invariant.so_far)
        | else-meets w ↦
            rw (next, turn.more, c.insert_all-in-loop-row.ensures.value, w.several-is)
            (grants_fresh _ _ (c.in-Some.field-0-0, c.in-Some.row.now) c.loop-row.some c.loop-row.several turn.below (c.meets.ensures.elements.0 w.if-meets.false) c.loop-row.invariant.so_far)
      ];
    }

pub returns : goal.returns
returns c =
    let all = row_end c.args.granted.now _ _ _ c.loop-row.yielded _ (cc) c.loop-row.yielded_by c.in-None.is c.next.ensures.steps in
    grants_all c.args.granted.now c.loop-row.some c.loop-row.several (length c.loop-row.yielded) all c.loop-row.invariant.so_far
