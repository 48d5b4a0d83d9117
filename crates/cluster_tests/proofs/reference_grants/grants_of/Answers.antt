use Rattle.std.proofs.Common.{◌∙◌, length, sym}
use Rattle.std.proofs.lemmas.List.{length_push}
use Rattle.bit_planes.proofs.Walks.{row_turn, row_end}
use Rattle.coop_rebalance.proofs.Granted.{grants_more, grants_all}
use Rattle.cluster_tests.proofs.reference_grants.grants_of.Goals as goal

pub minus-fresh-requires : goal.minus-fresh-requires
minus-fresh-requires c =
    let turn = row_turn c.args.granted.now _ _ _ c.loop-row.yielded _ (c.in-Some.field-0-0, c.in-Some.row) c.iter-row-items.ensures.valid (cc) c.loop-row.yielded_by c.in-Some.is c.next.ensures.steps in
    turn.below ∙ sym c.loop-row.invariant.so_far.some_below

pub union-several-requires : goal.union-several-requires
union-several-requires c =
    let turn = row_turn c.args.granted.now _ _ _ c.loop-row.yielded _ (c.in-Some.field-0-0, c.in-Some.row) c.iter-row-items.ensures.valid (cc) c.loop-row.yielded_by c.in-Some.is c.next.ensures.steps in
    c.loop-row.invariant.so_far.several_below ∙ sym (c.minus.ensures.partitions ∙ turn.below)

pub union-some-requires : goal.union-some-requires
union-some-requires c =
    let turn = row_turn c.args.granted.now _ _ _ c.loop-row.yielded _ (c.in-Some.field-0-0, c.in-Some.row) c.iter-row-items.ensures.valid (cc) c.loop-row.yielded_by c.in-Some.is c.next.ensures.steps in
    c.loop-row.invariant.so_far.some_below ∙ sym (c.minus-fresh.ensures.partitions ∙ turn.below)

pub loop-row-preserved : goal.loop-row-preserved
loop-row-preserved c =
    let turn = row_turn c.args.granted.now _ _ _ c.loop-row.yielded _ (c.in-Some.field-0-0, c.in-Some.row) c.iter-row-items.ensures.valid (cc) c.loop-row.yielded_by c.in-Some.is c.next.ensures.steps in
    let next = length_push c.loop-row.yielded (c.in-Some.field-0-0, c.in-Some.row) in
    record {
      next = tt;
      ends = tt;
      so_far = rw (next, turn.more, c.union-some.ensures.value, c.union-several.ensures.value, c.minus.ensures.value, c.minus-fresh.ensures.value)
          (grants_more _ _ (c.in-Some.field-0-0, c.in-Some.row.now) c.loop-row.some c.loop-row.several turn.below c.loop-row.invariant.so_far);
    }

pub returns : goal.returns
returns c =
    let all = row_end c.args.granted.now _ _ _ c.loop-row.yielded _ (cc) c.loop-row.yielded_by c.in-None.is c.next.ensures.steps in
    grants_all c.args.granted.now c.loop-row.some c.loop-row.several (length c.loop-row.yielded) all c.loop-row.invariant.so_far
