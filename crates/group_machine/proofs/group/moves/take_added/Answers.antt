use Rattle.std.proofs.Common.{◌∙◌, arith}
use Rattle.bit_planes.proofs.Sets.{in_below}
use Rattle.group_machine.proofs.TakenLemmas.{next_taken, none_taken, one_taken}
use Rattle.group_machine.proofs.group.moves.take_added.Goals as goal

pub loop-q-init : goal.loop-q-init
loop-q-init c = none_taken c.args.member c.args.added.now c.args.takers.now c.into_iter-q-iterator.result (c.into_iter-q-iterator.ensures.into_iter_gives ∙ c.iter-q-items.ensures.value)

pub bounds-takers-q : goal.bounds-takers-q
bounds-takers-q c =
    let in_set = next_taken c.args.member c.args.added.now c.args.takers.now c.loop-q.takers c.loop-q.q-iterator c.in-Some.q c.next.new.self c.in-Some.ensures.steps c.loop-q.invariant in
    omega (arith, in_below c.args.added.now c.in-Some.q in_set, c.requires, c.loop-q.invariant.long)

pub loop-q-preserved : goal.loop-q-preserved
loop-q-preserved c =
    let in_set = next_taken c.args.member c.args.added.now c.args.takers.now c.loop-q.takers c.loop-q.q-iterator c.in-Some.q c.next.new.self c.in-Some.ensures.steps c.loop-q.invariant in
    one_taken c.args.member c.args.added.now c.args.takers.now c.loop-q.takers c.loop-q.q-iterator c.in-Some.q c.next.new.self c.in-Some.ensures.steps (omega (arith, in_below c.args.added.now c.in-Some.q in_set, c.requires)) c.loop-q.invariant
