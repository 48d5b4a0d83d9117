use Rattle.std.proofs.Common.{◌∙◌, ℕ, ap, sym, None, slice_index_or, length, arith}
use Rattle.std.proofs.lemmas.List.{length_push, take_all, with_items_is}
use Rattle.std.proofs.lemmas.List.FromFn.{fill_by_all}
use Rattle.bit_planes.specs.PartitionSet.{PartitionSet}
use Rattle.bit_planes.proofs.Walks.{row_turn, row_end}
use Rattle.group_machine.specs.Moves.{taker_in}
use Rattle.group_machine.proofs.MovesLemmas.{taker_given, taker_rowless}
use Rattle.group_machine.proofs.group.moves.takers_of.Goals as goal

pub added-requires : goal.added-requires
added-requires c =
    let turn = row_turn c.args.granted.now _ _ _ c.loop-member.yielded _ (c.in-Some.member, c.in-Some.plane) c.iter-member-items.ensures.valid (cc) c.loop-member.yielded_by c.in-Some.is c.next.ensures.steps in
    c.in-Some-get.ensures.partitions ∙ c.requires.partitions ∙ sym turn.below

pub loop-member-preserved-in-Some-get : goal.loop-member-preserved-in-Some-get
loop-member-preserved-in-Some-get c =
    let turn = row_turn c.args.granted.now _ _ _ c.loop-member.yielded _ (c.in-Some.member, c.in-Some.plane) c.iter-member-items.ensures.valid (cc) c.loop-member.yielded_by c.in-Some.is c.next.ensures.steps in
    let row : ℕ × PartitionSet = (c.in-Some.member, c.in-Some.plane.now) in
    let was = c.loop-member.invariant in
    let same = with_items_is c.loop-member.takers c.take_added.new.takers (c.take_added.ensures.len ∙ c.deref_mut.ensures.len) in
    let next = length_push c.loop-member.yielded (c.in-Some.member, c.in-Some.plane) in
    record {
      next = tt;
      ends = tt;
      long = ap length same ∙ c.take_added.ensures.len ∙ ap length c.deref_mut.ensures.value ∙ was.long;
      so_far = λ q lt. rw next (taker_given c.args.granted.now.rows (length c.loop-member.yielded) row c.args.next.now q c.in-Some-get.row.now c.added.result _ _ turn.within turn.at (λ m n e h. c.requires.disjoint m n q e h) c.in-Some-get.ensures.value (c.added.ensures.elements q) (ap (λ v. slice_index_or v q None) c.deref_mut.ensures.value ∙ was.so_far q lt)
          (ap (λ v. slice_index_or v q None) same ∙ c.take_added.ensures.value q (omega (arith, ap length c.deref_mut.ensures.value, was.long, lt))));
    }

pub loop-member-preserved : goal.loop-member-preserved
loop-member-preserved c =
    let turn = row_turn c.args.granted.now _ _ _ c.loop-member.yielded _ (c.in-Some.member, c.in-Some.plane) c.iter-member-items.ensures.valid (cc) c.loop-member.yielded_by c.in-Some.is c.next.ensures.steps in
    let row : ℕ × PartitionSet = (c.in-Some.member, c.in-Some.plane.now) in
    let was = c.loop-member.invariant in
    let next = length_push c.loop-member.yielded (c.in-Some.member, c.in-Some.plane) in
    record {
      next = tt;
      ends = tt;
      long = was.long;
      so_far = λ q lt. rw next (taker_rowless c.args.granted.now.rows (length c.loop-member.yielded) row c.args.next.now q _ turn.within turn.at (λ m n e h. c.requires.disjoint m n q e h) c.in_default.ensures.value (was.so_far q lt));
    }

pub returns : goal.returns
returns c =
    let granted = c.args.granted.now in
    let was = c.loop-member.invariant in
    let all = row_end granted _ _ _ c.loop-member.yielded _ (cc) c.loop-member.yielded_by c.in-None.is c.next.ensures.steps in
    fill_by_all (taker_in granted.rows c.args.next.now) c.loop-member.takers.items granted.partitions None was.long (λ q lt.
    was.so_far q lt ∙ ap (λ rows. taker_in rows c.args.next.now q) (take_all (length c.loop-member.yielded) granted.rows (omega (arith, all))))
