use Rattle.std.proofs.Common.{length, sym, ◌∙◌, arith}
use Rattle.std.proofs.lemmas.List.{length_push}
use Rattle.std.proofs.lemmas.Slice.Zip.{zip_turn, zip_end}
use Rattle.sticky_assignor.proofs.Steps.{left_init, left_step, left_end}
use Rattle.cluster_tests.proofs.reference_assign.free_partitions.Goals as goal

pub loop-member-init : goal.loop-member-init
loop-member-init c = record {
  next = (tt, tt);
  ends = tt;
  below = c.full-free.ensures.partitions ∙ c.partitions.ensures.value;
  so_far = left_init _ _ _ _ c.full-free.ensures.value c.partitions.ensures.value;
}

pub loop-member-preserved : goal.loop-member-preserved
loop-member-preserved c =
    let t = zip_turn c.args.members.now c.args.quotas.now c.loop-member.yielded c.into_iter-member-iterator.result c.loop-member.member-iterator c.next.new.self c.next.result (cc) (cc) c.loop-member.yielded_by (c.in-Some.member, c.in-Some.quota) c.in-Some.is c.next.ensures.steps in
    let e = length_push c.loop-member.yielded (c.in-Some.member, c.in-Some.quota) in
    record {
      next = (tt, tt);
      ends = tt;
      below = c.minus-free.ensures.partitions ∙ c.loop-member.invariant.below;
      so_far = rw e (left_step c.args.owned.now c.args.members.now c.args.quotas.now (length c.loop-member.yielded) c.in-Some.member.now c.in-Some.quota.now _ _ _ _ t.0 t.1 (t.2 _) (t.3 _) c.row_of.ensures.value c.lowest.ensures.value c.minus-free.ensures.value ∙ c.loop-member.invariant.so_far);
    }

pub returns-clause-free : goal.returns-clause-free
returns-clause-free c =
    let t = zip_end c.args.members.now c.args.quotas.now c.loop-member.yielded c.into_iter-member-iterator.result c.loop-member.member-iterator c.next.new.self c.next.result (cc) (cc) c.loop-member.yielded_by c.in-None.is c.next.ensures.steps in
    sym (left_end c.args.owned.now c.args.members.now c.args.quotas.now (length c.loop-member.yielded) c.loop-member.free (omega arith)) ∙ c.loop-member.invariant.so_far
