use Rattle.std.proofs.Common.{length, refl, ◌∙◌, arith}
use Rattle.std.proofs.lemmas.List.{length_push}
use Rattle.std.proofs.lemmas.Slice.Zip.{zip_turn, zip_end}
use Rattle.sticky_assignor.proofs.Steps.{fill_step, fill_end}
use Rattle.cluster_tests.proofs.reference_assign.fill.Goals as goal

pub loop-member-preserved : goal.loop-member-preserved
loop-member-preserved c =
    let t = zip_turn c.args.members.now c.args.quotas.now c.loop-member.yielded c.into_iter-member-iterator.result c.loop-member.member-iterator c.next.new.self c.next.result (cc) (cc) c.loop-member.yielded_by (c.in-Some.member, c.in-Some.quota) c.in-Some.is c.next.ensures.steps in
    let e = length_push c.loop-member.yielded (c.in-Some.member, c.in-Some.quota) in
    let step = fill_step c.args.owned.now c.loop-member.rows c.put.new.self c.args.members.now c.args.quotas.now (length c.loop-member.yielded) c.in-Some.member.now c.in-Some.quota.now _ _ c.loop-member.free _ _ _ _ _ c.requires.sorted t.0 t.1 (t.2 _) (t.3 _) c.row_of.ensures.value c.lowest-retained.ensures.value c.count.ensures.value refl c.lowest-given.ensures.value c.union.ensures.value c.minus-free.ensures.value c.in_ok-put.ensures.value c.loop-member.invariant.numbers in
    record {
      next = (tt, tt);
      ends = tt;
      below = step.0 ∙ c.loop-member.invariant.below;
      free_below = c.minus-free.ensures.partitions ∙ c.loop-member.invariant.free_below;
      numbers = rw e step.1;
      so_far = rw e (step.2 ∙ c.loop-member.invariant.so_far);
    }

pub returns : goal.returns
returns c =
    let t = zip_end c.args.members.now c.args.quotas.now c.loop-member.yielded c.into_iter-member-iterator.result c.loop-member.member-iterator c.next.new.self c.next.result (cc) (cc) c.loop-member.yielded_by c.in-None.is c.next.ensures.steps in
    fill_end c.args.owned.now c.loop-member.rows c.args.members.now c.args.quotas.now (length c.loop-member.yielded) c.loop-member.free c.args.all_free (omega arith) c.loop-member.invariant.below c.loop-member.invariant.so_far
