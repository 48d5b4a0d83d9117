use Rattle.std.proofs.Common.{ℕ, ◌≡◌, refl, ◌∙◌, length, ap, sym, arith}
use Rattle.std.proofs.lemmas.List.{length_push}
use Rattle.bit_planes.specs.PartitionSet.{PartitionSet, partitions_of, is_in, minus}
use Rattle.bit_planes.specs.SetRows.{SetRows, no_rows, with_row, members, set_of}
use Rattle.bit_planes.proofs.Walks.{row_turn, row_end}
use Rattle.coop_rebalance.proofs.WithheldRows.{withheld_more, withheld_all, members_withheld, set_withheld}
use Rattle.coop_rebalance.specs.Withheld.{withheld}
use Rattle.coop_rebalance.proofs.withholding.withhold.Goals as goal

pub loop-member-init : goal.loop-member-init
loop-member-init c = record { next = tt; ends = tt; so_far = c.in_ok-rows.ensures.value ∙ ap no_rows c.partitions.ensures.value; valid = c.in_ok-rows.ensures.valid }

pub remove_all-requires : goal.remove_all-requires
remove_all-requires c =
    let turn = row_turn c.args.target.now _ _ _ c.loop-member.yielded _ (c.in-Some.member, c.in-Some.row) c.iter-member-items.ensures.valid (cc) c.loop-member.yielded_by c.in-Some.is c.next.ensures.steps in
    ap partitions_of c.copy-given.ensures ∙ turn.below ∙ c.requires ∙ sym c.of_others.ensures.partitions

pub put-requires : goal.put-requires
put-requires c =
    let turn = row_turn c.args.target.now _ _ _ c.loop-member.yielded _ (c.in-Some.member, c.in-Some.row) c.iter-member-items.ensures.valid (cc) c.loop-member.yielded_by c.in-Some.is c.next.ensures.steps in
    c.remove_all.ensures.partitions ∙ ap partitions_of c.copy-given.ensures ∙ turn.below ∙ sym (ap (λ (r : SetRows). r.partitions) c.loop-member.invariant.so_far)

pub loop-member-preserved : goal.loop-member-preserved
loop-member-preserved c =
    let turn = row_turn c.args.target.now _ _ _ c.loop-member.yielded _ (c.in-Some.member, c.in-Some.row) c.iter-member-items.ensures.valid (cc) c.loop-member.yielded_by c.in-Some.is c.next.ensures.steps in
    let row : ℕ × PartitionSet = (c.in-Some.member, c.in-Some.row.now) in
    let next = length_push c.loop-member.yielded (c.in-Some.member, c.in-Some.row) in
    record {
      next = tt;
      ends = tt;
      so_far = rw next (withheld_more c.args.target.now c.args.granted.now c.args.target.now.rows (length c.loop-member.yielded) row c.of_others.result c.loop-member.rows c.put.new.self
          c.iter-member-items.ensures.valid refl turn.within turn.at c.of_others.ensures.elements c.loop-member.invariant.so_far
          (c.in_ok-put.ensures.value ∙ ap (λ s. with_row c.loop-member.rows c.in-Some.member s) (c.remove_all.ensures.value ∙ ap (λ s. minus s c.of_others.result) c.copy-given.ensures)));
      valid = c.put.ensures.valid;
    }

pub returns : goal.returns
returns c =
    let all = row_end c.args.target.now _ _ _ c.loop-member.yielded _ (cc) c.loop-member.yielded_by c.in-None.is c.next.ensures.steps in
    let value : c.loop-member.rows ≡ withheld c.args.target.now c.args.granted.now = c.loop-member.invariant.so_far ∙ withheld_all c.args.target.now c.args.granted.now c.args.target.now.rows (length c.loop-member.yielded) refl (omega (arith, all)) in
    record {
      value = value;
      elements = λ m q. ap (λ r. is_in (set_of r m) q) value ∙ set_withheld c.args.target.now c.args.granted.now m q;
      members = ap members value ∙ members_withheld c.args.target.now c.args.granted.now;
      partitions = ap (λ (r : SetRows). r.partitions) c.loop-member.invariant.so_far;
      valid = c.loop-member.invariant.valid;
    }
