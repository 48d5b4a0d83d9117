use Rattle.std.proofs.Common.{◌≡◌, ◌∙◌, ap, sym, arith, length, Some}
use Rattle.std.proofs.lemmas.List.{length_push}
use Rattle.bit_planes.proofs.Walks.{row_turn, row_end}
use Rattle.coop_rebalance.proofs.Final.{lacks_row, has_all_rows, one_more}
use Rattle.coop_rebalance.proofs.withholding.has_rows_of.Goals as goal

pub returns-in_default : goal.returns-in_default
returns-in_default c =
    let turn = row_turn c.args.others.now _ _ _ c.loop-member.yielded _ (c.in-Some.member, c.in-Some.row) c.iter-member-items.ensures.valid (cc) c.loop-member.yielded_by c.in-Some.is c.next.ensures.steps in
    record { rows = lacks_row c.args.rows.now c.args.others.now c.in-Some.member c.in-Some.row.now turn.found (λ e. cc (e, c.in_default.ensures.value)); valid = c.iter-member-items.ensures.valid }

pub same-requires : goal.same-requires
same-requires c =
    let turn = row_turn c.args.others.now _ _ _ c.loop-member.yielded _ (c.in-Some.member, c.in-Some.row) c.iter-member-items.ensures.valid (cc) c.loop-member.yielded_by c.in-Some.is c.next.ensures.steps in
    c.in-Some-get.ensures.partitions ∙ c.requires ∙ sym turn.below

pub returns-then-not-same : goal.returns-then-not-same
returns-then-not-same c =
    let turn = row_turn c.args.others.now _ _ _ c.loop-member.yielded _ (c.in-Some.member, c.in-Some.row) c.iter-member-items.ensures.valid (cc) c.loop-member.yielded_by c.in-Some.is c.next.ensures.steps in
    record { rows = lacks_row c.args.rows.now c.args.others.now c.in-Some.member c.in-Some.row.now turn.found (λ e. let same : c.in-Some-get.own.now ≡ c.in-Some.row.now = cc (e, c.in-Some-get.ensures.value) in cc (c.same.ensures.iff.1 same, c.if-not-same.true)); valid = c.iter-member-items.ensures.valid }

pub loop-member-preserved : goal.loop-member-preserved
loop-member-preserved c =
    let turn = row_turn c.args.others.now _ _ _ c.loop-member.yielded _ (c.in-Some.member, c.in-Some.row) c.iter-member-items.ensures.valid (cc) c.loop-member.yielded_by c.in-Some.is c.next.ensures.steps in
    let next = length_push c.loop-member.yielded (c.in-Some.member, c.in-Some.row) in
    record {
      next = tt;
      ends = tt;
      so_far = rw next (one_more c.args.rows.now c.args.others.now (length c.loop-member.yielded) (c.in-Some.member, c.in-Some.row.now) turn.within turn.at (c.in-Some-get.ensures.value ∙ ap Some (c.same.ensures.iff.0 c.if-not-same.false)) c.loop-member.invariant.so_far);
    }

pub returns : goal.returns
returns c =
    let all = row_end c.args.others.now _ _ _ c.loop-member.yielded _ (cc) c.loop-member.yielded_by c.in-None.is c.next.ensures.steps in
    record { rows = has_all_rows c.args.rows.now c.args.others.now (λ i d lt. c.loop-member.invariant.so_far i d (omega (arith, all, lt))); valid = c.iter-member-items.ensures.valid }
