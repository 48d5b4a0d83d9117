use Rattle.std.proofs.Common.{◌≡◌, ◌∙◌, length, ap, sym, take}
use Rattle.std.proofs.lemmas.List.{length_push}
use Rattle.bit_planes.specs.SetRows.{SetRows, members, set_of}
use Rattle.bit_planes.proofs.Walks.{row_turn, row_end}
use Rattle.coop_rebalance.proofs.Granted.{others_granted}
use Rattle.bit_planes.specs.PartitionSet.{is_in}
use Rattle.coop_rebalance.specs.Withheld.{withheld}
use Rattle.coop_rebalance.proofs.WithheldRows.{members_withheld, set_withheld}
use Rattle.coop_rebalance.proofs.InPlace.{withheld_none, withheld_one, withheld_each}
use Rattle.coop_rebalance.proofs.withholding.withhold_in_place.Goals as goal

pub loop-member-init : goal.loop-member-init
loop-member-init c = record { next = tt; ends = tt; so_far = withheld_none c.args.rows.now c.args.granted.now }

pub to_others-requires-clause-nonempty : goal.to_others-requires-clause-nonempty
to_others-requires-clause-nonempty c =
    let turn = row_turn c.args.granted.now _ _ _ c.loop-member.yielded _ (c.in-Some.member, c.in-Some.own) c.iter-member-items.ensures.valid (cc) c.loop-member.yielded_by c.in-Some.is c.next.ensures.steps in
    c.of-grants.ensures.some_below ∙ sym turn.below

pub to_others-requires-clause-several : goal.to_others-requires-clause-several
to_others-requires-clause-several c =
    let turn = row_turn c.args.granted.now _ _ _ c.loop-member.yielded _ (c.in-Some.member, c.in-Some.own) c.iter-member-items.ensures.valid (cc) c.loop-member.yielded_by c.in-Some.is c.next.ensures.steps in
    c.of-grants.ensures.several_below ∙ sym turn.below

pub remove_from-requires : goal.remove_from-requires
remove_from-requires c =
    let turn = row_turn c.args.granted.now _ _ _ c.loop-member.yielded _ (c.in-Some.member, c.in-Some.own) c.iter-member-items.ensures.valid (cc) c.loop-member.yielded_by c.in-Some.is c.next.ensures.steps in
    c.to_others.ensures.partitions ∙ turn.below ∙ sym (ap (λ (r : SetRows). r.partitions) c.loop-member.invariant.so_far ∙ c.requires.partitions)

pub loop-member-preserved : goal.loop-member-preserved
loop-member-preserved c =
    let turn = row_turn c.args.granted.now _ _ _ c.loop-member.yielded _ (c.in-Some.member, c.in-Some.own) c.iter-member-items.ensures.valid (cc) c.loop-member.yielded_by c.in-Some.is c.next.ensures.steps in
    let next = length_push c.loop-member.yielded (c.in-Some.member, c.in-Some.own) in
    record {
      next = tt;
      ends = tt;
      so_far = rw (next, turn.more) (withheld_one c.args.rows.now c.args.granted.now c.loop-member.rows c.remove_from.new.self (take (length c.loop-member.yielded) c.args.granted.now.rows) (c.in-Some.member, c.in-Some.own.now) c.to_others.result
          (λ q. c.to_others.ensures.elements q ∙ others_granted c.of-grants.result.some c.of-grants.result.several c.in-Some.own.now c.args.granted.now c.in-Some.member q c.iter-member-items.ensures.valid c.of-grants.ensures turn.found)
          c.loop-member.invariant.so_far c.remove_from.ensures.value);
    }

pub returns : goal.returns
returns c =
    let all = row_end c.args.granted.now _ _ _ c.loop-member.yielded _ (cc) c.loop-member.yielded_by c.in-None.is c.next.ensures.steps in
    let value : c.loop-member.rows ≡ withheld c.args.rows.now c.args.granted.now = c.loop-member.invariant.so_far ∙ withheld_each c.args.rows.now c.args.granted.now (length c.loop-member.yielded) all c.requires.members in
    record {
      value = value;
      elements = λ m q. ap (λ r. is_in (set_of r m) q) value ∙ set_withheld c.args.rows.now c.args.granted.now m q;
      members = ap members value ∙ members_withheld c.args.rows.now c.args.granted.now;
      partitions = ap (λ (r : SetRows). r.partitions) c.loop-member.invariant.so_far;
    }
