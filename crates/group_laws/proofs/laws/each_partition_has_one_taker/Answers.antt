use Rattle.std.proofs.Common.{◌∙◌, subst}
use Rattle.coop_rebalance.specs.Rounds.{next_rows}
use Rattle.group_machine.specs.State.{granted_rows}
use Rattle.group_machine.proofs.PresentLemmas.{Listed}
use Rattle.group_machine.proofs.Rows.{member_listed}
use Rattle.group_machine.proofs.Below.{next_disjoint, next_members}
use Rattle.group_machine.proofs.GroupLemmas.{members_granted, granted_owned}
use Rattle.group_machine.proofs.TakerLemmas.{one_taker}
use Rattle.group_laws.proofs.laws.each_partition_has_one_taker.Goals as goal

pub returns : goal.returns
returns c g sound q member takes =
    let r = granted_rows g in
    let owned = granted_owned g sound.sized sound.consistent sound.disjoint sound.anybody in
    one_taker g (next_rows r) (next_disjoint r owned) (λ m n e. subst (Listed m) (next_members r owned ∙ members_granted g) (member_listed (next_rows r) m n e)) q member takes
