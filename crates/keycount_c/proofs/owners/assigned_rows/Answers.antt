use Rattle.std.proofs.Common.{◌≡◌, ◌∙◌, ap, length, subst, sym}
use Rattle.std.proofs.lemmas.Result.{IfOk-weaker}
use Rattle.bit_planes.specs.SetRows.{SetRows, sets_of}
use Rattle.sticky_assignor.specs.Assigned.{HaveRows}
use Rattle.sticky_assignor.specs.Balanced.{AreDisjoint}
use Rattle.sticky_assignor.proofs.AssignedLaws.{below_assigned}
use Rattle.keycount_c.proofs.Owning.{disjoint_in, rising, rows_for}
use Rattle.keycount_c.proofs.owners.assigned_rows.Goals as goal

pub assign-requires-clause-sorted : goal.assign-requires-clause-sorted
assign-requires-clause-sorted c = rising c.args.members.now c.requires.members

pub assign-requires-clause-rows : goal.assign-requires-clause-rows
assign-requires-clause-rows c =
    let ms = c.args.members.now in
    subst (λ (r : SetRows). HaveRows r ms) (sym c.in_ok-owned.ensures.value) (rows_for ms c.args.owners.now)

pub assign-requires-clause-disjoint : goal.assign-requires-clause-disjoint
assign-requires-clause-disjoint c =
    let ms = c.args.members.now in
    subst (λ (r : SetRows). AreDisjoint (sets_of r ms)) (sym c.in_ok-owned.ensures.value) (disjoint_in ms c.args.owners.now c.requires.members)

pub returns-clause-partitions : goal.returns-clause-partitions
returns-clause-partitions c =
    IfOk-weaker c.assign.result _ (λ rows. rows.partitions ≡ length c.args.owners.now) (λ rows e. ap (λ (r : SetRows). r.partitions) e ∙ below_assigned _ _ _) c.assign.ensures.value
