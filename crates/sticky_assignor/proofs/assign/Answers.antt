use Rattle.std.proofs.Common.{◌≡◌, IfOk, ap, sym, ◌∙◌, subst}
use Rattle.std.proofs.lemmas.Result.{IfOk-weaker}
use Rattle.bit_planes.specs.SetRows.{SetRows, members as members_of, sets_of}
use Rattle.sticky_assignor.specs.Assigned.{assigned}
use Rattle.sticky_assignor.specs.Balanced.{IsBalanced}
use Rattle.sticky_assignor.specs.Retained.{RetainsMost}
use Rattle.sticky_assignor.proofs.AssignedLaws.{quotas_are, quotas_long, is_assigned, members_assigned, balanced_assigned, most_assigned}
use Rattle.sticky_assignor.proofs.assign.Goals as goal
use Rattle.sticky_assignor.proofs.assign.Goals.{After-drop-counts-2}

pub free_partitions-free-requires-clause-len : goal.free_partitions-free-requires-clause-len
free_partitions-free-requires-clause-len c = quotas_long _ _ _ _ _ (quotas_are _ c.args.members.now c.args.owned.now _ _ _ c.requires.partitions c.in_ok-counts.ensures c.deref.ensures.value c.in_ok-quotas.ensures) c.deref-3.ensures.value

pub fill-requires-clause-len : goal.fill-requires-clause-len
fill-requires-clause-len c = quotas_long _ _ _ _ _ (quotas_are _ c.args.members.now c.args.owned.now _ _ _ c.requires.partitions c.in_ok-counts.ensures c.deref.ensures.value c.in_ok-quotas.ensures) c.deref-5.ensures.value

is_target : (c : After-drop-counts-2) → IfOk c.fill.result (λ rows. rows ≡ assigned c.args.partitions c.args.members.now c.args.owned.now)
is_target c =
    let quotas = quotas_are _ c.args.members.now c.args.owned.now _ _ _ c.requires.partitions c.in_ok-counts.ensures c.deref.ensures.value c.in_ok-quotas.ensures in
    IfOk-weaker c.fill.result _ (λ rows. rows ≡ assigned c.args.partitions c.args.members.now c.args.owned.now) (λ rows e. is_assigned _ _ _ _ _ _ _ _ c.requires.partitions quotas c.deref-3.ensures.value c.deref-5.ensures.value c.free_partitions-free.ensures.free e) c.fill.ensures

pub returns-clause-value : goal.returns-clause-value
returns-clause-value c = is_target c

pub returns-clause-members : goal.returns-clause-members
returns-clause-members c =
    IfOk-weaker c.fill.result _ (λ rows. members_of rows ≡ c.args.members.now) (λ rows e. ap members_of e ∙ members_assigned c.args.partitions c.args.members.now c.args.owned.now) (is_target c)

pub returns-clause-balanced : goal.returns-clause-balanced
returns-clause-balanced c =
    let P : SetRows → Type 0 = λ rows. IsBalanced c.args.partitions (sets_of rows c.args.members.now) in
    IfOk-weaker c.fill.result _ P (λ rows e. subst P (sym e) (balanced_assigned _ _ _ c.requires.partitions c.partitions.ensures.valid c.requires.nonempty c.requires.sorted c.requires.disjoint)) (is_target c)

pub returns-clause-sticky : goal.returns-clause-sticky
returns-clause-sticky c =
    let P : SetRows → Type 0 = λ rows. RetainsMost c.args.partitions (sets_of c.args.owned.now c.args.members.now) (sets_of rows c.args.members.now) in
    IfOk-weaker c.fill.result _ P (λ rows e. subst P (sym e) (most_assigned _ _ _ c.requires.partitions c.partitions.ensures.valid c.requires.sorted)) (is_target c)
