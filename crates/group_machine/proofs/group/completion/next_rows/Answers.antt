use Rattle.std.proofs.Common.{ℕ, List, IfOk, ◌≡◌, ◌∙◌, ap, sym, subst}
use Rattle.std.proofs.lemmas.Iterator.{items_from_collect}
use Rattle.std.proofs.lemmas.Iterator.Consumers.{YieldsList-from_first}
use Rattle.bit_planes.specs.SetRows.{members}
use Rattle.sticky_assignor.specs.Assigned.{HaveRows}
use Rattle.sticky_assignor.proofs.AssignedLaws.{below_assigned}
use Rattle.group_machine.proofs.WalkLemmas.{have_rows}
use Rattle.group_machine.proofs.group.completion.next_rows.Goals as goal

pub assign-requires-clause-rows : goal.assign-requires-clause-rows
assign-requires-clause-rows c =
    let all : List ℕ = members c.args.granted.now in
    let same : c.in_ok-members.members.items ≡ all = subst (λ r. IfOk r (λ w. w.items ≡ all)) c.in_ok-members.was (items_from_collect c.collect.result c.collect.ensures.ran (YieldsList-from_first (λ x. x) (λ s. s) all c.members.ensures)) in
    subst (HaveRows c.args.granted.now) (sym (c.deref.ensures.value ∙ same)) (have_rows c.args.granted.now)

pub withhold_in_place-requires-clause-partitions : goal.withhold_in_place-requires-clause-partitions
withhold_in_place-requires-clause-partitions c = ap (λ r. r.partitions) c.in_ok-rows.ensures.value ∙ below_assigned c.partitions.result c.deref.result.now c.args.granted.now ∙ c.partitions.ensures.value
