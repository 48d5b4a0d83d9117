use Rattle.std.proofs.Common.{◌≡◌, ◌++◌, [], map, rules, subst}
use Rattle.group_machine.specs.State.{members}
use Rattle.trace_report.proofs.SetTexts.{granted_done}
use Rattle.trace_report.specs.Sets.{each_after, granted_entry}
use Rattle.trace_report.specs.declared.texts.TheConstants.{SEMICOLON}
use Rattle.trace_report.proofs.sets.write_granted.Goals as goal

pub returns : goal.returns
returns c =
    let over : c.loop-member.member-iterator ≡ [] = search rules in
    granted_done c.args.topics.now c.args.world.now c.loop-member.text.items
    (subst (λ ms. c.loop-member.text.items ++ each_after SEMICOLON (map (granted_entry c.args.topics.now c.args.world.now) ms) ≡ each_after SEMICOLON (map (granted_entry c.args.topics.now c.args.world.now) (members c.args.world.now.cluster.group))) over c.loop-member.invariant)
