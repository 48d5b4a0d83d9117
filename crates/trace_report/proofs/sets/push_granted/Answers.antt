use Rattle.std.proofs.Common.{◌≡◌, false, rules}
use Rattle.group_machine.specs.State.{is_present}
use Rattle.trace_report.proofs.SetTexts.{granted_none}
use Rattle.trace_report.proofs.sets.push_granted.Goals as goal

pub returns-in-None : goal.returns-in-None
returns-in-None c =
    let gone : is_present c.args.world.now.cluster.group c.args.member ≡ false = search rules in
    granted_none c.args.topics.now c.args.world.now c.args.member c.push_after.new.text.items c.args.text.now.items c.name_of_member.result.now gone c.in_ok-push_after.ensures c.name_of_member.ensures
