use Rattle.std.proofs.lemmas.Result.{IfOk-weaker}
use Rattle.trace_report.proofs.SetTexts.{unread_done}
use Rattle.trace_report.proofs.sets.write_unread.Goals as goal

pub returns : goal.returns
returns c =
    IfOk-weaker c.push_set.result _ _ (λ _ written. unread_done c.args.topics.now c.args.world.now c.push_set.new.text.items c.clear.new.self.items c.unread.result c.clear.ensures.items c.unread.ensures written) c.push_set.ensures
