use Rattle.std.proofs.Common.{rules}
use Rattle.std.proofs.lemmas.Result.{IfOk-weaker}
use Rattle.key_counts.specs.Private.Classes.{AreClassesMade}
use Rattle.key_counts.specs.Private.Twins.{class_in}
use Rattle.key_counts.proofs.classes.classes_of.Goals as goal

pub returns-clause-classes : goal.returns-clause-classes
returns-clause-classes g c =
    let origin = c.args.origin.now in
    IfOk-weaker c.collect_each.result _ (λ classes. AreClassesMade (class_in origin.twins.now) origin.skip origin.workers.now c.args.segments.now classes.items) (λ classes each i d lt. let own = (each i d lt).1.met in search rules)
    c.collect_each.ensures.each
