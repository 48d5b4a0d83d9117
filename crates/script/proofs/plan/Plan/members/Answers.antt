use Rattle.std.proofs.Common.{◌≡◌, ◌∙◌, ap, arith, length, rules, subst, sym, tests}
use Rattle.std.proofs.lemmas.Iterator.{YieldsList-from_slice}
use Rattle.std.proofs.lemmas.Iterator.Consumers.{YieldsList-from_filter, count_from_yields_List}
use Rattle.std.proofs.lemmas.List.Sums.{length-filter}
use Rattle.std.specs.List.{filter}
use Rattle.script.proofs.PlanRules.{joined-counted, members-few, members-some}
use Rattle.script.specs.Plan.{IsPlan}
use Rattle.script.specs.Private.Plans.{is_join}
use Rattle.script.proofs.plan.Plan.members.Goals as goal

pub returns-clause-count : goal.returns-clause-count
returns-clause-count c =
    let lines : c.deref.result.now ≡ c.args.self.now = cc in
    count_from_yields_List c.filter.result _ c.count.ensures.ran
    (YieldsList-from_filter _ is_join (YieldsList-from_slice c.deref.result.now cc)
    c.filter.ensures.closure (λ x b q k. search (rules, tests)))
    ∙ ap (λ lines. length (filter is_join lines)) lines
    ∙ length-filter is_join c.args.self.now
    ∙ sym (joined-counted c.args.self.now)

pub overflow_cast-result : goal.overflow_cast-result
overflow_cast-result c =
    let lines : c.self.inside.lines.items ≡ c.args.self.now = cc in
    let count = returns-clause-count c in
    let few = members-few c.args.self.now (subst IsPlan lines c.self.invariant) in
    omega arith

pub returns-clause-nonempty : goal.returns-clause-nonempty
returns-clause-nonempty c =
    let lines : c.self.inside.lines.items ≡ c.args.self.now = cc in
    let count = returns-clause-count c in
    let some = members-some c.args.self.now (subst IsPlan lines c.self.invariant) in
    omega arith

pub returns-clause-bound : goal.returns-clause-bound
returns-clause-bound c =
    let lines : c.self.inside.lines.items ≡ c.args.self.now = cc in
    let count = returns-clause-count c in
    let few = members-few c.args.self.now (subst IsPlan lines c.self.invariant) in
    omega arith
