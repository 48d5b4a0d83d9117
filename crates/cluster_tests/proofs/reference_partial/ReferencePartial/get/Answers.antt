use Rattle.std.proofs.Common.{◌≡◌, ◌∙◌, rules, Some, None}
use Rattle.std.specs.BTreeMap.{get}
use Rattle.std.specs.Ordering.{nat_cmp}
use Rattle.cluster_tests.specs.ReferencePartial.{counted}
use Rattle.keyed_table.specs.Counts.{plain}
use Rattle.cluster_tests.proofs.reference_partial.Listed.{none-counted, of-counted}
use Rattle.cluster_tests.proofs.reference_partial.ReferencePartial.get.Goals as goal

pub returns-in-Some : goal.returns-in-Some
returns-in-Some c =
    let valid : get nat_cmp c.self.inside.counts c.args.id ≡ counted (plain c.self.inside.ids.items c.args.id) = c.self.invariant.0 c.args.id in
    let found : Some c.in-Some.n.now ≡ get nat_cmp c.self.inside.counts c.args.id = search rules in
    let seen : c.in-Some.n.now ≡ plain c.self.inside.ids.items c.args.id = of-counted _ _ (found ∙ valid) in
    search rules

pub returns-in-None : goal.returns-in-None
returns-in-None c =
    let valid : get nat_cmp c.self.inside.counts c.args.id ≡ counted (plain c.self.inside.ids.items c.args.id) = c.self.invariant.0 c.args.id in
    let found : None ≡ get nat_cmp c.self.inside.counts c.args.id = search rules in
    let seen : 0 ≡ plain c.self.inside.ids.items c.args.id = none-counted _ (found ∙ valid) in
    search rules
