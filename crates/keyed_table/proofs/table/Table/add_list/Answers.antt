use Rattle.std.proofs.Common.{rules, ◌≡◌, ◌∙◌, sym, subst}
use Rattle.std.proofs.lemmas.List.{with_items_is}
use Rattle.keyed_table.specs.Counts.{Counters, HaveCounters, SumsFit, raised}
use Rattle.keyed_table.proofs.Raised.{cells-fit, cells-have, cells-stay-valid, merged-view}
use Rattle.keyed_table.proofs.table.Table.add_list.Goals as goal

pub add_each-requires-clause-numbers : goal.add_each-requires-clause-numbers
add_each-requires-clause-numbers c =
    let have = subst (λ (v : Counters). HaveCounters v.counts c.args.ids.now) (sym c.self.view_is) c.requires.numbers in
    rw c.deref_mut.ensures.value (cells-have c.self.inside.keys c.self.inside.cells.items c.args.ids.now have)

pub add_each-requires-clause-sums : goal.add_each-requires-clause-sums
add_each-requires-clause-sums c =
    let fit = subst (λ (v : Counters). SumsFit v.counts c.args.ids.now) (sym c.self.view_is) c.requires.sums in
    rw c.deref_mut.ensures.value (cells-fit c.self.inside.keys c.self.inside.cells.items c.args.ids.now c.self.invariant fit)

pub invariant_of-self : goal.invariant_of-self
invariant_of-self c =
    let cells = c.self.inside.cells.items in
    let items = with_items_is c.self.inside.cells c.add_each.new.cells (c.add_each.auto.cells ∙ c.deref_mut.ensures.len) in
    let is : c.add_each.new.cells ≡ raised cells c.args.ids.now = search rules in
    let have = subst (λ (v : Counters). HaveCounters v.counts c.args.ids.now) (sym c.self.view_is) c.requires.numbers in
    rw (items, is) (cells-stay-valid c.self.inside.keys cells c.args.ids.now c.self.invariant have)

pub returns : goal.returns
returns c =
    let cells = c.self.inside.cells.items in
    let items = with_items_is c.self.inside.cells c.add_each.new.cells (c.add_each.auto.cells ∙ c.deref_mut.ensures.len) in
    let is : c.add_each.new.cells ≡ raised cells c.args.ids.now = search rules in
    let merged = merged-view c.self.inside.keys cells c.add_each.new.cells c.args.ids.now is in
    rw (← c.self.view_is, items) merged
