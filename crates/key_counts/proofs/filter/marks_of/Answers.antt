use Rattle.std.proofs.Common.{◌≡◌, ◌∙◌, ◌+◌, ◌++◌, Global, List, Vec, ap, arith, subst, sym, take}
use Rattle.std.proofs.lemmas.List.{take_all, with_items_is}
use Rattle.key_counts.specs.Private.Filter.{AreMarked, AreMarkedIn, cells_in, cells_of}
use Rattle.key_counts.specs.Private.Results.{list_of}
use Rattle.key_counts.specs.declared.hashes.Placed.{Placed}
use Rattle.key_counts.proofs.Placed.{cells-more}
use Rattle.key_counts.proofs.filter.marks_of.Goals as goal

pub loop-w-preserved : goal.loop-w-preserved
loop-w-preserved c =
    let workers = c.args.workers.now in
    let part = c.args.part in
    let w = c.loop-w.w in
    let before = cells_of (take w workers) part in
    let was : AreMarked before c.deref_mut.result.now = subst (AreMarked before) (sym c.deref_mut.ensures.value) c.loop-w.invariant in
    let more : cells_of (take (w + 1) workers) part ≡ before ++ cells_in c.list_in.result.now =
    cells-more workers part w c.index-workers-w.result c.loop-w-test.true c.index-workers-w.is
    ∙ ap (λ (es : List Placed). before ++ cells_in es) (sym (c.list_in.ensures ∙ ap (λ (ls : List (Vec Placed Global)). list_of ls part) c.as_slice.ensures.value)) in
    let same = with_items_is c.loop-w.bytes c.mark_cells.new.bytes (c.mark_cells.auto.bytes ∙ c.deref_mut.ensures.len) in
    let now : AreMarked (cells_of (take (w + 1) workers) part) c.mark_cells.new.bytes = subst (λ cs. AreMarked cs c.mark_cells.new.bytes) (sym more) (c.mark_cells.ensures before was) in
    subst (AreMarked (cells_of (take (w + 1) workers) part)) (sym same) now

pub returns : goal.returns
unfolding AreMarkedIn
returns c =
    let all : take c.loop-w.w c.args.workers.now ≡ c.args.workers.now = take_all c.loop-w.w c.args.workers.now (omega arith) in
    subst (λ (ws : List (Vec (Vec Placed Global) Global)). AreMarked (cells_of ws c.args.part) c.loop-w.bytes.items) all c.loop-w.invariant
