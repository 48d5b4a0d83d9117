use Rattle.std.proofs.Common.{◌≡◌, ◌∙◌, ◌+◌, ◌++◌, List, ◌∷◌, [], ap, append_assoc, arith, get_or, subst, sym, take}
use Rattle.std.proofs.lemmas.List.{map-append, take_all, take_more}
use Rattle.key_counts.specs.Private.Filter.{AreMarked, cells_in}
use Rattle.key_counts.specs.declared.hashes.Placed.{Placed}
use Rattle.key_counts.proofs.filter.mark_cells.Goals as goal

pub loop-i-preserved : goal.loop-i-preserved
loop-i-preserved c = λ cells marked.
    let list = c.args.list.now in
    let i = c.loop-i.i in
    let none : Placed = record { cell = 0; code = 0 } in
    let entry : Placed = get_or list i none in
    let more : cells_in (take (i + 1) list) ≡ cells_in (take i list) ++ entry.cell ∷ [] =
    ap cells_in (take_more list i none c.loop-i-test.true) ∙ map-append (λ (e : Placed). e.cell) (take i list) (entry ∷ []) in
    let all = append_assoc cells (cells_in (take i list)) (entry.cell ∷ []) ∙ ap (λ cs. cells ++ cs) (sym more) in
    subst (λ cs. AreMarked cs c.mark_cell.new.bytes) all (c.mark_cell.ensures (cells ++ cells_in (take i list)) (c.loop-i.invariant cells marked))

pub returns : goal.returns
returns c = λ cells marked.
    let list = c.args.list.now in
    let all : take c.loop-i.i list ≡ list = take_all c.loop-i.i list (omega arith) in
    subst (λ (es : List Placed). AreMarked (cells ++ cells_in es) c.loop-i.bytes) all (c.loop-i.invariant cells marked)
