use Rattle.std.proofs.Common.{rules, arith, ◌+◌, ◌∙◌, ap, subst, sym, ◌++◌, ◌∷◌, []}
use Rattle.csv_ingest.specs.Private.Pieces.{lent}
use Rattle.key_stream.proofs.Widths.{AreWidths, widths-more, widths-none}
use Rattle.key_stream.proofs.round.widths_of.Goals as goal

pub loop-i-init : goal.loop-i-init
loop-i-init c =
    let chunks = lent c.args.chunks.now in
    let is = c.in_ok-push.ensures.items ∙ ap (λ ws. ws ++ c.args.width ∷ []) c.in_ok-widths.ensures.items in
    subst (λ ws. AreWidths c.args.delimiter c.args.width chunks 0 ws c.args.width) (sym is) (widths-none c.args.delimiter c.args.width chunks)

pub loop-i-preserved : goal.loop-i-preserved
loop-i-preserved c =
    let chunks = lent c.args.chunks.now in
    subst (λ ws. AreWidths c.args.delimiter c.args.width chunks (c.loop-i.i + 1) ws c.in_ok-width.width) (sym c.in_ok-push-2.ensures.items)
    (widths-more c.args.delimiter c.args.width c.args.chunks.now c.loop-i.i c.loop-i.widths.items c.loop-i.width c.in_ok-width.width _ c.loop-i-test.true c.in_ok-width.ensures c.loop-i.invariant)

pub returns-clause-len : goal.returns-clause-len
returns-clause-len c = let many = c.loop-i.invariant.many in let end = c.loop-i-test.false in let within = c.loop-i.auto.i-end in search rules

pub returns-clause-widths : goal.returns-clause-widths
returns-clause-widths c = λ i le. c.loop-i.invariant.each i (omega (arith, le, c.loop-i-test.false))
