use Rattle.std.proofs.Common.{◌<◌, arith}
use Rattle.std.specs.Prelude.{◌%◌}
use Rattle.key_counts.specs.Private.Filter.{mark_in}
use Rattle.key_counts.proofs.Bytes.{fits, others}
use Rattle.key_counts.proofs.filter.with_mark.Goals as goal

pub overflow_add-result : goal.overflow_add-result
overflow_add-result c =
    let few : mark_in c.args.byte c.args.cell < 2 = omega (arith, c.mark_in.ensures, c.if-mark_in-ge-SEVERAL.false) in
    omega (arith, fits c.args.byte (c.args.cell % 4) (omega arith) (omega arith) few)

pub returns-clause-others : goal.returns-clause-others
returns-clause-others c = λ other ne.
    let few : mark_in c.args.byte c.args.cell < 2 = omega (arith, c.mark_in.ensures, c.if-mark_in-ge-SEVERAL.false) in
    others c.args.byte (c.args.cell % 4) (other % 4) (omega arith) (omega arith) ne few
