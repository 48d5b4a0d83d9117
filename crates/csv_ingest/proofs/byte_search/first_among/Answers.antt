use Rattle.std.proofs.Common.{arith, rules, w64}
use Rattle.std.proofs.lemmas.Nat.Bits.{bit_at-trailing_zeros}
use Rattle.csv_ingest.proofs.Marks.{first-mark, no-marks}
use Rattle.csv_ingest.proofs.byte_search.first_among.Goals as goal

pub returns-then-marks-eq0-clause-none : goal.returns-then-marks-eq0-clause-none
returns-then-marks-eq0-clause-none c = no-marks 16 c.args.a c.args.b c.args.c c.args.text.now c.args.at c.marks_among-marks.result c.marks_among-marks.ensures c.if-marks-eq0.true

pub returns-clause-found : goal.returns-clause-found
returns-clause-found c =
    let first = bit_at-trailing_zeros w64 c.marks_among-marks.result (omega (arith, c.if-marks-eq0.false)) (search rules) in
    first-mark 16 c.args.a c.args.b c.args.c c.args.text.now c.args.at c.marks_among-marks.result _ c.requires c.marks_among-marks.ensures first.1 first.2
