use Rattle.std.proofs.Common.{◌≤◌, length, decimal, arith}
use Rattle.std.proofs.lemmas.Fmt.{length-decimal-le}
use Rattle.report_cli.proofs.faults.put_location.Goals as goal

pub write_digits-start-requires : goal.write_digits-start-requires
write_digits-start-requires c = (omega (arith, length-decimal-le 20 c.args.number (omega arith) (omega arith) c.ranges.number.fits), c.requires.1)

pub put_before-requires : goal.put_before-requires
put_before-requires c =
    let few : length (decimal c.args.number) ≤ 20 = length-decimal-le 20 c.args.number (omega arith) (omega arith) c.ranges.number.fits in
    (omega (arith, c.write_digits-start.ensures.start), omega (arith, c.write_digits-start.ensures.start))

pub returns-clause-capacity : goal.returns-clause-capacity
returns-clause-capacity c =
    let few : length (decimal c.args.number) ≤ 20 = length-decimal-le 20 c.args.number (omega arith) (omega arith) c.ranges.number.fits in
    omega (arith, c.write_digits-start.ensures.start, c.put_before.ensures.start)
