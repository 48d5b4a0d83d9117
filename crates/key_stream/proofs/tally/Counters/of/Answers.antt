use Rattle.std.proofs.Common.{rules, ◌<◌, arith, refl}
use Rattle.key_stream.proofs.tally.Counters.of.Goals as goal

pub returns : goal.returns
returns c = λ delimiter wanted header read so.
    let is = c.in_ok-counters_of.ensures in
    let bound : c.args.counting.round.keys < 18446744073709551616 = search rules in (
      record {
        few = omega (arith, bound, so.so.counted);
        taken = rw is so.taken;
        lens = c.args.counting.marks.items;
        parts = rw is so.parts;
        coded = c.args.counting.coded;
        ends = c.args.counting.ends.items;
        recorded = rw is so.recorded;
      },
      refl,
    )
