use Rattle.std.proofs.Common.{◌≡◌, ◌∙◌, ◌-◌, ◌<◌, length, drop, get_or, refl, arith}
use Rattle.std.proofs.Math.ListN.{length-set}
use Rattle.place_report.proofs.Tallied.{one_less}
use Rattle.place_report.proofs.tally.take_off.Goals as goal

pub loop-i-preserved : goal.loop-i-preserved
loop-i-preserved c =
    let ids = c.args.ids.now in
    let i = c.loop-i.i in
    let id = get_or ids i 0 in
    let counters = c.loop-i.counters in
    let lt : i < length ids = omega arith in
    let within : id < length counters = omega (arith, c.requires.numbers i 0 lt, c.loop-i.invariant.len) in
    record {
      counters = one_less ids counters i (get_or counters id 0 - 1) lt within refl c.loop-i.invariant.counters;
      len = length-set counters id (get_or counters id 0 - 1) ∙ c.loop-i.invariant.len;
    }
