use Rattle.std.proofs.lemmas.Result.{IfOk-weaker}
use Rattle.count_report.specs.Private.Counted.{ReportsCounted, TellsCounters}
use Rattle.count_report.proofs.Reported.{reports}
use Rattle.count_report.proofs.count.counted_report.Goals as goal

pub texts_of_counters-requires-after_bounds : goal.texts_of_counters-requires-after_bounds
texts_of_counters-requires-after_bounds g c κs within =
    let file = c.requires.2 in
    let options = c.args.options.now in
    (file.counted.keys, (c.in_ok-counters.ensures options.delimiter file.wanted options.header file.read file.counted).0)

pub returns : goal.returns
returns g c =
    IfOk-weaker c.texts_of_counters.result (TellsCounters c.args.options.now c.in_ok-counters.counters c.args.counting.round.keys) (ReportsCounted c.args.options.now c.args.counting)
    (reports c.args.options.now c.args.counting c.in_ok-counters.counters c.in_ok-counters.ensures) c.texts_of_counters.ensures
