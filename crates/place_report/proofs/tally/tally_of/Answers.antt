use Rattle.std.proofs.Common.{◌<◌, arith}
use Rattle.std.specs.Prelude.{All}
use Rattle.place_report.proofs.Tallied.{tally_is}
use Rattle.place_report.proofs.tally.tally_of.Goals as goal

pub returns-clause-value : goal.returns-clause-value
returns-clause-value c keys without_repeats many =
    tally_is keys c.args.ids.now _ without_repeats (λ i d lt. omega (arith, c.requires.numbers i d lt, many))
    (c.count_each-keys.ensures.value keys without_repeats many) c.most_of-most.ensures c.first_of-largest.ensures

pub take_off-requires-clause-counters : goal.take_off-requires-clause-counters
take_off-requires-clause-counters c = c.count_each-keys.ensures.counters
