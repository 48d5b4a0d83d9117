use Rattle.std.proofs.Common.{◌≡◌, ◌++◌}
use Rattle.timeline_svg.specs.Bands.{span_at}
use Rattle.timeline_svg.specs.Markup.{texts_below}
use Rattle.timeline_svg.proofs.bands.put_bands.Given as goal

abbrev pub invariant-loop-i : goal.invariant-loop-i
invariant-loop-i l = l.out.items ≡ l.initial.out.items ++ texts_below l.i (span_at l.names l.lane l.columns l.spans)
