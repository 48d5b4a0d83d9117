use Rattle.std.proofs.Common.{◌≡◌, ◌+◌, ◌≤◌, ◌++◌, length}
use Rattle.script.specs.Grammar.{lines_from}
use Rattle.timeline_svg.specs.Headings.{headings}
use Rattle.timeline_svg.proofs.headings.put_headings.Given as goal

abbrev pub invariant-loop-rest : goal.invariant-loop-rest
invariant-loop-rest l = record {
  text : l.out.items ++ headings l.columns l.lanes (lines_from l.number l.rest) ≡ l.initial.out.items ++ headings l.columns l.lanes (lines_from 1 l.script);
  few : l.number + length l.rest ≤ length l.script + 1;
}

abbrev pub decreases-loop-rest : goal.decreases-loop-rest
decreases-loop-rest l = length l.rest
