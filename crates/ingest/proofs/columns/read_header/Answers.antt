use Rattle.ingest.proofs.FoundColumns.{filled-more, header-within}
use Rattle.ingest.proofs.columns.read_header.Goals as goal

pub returns-then-branch-clause-ok : goal.returns-then-branch-clause-ok
returns-then-branch-clause-ok g c =
    header-within _ _ _ _ _ (rw c.text.ensures at (c.in_ok-has_header.ensures c.if-branch.true)) (filled-more _ _ _ _ _ _ _ c.loop.invariant.filled c.in_ok-read_on.ensures.window)
