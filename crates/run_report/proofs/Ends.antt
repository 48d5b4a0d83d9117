-- The faults that end a run before it begins.
use Rattle.std.proofs.Common.{List, ℕ, Result}
use Rattle.lane_words.specs.declared.Refusal.{Refusal}
use Rattle.lane_words.specs.declared.Refusal.TheVariants as r
use Rattle.ingest.specs.Reports.{IsFaultOf, IsNoStop}
use Rattle.run_report.specs.Private.Runs.{EndsRun}

pub ends-run : (report : Result (List ℕ) Refusal) (e : Refusal) → IsNoStop e → IsFaultOf report e → EndsRun report e
ends-run report r.GateLimit stop so = absurd stop
ends-run report r.Differs stop so = absurd stop
ends-run report e stop so = so
