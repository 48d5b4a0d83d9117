use Rattle.std.proofs.Common.{◌≡◌, false, take}
use Rattle.ingest.specs.Private.Limits.{have_long_keys}
use Rattle.ingest.proofs.limits.have_long_keys.Given as goal

abbrev pub invariant-loop-code : goal.invariant-loop-code
invariant-loop-code l = have_long_keys l.has_topics (take l.code l.worker.keys) ≡ false
