use Rattle.std.proofs.Common.{IsSome, arith}
use Rattle.std.proofs.lemmas.List.Elements.{All-from_get_or}
use Rattle.bit_planes.specs.SetRows.{row_of}
use Rattle.cluster_tests.proofs.assignments.have_rows.Goals as goal

pub returns : goal.returns
returns c =
    λ _. All-from_get_or (λ m. IsSome (row_of c.args.owned.now m)) c.args.members.now 0 (λ k lt. c.loop-member.invariant k (omega arith))
