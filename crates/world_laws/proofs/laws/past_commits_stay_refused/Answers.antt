use Rattle.std.proofs.Common.{arith}
use Rattle.world.specs.Courses.{after_all}
use Rattle.world_laws.specs.Growth.{OnlyGrows}
use Rattle.world_laws.proofs.Grown.{grows, grows_on, members_grow}
use Rattle.world_laws.proofs.Out.{members_stay_out, out_on, out_refused, over_refused, stays_out, StaysOut}
use Rattle.world_laws.proofs.Steps.{holds_all}
use Rattle.world_laws.proofs.laws.past_commits_stay_refused.Goals as goal

pub returns-clause-out : goal.returns-clause-out
returns-clause-out c w events commit valid out =
    let still = holds_all (λ commits. StaysOut commit.member) (out_on commit.member) (stays_out commit.member) (members_stay_out commit.member) w events valid out in
    out_refused (after_all w events).cluster commit still.1

pub returns-clause-over : goal.returns-clause-over
returns-clause-over c w events commit valid over offset accepted =
    let grown = holds_all (λ commits. OnlyGrows) grows_on grows members_grow w events valid in
    over_refused (after_all w events).cluster commit offset (omega (arith, over, grown.generation)) accepted
