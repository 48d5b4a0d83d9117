use Rattle.std.proofs.Common.{rules}
use Rattle.murmur_lanes.proofs.begin.Goals as goal

pub returns : goal.returns
returns c = search rules
