use Rattle.std.proofs.Common.{rules}
use Rattle.murmur_lanes.proofs.murmur2_x8.Goals as goal

pub returns : goal.returns
returns c = search rules
