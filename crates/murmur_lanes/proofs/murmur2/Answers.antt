use Rattle.std.proofs.Common.{rules}
use Rattle.murmur_lanes.proofs.murmur2.Goals as goal

pub absorb_rest-requires : goal.absorb_rest-requires
absorb_rest-requires c = search rules
