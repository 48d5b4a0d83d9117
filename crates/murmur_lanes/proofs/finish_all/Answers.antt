use Rattle.std.proofs.Common.{drop}
use Rattle.murmur_lanes.specs.Murmur.{hash_rest}
use Rattle.murmur_lanes.proofs.Lanes.{eight_pairs, no_key}
use Rattle.murmur_lanes.proofs.finish_all.Goals as goal

pub returns : goal.returns
returns c = cc (eight_pairs (λ h key. hash_rest h (drop c.args.at key.now)) c.args.hash c.args.keys.now 0 no_key c.requires.len c.told-keys)
