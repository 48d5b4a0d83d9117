use Rattle.std.proofs.Common.{refl, replicate}
use Rattle.partitioner.proofs.Groups.{pending_start}
use Rattle.partitioner.proofs.hashing.hash_eights.Goals as goal

pub loop-i-init : goal.loop-i-init
loop-i-init c = record { pending = pending_start c.args.keys.now 0 65 (replicate 8 0) refl; long = c.requires.len; computed = c.requires.computed }
