use Rattle.std.proofs.Common.{ℕ, arith}
use Rattle.std.proofs.Math.ListN.{length-set}
use Rattle.partitioner.proofs.Groups.{AreHashedBelow, hashed_all, hashed_before, hashed_one}
use Rattle.partitioner.proofs.hashing.hash_rest.Goals as goal
use Rattle.partitioner.proofs.hashing.hash_rest.Goals.{then-hashes-i, else-hashes-i}

pub loop-i-init : goal.loop-i-init
unfolding AreHashedBelow
loop-i-init c = record { long = c.requires.len; hashed = c.requires.computed }

pub loop-i-preserved : goal.loop-i-preserved
loop-i-preserved c =
    elim c.if-hashes-i.branch [
      | then-hashes-i w ↦ record {
        long = rw w.hashes-is (omega (arith, length-set {A = ℕ}));
        hashed = rw w.hashes-is (hashed_one c.loop-i.i c.args.keys.now c.loop-i.hashes w.hash_key.result c.loop-i.invariant.hashed w.hash_key.ensures);
      }
      | else-hashes-i w ↦ record {
        long = rw w.hashes-is c.loop-i.invariant.long;
        hashed = rw w.hashes-is (hashed_before c.loop-i.i c.args.keys.now c.loop-i.hashes c.loop-i.invariant.hashed w.if-hashes-i.false);
      }
    ]

pub returns : goal.returns
returns c = hashed_all c.loop-i.i c.args.keys.now c.loop-i.hashes c.loop-i.invariant.long (omega arith) c.loop-i.invariant.hashed
