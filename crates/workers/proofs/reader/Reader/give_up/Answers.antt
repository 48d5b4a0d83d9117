use Rattle.workers.proofs.Read.{given_up_within}
use Rattle.workers.proofs.reader.Reader.give_up.Goals as goal

pub invariant_of-self : goal.invariant_of-self
invariant_of-self c = rw c.give_up.ensures (record { partitions = c.args.self.now.partitions; within = given_up_within c.args.self.now.consumer c.args.self.now.logs.now c.args.self.now.within })
