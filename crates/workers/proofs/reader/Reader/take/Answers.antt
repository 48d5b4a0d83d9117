use Rattle.std.proofs.Common.{rules}
use Rattle.workers.specs.Private.Reading.{IsLeaseOver}
use Rattle.workers.proofs.Read.{leased_within}
use Rattle.workers.proofs.reader.Reader.take.Goals as goal

pub invariant_of-self : goal.invariant_of-self
invariant_of-self c =
    let fits : IsLeaseOver c.args.self.now.consumer c.args.self.now.logs.now c.args.lease.now = search rules in
    rw c.take_lease.ensures (record { partitions = c.args.self.now.partitions; within = leased_within c.args.self.now.consumer c.args.self.now.logs.now c.args.lease.now c.args.self.now.within fits.within })
