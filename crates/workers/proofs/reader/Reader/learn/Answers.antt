use Rattle.std.proofs.Common.{rules, ◌∙◌, sym}
use Rattle.workers.specs.Private.Reading.{IsReplyWithin}
use Rattle.workers.proofs.Read.{answered_partitions, answered_within}
use Rattle.workers.proofs.reader.Reader.learn.Goals as goal

pub invariant_of-self : goal.invariant_of-self
invariant_of-self c =
    let reply_within : IsReplyWithin c.args.p c.args.reply c.args.self.now.logs.now = search rules in
    rw c.answered.ensures (record {
      partitions = c.args.self.now.partitions ∙ sym (answered_partitions c.args.self.now.consumer c.args.p c.args.reply);
      within = answered_within c.args.self.now.consumer c.args.self.now.logs.now c.args.p c.args.reply c.args.self.now.within reply_within;
    })
