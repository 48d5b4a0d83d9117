use Rattle.key_counts.proofs.Steps.{counts-one}
use Rattle.key_counts.proofs.Stored.{counts-long}
use Rattle.key_counts.specs.Private.Entry.{stored_counts, stored_keys}
use Rattle.key_counts.proofs.counts.KeyCounts.count_one.Goals as goal

pub returns : goal.returns
returns c =
    let entries = c.self.inside.entries.items in
    counts-one c.keep_code.result c.args.self.now (stored_keys entries) (stored_keys c.raise.new.entries.items) (stored_counts entries) (stored_counts c.raise.new.entries.items) _ _ _ c.args.code
    c.self.view_is (counts-long entries) c.requires c.raise.ensures.keys c.in_ok-raise.ensures.counts c.keep_code.ensures.ok
