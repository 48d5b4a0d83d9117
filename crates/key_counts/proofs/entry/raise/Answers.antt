use Rattle.std.proofs.Common.{refl}
use Rattle.key_counts.proofs.Stored.{counts-raised, keys-raised}
use Rattle.key_counts.proofs.entry.raise.Goals as goal

pub returns-clause-counts : goal.returns-clause-counts
returns-clause-counts c =
    counts-raised c.args.entries.now.items c.args.code c.index.result.now _ c.requires c.index.ensures c.in-Some.ensures.1

pub returns-clause-keys : goal.returns-clause-keys
returns-clause-keys c =
    keys-raised c.args.entries.now.items c.args.code c.index_mut.result.now _ c.index_mut.ensures.value refl
