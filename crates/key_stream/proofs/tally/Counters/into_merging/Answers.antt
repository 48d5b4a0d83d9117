use Rattle.std.proofs.Common.{List, ℕ, subst}
use Rattle.std.specs.Prelude.{All}
use Rattle.key_counts.specs.Partition.{AreAll, HasCounts}
use Rattle.key_stream.proofs.Totalled.{counts-are, keys-are, totals-fit}
use Rattle.key_stream.proofs.tally.Counters.into_merging.Goals as goal

pub new-requires-clause-sums : goal.new-requires-clause-sums
new-requires-clause-sums g c = λ lives outlives.
    totals-fit c.args.skip c.requires.0 c.args.self c.requires.1 (subst (All HasCounts) c.as_slice.ensures.value c.are_counted.ensures)

pub returns-clause-keys : goal.returns-clause-keys
returns-clause-keys g c = λ keys so. keys-are c.args.skip keys c.args.self c.new.result so c.new.ensures.keys

pub returns-clause-counts : goal.returns-clause-counts
returns-clause-counts g c = λ keys so.
    counts-are c.args.skip keys c.args.self c.new.result so (subst (All HasCounts) c.as_slice.ensures.value c.are_counted.ensures) c.new.ensures.counts

pub new-requires-clause-all : goal.new-requires-clause-all
new-requires-clause-all g c = λ lives outlives.
    subst (λ (ls : List ℕ). AreAll ls c.args.self.segments.items) c.requires.1.parts.lens_are c.requires.1.parts.all
