use Rattle.std.proofs.Common.{◌≡◌, ◌∙◌, ap, arith, false, refl, sym, take}
use Rattle.std.proofs.lemmas.Grind.{common_steps}
use Rattle.key_counts.specs.Counts.{total}
use Rattle.ingest.specs.Private.Limits.{have_long_keys}
use Rattle.ingest.proofs.EntryLimits.{adds-entry, adds-none, adds-same, of-topic-at, total-none}
use Rattle.ingest.proofs.limits.LimitCheck.add_entries.Goals as goal

pub loop-code-init : goal.loop-code-init
loop-code-init c = adds-same c.args.self.now c.args.self.now (λ f. 0) _ false _ (λ f. sym (total-none f)) refl (adds-none c.args.self.now)

pub add_entry-requires : goal.add_entry-requires
add_entry-requires c =
    rw (c.key.ensures, c.loop-code.invariant.same_counts, c.loop-code.invariant.same_topics)
    (of-topic-at c.args.self.now.counts c.args.self.now.has_topics c.args.worker.now.keys c.loop-code.code (omega arith) c.requires)

pub loop-code-preserved : goal.loop-code-preserved
loop-code-preserved c =
    adds-entry c.args.self.now c.loop-code.self c.add_entry.new.self c.args.worker.now.keys c.args.worker.now.counts c.loop-code.code c.count.result c.key.result.now
    c.count.ensures (sym c.len-code-end.ensures.counts ∙ c.len-code-end.ensures.keys) (omega arith) c.key.ensures c.loop-code.invariant c.add_entry.ensures

pub returns : goal.returns
returns c =
    let keys : take c.loop-code.code c.args.worker.now.keys ≡ c.args.worker.now.keys = grind (arith, common_steps) in
    let counts : take c.loop-code.code c.args.worker.now.counts ≡ c.args.worker.now.counts = grind (arith, common_steps) in
    adds-same c.args.self.now c.loop-code.self _ _ _ _ (λ f. ap (λ ks. total f ks (take c.loop-code.code c.args.worker.now.counts)) keys ∙ ap (total f c.args.worker.now.keys) counts)
    (ap (have_long_keys c.args.self.now.has_topics) keys) c.loop-code.invariant
