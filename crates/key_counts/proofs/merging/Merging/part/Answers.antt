use Rattle.std.proofs.Common.{◌≡◌, ◌+◌, ◌<◌, ◌∙◌, ◌++◌, ap, ap₂, arith, get_or, length, rules, subst, sym}
use Rattle.std.specs.Prelude.{slice_range}
use Rattle.std.proofs.lemmas.Result.{IfOk-weaker}
use Rattle.key_index.specs.Keys.{distinct, lent}
use Rattle.key_counts.specs.Merging.{Parted, part_at}
use Rattle.key_counts.specs.Private.Prepared.{all_keys, keys_before, totals_before, whole_of}
use Rattle.key_counts.specs.Segments.{merged_counts}
use Rattle.key_counts.specs.declared.merging.Start.{Start}
use Rattle.key_counts.proofs.Bounds.{left-less, starts-rise}
use Rattle.key_counts.proofs.Divided.{counts-between, keys-between, part-ends}
use Rattle.key_counts.proofs.merging.Merging.part.Goals as goal

pub returns-clause-keys : goal.returns-clause-keys
returns-clause-keys c =
    let m = c.self.inside.prepared in
    let bounds = c.self.inside.bounds.items in
    let start : Start = c.index.result.now in
    let end : Start = c.index-2.result.now in
    let begins : start ≡ get_or bounds c.args.i start = search rules in
    let ends : end ≡ get_or bounds (c.args.i + 1) end = search rules in
    let within = subst (λ (v : Parted). c.args.i < length v.ends) (sym c.self.view_is) c.requires.within in
    let at = part-ends m bounds c.args.i start end c.self.invariant.1 within begins ends in
    IfOk-weaker c.walked.result (λ merged. keys_before m start ++ lent merged.keys.items ≡ keys_before m end)
    (λ merged. lent merged.keys.items ≡ part_at c.args.self.now.ends c.args.i c.args.self.now.keys)
    (λ merged is.
    subst (λ (v : Parted). lent merged.keys.items ≡ part_at v.ends c.args.i v.keys) c.self.view_is
    (keys-between m start end (lent merged.keys.items) is ∙ ap₂ (slice_range (distinct (all_keys m))) (sym at.0) (sym at.1))) c.walked.ensures.keys

pub returns-clause-counts : goal.returns-clause-counts
returns-clause-counts c =
    let m = c.self.inside.prepared in
    let bounds = c.self.inside.bounds.items in
    let start : Start = c.index.result.now in
    let end : Start = c.index-2.result.now in
    let begins : start ≡ get_or bounds c.args.i start = search rules in
    let ends : end ≡ get_or bounds (c.args.i + 1) end = search rules in
    let within = subst (λ (v : Parted). c.args.i < length v.ends) (sym c.self.view_is) c.requires.within in
    let at = part-ends m bounds c.args.i start end c.self.invariant.1 within begins ends in
    IfOk-weaker c.walked.result (λ merged. totals_before m start ++ merged.counts.items ≡ totals_before m end)
    (λ merged. merged.counts.items ≡ part_at c.args.self.now.ends c.args.i c.args.self.now.counts)
    (λ merged is.
    subst (λ (v : Parted). merged.counts.items ≡ part_at v.ends c.args.i v.counts) c.self.view_is
    (counts-between m start end merged.counts.items is ∙ ap₂ (slice_range (merged_counts m.skip (whole_of m) m.segments.items)) (sym at.0) (sym at.1))) c.walked.ensures.counts

pub walked-requires-clause-left : goal.walked-requires-clause-left
walked-requires-clause-left c =
    let m = c.self.inside.prepared in
    let bounds = c.self.inside.bounds.items in
    let left = c.self.inside.left in
    let end : Start = c.index-2.result.now in
    let ends : end ≡ get_or bounds (c.args.i + 1) end = search rules in
    let below : c.args.i < left = subst (λ (v : Parted). c.args.i < v.left) (sym c.self.view_is) c.requires.left in
    let up = starts-rise m (length m.segments.items) bounds (c.args.i + 1) left end c.self.invariant.1.starts (omega (arith, below)) c.self.invariant.2 in
    left-less m (get_or bounds left end).segment end.segment (c.self.invariant.3 end) (omega (arith, up, ap (λ (s : Start). s.segment) ends))
