use Rattle.std.proofs.Common.{◌≡◌, ◌-◌, ◌∙◌, ◌++◌, ap, arith, get_or, length, rules, subst, sym}
use Rattle.std.proofs.lemmas.Result.{IfOk-weaker}
use Rattle.key_index.specs.Keys.{lent}
use Rattle.key_counts.specs.Merging.{Parted}
use Rattle.key_counts.specs.Private.Prepared.{keys_before, totals_before}
use Rattle.key_counts.specs.declared.merging.Start.{Start}
use Rattle.key_counts.specs.Private.Prepared.{HasLeft}
use Rattle.key_counts.proofs.Divided.{counts-whole, ends-len, ends_by, keys-whole, len_before}
use Rattle.key_counts.proofs.merging.Merging.all.Goals as goal

pub returns-clause-keys : goal.returns-clause-keys
returns-clause-keys c =
    let m = c.self.inside.prepared in
    let bounds = c.self.inside.bounds.items in
    let are = c.self.invariant.1 in
    let start : Start = c.index.result.now in
    let end : Start = c.index-2.result.now in
    let long : c.len.result ≡ length bounds = search rules in
    let begins : start ≡ get_or bounds 0 start = search rules in
    let ends : end ≡ get_or bounds (c.len.result - 1) end = search rules in
    let first = ap (λ (s : Start). s.segment) begins ∙ are.starts.first start are.some in
    let last = ap (λ (s : Start). s.segment) ends ∙ are.last (c.len.result - 1) end (omega (arith, long, are.some)) in
    IfOk-weaker c.walked.result (λ merged. keys_before m start ++ lent merged.keys.items ≡ keys_before m end) (λ merged. lent merged.keys.items ≡ c.args.self.now.keys)
    (λ merged is. subst (λ (v : Parted). lent merged.keys.items ≡ v.keys) c.self.view_is (keys-whole m start end (lent merged.keys.items) first last is)) c.walked.ensures.keys

pub returns-clause-counts : goal.returns-clause-counts
returns-clause-counts c =
    let m = c.self.inside.prepared in
    let bounds = c.self.inside.bounds.items in
    let are = c.self.invariant.1 in
    let start : Start = c.index.result.now in
    let end : Start = c.index-2.result.now in
    let long : c.len.result ≡ length bounds = search rules in
    let begins : start ≡ get_or bounds 0 start = search rules in
    let ends : end ≡ get_or bounds (c.len.result - 1) end = search rules in
    let first = ap (λ (s : Start). s.segment) begins ∙ are.starts.first start are.some in
    let last = ap (λ (s : Start). s.segment) ends ∙ are.last (c.len.result - 1) end (omega (arith, long, are.some)) in
    IfOk-weaker c.walked.result (λ merged. totals_before m start ++ merged.counts.items ≡ totals_before m end) (λ merged. merged.counts.items ≡ c.args.self.now.counts)
    (λ merged is. subst (λ (v : Parted). merged.counts.items ≡ v.counts) c.self.view_is (counts-whole m start end merged.counts.items first last is)) c.walked.ensures.counts

pub walked-requires-clause-left : goal.walked-requires-clause-left
walked-requires-clause-left c =
    let m = c.self.inside.prepared in
    let bounds = c.self.inside.bounds.items in
    let end : Start = c.index-2.result.now in
    let long : c.len.result ≡ length bounds = search rules in
    let ends : end ≡ get_or bounds (c.len.result - 1) end = search rules in
    let left : c.self.inside.left ≡ length (ends_by (len_before m) bounds) = subst (λ (v : Parted). v.left ≡ length v.ends) (sym c.self.view_is) c.requires in
    let at : c.self.inside.left ≡ c.len.result - 1 = omega (arith, left, long, ends-len (len_before m) bounds c.self.invariant.1.some) in
    subst (λ (s : Start). HasLeft m s.segment) (ap (λ i. get_or bounds i end) at ∙ sym ends) (c.self.invariant.3 end)
