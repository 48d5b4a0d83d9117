use Rattle.std.proofs.Common.{◌≡◌, ◌∙◌, ap, sym, refl, rules}
use Rattle.cluster_tests.proofs.reference_partial.Entries.{raised-is, says-counts, takes-counts, with_entries}
use Rattle.cluster_tests.proofs.reference_partial.raise.Goals as goal

pub loop-id-init : goal.loop-id-init
loop-id-init c =
    let m = c.counts-id-items.result.now in
    let begins : c.into_iter-id-iterator.result ≡ m.entries = search rules in
    record {
      next = tt;
      finite = tt;
      can = rw begins (takes-counts m c.args.counts.now c.args.partial.now c.counts-id-items.ensures.1 c.counts-id-items.ensures.0 c.requires.numbers c.requires.sums);
      all = refl;
    }

pub returns : goal.returns
returns c =
    let m = c.counts-id-items.result.now in
    let counts = c.args.counts.now in
    let ids = c.args.partial.now in
    let begins : c.into_iter-id-iterator.result ≡ m.entries = search rules in
    let has = c.counts-id-items.ensures in
    ap (with_entries c.loop-id.counts) (sym c.in-None.ensures.steps.0) ∙ c.loop-id.invariant.all ∙ ap (with_entries counts) begins
    ∙ raised-is counts m.entries ids (takes-counts m counts ids has.1 has.0 c.requires.numbers c.requires.sums) (λ x. says-counts m ids x has.1 has.0)
