use Rattle.std.proofs.Common.{◌∙◌, ℕ, ap, rules}
use Rattle.std.specs.Ordering.{nat_cmp}
use Rattle.std.specs.List.Sorted.{IsPermutation, IsSortedByKey}
use Rattle.std.proofs.lemmas.List.Sorted.{IsNonDecreasingBy-from_sort}
use Rattle.cluster_tests.specs.ReferencePartial.{counted}
use Rattle.cluster_tests.proofs.reference_partial.Runs.{plain-order}
use Rattle.cluster_tests.proofs.reference_partial.ReferencePartial.of.Goals as goal

pub counts_of-requires : goal.counts_of-requires
counts_of-requires c =
    let sorted : IsSortedByKey (λ (x : ℕ). x) nat_cmp c.as_slice-2.result.now = search rules in
    IsNonDecreasingBy-from_sort (λ x. x) c.as_slice-2.result.now sorted

pub invariant_of-result : goal.invariant_of-result
invariant_of-result c =
    let same : IsPermutation c.args.ids.items c.as_slice-2.result.now = search rules in
    (λ x. c.in_ok-counts.ensures.0 x ∙ ap counted (plain-order c.args.ids.items c.as_slice-2.result.now x same), c.in_ok-counts.ensures.1)
