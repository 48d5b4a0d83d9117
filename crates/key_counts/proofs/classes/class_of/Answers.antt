use Rattle.std.proofs.Common.{◌≡◌, ◌∙◌, ◌^◌, List, ap, arith, drop, length, map, sym, ℕ}
use Rattle.std.specs.Prelude.{filter}
use Rattle.std.proofs.lemmas.List.{length-map}
use Rattle.key_index.specs.Keys.{Key, distinct, id_of}
use Rattle.key_counts.specs.Counts.{total}
use Rattle.key_counts.specs.Private.Twins.{class_in}
use Rattle.key_counts.specs.Private.Walks.{is_of, kept}
use Rattle.key_counts.specs.Segments.{counts_of, is_key, keys_behind, keys_of, totals_of}
use Rattle.key_counts.specs.declared.classes.Origin.{Origin}
use Rattle.key_counts.specs.declared.merging.Segment.{Segment}
use Rattle.key_counts.proofs.Parts.{counts-len}
use Rattle.key_counts.proofs.Totals.{numbers-below, sums-below, totals-are}
use Rattle.key_counts.proofs.Walks.{kept-le, kept-length}
use Rattle.key_counts.proofs.classes.class_of.Goals as goal

abbrev members : Origin → List Segment → ℕ → List Key
members origin segments class = filter (is_of (class_in origin.twins.now) class) (keys_behind origin.skip origin.workers.now segments)

abbrev their : (c : goal.After-count) → List Key
their c = members c.args.origin.now c.args.segments.now c.args.class

ids-are : (c : goal.After-count) → c.as_slice.result.now ≡ map (id_of (distinct (their c))) (their c)
ids-are c = c.as_slice.ensures.value ∙ c.in_ok-keys.ensures.ids

counts-are : (c : goal.After-count) → c.as_slice-2.result.now ≡ kept (is_of (class_in c.args.origin.now.twins.now) c.args.class) (keys_behind c.args.origin.now.skip c.args.origin.now.workers.now c.args.segments.now) (counts_of c.args.origin.now.workers.now c.args.segments.now)
counts-are c = c.as_slice-2.ensures.value ∙ c.in_ok-keys.ensures.counts

keys-are : (c : goal.After-count) → c.count.result ≡ length (distinct (their c))
keys-are c = c.count.ensures ∙ ap length c.in_ok-keys.ensures.keys

as-many : (c : goal.After-count) → length (counts_of c.args.origin.now.workers.now c.args.segments.now) ≡ length (keys_behind c.args.origin.now.skip c.args.origin.now.workers.now c.args.segments.now)
as-many c =
    let origin = c.args.origin.now in
    counts-len origin.workers.now c.args.segments.now c.requires.origin.counted c.requires.origin.within ∙ sym (length-map (keys_of origin.workers.now c.args.segments.now) (drop origin.skip))

pub totals_of_ids-requires-clause-len : goal.totals_of_ids-requires-clause-len
totals_of_ids-requires-clause-len c =
    let origin = c.args.origin.now in
    let p = is_of (class_in origin.twins.now) c.args.class in
    let all = keys_behind origin.skip origin.workers.now c.args.segments.now in
    ap length (ids-are c) ∙ length-map (their c) (id_of (distinct (their c))) ∙ sym (ap length (counts-are c) ∙ kept-length p all (counts_of origin.workers.now c.args.segments.now) (as-many c))

pub totals_of_ids-requires-clause-ids : goal.totals_of_ids-requires-clause-ids
totals_of_ids-requires-clause-ids c = numbers-below (their c) c.as_slice.result.now c.count.result (ids-are c) (keys-are c)

pub totals_of_ids-requires-clause-sums : goal.totals_of_ids-requires-clause-sums
totals_of_ids-requires-clause-sums c =
    let origin = c.args.origin.now in
    let p = is_of (class_in origin.twins.now) c.args.class in
    let all = keys_behind origin.skip origin.workers.now c.args.segments.now in
    let counts = counts_of origin.workers.now c.args.segments.now in
    sums-below (their c) c.as_slice-2.result.now c.as_slice.result.now c.count.result (2 ^ 64) (ids-are c) (keys-are c)
    (λ x. let same = ap (total (is_key x) (their c)) (counts-are c) in omega (arith, same, kept-le p (is_key x) all counts (as-many c), c.requires.sums x))

pub returns : goal.returns
returns c =
    let own = members c.args.origin.now c.args.segments.now c.args.class in
    let is = c.in_ok-keys.ensures in
    let count : c.count.result ≡ length (distinct own) = c.count.ensures ∙ ap length is.keys in
    record {
      totals = record {
        ids = is.ids;
        totals = totals-are own c.as_slice-2.result.now c.as_slice.result.now c.in_ok-totals.totals.items c.count.result (c.as_slice.ensures.value ∙ is.ids) count c.in_ok-totals.ensures
            ∙ ap (λ ns. totals_of (distinct own) own ns) (c.as_slice-2.ensures.value ∙ is.counts);
      };
      starts = is.starts;
    }
