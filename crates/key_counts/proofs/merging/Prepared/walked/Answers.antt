use Rattle.std.proofs.Common.{◌≡◌, ◌∙◌, ◌<◌, ◌≤◌, ◌+◌, ◌-◌, ◌++◌, ℕ, ap, arith, false, get_or, length, subst, sym, take}
use Rattle.std.proofs.lemmas.List.{get_or_default}
use Rattle.key_index.specs.Keys.{distinct, lent}
use Rattle.key_counts.specs.Counts.{Entries, no_entries}
use Rattle.key_counts.specs.Private.Parts.{IsPartOf}
use Rattle.key_counts.specs.Private.Prepared.{AreFirstOf, HasLeft, IsPrepared, all_counts, all_keys, entries_before, keys_before, totals_before, whole_of}
use Rattle.key_counts.specs.Private.Results.{list_of}
use Rattle.key_counts.specs.Private.Twins.{class_in}
use Rattle.key_counts.specs.Private.Walks.{AreClasses, AreNext, IsWalked}
use Rattle.key_counts.specs.Segments.{IsSegment, entries_of, totals_of}
use Rattle.key_counts.specs.declared.merging.Prepared.{Prepared}
use Rattle.key_counts.specs.declared.merging.Segment.{Segment}
use Rattle.key_counts.proofs.Divided.{as-many}
use Rattle.key_counts.proofs.First.{classes-first, next-first}
use Rattle.key_counts.proofs.Parts.{follows, len-more}
use Rattle.key_counts.proofs.Walks.{start}
use Rattle.key_counts.proofs.merging.Prepared.walked.Goals as goal

pub loop-i-init : goal.loop-i-init
loop-i-init c =
    let m = c.args.self.now in
    start (class_in m.twins) (all_keys m) (all_counts m) (entries_before m c.args.start.segment) c.positions_at.result c.in_ok-walk.walk c.in_ok-walk.ensures c.positions_at.ensures

abbrev no_segment : Segment
no_segment = record { worker = 0; from = 0; to = 0 }

abbrev none : Entries
none = no_entries false

-- what is left of a segment's worker
record IsLeft (m : Prepared) (i : ℕ) (s : Segment) (entries : Entries) : Type 0 where
  within : i < length m.segments.items
  same : s ≡ get_or m.segments.items i no_segment
  worker : s.worker < length m.twins.classes.items
  first : AreFirstOf (entries_of (whole_of m) s.worker) entries
  part : IsPartOf entries s

is-left : (m : Prepared) (i end : ℕ) (s : Segment) (entries : Entries) → IsPrepared m → HasLeft m end → i < end → end ≤ length m.segments.items → s ≡ get_or m.segments.items i s → entries ≡ get_or m.workers.items s.worker entries → IsLeft m i s entries
is-left m i end s entries so left lt bound read own =
    let within : i < length m.segments.items = omega (arith, lt, bound) in
    let same : s ≡ get_or m.segments.items i no_segment = read ∙ get_or_default m.segments.items i s no_segment within in
    let whole : IsSegment (whole_of m) s = subst (IsSegment (whole_of m)) (sym same) (so.segments i no_segment within) in
    let in_workers : s.worker < length m.workers.items = omega (arith, whole.worker, left.len) in
    let its : entries ≡ entries_of m.workers.items s.worker = own ∙ get_or_default m.workers.items s.worker entries none in_workers in
    let fits = subst (λ (q : Segment). q.to ≤ length (entries_of m.workers.items q.worker).keys) (sym same) (left.within i no_segment lt within) in
    record {
      within = within;
      same = same;
      worker = omega (arith, whole.worker, so.own.len);
      first = subst (AreFirstOf (entries_of (whole_of m) s.worker)) (sym its) (left.first s.worker in_workers);
      part = record {
        order = whole.order;
        within = subst (λ (e : Entries). s.to ≤ length e.keys) (sym its) fits;
      };
    }

pub take_segment-requires-clause-part : goal.take_segment-requires-clause-part
take_segment-requires-clause-part c =
    (is-left c.args.self.now c.loop-i.i c.args.end.segment c.index-segment.result.now c.index-entries.result.now c.requires.prepared c.requires.left c.loop-i-test.true c.requires.end c.index-segment.ensures c.index-entries.ensures).part

pub take_segment-requires-clause-own : goal.take_segment-requires-clause-own
take_segment-requires-clause-own c =
    let m = c.args.self.now in
    let s = c.index-segment.result.now in
    let so = c.requires.prepared in
    let left = is-left m c.loop-i.i c.args.end.segment s c.index-entries.result.now so c.requires.left c.loop-i-test.true c.requires.end c.index-segment.ensures c.index-entries.ensures in
    let worker : s.worker < length (whole_of m) = omega (arith, left.worker, so.own.len) in
    record {
      within = left.worker;
      classes = classes-first (class_in m.twins) m.skip (entries_of (whole_of m) s.worker) c.index-entries.result.now (list_of m.twins.classes.items s.worker) (so.own.each s.worker worker) left.first;
    }

pub loop-i-preserved : goal.loop-i-preserved
loop-i-preserved c =
    let m = c.args.self.now in
    let so = c.requires.prepared in
    let i = c.loop-i.i in
    let s = c.index-segment.result.now in
    let entries = c.index-entries.result.now in
    let left = is-left m i c.args.end.segment s entries so c.requires.left c.loop-i-test.true c.requires.end c.index-segment.ensures c.index-entries.ensures in
    let k = entries_before m i in
    let whole : AreNext m.skip (entries_of (whole_of m) s.worker) s (all_keys m) (all_counts m) k =
    subst (λ (q : Segment). AreNext m.skip (entries_of (whole_of m) q.worker) q (all_keys m) (all_counts m) k) (sym left.same) (follows m.skip (whole_of m) m.segments.items i no_segment so.counted so.segments left.within) in
    let next = next-first m.skip (entries_of (whole_of m) s.worker) entries s (all_keys m) (all_counts m) k whole left.first left.part.within in
    let first = entries_before m c.args.start.segment in
    let class = class_in m.twins in
    let classes : AreClasses class (all_keys m) (all_counts m) c.deref.result.now = subst (AreClasses class (all_keys m) (all_counts m)) (sym c.deref.ensures.value) so.classes in
    let more = subst (λ (q : Segment). entries_before m (i + 1) ≡ k + (q.to - q.from)) (sym left.same) (len-more (whole_of m) m.segments.items i no_segment so.segments left.within) in
    subst (λ n. IsWalked class (all_keys m) (all_counts m) first n c.take_segment.new.self) (sym more)
    (c.in_ok-take_segment.ensures (all_keys m) (all_counts m) first k classes next c.loop-i.invariant)

joined-keys : (c : goal.After-loop-i) → keys_before c.args.self.now c.args.start ++ lent c.loop-i.walk.keys.items ≡ keys_before c.args.self.now c.args.end
joined-keys c =
    let m = c.args.self.now in
    let end : c.loop-i.i ≡ c.args.end.segment = omega (arith, c.requires.order) in
    c.loop-i.invariant.keys ∙ ap (λ i. distinct (take (entries_before m i) (all_keys m))) end

joined-totals : (c : goal.After-loop-i) → totals_before c.args.self.now c.args.start ++ c.loop-i.walk.counts.items ≡ totals_before c.args.self.now c.args.end
joined-totals c =
    let m = c.args.self.now in
    let end : c.loop-i.i ≡ c.args.end.segment = omega (arith, c.requires.order) in
    c.loop-i.invariant.totals ∙ ap (λ i. totals_of (distinct (take (entries_before m i) (all_keys m))) (all_keys m) (all_counts m)) end

pub returns-clause-keys : goal.returns-clause-keys
returns-clause-keys c = joined-keys c

pub returns-clause-counts : goal.returns-clause-counts
returns-clause-counts c = joined-totals c

pub returns-clause-len : goal.returns-clause-len
returns-clause-len c = as-many c.args.self.now c.args.start c.args.end (lent c.loop-i.walk.keys.items) c.loop-i.walk.counts.items (joined-keys c) (joined-totals c)
