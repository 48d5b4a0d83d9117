use Rattle.std.proofs.Common.{◌≡◌, ◌∙◌, ◌+◌, List, ap, drop, get_or, length, subst, sym}
use Rattle.std.specs.Prelude.{All}
use Rattle.std.proofs.lemmas.List.{length-map}
use Rattle.key_counts.specs.Counts.{Entries}
use Rattle.key_counts.specs.Partition.{HasCounts}
use Rattle.key_counts.specs.Private.Classes.{AreClassesMade, AreStarts}
use Rattle.key_counts.specs.Private.Walks.{AreClasses, is_of}
use Rattle.key_counts.specs.Private.Prepared.{AreFirstOf}
use Rattle.key_counts.specs.Private.Twins.{HasClasses, IsOnce, class_in}
use Rattle.key_counts.specs.Segments.{IsSegment, counts_of, entries_of, keys_behind, keys_of}
use Rattle.key_counts.specs.declared.merging.Segment.{Segment}
use Rattle.key_counts.proofs.First.{first-all}
use Rattle.key_counts.proofs.Parts.{counts-len}
use Rattle.key_counts.proofs.merging.Prepared.new.Goals as goal

pub returns-clause-prepared : goal.returns-clause-prepared
returns-clause-prepared g c =
    let skip = c.args.skip in
    let workers = c.args.workers.items in
    let segments = c.args.segments.items in
    let twins = c.in_ok-twins.twins in
    let class = class_in twins in
    let classes = c.in_ok-classes.classes.items in
    let whole : c.of-whole.result.value.items ≡ workers = ap (λ v. v.items) c.of-whole.ensures in
    let counted : All HasCounts workers = subst (All HasCounts) c.as_slice.ensures.value c.are_counted.ensures in
    let once : IsOnce class (keys_behind skip workers segments) =
    subst (λ (ss : List Segment). IsOnce class (keys_behind skip workers ss)) c.as_slice-3.ensures.value
    (subst (λ (ws : List Entries). IsOnce class (keys_behind skip ws c.as_slice-3.result.now)) c.as_slice-2.ensures.value c.in_ok-twins.ensures.once) in
    let own : HasClasses twins skip workers = subst (HasClasses twins skip) c.as_slice-2.ensures.value c.in_ok-twins.ensures.classes in
    let are : AreClassesMade class skip workers segments classes =
    subst (λ (ss : List Segment). AreClassesMade class skip workers ss classes) c.as_slice-5.ensures.value
    (subst (λ (ws : List Entries). AreClassesMade class skip ws c.as_slice-5.result.now classes) c.as_slice-4.ensures.value c.in_ok-classes.ensures.classes) in
    let len : length (counts_of workers segments) ≡ length (keys_behind skip workers segments) = counts-len workers segments counted c.requires.segments ∙ sym (length-map (keys_of workers segments) (drop skip)) in
    record {
      counted = subst (All HasCounts) (sym whole) counted;
      segments = subst (λ (ws : List Entries). All (IsSegment ws) segments) (sym whole) c.requires.segments;
      own = subst (HasClasses twins skip) (sym whole) own;
      bound = c.in_ok-twins.ensures.bound;
      classes = subst (λ (ws : List Entries). AreClasses class (keys_behind skip ws segments) (counts_of ws segments) classes) (sym whole)
          (record {
            once = once;
            len = len;
            count = c.in_ok-classes.ensures.len;
            each = λ i d lt. (are i d lt).totals;
          });
      starts = λ i d lt. subst (λ (ws : List Entries). AreStarts (is_of class i) skip ws segments (length segments + 1) (get_or classes i d).starts.items) (sym whole) (are i d lt).starts;
    }

pub returns-clause-left : goal.returns-clause-left
returns-clause-left g c =
    let workers = c.args.workers.items in
    let whole : c.of-whole.result.value.items ≡ workers = ap (λ v. v.items) c.of-whole.ensures in
    let counted : All HasCounts workers = subst (All HasCounts) c.as_slice.ensures.value c.are_counted.ensures in
    record {
      len = ap length (sym whole);
      first = λ w lt. subst (λ (ws : List Entries). AreFirstOf (entries_of ws w) (entries_of workers w)) (sym whole) (first-all (entries_of workers w) (counted w _ lt));
      within = λ i d lt in_all. (c.requires.segments i d in_all).within;
    }
