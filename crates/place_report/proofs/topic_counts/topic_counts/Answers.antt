use Rattle.std.proofs.Common.{◌≡◌, ◌∙◌, ◌+◌, ◌<◌, ℕ, List, length, length-append, get_or, ap, arith}
use Rattle.place_report.proofs.KeyCounts.{one_table_more, topic_counts_are, topics_next}
use Rattle.place_report.proofs.topic_counts.topic_counts.Goals as goal

pub loop-t-preserved : goal.loop-t-preserved
loop-t-preserved c =
    let l = c.args.logs.now in
    let t = c.loop-t.t in
    let before = c.loop-t.invariant in
    let lt : t < length l.counts = omega (arith, ap length c.requires.counts) in
    let partitions : get_or c.args.counts.now t 0 ≡ get_or l.counts t 0 = ap (λ (ns : List ℕ). get_or ns t 0) c.requires.counts in
    let to = ap (λ n. c.loop-t.from + n) partitions in
    let counts = topic_counts_are l t c.loop-t.from _ _ c.requires.valid lt before.from to c.in_ok-counts_between.ensures in
    record {
      one_each = ap length c.in_ok-push.ensures.items ∙ length-append c.loop-t.tables.items _ ∙ omega (arith, before.one_each);
      from = topics_next l t c.loop-t.from _ lt before.from to;
      counts = one_table_more l t _ _ c.in_ok-counts_between.field-0 c.in_ok-push.ensures.items before.one_each counts before.counts;
    }
