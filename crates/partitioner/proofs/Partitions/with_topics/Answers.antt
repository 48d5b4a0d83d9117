use Rattle.std.proofs.Common.{◌++◌, drop, length, replicate, subst, sym}
use Rattle.std.proofs.Math.Seq.{take-append_seam}
use Rattle.partitioner.specs.Place.{AreCounts}
use Rattle.partitioner.specs.Private.Counts.{IsPadded}
use Rattle.partitioner.proofs.Counts.{list_padded, zeros_left}
use Rattle.partitioner.proofs.Partitions.with_topics.Goals as goal

pub invariant_of-result : goal.invariant_of-result
invariant_of-result c =
    let counts = c.args.counts.now in
    let seam = take-append_seam counts (drop (length counts) (replicate 8 0)) in
    rw c.copy_from_slice.ensures.after (
      subst (λ zeros. IsPadded (counts ++ zeros) (length counts)) (sym (zeros_left (length counts) c.requires.few)) (list_padded counts),
      subst AreCounts (sym seam) c.requires,
    )
