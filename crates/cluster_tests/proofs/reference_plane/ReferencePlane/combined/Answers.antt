use Rattle.std.proofs.Common.{◌≡◌, ◌∙◌, false, get_or, length-set, sym, arith}
use Rattle.bit_planes.specs.PartitionSet.{is_in}
use Rattle.cluster_tests.proofs.reference_plane.Flags.{below_is, flag_is, seen_below, tested_more, tested_seen, more_left}
use Rattle.cluster_tests.proofs.reference_plane.ReferencePlane.combined.Goals as goal

pub loop-q-preserved : goal.loop-q-preserved
loop-q-preserved g c =
    let p = below_is _ _ _ c.self.invariant.few c.self.told c.self.view_is in
    let p2 = below_is _ _ _ c.other.invariant.few c.other.told c.other.view_is in
    let q = c.loop-q.q in
    let mine : get_or c.loop-q.flags q false ≡ is_in c.args.self.now q = c.loop-q.invariant.left q (omega arith) ∙ flag_is _ _ _ q c.loop-q-test.true c.self.view_is in
    let theirs : get_or c.other.inside.flags q false ≡ is_in c.args.other.now q = flag_is _ _ _ q (omega (arith, p, p2, c.requires.partitions, c.loop-q-test.true)) c.other.view_is in
    record {
      len = length-set c.loop-q.flags q c.test.result ∙ c.loop-q.invariant.len;
      done = tested_more (goal.F-post g c.args.test) c.args.self.now c.args.other.now q c.loop-q.flags _ _ c.test.result (omega (arith, c.loop-q.invariant.len, c.self.invariant.few, c.loop-q-test.true)) mine theirs c.test.ensures c.loop-q.invariant.done;
      left = more_left c.self.inside.flags c.loop-q.flags q c.test.result c.loop-q.invariant.left;
    }

pub returns-clause-elements : goal.returns-clause-elements
returns-clause-elements g c =
    let p = below_is _ _ _ c.self.invariant.few c.self.told c.self.view_is in
    λ q lt. tested_seen (goal.F-post g c.args.test) _ _ c.self.inside.partitions c.loop-q.flags q (omega (arith, p, lt)) (c.loop-q.invariant.done q (omega (arith, p, lt, c.loop-q-test.false)))

pub returns-clause-partitions : goal.returns-clause-partitions
returns-clause-partitions g c =
    let p = below_is _ _ _ c.self.invariant.few c.self.told c.self.view_is in
    seen_below c.self.inside.partitions c.loop-q.flags (omega (arith, c.loop-q.invariant.len, c.self.invariant.few)) ∙ sym p
