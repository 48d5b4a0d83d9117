use Rattle.std.proofs.Common.{◌≡◌, false, get_or, arith}
use Rattle.bit_planes.specs.PartitionSet.{is_in}
use Rattle.cluster_tests.proofs.reference_plane.Flags.{below_is, flag_is, passed_more, passed_none, passed_whole}
use Rattle.cluster_tests.proofs.reference_plane.ReferencePlane.some_pass.Goals as goal

pub loop-q-init : goal.loop-q-init
loop-q-init g c = passed_none (goal.F-post g c.args.test) c.args.self.now c.args.other.now

pub loop-q-preserved : goal.loop-q-preserved
loop-q-preserved g c =
    let p = below_is _ _ _ c.self.invariant.few c.self.told c.self.view_is in
    let p2 = below_is _ _ _ c.other.invariant.few c.other.told c.other.view_is in
    let q = c.loop-q.q in
    let mine : get_or c.self.inside.flags q false ≡ is_in c.args.self.now q = flag_is _ _ _ q c.loop-q-test.true c.self.view_is in
    let theirs : get_or c.other.inside.flags q false ≡ is_in c.args.other.now q = flag_is _ _ _ q (omega (arith, p, p2, c.requires.partitions, c.loop-q-test.true)) c.other.view_is in
    passed_more (goal.F-post g c.args.test) c.args.self.now c.args.other.now q _ _ c.test-passed.result c.loop-q.passed mine theirs c.test-passed.ensures c.loop-q.invariant

pub returns : goal.returns
returns g c =
    let p = below_is _ _ _ c.self.invariant.few c.self.told c.self.view_is in
    passed_whole (goal.F-post g c.args.test) c.args.self.now c.args.other.now c.loop-q.q c.loop-q.passed (omega (arith, p, c.loop-q-test.false, c.loop-q.auto.q-end)) c.loop-q.invariant
