use Rattle.std.proofs.Common.{◌∙◌, sym, arith}
use Rattle.cluster_tests.proofs.reference_plane.Flags.{below_is, flag_is}
use Rattle.bit_planes.proofs.Sets.{rank_is, rank_in, rank_out, rank_most, rank_past, size_most}
use Rattle.cluster_tests.proofs.reference_plane.ReferencePlane.count.Goals as goal
use Rattle.cluster_tests.proofs.reference_plane.ReferencePlane.count.Goals.{then-self-q, else-self-q}

pub loop-q-init : goal.loop-q-init
loop-q-init c = sym (rank_is c.args.self.now 0)

pub overflow_add-count : goal.overflow_add-count
overflow_add-count c =
    let p = below_is _ _ _ c.self.invariant.few c.self.told c.self.view_is in
    let few = c.self.invariant.few in
    let most = rank_most c.args.self.now c.loop-q.q in
    let fits = size_most c.args.self.now in
    omega (arith, c.loop-q.invariant)

pub loop-q-preserved : goal.loop-q-preserved
loop-q-preserved c =
    let q = c.loop-q.q in
    let flag = flag_is _ _ _ q c.loop-q-test.true c.self.view_is in
    elim c.if-self-q.branch [
      | then-self-q w ↦ omega (arith, w.count-is, c.loop-q.invariant, rank_in c.args.self.now q (sym flag ∙ w.if-self-q.true))
      | else-self-q w ↦ omega (arith, w.count-is, c.loop-q.invariant, rank_out c.args.self.now q (sym flag ∙ w.if-self-q.false))
    ]

pub returns : goal.returns
returns c =
    let p = below_is _ _ _ c.self.invariant.few c.self.told c.self.view_is in
    let e = c.loop-q.invariant ∙ rank_past c.args.self.now c.loop-q.q (omega (arith, p, c.loop-q-test.false)) in
    record { value = e; bound = omega (arith, e, size_most c.args.self.now) }
