use Rattle.std.proofs.Common.{◌∙◌, sym, arith}
use Rattle.std.proofs.lemmas.Bool.{le-ltb}
use Rattle.cluster_tests.proofs.reference_plane.Flags.{below_is, flag_is}
use Rattle.bit_planes.proofs.Sets.{past}
use Rattle.cluster_tests.proofs.reference_plane.ReferencePlane.contains.Goals as goal

pub returns-then-q-self-clause-value : goal.returns-then-q-self-clause-value
returns-then-q-self-clause-value c = flag_is _ _ _ c.args.q c.if-q-self.true c.self.view_is

pub returns-then-q-self-clause-bound : goal.returns-then-q-self-clause-bound
returns-then-q-self-clause-bound c h =
    let p = below_is _ _ _ c.self.invariant.few c.self.told c.self.view_is in
    omega (arith, p, c.if-q-self.true)

pub returns-else-q-self-clause-value : goal.returns-else-q-self-clause-value
returns-else-q-self-clause-value c =
    let p = below_is _ _ _ c.self.invariant.few c.self.told c.self.view_is in
    le-ltb c.args.q c.self.inside.partitions c.if-q-self.false ∙ sym (past c.args.self.now c.args.q (omega (arith, p, c.if-q-self.false)))
