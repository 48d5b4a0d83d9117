use Rattle.std.proofs.Common.{◌∙◌, sym, arith}
use Rattle.std.proofs.lemmas.Bool.{le-ltb}
use Rattle.bit_planes.proofs.Seen.{below_is, marks_are}
use Rattle.bit_planes.proofs.Sets.{past}
use Rattle.bit_planes.proofs.plane.Plane.contains.Goals as goal

pub is_set-requires : goal.is_set-requires
is_set-requires c = omega (arith, c.if-q-self.true, c.self.invariant.few, c.self.told)

pub returns-then-q-self-clause-value : goal.returns-then-q-self-clause-value
returns-then-q-self-clause-value c = c.is_set.ensures ∙ marks_are _ _ _ c.self.invariant.clear c.self.view_is c.args.q

pub returns-then-q-self-clause-bound : goal.returns-then-q-self-clause-bound
returns-then-q-self-clause-bound c h =
    let p = below_is _ _ _ c.self.view_is in
    omega (arith, p, c.if-q-self.true)

pub returns-else-q-self-clause-value : goal.returns-else-q-self-clause-value
returns-else-q-self-clause-value c =
    let p = below_is _ _ _ c.self.view_is in
    le-ltb c.args.q c.self.inside.partitions c.if-q-self.false ∙ sym (past c.args.self.now c.args.q (omega (arith, p, c.if-q-self.false)))
