use Rattle.std.proofs.Common.{◌-◌, subst, ◌∙◌, ap, arith, length}
use Rattle.bit_planes.specs.Private.Indices.{IsGapFor}
use Rattle.bit_planes.specs.SetRows.{SetRows}
use Rattle.std.specs.List.{slice_get}
use Rattle.std.proofs.lemmas.Bool.Decides.{nat_tests}
use Rattle.bit_planes.proofs.Indices.{above_all}
use Rattle.bit_planes.proofs.rows.PlaneRows.is_above_all.Goals as goal

pub returns-in-Some : goal.returns-in-Some
returns-in-Some c above =
    subst (λ (r : SetRows). IsGapFor r.rows c.args.member (length r.rows)) c.self.view_is
    (above_all c.self.inside.rows.items c.args.member c.in-Some.last.now c.self.invariant.rising (c.in-Some.ensures.value ∙ ap (λ rows. slice_get rows (length rows - 1)) c.deref.ensures.value) (grind (arith, nat_tests)))
