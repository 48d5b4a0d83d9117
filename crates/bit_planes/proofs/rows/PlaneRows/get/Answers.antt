use Rattle.std.proofs.Common.{◌≡◌, subst, Some}
use Rattle.bit_planes.specs.SetRows.{IsValidRows, row_of}
use Rattle.bit_planes.proofs.Indices.{found_in, not_found}
use Rattle.bit_planes.proofs.RowLaws.{over_found}
use Rattle.bit_planes.proofs.rows.PlaneRows.get.Goals as goal

pub returns-in-Ok : goal.returns-in-Ok
returns-in-Ok c =
    let valid = subst IsValidRows c.self.view_is c.self.invariant in
    let value : row_of c.args.self.now c.args.member ≡ Some c.index.result.now.1 = found_in _ c.args.self.now c.args.member c.in-Ok.index c.index.result.now c.self.view_is c.self.invariant c.in-Ok.ensures.found c.index.ensures in
    record { value = value; partitions = over_found _ _ c.args.member _ valid.over value; valid = valid }

pub returns-in-Err-clause-value : goal.returns-in-Err-clause-value
returns-in-Err-clause-value c = not_found c.args.self.now.rows c.args.member c.in-Err.field-0 c.in-Err.ensures.absent
