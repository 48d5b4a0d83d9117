use Rattle.std.proofs.Common.{◌∙◌, ap, sym, subst}
use Rattle.bit_planes.specs.SetRows.{SetRows, IsValidRows}
use Rattle.bit_planes.proofs.Less.{less_there, less_nowhere, below_there}
use Rattle.bit_planes.proofs.rows.PlaneRows.remove_from.Goals as goal

pub remove_all-requires : goal.remove_all-requires
remove_all-requires c = below_there _ c.args.self.now c.args.member c.in-Ok.index c.index_mut.result.now c.self.view_is c.self.invariant c.in-Ok.ensures.found c.index_mut.ensures.value ∙ sym c.requires

pub invariant_of-self : goal.invariant_of-self
invariant_of-self c = (less_there _ c.args.self.now c.args.member c.in-Ok.index c.args.plane.now c.remove_all.new.self c.index_mut.result.now c.self.view_is c.self.invariant c.in-Ok.ensures.found c.index_mut.ensures.value c.remove_all.ensures.value).valid

pub returns-in-Ok : goal.returns-in-Ok
returns-in-Ok c =
    let less = less_there _ c.args.self.now c.args.member c.in-Ok.index c.args.plane.now c.remove_all.new.self c.index_mut.result.now c.self.view_is c.self.invariant c.in-Ok.ensures.found c.index_mut.ensures.value c.remove_all.ensures.value in
    record { value = less.value; row = less.this; others = less.others; partitions = ap (λ (r : SetRows). r.partitions) less.value; valid = less.valid }

pub returns-in_default-clause-value : goal.returns-in_default-clause-value
returns-in_default-clause-value c = (less_nowhere c.args.self.now c.args.member c.in_default.field-0 c.args.plane.now (subst IsValidRows c.self.view_is c.self.invariant) c.in_default.ensures.absent).value

pub returns-in_default-clause-row : goal.returns-in_default-clause-row
returns-in_default-clause-row c = (less_nowhere c.args.self.now c.args.member c.in_default.field-0 c.args.plane.now (subst IsValidRows c.self.view_is c.self.invariant) c.in_default.ensures.absent).this
