use Rattle.std.proofs.Common.{◌∙◌, ap, sym}
use Rattle.bit_planes.specs.SetRows.{members}
use Rattle.keycount_c.proofs.Owning.{members_in}
use Rattle.keycount_c.proofs.owners.withheld_rows.Goals as goal

pub withhold_in_place-requires-clause-members : goal.withhold_in_place-requires-clause-members
withhold_in_place-requires-clause-members c =
    let ms = c.args.members.now in
    ap members c.in_ok-rows.ensures.value ∙ members_in ms c.args.target.now ∙ sym (ap members c.in_ok-owned.ensures.value ∙ members_in ms c.args.owners.now)
