use Rattle.std.proofs.Common.{◌∙◌, Option, ap, sym}
use Rattle.bit_planes.specs.PartitionSet.{PartitionSet, is_in}
use Rattle.bit_planes.specs.SetRows.{set_or_empty}
use Rattle.bit_planes.proofs.Sets.{in_empty}
use Rattle.keycount_c.proofs.owners.has.Goals as goal

pub returns-in-None : goal.returns-in-None
returns-in-None c =
    let p = c.args.rows.now.partitions in
    sym (ap (λ (row : Option PartitionSet). is_in (set_or_empty p row) c.args.q) c.in-None.ensures.value ∙ in_empty p c.args.q)
