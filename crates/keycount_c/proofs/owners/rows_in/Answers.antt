use Rattle.std.proofs.Common.{ℕ, ◌∙◌, ap, get_or, sym, take}
use Rattle.bit_planes.specs.PartitionSet.{PartitionSet, partitions_of}
use Rattle.bit_planes.specs.SetRows.{SetRows, with_row}
use Rattle.keycount_c.specs.Owners.{rows_in}
use Rattle.keycount_c.proofs.Owning.{partitions_row, rows_next}
use Rattle.keycount_c.proofs.owners.rows_in.Goals as goal

pub put-requires : goal.put-requires
put-requires c =
    let m : ℕ = get_or c.args.members.now c.loop-i.i 0 in
    ap partitions_of c.row_in.ensures ∙ partitions_row c.args.owners.now m ∙ sym (ap (λ (r : SetRows). r.partitions) c.loop-i.invariant)

pub loop-i-preserved : goal.loop-i-preserved
loop-i-preserved c =
    let ms = c.args.members.now in
    let owners = c.args.owners.now in
    let m : ℕ = get_or ms c.loop-i.i 0 in
    c.in_ok-put.ensures.value
    ∙ ap (λ (r : SetRows). with_row r m c.row_in.result) c.loop-i.invariant
    ∙ ap (λ (s : PartitionSet). with_row (rows_in (take c.loop-i.i ms) owners) m s) c.row_in.ensures
    ∙ rows_next ms owners c.loop-i.i c.requires.members c.loop-i-test.true
