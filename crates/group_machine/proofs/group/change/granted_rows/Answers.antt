use Rattle.std.proofs.Common.{◌+◌, ◌∙◌, ap, sym, length, take}
use Rattle.bit_planes.specs.PartitionSet.{partitions_of}
use Rattle.bit_planes.specs.SetRows.{with_row}
use Rattle.group_machine.specs.Slots.{granted_in}
use Rattle.group_machine.proofs.ChangeLemmas.{mid, granted_over, rows_more, rows_same, rows_joined, rows_all}
use Rattle.group_machine.proofs.group.change.granted_rows.Goals as goal
use Rattle.group_machine.proofs.group.change.granted_rows.Goals.{in-Some+in_ok-put, in_default, in-Joins+in_ok-put-2, in_default-change}

pub put-requires : goal.put-requires
put-requires c =
    let e = c.in-Some.ensures in
    ap partitions_of (c.copy.ensures ∙ e.2) ∙ granted_over c.args.partitions c.args.change c.args.slots.now c.loop-index.index c.index-slots-index.result e.0 c.requires.valid c.loop-index-test.true c.index-slots-index.is e.1
    ∙ sym (ap (λ r. r.partitions) c.loop-index.invariant)

pub loop-index-preserved : goal.loop-index-preserved
loop-index-preserved c =
    let p = c.args.partitions in
    let slots = c.args.slots.now in
    let index = c.loop-index.index in
    elim c.match-granted.branch [
      | in-Some+in_ok-put w ↦
          let e = w.in-Some.ensures in
          w.rows-is ∙ w.in_ok-put.ensures.value
          ∙ ap (λ r. with_row r (index + 1) w.copy.result) c.loop-index.invariant
          ∙ ap (λ s. with_row (granted_in p (take index (mid c.args.change slots))) (index + 1) s) (w.copy.ensures ∙ e.2)
          ∙ rows_more p c.args.change slots index c.index-slots-index.result e.0 c.loop-index-test.true c.index-slots-index.is e.1
      | in_default w ↦
          w.rows-is ∙ c.loop-index.invariant
          ∙ rows_same p c.args.change slots index c.index-slots-index.result c.loop-index-test.true c.index-slots-index.is w.in_default.ensures
    ]

pub returns : goal.returns
returns c name =
    let p = c.args.partitions in
    let slots = c.args.slots.now in
    let index = c.loop-index.index in
    elim c.match-change.branch [
      | in-Joins+in_ok-put-2 w ↦
          w.rows-is ∙ w.in_ok-put-2.ensures.value
          ∙ ap (λ r. with_row r (length slots + 1) w.new.result) c.loop-index.invariant
          ∙ ap (λ s. with_row (granted_in p (take index (mid c.args.change slots))) (length slots + 1) s) w.new.ensures.value
          ∙ rows_joined p name c.args.change slots index w.in-Joins.is c.loop-index-test.false
      | in_default-change w ↦ w.rows-is ∙ c.loop-index.invariant ∙ rows_all p name c.args.change slots index w.in_default-change.not-Joins c.loop-index-test.false
    ]
