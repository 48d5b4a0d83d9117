use Rattle.std.proofs.Common.{◌≡◌, ◌∙◌, ap, drop, sym}
use Rattle.std.proofs.lemmas.Result.{IfOk-weaker}
use Rattle.group_machine.specs.Cluster.{ClusterState}
use Rattle.trace_report.proofs.RowCells.{adds_more}
use Rattle.trace_report.proofs.rows.push_after.Goals as goal

pub returns : goal.returns
returns c =
    let cluster = c.cluster-cluster.ensures.cluster in
    let generation = rw (c.from.ensures, c.generation.ensures, cluster) at c.in_ok-push_number.ensures in
    let phase = rw (c.phase_word.ensures, c.phase.ensures, cluster) at c.in_ok-push_cell.ensures in
    let waiting = rw (c.after_first.ensures, c.as_slice.ensures.value, c.requires.waiting) at c.in_ok-push_cell-2.ensures in
    let granted = rw (c.after_first-2.ensures, c.as_slice-2.ensures.value, c.requires.granted) at c.in_ok-push_cell-3.ensures in
    let unread = rw (c.after_first-3.ensures, c.as_slice-3.ensures.value, c.requires.unread) at c.in_ok-push_cell-4.ensures in
    IfOk-weaker c.push_number-2.result _ _ (λ _ last.
    let lag = rw (c.lag.ensures, cluster) at last in
    adds_more c.args.row.now c.push_number.new.row c.push_number-2.new.row _ _ generation
    (adds_more c.push_number.new.row c.push_cell.new.row c.push_number-2.new.row _ _ phase
    (adds_more c.push_cell.new.row c.push_cell-2.new.row c.push_number-2.new.row _ _ waiting
    (adds_more c.push_cell-2.new.row c.push_cell-3.new.row c.push_number-2.new.row _ _ granted
    (adds_more c.push_cell-3.new.row c.push_cell-4.new.row c.push_number-2.new.row _ _ unread lag))))) c.push_number-2.ensures
