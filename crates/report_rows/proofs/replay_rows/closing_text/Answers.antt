use Rattle.std.proofs.Common.{◌∙◌, ◌++◌, ap₂, append_assoc, sym}
use Rattle.report_rows.specs.Rows.{total_row}
use Rattle.report_rows.specs.ReplayRows.{appended_total, committed_total, listed_committed_rows, offset_rows, owner_rows}
use Rattle.report_rows.proofs.Replayed.{rows-concatenated}
use Rattle.report_rows.proofs.replay_rows.closing_text.Goals as goal

pub returns : goal.returns
returns g c text begun =
    let s = c.args.cluster.now in
    let owners = owner_rows c.args.topics.now s.group in
    let offsets = offset_rows c.args.topics.now s in
    let counted = listed_committed_rows c.args.top s.logs.keys s.store.counts in
    let total = total_row (committed_total s) (appended_total s) in
    let first = c.in_ok-all.ensures _ (c.in_ok-write_offsets.ensures _ (c.in_ok-write_owners.ensures text begun)) in
    c.in_ok-add_texts.ensures ∙ ap₂ (λ a b. a ++ b) first c.in_ok-texts.ensures
    ∙ sym (append_assoc ((text ++ owners) ++ offsets) counted total) ∙ rows-concatenated text owners offsets counted total
