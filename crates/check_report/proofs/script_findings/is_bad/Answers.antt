use Rattle.std.proofs.Common.{◌≡◌, ◌∙◌, ap, rules, sym}
use Rattle.script.specs.Replay.{is_bad}
use Rattle.check_report.proofs.Lines.{bad-line, read-line}
use Rattle.check_report.proofs.script_findings.is_bad.Goals as goal
use Rattle.check_report.proofs.script_findings.is_bad.Goals.{in-Ok, in-Err-BadLine, in-Err}

pub returns : goal.returns
returns c =
    let bytes : c.args.line.now.1.1 ≡ c.line.inside.bytes.now = search rules in
    elim c.match-parse_action.branch [
      | in-Ok w ↦ rw w.result-is (sym (ap (is_bad c.args.topics.now) bytes ∙ read-line c.args.topics.now _ _ _ w.in-Ok.ensures))
      | in-Err-BadLine w ↦ rw w.result-is (sym (ap (is_bad c.args.topics.now) bytes ∙ bad-line c.args.topics.now _ _ _ (rw w.in-Err-BadLine.field-0-is at w.in-Err-BadLine.ensures)))
      | in-Err w ↦ rw w.result-is tt
    ]
