use Rattle.std.proofs.Common.{rules, refl}
use Rattle.lane_words.specs.declared.Refusal.TheVariants as r
use Rattle.report_cli.proofs.Answered.{cause-of-fault, same-fault}
use Rattle.report_cli.proofs.jobs.draw.Goals as goal

pub returns-in_err-draw_text : goal.returns-in_err-draw_text
returns-in_err-draw_text g c =
    let answer = c.from_residual-in_err-draw_text in
    let fault = c.in_err-draw_text.field-0.0 in
    record {
      writes = search rules;
      found = search rules;
      at_end = search rules;
      failures = search rules;
      cause = λ e.
          cause-of-fault (g.Y.System.files c.args.system.now).HasFailed g.Y.File.Source.failures g.Y.Stdin.Source.failures (g.met.Y.System.failed_file_is_failure c.args.system.now) (g.met.Y.System.failed_stdin_is_failure c.args.system.now) fault c.draw_text.new.file.source c.draw_text.new.script
          _ _ _ _ c.in_ok-file.ensures.failures c.in_ok-script.ensures.failures refl refl c.in_err-draw_text.ensures.reads (same-fault answer.result fault r.ReadFailed (search rules) e);
    }
