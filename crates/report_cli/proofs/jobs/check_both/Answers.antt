use Rattle.std.proofs.Common.{rules, refl}
use Rattle.report_cli.proofs.Answered.{cause-two}
use Rattle.report_cli.proofs.jobs.check_both.Goals as goal

pub returns : goal.returns
returns g c = record {
  writes = search rules;
  found = search rules;
  at_end = search rules;
  failures = search rules;
  cause =
      cause-two (g.Y.System.files c.args.system.now).HasFailed g.Y.File.Source.failures g.Y.Stdin.Source.failures (g.met.Y.System.failed_file_is_failure c.args.system.now) (g.met.Y.System.failed_stdin_is_failure c.args.system.now) c.check_both_text.result c.check_both_text.new.file.source c.check_both_text.new.script
      _ _ _ _ c.in_ok-file.ensures.failures c.in_ok-script.ensures.failures refl refl c.check_both_text.ensures.reads;
}
