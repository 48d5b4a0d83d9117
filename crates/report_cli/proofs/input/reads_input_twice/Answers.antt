use Rattle.std.proofs.Common.{rules}
use Rattle.report_cli.proofs.input.reads_input_twice.Goals as goal

pub returns-then-is_standard_input : goal.returns-then-is_standard_input
returns-then-is_standard_input c = search rules
