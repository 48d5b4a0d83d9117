use Rattle.std.proofs.Common.{arith}
use Rattle.command_line.proofs.Entered.{number_in}
use Rattle.command_line.proofs.words.paths_and_options.Goals as goal

pub options_of-requires-clause-batch : goal.options_of-requires-clause-batch
options_of-requires-clause-batch c = number_in _ 500 1000000 _ (omega arith, omega arith) c.requires.rows.batch c.number_of-batch.ensures
