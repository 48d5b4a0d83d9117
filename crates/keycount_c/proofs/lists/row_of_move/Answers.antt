use Rattle.std.proofs.Common.{rules}
use Rattle.keycount_c.proofs.lists.row_of_move.Goals as goal

pub returns : goal.returns
returns c = search rules
