use Rattle.bit_planes.proofs.RowLaws.{same_rows}
use Rattle.bit_planes.proofs.laws.rows_equal_by_look_up.Goals as goal

pub returns : goal.returns
returns c = same_rows
