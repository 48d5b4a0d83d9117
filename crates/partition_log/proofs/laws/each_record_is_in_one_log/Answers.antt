use Rattle.partition_log.proofs.Parted.{in_one_log}
use Rattle.partition_log.proofs.laws.each_record_is_in_one_log.Goals as goal

pub returns : goal.returns
returns c = in_one_log
