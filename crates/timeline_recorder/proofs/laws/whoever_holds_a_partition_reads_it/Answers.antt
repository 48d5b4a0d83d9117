use Rattle.timeline_recorder.proofs.Reading.{reads_it}
use Rattle.timeline_recorder.proofs.laws.whoever_holds_a_partition_reads_it.Goals as goal

pub returns : goal.returns
returns c = λ w m p v present held. reads_it w m p v present held
