use Rattle.csv_ingest.proofs.Progress.{read_step}
use Rattle.csv_ingest.proofs.records.next_record.Goals as goal

pub returns : goal.returns
returns g c = record {
  reads = read_step g.R.Read.remaining _ _ c.in-Ok.found _ c.requires (c.in-Ok.ensures.ready c.requires.untrimmed) c.in-Ok.ensures.flexible
      (c.in-Ok.ensures.reads c.requires.untrimmed c.requires.ready);
}
