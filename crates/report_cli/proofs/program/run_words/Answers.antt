use Rattle.report_cli.proofs.Answered.{match-result}
use Rattle.report_cli.proofs.program.run_words.Goals as goal

pub returns : goal.returns
returns g c = record {
  read = c.read_words-read.result;
  understood = match-result c.read_words-read.result _ _ c.read_words-read.ensures.job c.read_words-read.ensures.usage;
  bad_topics = c.read_words-read.ensures.topics;
  does = c.run_read.ensures;
}
