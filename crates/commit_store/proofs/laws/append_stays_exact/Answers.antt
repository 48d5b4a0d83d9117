use Rattle.commit_store.proofs.Exact.{append-exact}
use Rattle.commit_store.proofs.laws.append_stays_exact.Goals as goal

pub returns : goal.returns
returns c = append-exact
