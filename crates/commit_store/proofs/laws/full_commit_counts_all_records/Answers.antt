use Rattle.commit_store.proofs.Exact.{all-counted}
use Rattle.commit_store.proofs.laws.full_commit_counts_all_records.Goals as goal

pub returns : goal.returns
returns c s l appended all logs x = all-counted s l appended x all.valid logs all.exact all.ends
