use Rattle.commit_store.proofs.Exact.{all-counted}
use Rattle.world.proofs.laws.full_commit_counts_all_records.Goals as goal

pub returns : goal.returns
returns c = λ w appended full x. all-counted w.cluster.store w.cluster.logs appended x full.valid.cluster.logs full.logs full.valid.cluster.exact full.ends
