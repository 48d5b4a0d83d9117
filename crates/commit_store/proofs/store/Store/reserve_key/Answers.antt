use Rattle.std.proofs.Common.{rules}
use Rattle.commit_store.proofs.store.Store.reserve_key.Goals as goal

pub returns-clause-capacity : goal.returns-clause-capacity
returns-clause-capacity c = search rules
