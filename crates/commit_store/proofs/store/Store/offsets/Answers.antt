use Rattle.std.proofs.Common.{rules}
use Rattle.commit_store.proofs.store.Store.offsets.Goals as goal

pub returns : goal.returns
returns c = search rules
