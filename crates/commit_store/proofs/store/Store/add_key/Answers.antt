use Rattle.std.proofs.Common.{◌≡◌, ◌-◌, ◌++◌, ◌∷◌, [], rules, subst, sym}
use Rattle.commit_store.specs.Commits.{Commits, IsExact}
use Rattle.commit_store.specs.View.{store_view}
use Rattle.commit_store.proofs.Exact.{counter-exact}
use Rattle.commit_store.proofs.store.Store.add_key.Goals as goal

pub returns-clause-valid : goal.returns-clause-valid
returns-clause-valid c l e =
    let old = c.args.self.now in
    let new : store_view (record { committed = c.self.inside.committed; counts = c.add_key.new.self }) ≡ record old { counts = old.counts ++ 0 ∷ []; capacity = old.capacity - 1 } = search rules in
    subst (λ (s : Commits). IsExact s l) (sym new) (counter-exact old (old.capacity - 1) l e)
