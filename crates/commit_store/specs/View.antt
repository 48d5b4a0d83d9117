-- The view of a store's fields.
use Rattle.commit_store.specs.Commits.{Commits}
use Rattle.commit_store.specs.declared.store.Store.TheInside.{Inside}

abbrev pub store_view : Inside → Commits
store_view a =
    record { offsets = a.committed.items; counts = a.counts.counts; capacity = a.counts.capacity }
