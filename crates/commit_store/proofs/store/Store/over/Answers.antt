use Rattle.std.proofs.Common.{◌∙◌, ap, get_or}
use Rattle.commit_store.proofs.Exact.{nothing-exact, zero-at}
use Rattle.commit_store.proofs.store.Store.over.Goals as goal

pub returns-clause-valid : goal.returns-clause-valid
returns-clause-valid c l =
    nothing-exact _ l
    (λ p. ap (λ offsets. get_or offsets p 0) c.in_ok-committed.ensures ∙ zero-at c.args.partitions p)
    (λ n. ap (λ counts. get_or counts n 0) c.in_ok-counts.ensures ∙ zero-at c.args.keys n)

pub returns-clause-offsets : goal.returns-clause-offsets
returns-clause-offsets c p = ap (λ offsets. get_or offsets p 0) c.in_ok-committed.ensures ∙ zero-at c.args.partitions p
