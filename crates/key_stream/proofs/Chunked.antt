-- A worker and its chunk.
use Rattle.std.proofs.Common.{◌≡◌, ◌∙◌, ◌++◌, List, [], sym, ap, subst}
use Rattle.key_index.specs.Keys.{Key}
use Rattle.key_counts.specs.Counts.{CounterState, Takes, TakesLater}
use Rattle.key_counts.specs.Private.TakingLaws.{takes-then}

-- none waited before a chunk, and those that wait behind it are counted
pub all-counted : (old mid after end : CounterState) (keys : List Key) → mid.entries ≡ old.entries → mid.waiting ≡ [] → TakesLater mid keys after
    → Takes after.entries end.entries after.waiting → Takes old.entries end.entries keys
all-counted old mid after end keys same none later rest =
    let all = takes-then mid.entries after.entries end.entries later.counted after.waiting later.takes rest in
    subst (λ entries. Takes entries end.entries keys) same
    (subst (λ ks. Takes mid.entries end.entries ks) (sym later.order ∙ ap (λ waiting. waiting ++ keys) none) all)
