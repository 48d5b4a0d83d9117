-- What a step, in which one worker takes keys, does to what the workers have taken together.
use Rattle.std.proofs.Common.{◌≡◌, ◌∙◌, ◌<◌, ℕ, zero, suc, List, [], ◌∷◌, ◌++◌, length, get_or, set, sym, ap, subst, arith, false}
use Rattle.std.specs.List.{fold}
use Rattle.std.proofs.lemmas.List.Sums.{fold-append, sum_by-append, sum_by-set}
use Rattle.key_index.specs.Keys.{Key, distinct, with_key}
use Rattle.key_index.proofs.Firsts.{stays}
use Rattle.key_counts.specs.Counts.{AreInterned, Entries, Takes, no_entries, total_of}
use Rattle.key_counts.specs.Rounds.{AreKnown, HaveTaken}
use Rattle.key_counts.specs.Segments.{entries_of}
use Rattle.key_counts.specs.Private.TakingLaws.{all-known}

known-at : (keys : List Key) (workers : List Entries) (w : ℕ) → w < length workers → AreKnown keys workers → AreInterned (entries_of workers w).keys keys
known-at keys [] w lt all = absurd (omega (arith, lt))
known-at keys (worker ∷ workers) zero lt all = all.0
known-at keys (worker ∷ workers) (suc w) lt all = known-at keys workers w (omega (arith, lt)) all.1

interned-later : (known before more : List Key) → AreInterned known before → AreInterned known (fold with_key before more)
interned-later known before more all = λ k d lt. (stays before more (get_or known k d) (all k d lt)).0

known-later : (before more : List Key) (workers : List Entries) → AreKnown before workers → AreKnown (fold with_key before more) workers
known-later before more [] all = tt
known-later before more (worker ∷ workers) all = (interned-later worker.keys before more all.0, known-later before more workers all.1)

known-set : (before more : List Key) (workers : List Entries) (w : ℕ) (new : Entries) → AreKnown before workers → AreInterned new.keys (fold with_key before more)
    → AreKnown (fold with_key before more) (set workers w new)
known-set before more [] w new all own = tt
known-set before more (worker ∷ workers) zero new all own = (own, known-later before more workers all.1)
known-set before more (worker ∷ workers) (suc w) new all own = (interned-later worker.keys before more all.0, known-set before more workers w new all.1 own)

-- a step keeps what workers have taken together
pub step-taken : (taken order keys : List Key) (workers : List Entries) (w : ℕ) (new : Entries) → w < length workers → (t : Takes (entries_of workers w) new keys)
    → HaveTaken taken order workers → HaveTaken (taken ++ keys) (order ++ t.added) (set workers w new)
unfolding distinct
step-taken taken order keys workers w new lt t so =
    let before = distinct taken in
    let old = entries_of workers w in
    let known = known-at before workers w lt so.known in
    let first : fold with_key before keys ≡ fold with_key before t.added = t.order before known in
    let parts : distinct (taken ++ keys) ≡ fold with_key before keys = fold-append with_key [] taken keys in
    let own : AreInterned new.keys (fold with_key before keys) = rw t.grown (rw first (all-known before old.keys t.added known)) in
    record {
      same_order = fold-append with_key [] order t.added ∙ ap (λ ks. fold with_key ks t.added) so.same_order ∙ sym first ∙ sym parts;
      known = subst (λ ks. AreKnown ks (set workers w new)) (sym parts) (known-set before keys workers w new so.known own);
      counted = λ f.
          let a = sum_by-set (total_of f) workers w new (no_entries false) lt in
          let b = so.counted f in
          let c = sum_by-append f taken keys in
          let d = t.counted f in
          omega (arith, a, b, c, d);
    }
