-- Turns, one after another.
use Rattle.std.proofs.Common.{◌≡◌, ◌∙◌, ◌-◌, ◌<◌, ◌≤◌, ℕ, zero, suc, List, [], ◌∷◌, ◌++◌, length, take, drop, get_or, set, ap, arith, inl, inr, refl, subst, sym, length-take-le}
use Rattle.std.proofs.lemmas.Bool.{cases_lt}
use Rattle.std.proofs.lemmas.List.{get_or-append_right, get_or-drop, get_or-map, get_or-take, get_or_append_left, map-set, set-get_or}
use Rattle.key_counts.specs.Counts.{Entries}
use Rattle.csv_ingest.specs.Private.Pieces.{lent}
use Rattle.csv_ingest.specs.Private.Wanted.{taking}
use Rattle.key_stream.specs.Layouts.{HaveWorkedBy, WorkBy, WorksBy}
use Rattle.key_stream.specs.Rounds.{entries_in}
use Rattle.key_stream.specs.Turns.{InTurn, TakesTurn}
use Rattle.key_stream.specs.declared.worker.Chunks.{Chunks}
use Rattle.key_stream.specs.declared.worker.Layout.{Layout}
use Rattle.key_stream.specs.declared.worker.Turn.{Turn}
use Rattle.key_stream.specs.declared.worker.Worker.{Worker}

abbrev pub counts_of : Worker → Entries
counts_of worker = worker.counter.entries

-- one turn more
pub one-more : (Takes : Entries → Turn → Entries → Type 0) (start mid end : Entries) (turns : List Turn) (turn : Turn)
    → InTurn Takes start turns mid → Takes mid turn end → InTurn Takes start (turns ++ turn ∷ []) end
one-more Takes start mid end [] turn done next = (end, subst (λ e. Takes e turn end) (sym done) next, refl)
one-more Takes start mid end (first ∷ turns) turn done next = (done.0, done.1, one-more Takes done.0 mid end turns turn done.2 next)

-- a worker that changes nothing but its turns has the entries that it had
pub entries-stay : (workers : List Worker) (w : ℕ) (d next : Worker) → w < length workers → next.counter ≡ (get_or workers w d).counter → entries_in (set workers w next) ≡ entries_in workers
entries-stay workers w d next lt same =
    let e = counts_of d in
    let here : counts_of next ≡ get_or (entries_in workers) w e = ap (λ (c : _). c.entries) same ∙ sym (get_or-map counts_of workers w d e lt) in
    map-set counts_of workers w next ∙ ap (set (entries_in workers) w) here ∙ set-get_or (entries_in workers) w e

-- ---- a worker
pub no-work : (layout : Layout) (chunks : Chunks) (worker : Worker) → WorksBy layout chunks worker worker
unfolding WorksBy
no-work layout chunks worker = λ start done. done

pub no-turn : (layout : Layout) (chunks : Chunks) (old new : Worker) → new.turns.items ≡ old.turns.items → new.counter ≡ old.counter → WorksBy layout chunks old new
unfolding WorksBy
no-turn layout chunks old new turns counter = λ start done. rw (turns, counter) done

pub more-work : (layout : Layout) (chunks : Chunks) (a b c : Worker) → WorksBy layout chunks a b → WorksBy layout chunks b c → WorksBy layout chunks a c
unfolding WorksBy
more-work layout chunks a b c first then = λ start done. then start (first start done)

pub one-turn : (layout : Layout) (chunks : Chunks) (old new : Worker) (turn : Turn) → new.turns.items ≡ old.turns.items ++ turn ∷ []
    → TakesTurn layout.delimiter (taking layout.wanted.now) layout.header chunks.widths.now (lent chunks.texts.now) old.counter.entries turn new.counter.entries → WorksBy layout chunks old new
unfolding WorksBy
one-turn layout chunks old new turn grown takes = λ start done.
    let Takes = TakesTurn layout.delimiter (taking layout.wanted.now) layout.header chunks.widths.now (lent chunks.texts.now) in
    subst (λ turns. InTurn Takes start turns new.counter.entries) (sym grown) (one-more Takes start old.counter.entries new.counter.entries old.turns.items turn done takes)

-- ---- several workers
-- one, and the others
pub first-and-others : (layout : Layout) (chunks : Chunks) (workers : List Worker) (old new : Worker) (olds news : List Worker) → workers ≡ old ∷ olds → WorksBy layout chunks old new → WorkBy layout chunks olds news
    → WorkBy layout chunks workers (new ∷ news)
unfolding WorkBy
first-and-others layout chunks workers old new olds news whole one others = rw whole each
  where
    each : (i : ℕ) (d : Worker) → i < length (old ∷ olds) → WorksBy layout chunks (get_or (old ∷ olds) i d) (get_or (new ∷ news) i d)
    each zero d lt = one
    each (suc i) d lt = others i d (omega (arith, lt))

pub none-work : (layout : Layout) (chunks : Chunks) (workers : List Worker) → WorkBy layout chunks workers workers
unfolding WorkBy
none-work layout chunks workers = λ i d lt. no-work layout chunks (get_or workers i d)

-- the first n, while the others do nothing
pub first-work : (layout : Layout) (chunks : Chunks) (olds news : List Worker) (n : ℕ) → n ≤ length olds → length news ≡ length (take n olds) → WorkBy layout chunks (take n olds) news
    → WorkBy layout chunks olds (news ++ drop n olds)
unfolding WorkBy
first-work layout chunks olds news n few many each = λ i d lt.
    let long : length (take n olds) ≡ n = length-take-le n olds few in
    elim (cases_lt i n) [
      | inl below ↦
          let old : get_or (take n olds) i d ≡ get_or olds i d = get_or-take n olds i d below in
          let new : get_or (news ++ drop n olds) i d ≡ get_or news i d = get_or_append_left news (drop n olds) d i (omega (arith, below, many, long)) in
          rw (new, ← old) (each i d (omega (arith, below, long)))
      | inr above ↦
          let at : length news ≤ i = omega (arith, above, many, long) in
          let rest : get_or (news ++ drop n olds) i d ≡ get_or olds i d =
          get_or-append_right news (drop n olds) (length news) i d refl at ∙ get_or-drop n olds (i - length news) d ∙ ap (λ k. get_or olds k d) (omega (arith, above, many, long)) in
          rw rest (no-work layout chunks (get_or olds i d))
    ]

-- from no turn on
pub from-start : (layout : Layout) (chunks : Chunks) (olds mids news : List Worker) → length mids ≡ length olds → length news ≡ length mids → entries_in mids ≡ entries_in olds
    → ((i : ℕ) (d : Worker) → i < length mids → (get_or mids i d).turns.items ≡ []) → WorkBy layout chunks mids news → HaveWorkedBy layout chunks (entries_in olds) news
unfolding WorksBy WorkBy
from-start layout chunks olds mids news many same_many same none each = λ i d e lt.
    let before : i < length mids = omega (arith, lt, same_many) in
    let start : get_or (entries_in olds) i e ≡ counts_of (get_or mids i d) = ap (λ es. get_or es i e) (sym same) ∙ get_or-map counts_of mids i d e before in
    let empty = none i d before in
    each i d before (get_or (entries_in olds) i e)
    (subst (λ turns. InTurn (TakesTurn layout.delimiter (taking layout.wanted.now) layout.header chunks.widths.now (lent chunks.texts.now)) (get_or (entries_in olds) i e) turns (counts_of (get_or mids i d))) (sym empty) start)
