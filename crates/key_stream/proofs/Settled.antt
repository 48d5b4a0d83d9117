-- The turns of a round are settled, chunk by chunk.
use Rattle.std.proofs.Common.{◌≡◌, ◌∙◌, ◌+◌, ◌<◌, ◌≤◌, ℕ, suc, List, [], ◌∷◌, ◌++◌, Bool, false, Option, Some, None, Ok, Err, length, take, drop, get_or, set, sym, ap, ap₂, refl, subst, arith, inl, inr, append-nil, length-append, length-set, get_or-set_other, get_or-set_same}
use Rattle.std.specs.Prelude.{◌⊎◌, if◌then◌else◌}
use Rattle.std.proofs.lemmas.Bool.{cases_eq, cases_lt, eq-eqb, ne_eqb}
use Rattle.std.proofs.lemmas.List.{drop_all, drop_more, get_or-take, get_or_default, get_or_past}
use Rattle.lane_words.specs.declared.Refusal.{Refusal}
use Rattle.lane_words.specs.declared.Refusal.TheVariants as r
use Rattle.csv_ingest.specs.KeyFile.{Taking}
use Rattle.csv_ingest.specs.Pieces.{ArePieces, file_records, later_fault}
use Rattle.csv_ingest.specs.Private.Pieces.{bytes_of}
use Rattle.csv_ingest.specs.Rounds.{HasRead, IsSplitPoint, chunk_keys, width_after_all}
use Rattle.csv_ingest.proofs.Rounds.{none_read, piece_fault, read_piece, records_read, split-front}
use Rattle.key_index.specs.Keys.{Key}
use Rattle.key_counts.specs.Counts.{Entries, Takes, no_entries}
use Rattle.key_counts.specs.Recorded.{AreRecorded}
use Rattle.key_counts.specs.Rounds.{AreSegmented, HaveTaken}
use Rattle.key_counts.specs.Segments.{entries_of, keys_of}
use Rattle.key_counts.specs.declared.merging.Segment.{Segment}
use Rattle.key_counts.proofs.Recorded.{step-recorded, step-recorded-same}
use Rattle.key_counts.proofs.Segmented.{step-same, step-segmented}
use Rattle.key_stream.specs.Chunks.{TakesChunk}
use Rattle.key_stream.specs.Counting.{HasMarks, IsCountedOf}
use Rattle.key_stream.specs.Rounds.{entries_in}
use Rattle.key_stream.specs.Settling.{AreChunksOf, AreSettled, Fails, HasTurnFault, IsNextTurn, Settles, SettlesTurn, records_before, with_segment}
use Rattle.key_stream.specs.Turns.{HaveWorked, InTurn, TakesTurn}
use Rattle.key_stream.specs.declared.counting.Counting.{Counting}
use Rattle.key_stream.specs.declared.worker.Turn.{Turn}
use Rattle.key_stream.specs.declared.worker.Worker.{Worker}

abbrev none : Entries
none = no_entries false

some-worker : (workers : List Worker) (w : ℕ) → w < length workers → Worker
some-worker [] w lt = absurd (omega (arith, lt))
some-worker (worker ∷ workers) w lt = worker

-- ---- what the next turn brings
-- segments, and those of the worker's new entries
segmented : (taken keys : List Key) (states : List Entries) (w : ℕ) (mid : Entries) (segments : List Segment) (marks : List ℕ) (to : ℕ) → w < length states → Takes (entries_of states w) mid keys
    → HaveTaken taken (keys_of states segments) states → AreSegmented states segments marks → to ≡ length mid.keys
    → HaveTaken (taken ++ keys) (keys_of (set states w mid) (with_segment segments w (get_or marks w 0) to)) (set states w mid)
    × AreSegmented (set states w mid) (with_segment segments w (get_or marks w 0) to) (set marks w to)
segmented taken keys states w mid segments marks to lt t have so is =
    let from = get_or marks w 0 in
    let P = λ (ss : List Segment). HaveTaken (taken ++ keys) (keys_of (set states w mid) ss) (set states w mid) × AreSegmented (set states w mid) ss (set marks w to) in
    elim (cases_eq from to) [
      | inl e ↦
          let all : with_segment segments w from to ≡ segments = ap (λ b. if b then segments else segments ++ (record { worker = w; from = from; to = to }) ∷ []) (eq-eqb from to e) in
          subst P (sym all) (rw is (step-same taken keys states w mid segments marks lt t have so (e ∙ is)))
      | inr ne ↦
          let all : with_segment segments w from to ≡ segments ++ (record { worker = w; from = from; to = to }) ∷ [] = ap (λ b. if b then segments else segments ++ (record { worker = w; from = from; to = to }) ∷ []) (ne_eqb from to ne) in
          subst P (sym all) (rw is (step-segmented taken keys states w mid segments marks lt t have so))
    ]

-- chunks, and that of its new records
recorded : (taken keys : List Key) (coded : Bool) (states : List Entries) (w : ℕ) (mid : Entries) (chunks : List Segment) (ends : List ℕ) (to : ℕ) → w < length states → Takes (entries_of states w) mid keys
    → AreRecorded taken coded states chunks ends → to ≡ length mid.codes
    → AreRecorded (taken ++ keys) coded (set states w mid) (with_segment chunks w (get_or ends w 0) to) (set ends w to)
recorded taken keys coded states w mid chunks ends to lt t so is =
    let from = get_or ends w 0 in
    let P = λ (cs : List Segment). AreRecorded (taken ++ keys) coded (set states w mid) cs (set ends w to) in
    elim (cases_eq from to) [
      | inl e ↦
          let all : with_segment chunks w from to ≡ chunks = ap (λ b. if b then chunks else chunks ++ (record { worker = w; from = from; to = to }) ∷ []) (eq-eqb from to e) in
          subst P (sym all) (rw is (step-recorded-same taken keys coded states w mid chunks ends lt t so (e ∙ is)))
      | inr ne ↦
          let all : with_segment chunks w from to ≡ chunks ++ (record { worker = w; from = from; to = to }) ∷ [] = ap (λ b. if b then chunks else chunks ++ (record { worker = w; from = from; to = to }) ∷ []) (ne_eqb from to ne) in
          subst P (sym all) (rw is (step-recorded taken keys coded states w mid chunks ends lt t so))
    ]

-- ---- the first k chunks are settled
-- in these states the workers were after them, and the rest of their turns follows
pub record Stage (delimiter : ℕ) (wanted : Taking) (header : Bool) (widths : List (Option ℕ)) (chunks : List (List ℕ)) (old : Counting) (starts : List Entries) (k : ℕ) (settled : List ℕ) (now : Counting) : Type 0 where
  pub states : List Entries
  pub many : length states ≡ length old.workers.items
  pub turns : (w : ℕ) (d : Worker) (none : Entries) → w < length old.workers.items
      → InTurn (TakesTurn delimiter wanted header widths chunks) (get_or states w none) (drop (get_or settled w 0) (get_or old.workers.items w d).turns.items) (get_or old.workers.items w d).counter.entries
  pub counted : (pieces : List (List ℕ)) (read text : List ℕ) → AreChunksOf delimiter old.round.width widths chunks pieces → ArePieces delimiter text pieces → IsSplitPoint delimiter read text
      → IsCountedOf delimiter wanted header read starts old
      → (now.round.width ≡ get_or widths k None) × IsCountedOf delimiter wanted header (read ++ bytes_of (take k pieces)) states now

pub record IsSettling (delimiter : ℕ) (wanted : Taking) (header : Bool) (widths : List (Option ℕ)) (chunks : List (List ℕ)) (old : Counting) (k : ℕ) (settled : List ℕ) (now : Counting) : Type 0 where
  pub workers : now.workers ≡ old.workers
  pub coded : now.coded ≡ old.coded
  pub marks : HasMarks now
  pub settled_many : length settled ≡ length old.workers.items
  pub stage : (starts : List Entries) → length starts ≡ length old.workers.items → HaveWorked delimiter wanted header widths chunks starts old.workers.items
      → Stage delimiter wanted header widths chunks old starts k settled now

zero-at : (settled : List ℕ) (w : ℕ) → ((i d : ℕ) → i < length settled → get_or settled i d ≡ 0) → get_or settled w 0 ≡ 0
zero-at [] w zeros = refl
zero-at (n ∷ settled) w zeros =
    elim (cases_lt w (length (n ∷ settled))) [
      | inl lt ↦ zeros w 0 lt
      | inr le ↦ get_or_past (n ∷ settled) w 0 le
    ]

pub settling-none : (delimiter : ℕ) (wanted : Taking) (header : Bool) (widths : List (Option ℕ)) (chunks : List (List ℕ)) (old : Counting) (settled : List ℕ) → HasMarks old
    → length settled ≡ length old.workers.items → ((i d : ℕ) → i < length settled → get_or settled i d ≡ 0)
    → IsSettling delimiter wanted header widths chunks old 0 settled old
settling-none delimiter wanted header widths chunks old settled marks many zeros = record {
  workers = refl;
  coded = refl;
  marks = marks;
  settled_many = many;
  stage = λ starts same worked. record {
    states = starts;
    many = same;
    turns = λ w d none lt. rw (zero-at settled w zeros) (worked w d none lt);
    counted = λ pieces read text parts are at so. (sym (parts.widths_are 0 (omega arith)), rw (append-nil read) so);
  };
}

-- the chunk of the next turn
record IsNext (delimiter : ℕ) (wanted : Taking) (header : Bool) (widths : List (Option ℕ)) (chunks : List (List ℕ)) (workers : List Worker) (states : List Entries) (settled : List ℕ) (w : ℕ) (turn : Turn) : Type 0 where
  pub mid : Entries
  pub takes : TakesTurn delimiter wanted header widths chunks (entries_of states w) turn mid
  pub rest : (d : Worker) → InTurn (TakesTurn delimiter wanted header widths chunks) mid (drop (get_or settled w 0 + 1) (get_or workers w d).turns.items) (get_or workers w d).counter.entries

next-of : (delimiter : ℕ) (wanted : Taking) (header : Bool) (widths : List (Option ℕ)) (chunks : List (List ℕ)) (workers : List Worker) (states : List Entries) (settled : List ℕ) (index w : ℕ) (turn : Turn)
    → IsNextTurn workers settled index w turn
    → ((d : Worker) (none : Entries) → InTurn (TakesTurn delimiter wanted header widths chunks) (get_or states w none) (drop (get_or settled w 0) (get_or workers w d).turns.items) (get_or workers w d).counter.entries)
    → IsNext delimiter wanted header widths chunks workers states settled w turn
next-of delimiter wanted header widths chunks workers states settled index w turn next turns =
    let d = some-worker workers w next.worker in
    let place = get_or settled w 0 in
    let its = (get_or workers w d).turns.items in
    let here : drop place its ≡ turn ∷ drop (place + 1) its = drop_more its place turn (next.within d) ∙ ap (λ t. t ∷ drop (place + 1) its) (next.at d turn) in
    let taken : InTurn (TakesTurn delimiter wanted header widths chunks) (entries_of states w) (turn ∷ drop (place + 1) its) (get_or workers w d).counter.entries =
    subst (λ ts. InTurn (TakesTurn delimiter wanted header widths chunks) (entries_of states w) ts (get_or workers w d).counter.entries) here (turns d none) in
    record {
      mid = taken.0;
      takes = taken.1;
      rest = λ other. subst (λ (worker : Worker). InTurn (TakesTurn delimiter wanted header widths chunks) taken.0 (drop (place + 1) worker.turns.items) worker.counter.entries)
          (get_or_default workers w d other next.worker) taken.2;
    }

-- ---- one turn more
counted-more : (delimiter : ℕ) (wanted : Taking) (header : Bool) (widths : List (Option ℕ)) (chunks pieces : List (List ℕ)) (first : Option ℕ) (read text : List ℕ) (states : List Entries) (mid : Entries) (k w : ℕ) (turn : Turn) (now next : Counting)
    → AreChunksOf delimiter first widths chunks pieces → ArePieces delimiter text pieces → IsSplitPoint delimiter read text → k < length chunks → w < length states → turn.chunk ≡ k
    → TakesTurn delimiter wanted header widths chunks (entries_of states w) turn mid
    → SettlesTurn w turn (get_or widths (k + 1) None) now next → next.coded ≡ now.coded
    → now.round.width ≡ get_or widths k None → IsCountedOf delimiter wanted header (read ++ bytes_of (take k pieces)) states now
    → (next.round.width ≡ get_or widths (k + 1) None) × IsCountedOf delimiter wanted header (read ++ bytes_of (take (k + 1) pieces)) (set states w mid) next
counted-more delimiter wanted header widths chunks pieces first read text states mid k w turn now next parts are at lt in_states is takes settles coded width so =
    let piece : k < length pieces = omega (arith, lt, parts.few) in
    let chunk : get_or chunks turn.chunk [] ≡ get_or pieces k [] =
    ap₂ (λ cs i. get_or cs i []) parts.first is ∙ get_or-take (length chunks) pieces k [] lt in
    let wide : get_or widths turn.chunk None ≡ width_after_all delimiter first (take k pieces) = ap (λ i. get_or widths i None) is ∙ parts.widths_are k (omega (arith, lt)) in
    let took : TakesChunk delimiter wanted header (get_or widths turn.chunk None) (get_or chunks turn.chunk []) (entries_of states w) mid (Ok settles.number) =
    subst (λ f. TakesChunk delimiter wanted header (get_or widths turn.chunk None) (get_or chunks turn.chunk []) (entries_of states w) mid f) settles.found takes.0 in
    let keys = took.0 in
    let found : chunk_keys delimiter wanted header (width_after_all delimiter first (take k pieces)) (get_or pieces k []) ≡ Ok keys =
    ap₂ (λ x c. chunk_keys delimiter wanted header x c) (sym wide) (sym chunk) ∙ took.1 in
    let before : HasRead delimiter wanted header (read ++ bytes_of (take k pieces)) (width_after_all delimiter first (take k pieces)) so.so.records so.keys =
    subst (λ x. HasRead delimiter wanted header (read ++ bytes_of (take k pieces)) x so.so.records so.keys) (width ∙ parts.widths_are k (omega (arith, lt))) so.so.so in
    let after = read_piece delimiter wanted header pieces read text k first so.so.records so.keys keys are piece at before found in
    let wide_next : next.round.width ≡ width_after_all delimiter first (take (k + 1) pieces) = settles.width_is ∙ parts.widths_are (k + 1) (omega (arith, lt)) in
    let segments = segmented so.keys keys states w mid now.segments.items now.marks.items turn.entries in_states took.3 so.taken so.parts takes.1 in
    let records = recorded so.keys keys now.coded states w mid now.chunks.items now.ends.items turn.records in_states took.3 so.recorded takes.2 in (
      settles.width_is,
      record {
        keys = so.keys ++ keys;
        so = record {
          records = so.so.records + length (file_records delimiter (get_or pieces k []));
          so = rw wide_next after;
          counted = let n = settles.keys in let m = so.so.counted in let l = length-append so.keys keys in omega (arith, n, m, l, took.2);
        };
        taken = rw settles.segments segments.0;
        parts = rw (settles.segments, settles.marks) segments.1;
        recorded = rw (settles.chunks, settles.ends, coded) records;
      },
    )

pub settling-more : (delimiter : ℕ) (wanted : Taking) (header : Bool) (widths : List (Option ℕ)) (chunks : List (List ℕ)) (old : Counting) (k w : ℕ) (turn : Turn) (settled : List ℕ) (now next : Counting) → k < length chunks
    → IsNextTurn now.workers.items settled k w turn → SettlesTurn w turn (get_or widths (k + 1) None) now next → next.workers ≡ now.workers → next.coded ≡ now.coded → HasMarks next
    → IsSettling delimiter wanted header widths chunks old k settled now → IsSettling delimiter wanted header widths chunks old (k + 1) (set settled w (get_or settled w 0 + 1)) next
settling-more delimiter wanted header widths chunks old k w turn settled now next lt turn_is settles same coded marks so = record {
  workers = same ∙ so.workers;
  coded = coded ∙ so.coded;
  marks = marks;
  settled_many = length-set settled w (get_or settled w 0 + 1) ∙ so.settled_many;
  stage = λ starts many worked.
      let before = so.stage starts many worked in
      let workers = old.workers.items in
      let is : IsNextTurn workers settled k w turn = subst (λ (v : _). IsNextTurn v.items settled k w turn) so.workers turn_is in
      let its = next-of delimiter wanted header widths chunks workers before.states settled k w turn is (λ d none. before.turns w d none is.worker) in
      let in_states : w < length before.states = omega (arith, is.worker, before.many) in
      record {
        states = set before.states w its.mid;
        many = length-set before.states w its.mid ∙ before.many;
        turns = λ v d none below.
            elim (cases_eq w v) [
              | inl e ↦
                  let state : get_or (set before.states w its.mid) w none ≡ its.mid = get_or-set_same before.states w its.mid none in_states in
                  let place : get_or (set settled w (get_or settled w 0 + 1)) w 0 ≡ get_or settled w 0 + 1 = get_or-set_same settled w (get_or settled w 0 + 1) 0 is.place in
                  subst (λ u. InTurn (TakesTurn delimiter wanted header widths chunks) (get_or (set before.states w its.mid) u none) (drop (get_or (set settled w (get_or settled w 0 + 1)) u 0) (get_or workers u d).turns.items) (get_or workers u d).counter.entries) e
                  (rw (state, place) (its.rest d))
              | inr ne ↦
                  rw (get_or-set_other before.states w v its.mid none (λ e. ne (sym e)), get_or-set_other settled w v (get_or settled w 0 + 1) 0 (λ e. ne (sym e))) (before.turns v d none below)
            ];
        counted = λ pieces read text parts are at first.
            let done = before.counted pieces read text parts are at first in
            counted-more delimiter wanted header widths chunks pieces old.round.width read text before.states its.mid k w turn now next parts are at lt in_states is.chunk its.takes settles coded done.0 done.1;
      };
}

-- ---- all turns are settled
same-entries : (states : List Entries) (workers : List Worker) → length states ≡ length workers
    → ((w : ℕ) (d : Worker) (none : Entries) → w < length workers → get_or states w none ≡ (get_or workers w d).counter.entries) → states ≡ entries_in workers
same-entries [] [] many each = refl
same-entries [] (worker ∷ workers) many each = absurd (omega (arith, many))
same-entries (state ∷ states) [] many each = absurd (omega (arith, many))
same-entries (state ∷ states) (worker ∷ workers) many each =
    ap₂ (λ e es. e ∷ es) (each 0 worker state (omega arith)) (same-entries states workers (omega (arith, many)) (λ w d none lt. each (suc w) d none (omega (arith, lt))))

pub settled-all : (delimiter : ℕ) (wanted : Taking) (header : Bool) (widths : List (Option ℕ)) (chunks : List (List ℕ)) (old : Counting) (k : ℕ) (settled : List ℕ) (now : Counting) → k ≡ length chunks
    → AreSettled now.workers.items settled → IsSettling delimiter wanted header widths chunks old k settled now → Settles delimiter wanted header widths chunks old now
unfolding Settles
settled-all delimiter wanted header widths chunks old k settled now end all so = λ starts pieces read text many worked parts are at first.
    let stage = so.stage starts many worked in
    let done = stage.counted pieces read text parts are at first in
    let workers = old.workers.items in
    let same : workers ≡ now.workers.items = ap (λ (v : _). v.items) (sym so.workers) in
    let states : stage.states ≡ entries_in workers =
    same-entries stage.states workers stage.many (λ w d none lt.
    let its = (get_or workers w d).turns.items in
    let few : length its ≤ get_or settled w 0 = subst (λ ws. length (get_or ws w d).turns.items ≤ get_or settled w 0) (sym same) (all w d (subst (λ ws. w < length ws) same lt)) in
    subst (λ ts. InTurn (TakesTurn delimiter wanted header widths chunks) (get_or stage.states w none) ts (get_or workers w d).counter.entries) (drop_all (get_or settled w 0) its few) (stage.turns w d none lt)) in
    rw (← end, ← states ∙ ap entries_in same) done.1

-- ---- a turn found a fault
before-is : (delimiter : ℕ) (wanted : Taking) (header : Bool) (read : List ℕ) (width : Option ℕ) (records : ℕ) (keys : List (List ℕ)) → HasRead delimiter wanted header read width records keys
    → records ≡ records_before width header (length keys)
before-is delimiter wanted header read None records keys so = (none_read delimiter wanted header read records keys so).0
before-is delimiter wanted header read (Some width) records keys so = records_read delimiter wanted header read width records keys so

pub no-memory : (delimiter : ℕ) (wanted : Taking) (header : Bool) (widths : List (Option ℕ)) (chunks : List (List ℕ)) (old : Counting) (e : Refusal) → e ≡ r.Memory → Fails delimiter wanted header widths chunks old e
unfolding Fails
no-memory delimiter wanted header widths chunks old e is = λ starts many worked. inl is

pub turn-fails : (delimiter : ℕ) (wanted : Taking) (header : Bool) (widths : List (Option ℕ)) (chunks : List (List ℕ)) (old : Counting) (k w : ℕ) (turn : Turn) (settled : List ℕ) (now : Counting) (e : Refusal) → k < length chunks
    → IsNextTurn now.workers.items settled k w turn → HasTurnFault turn (get_or widths k None) header now e
    → IsSettling delimiter wanted header widths chunks old k settled now → Fails delimiter wanted header widths chunks old e
unfolding Fails
turn-fails delimiter wanted header widths chunks old k w turn settled now e lt turn_is f so = λ starts many worked.
    let stage = so.stage starts many worked in
    let workers = old.workers.items in
    let is : IsNextTurn workers settled k w turn = subst (λ (v : _). IsNextTurn v.items settled k w turn) so.workers turn_is in
    let its = next-of delimiter wanted header widths chunks workers stage.states settled k w turn is (λ d none. stage.turns w d none is.worker) in
    let took : TakesChunk delimiter wanted header (get_or widths turn.chunk None) (get_or chunks turn.chunk []) (entries_of stage.states w) its.mid (Err f.fault) =
    subst (λ found. TakesChunk delimiter wanted header (get_or widths turn.chunk None) (get_or chunks turn.chunk []) (entries_of stage.states w) its.mid found) f.found its.takes.0 in
    elim took [
      | inl memory ↦ inl (f.counted ∙ ap (later_fault (records_before (get_or widths k None) header now.round.keys)) memory)
      | inr bad ↦ inr (λ pieces read text more parts are at end first.
          let first_width = old.round.width in
          let done = stage.counted pieces read text parts are (split-front delimiter read text more at) first in
          let so_far = done.1 in
          let piece : k < length pieces = omega (arith, lt, parts.few) in
          let chunk : get_or chunks turn.chunk [] ≡ get_or pieces k [] =
          ap₂ (λ cs i. get_or cs i []) parts.first is.chunk ∙ get_or-take (length chunks) pieces k [] lt in
          let at_k : get_or widths k None ≡ width_after_all delimiter first_width (take k pieces) = parts.widths_are k (omega (arith, lt)) in
          let found : chunk_keys delimiter wanted header (get_or widths k None) (get_or pieces k []) ≡ Err f.fault =
          ap₂ (λ x c. chunk_keys delimiter wanted header x c) (ap (λ i. get_or widths i None) (sym is.chunk)) (sym chunk) ∙ bad in
          let before : HasRead delimiter wanted header (read ++ bytes_of (take k pieces)) (get_or widths k None) so_far.so.records so_far.keys =
          subst (λ x. HasRead delimiter wanted header (read ++ bytes_of (take k pieces)) x so_far.so.records so_far.keys) done.0 so_far.so.so in
          let number : so_far.so.records ≡ records_before (get_or widths k None) header now.round.keys =
          before-is delimiter wanted header (read ++ bytes_of (take k pieces)) (get_or widths k None) so_far.so.records so_far.keys before
          ∙ ap (records_before (get_or widths k None) header) (sym so_far.so.counted) in
          piece_fault delimiter wanted header pieces read text more k (get_or widths k None) so_far.so.records so_far.keys f.fault are piece at (later pieces more end) before found
          ∙ ap Err (ap (λ n. later_fault n f.fault) number ∙ sym f.counted))
    ]
  where
    later : (pieces : List (List ℕ)) (more : List ℕ) → (length chunks < length pieces) ⊎ (more ≡ []) → (k + 1 < length pieces) ⊎ (more ≡ [])
    later pieces more (inl some) = inl (omega (arith, some, lt))
    later pieces more (inr none) = inr none
