-- The chunks of a split text are taken.
use Rattle.std.proofs.Common.{◌≡◌, ◌∙◌, ◌≤◌, ℕ, List, [], ◌++◌, Bool, Bor, Option, Result, Ok, Err, length, take, drop, append-nil, ap, arith, subst, sym, inl, inr, length-take-le}
use Rattle.std.specs.List.{take-map}
use Rattle.std.proofs.lemmas.List.{drop_all, length-map, take-take, take_all}
use Rattle.std.specs.Prelude.{◌⊎◌, IfErr, OnOk}
use Rattle.lane_words.specs.declared.Refusal.{Refusal}
use Rattle.lane_words.specs.declared.Refusal.TheVariants as refusal
use Rattle.csv_ingest.specs.KeyFile.{Taking}
use Rattle.csv_ingest.specs.Private.Pieces.{bytes_of, lent}
use Rattle.csv_ingest.specs.Rounds.{width_after_all}
use Rattle.key_stream.specs.Counting.{IsCounted, IsCountedOf, TakesFirst}
use Rattle.key_stream.specs.Layouts.{HasWidths}
use Rattle.key_stream.specs.Rounds.{entries_in}
use Rattle.key_stream.specs.Settling.{AreChunksOf, Fails, Settles}
use Rattle.key_stream.specs.Splits.{HasSplitFault, TakesSplit}
use Rattle.key_stream.specs.Turns.{HaveWorked}
use Rattle.key_stream.specs.declared.counting.Counting.{Counting}
use Rattle.key_stream.specs.declared.counting.Split.{Split}
use Rattle.key_stream.specs.declared.worker.Worker.{Worker}
use Rattle.key_stream.proofs.Turns.{counts_of}
use Rattle.key_stream.proofs.TakenFirst.{HasFault, TakesPieces, fault-in, takes-first, takes-none}

pub split-takes : (delimiter : ℕ) (wanted : Taking) (header : Bool) (split : Split) (old new : Counting) (result : Result (Unit {0}) Refusal) → (split.count ≡ 0 → ⊥)
    → OnOk result (TakesPieces delimiter wanted header (lent split.pieces.items) split.count old new)
    → OnOk result (TakesSplit delimiter wanted header split old new)
split-takes delimiter wanted header split old new (Ok u) some t = λ at_end text so.
    takes-first delimiter wanted header at_end text (lent split.pieces.items) split.count split.taken old new so.pieces so.taken (λ goes. so.left goes some) t
split-takes delimiter wanted header split old new (Err e) some t = tt

pub split-fails : (delimiter : ℕ) (wanted : Taking) (header : Bool) (split : Split) (old : Counting) (result : Result (Unit {0}) Refusal) → (split.count ≡ 0 → ⊥)
    → IfErr result (λ e. (e ≡ refusal.Memory) ⊎ HasFault delimiter wanted header (lent split.pieces.items) split.count old e)
    → IfErr result (λ e. (e ≡ refusal.Memory) ⊎ HasSplitFault delimiter wanted header split old e)
split-fails delimiter wanted header split old (Ok u) some f = tt
split-fails delimiter wanted header split old (Err e) some f =
    elim f [
      | inl memory ↦ inl memory
      | inr fault ↦ inr (λ at_end text so. fault-in delimiter wanted header at_end text (lent split.pieces.items) split.count old e so.pieces (λ goes. so.left goes some) fault)
    ]

-- no piece is taken, and nothing changes
pub split-none : (delimiter : ℕ) (wanted : Taking) (header : Bool) (split : Split) (counting : Counting) → split.count ≡ 0 → TakesSplit delimiter wanted header split counting counting
split-none delimiter wanted header split counting none = λ at_end text so.
    let nothing : split.taken ≡ 0 = so.taken ∙ ap (λ n. length (bytes_of (take n (lent split.pieces.items)))) none in
    subst (λ n. TakesFirst delimiter wanted header at_end text n counting counting) (sym nothing) (takes-none delimiter wanted header at_end text counting)

-- ---- the pieces of a split text whose turns are settled
-- the chunks are the first pieces, and the widths those before and behind them
pub are-chunks : (delimiter : ℕ) (width : Option ℕ) (pieces slice : List (Bor (List ℕ))) (count : ℕ) (widths : List (Option ℕ)) → slice ≡ pieces → count ≤ length pieces
    → HasWidths delimiter width (take count slice) widths → AreChunksOf delimiter width widths (lent (take count slice)) (lent pieces)
are-chunks delimiter width pieces slice count widths same few wide =
    let text = λ (p : Bor (List ℕ)). p.now in
    let many : length (take count slice) ≡ count = length-take-le count slice (omega (arith, few, ap length same)) in
    let all : lent (take count slice) ≡ take count (lent pieces) = ap (λ ps. lent (take count ps)) same ∙ sym (take-map text count pieces) in
    let long : length (lent (take count slice)) ≡ count = length-map (take count slice) text ∙ many in
    record {
      few = omega (arith, long, few, length-map pieces text);
      first = all ∙ ap (λ n. take n (lent pieces)) (sym long);
      widths_are = λ i le.
          let within : i ≤ count = omega (arith, le, long) in
          wide i (omega (arith, within, many)) ∙ ap (λ cs. width_after_all delimiter width (take i cs)) all ∙ ap (width_after_all delimiter width) (take-take i count (lent pieces) within);
    }

-- a slice of all elements, put back
whole-slice : (n : ℕ) (news olds : List Worker) → length news ≡ n → length olds ≡ n → take n (news ++ drop (length news) olds) ≡ news
whole-slice n news olds many same =
    let none : drop (length news) olds ≡ [] = drop_all (length news) olds (omega (arith, many, same)) in
    ap (λ ws. take n (news ++ ws)) none ∙ ap (take n) (append-nil news) ∙ take_all n news (omega (arith, many))

-- the workers of what was counted have worked, and all else is as it was
pub record HaveWorkedIn (delimiter : ℕ) (wanted : Taking) (header : Bool) (widths : List (Option ℕ)) (chunks pieces : List (List ℕ)) (count : ℕ) (old mid : Counting) : Type 0 where
  pub many : count ≡ length chunks
  pub same : length (entries_in old.workers.items) ≡ length mid.workers.items
  pub worked : HaveWorked delimiter wanted header widths chunks (entries_in old.workers.items) mid.workers.items
  pub are : AreChunksOf delimiter mid.round.width widths chunks pieces
  pub carry : (read : List ℕ) → IsCounted delimiter wanted header read old → IsCountedOf delimiter wanted header read (entries_in old.workers.items) mid

pub have-worked-in : (delimiter : ℕ) (wanted : Taking) (header : Bool) (widths : List (Option ℕ)) (slice pieces : List (Bor (List ℕ))) (count n : ℕ) (news : List Worker) (old mid : Counting)
    → slice ≡ pieces → count ≤ length pieces → HasWidths delimiter mid.round.width (take count slice) widths
    → mid.workers.items ≡ take n (news ++ drop (length news) old.workers.items) → length old.workers.items ≡ n → length news ≡ n
    → HaveWorked delimiter wanted header widths (lent (take count slice)) (entries_in old.workers.items) news
    → ((read : List ℕ) → IsCounted delimiter wanted header read old → IsCountedOf delimiter wanted header read (entries_in old.workers.items) mid)
    → HaveWorkedIn delimiter wanted header widths (lent (take count slice)) (lent pieces) count old mid
have-worked-in delimiter wanted header widths slice pieces count n news old mid same few wide set olds_many many worked carry =
    let is : mid.workers.items ≡ news = set ∙ whole-slice n news old.workers.items many olds_many in
    record {
      many = sym (length-map (take count slice) (λ (p : Bor (List ℕ)). p.now) ∙ length-take-le count slice (omega (arith, few, ap length same)));
      same = length-map old.workers.items counts_of ∙ olds_many ∙ sym many ∙ ap length (sym is);
      worked = rw is worked;
      are = are-chunks delimiter mid.round.width pieces slice count widths same few wide;
      carry = carry;
    }

pub pieces-taken : (delimiter : ℕ) (wanted : Taking) (header : Bool) (widths : List (Option ℕ)) (chunks pieces : List (List ℕ)) (count : ℕ) (old mid new : Counting) (result : Result (Unit {0}) Refusal)
    → HaveWorkedIn delimiter wanted header widths chunks pieces count old mid
    → OnOk result (Settles delimiter wanted header widths chunks mid new) → OnOk result (TakesPieces delimiter wanted header pieces count old new)
unfolding Settles
pieces-taken delimiter wanted header widths chunks pieces count old mid new (Ok u) w settles = λ read text parts at so.
    rw w.many (settles (entries_in old.workers.items) pieces read text w.same w.worked w.are parts at (w.carry read so))
pieces-taken delimiter wanted header widths chunks pieces count old mid new (Err e) w settles = tt

pub pieces-failed : (delimiter : ℕ) (wanted : Taking) (header : Bool) (widths : List (Option ℕ)) (chunks pieces : List (List ℕ)) (count : ℕ) (old mid : Counting) (result : Result (Unit {0}) Refusal)
    → HaveWorkedIn delimiter wanted header widths chunks pieces count old mid
    → IfErr result (Fails delimiter wanted header widths chunks mid) → IfErr result (λ e. (e ≡ refusal.Memory) ⊎ HasFault delimiter wanted header pieces count old e)
unfolding Fails
pieces-failed delimiter wanted header widths chunks pieces count old mid (Ok u) w fails = tt
pieces-failed delimiter wanted header widths chunks pieces count old mid (Err e) w fails =
    elim (fails (entries_in old.workers.items) w.same w.worked) [
      | inl memory ↦ inl memory
      | inr fault ↦ inr (λ read text more parts at end so. fault pieces read text more w.are parts at (rw (← w.many) end) (w.carry read so))
    ]
