-- A text that is split into the chunks of a round.
use Rattle.std.specs.Prelude.{◌≡◌, ◌≤◌, ◌<◌, ℕ, Bool, false, List, drop, length, take}
use Rattle.lane_words.specs.declared.Refusal.{Refusal}
use Rattle.csv_ingest.specs.KeyFile.{Taking}
use Rattle.csv_ingest.specs.Pieces.{ArePieces}
use Rattle.csv_ingest.specs.Private.Pieces.{bytes_of, lent}
use Rattle.key_stream.specs.Counting.{HasFaultIn, TakesFirst}
use Rattle.key_stream.specs.declared.counting.Counting.{Counting}
use Rattle.key_stream.specs.declared.counting.Split.{Split}

-- pieces of a text, of which the first are taken. Unless the text is at the end of its file, one is
-- left, since its last record may go on
pub record IsSplitOf (delimiter : ℕ) (at_end : Bool) (text : List ℕ) (split : Split) : Type 0 where
  pub pieces : ArePieces delimiter text (lent split.pieces.items)
  pub within : split.count ≤ length split.pieces.items
  pub left : at_end ≡ false → (split.count ≡ 0 → ⊥) → split.count < length (lent split.pieces.items)
  pub taken : split.taken ≡ length (bytes_of (take split.count (lent split.pieces.items)))
  pub rest : split.rest.now ≡ drop split.taken text
  pub end : split.at_end ≡ at_end

-- the chunks of a split text were taken: the first bytes of whatever text it is
abbrev pub TakesSplit : ℕ → Taking → Bool → Split → Counting → Counting → Type 0
TakesSplit delimiter wanted header split old new =
    (at_end : Bool) (text : List ℕ) → IsSplitOf delimiter at_end text split
    → TakesFirst delimiter wanted header at_end text split.taken old new

-- a split text has the first fault of its file
abbrev pub HasSplitFault : ℕ → Taking → Bool → Split → Counting → Refusal → Type 0
HasSplitFault delimiter wanted header split old fault =
    (at_end : Bool) (text : List ℕ) → IsSplitOf delimiter at_end text split
    → HasFaultIn delimiter wanted header at_end text old fault
