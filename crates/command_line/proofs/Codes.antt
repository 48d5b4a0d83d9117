-- The explanations, and the numbers of refusals.
use Rattle.std.proofs.Common.{◌≡◌, ◌∙◌, ◌+◌, ◌<◌, ℕ, List, [], ◌∷◌, ◌++◌, ◌||◌, Bool, Option, Some, None, cond, not, nat_lt, suc, length, take, get_or, refl, sym, subst, ap, arith, true, false, true≢false}
use Rattle.std.specs.Prelude.{◌==◌, flat_map}
use Rattle.std.specs.List.{list_any, position, position_or_len}
use Rattle.std.specs.Fmt.{digits}
use Rattle.std.proofs.lemmas.Bool.{eqb-true, lt-ltb}
use Rattle.std.proofs.lemmas.List.{append-nil, take_more}
use Rattle.std.proofs.lemmas.List.Concat.{flat_map-append}
use Rattle.std.proofs.lemmas.List.Quantifiers.{position-Some}
use Rattle.lane_words.specs.Refusal.{code_of}
use Rattle.lane_words.specs.declared.Refusal.TheVariants as r
use Rattle.command_line.specs.Explanations.{AreAllRefusals, BeginWithCodes, IsNoCode, explanation_of}
use Rattle.command_line.specs.Private.Codes.{has_code}
use Rattle.command_line.specs.declared.explanations.TheConstants.{REFUSALS}

pub all_listed : AreAllRefusals REFUSALS
all_listed r.UnknownMember = refl
all_listed r.StaleGeneration = refl
all_listed r.RebalanceInProgress = refl
all_listed r.NothingToGive = refl
all_listed r.SyncFirst = refl
all_listed r.ClaimDiffers = refl
all_listed r.AlreadyJoined = refl
all_listed r.NameUsed = refl
all_listed r.TooManyMembers = refl
all_listed r.NotOwner = refl
all_listed (r.OffsetMismatch committed) = refl
all_listed r.PastEnd = refl
all_listed r.WrongRecords = refl
all_listed r.EmptyCommit = refl
all_listed r.NotHeld = refl
all_listed r.OutOfGroup = refl
all_listed r.NoSuchCommit = refl
all_listed r.NotSettled = refl
all_listed r.NobodyPresent = refl
all_listed r.KeyTooLong = refl
all_listed r.LogFull = refl
all_listed (r.BadLine line) = refl
all_listed (r.NoSuchColumn nth) = refl
all_listed (r.BadCsv nth) = refl
all_listed r.ReadFailed = refl
all_listed r.WriteFailed = refl
all_listed (r.NobodyLeft line) = refl
all_listed r.Differs = refl
all_listed r.GateLimit = refl
all_listed r.MailFull = refl
all_listed r.GenerationsOver = refl
all_listed (r.NoSuchTopic nth) = refl
all_listed r.NotKept = refl
all_listed r.Memory = refl

pub begin_with_codes : BeginWithCodes explanation_of
unfolding explanation_of digits
begin_with_codes r.UnknownMember = refl
begin_with_codes r.StaleGeneration = refl
begin_with_codes r.RebalanceInProgress = refl
begin_with_codes r.NothingToGive = refl
begin_with_codes r.SyncFirst = refl
begin_with_codes r.ClaimDiffers = refl
begin_with_codes r.AlreadyJoined = refl
begin_with_codes r.NameUsed = refl
begin_with_codes r.TooManyMembers = refl
begin_with_codes r.NotOwner = refl
begin_with_codes (r.OffsetMismatch committed) = refl
begin_with_codes r.PastEnd = refl
begin_with_codes r.WrongRecords = refl
begin_with_codes r.EmptyCommit = refl
begin_with_codes r.NotHeld = refl
begin_with_codes r.OutOfGroup = refl
begin_with_codes r.NoSuchCommit = refl
begin_with_codes r.NotSettled = refl
begin_with_codes r.NobodyPresent = refl
begin_with_codes r.KeyTooLong = refl
begin_with_codes r.LogFull = refl
begin_with_codes (r.BadLine line) = refl
begin_with_codes (r.NoSuchColumn nth) = refl
begin_with_codes (r.BadCsv nth) = refl
begin_with_codes r.ReadFailed = refl
begin_with_codes r.WriteFailed = refl
begin_with_codes (r.NobodyLeft line) = refl
begin_with_codes r.Differs = refl
begin_with_codes r.GateLimit = refl
begin_with_codes r.MailFull = refl
begin_with_codes r.GenerationsOver = refl
begin_with_codes (r.NoSuchTopic nth) = refl
begin_with_codes r.NotKept = refl
begin_with_codes r.Memory = refl

-- a list of pieces, with one more
pub pieces_more : {X A : Type 0} (f : X → List A) (xs : List X) (i : ℕ) (x : X) → i < length xs → flat_map f (take (i + 1) xs) ≡ flat_map f (take i xs) ++ f (get_or xs i x)
pieces_more f xs i x lt = ap (flat_map f) (take_more xs i x lt) ∙ flat_map-append f (take i xs) (get_or xs i x ∷ []) ∙ ap (λ ys. flat_map f (take i xs) ++ ys) (append-nil (f (get_or xs i x)))

-- where an element passes, the first that does has an index
some_position : {X : Type 0} (p : X → Bool) (xs : List X) → list_any p xs ≡ true → position_or_len p xs < length xs
some_position p [] any = absurd (true≢false (sym any))
some_position p (x ∷ xs) any = go (p x) any (some_position p xs)
  where
    go : (b : Bool) → (b || list_any p xs) ≡ true → (list_any p xs ≡ true → position_or_len p xs < length xs) → cond (not b) (1 + position_or_len p xs) 0 < suc (length xs)
    go true any more = omega arith
    go false any more =
        let within = more any in
        omega (arith, within)

-- a position that is none is past the end
none_is_past : (n i : ℕ) → i < n → cond (nat_lt i n) (Some i) None ≡ None → ⊥
none_is_past n i within none =
    let passes : nat_lt i n ≡ true = lt-ltb i n within in
    let no : ◌≡◌ {A = Option ℕ} (Some i) None = rw passes at none in
    let absurd_no : ⊥ = cc in
    absurd_no

pub no_code : (code : ℕ) → position (has_code code) REFUSALS ≡ None → IsNoCode code
unfolding has_code
no_code code none refusal is =
    let listed = subst (λ n. list_any (λ listed. code_of listed == n) REFUSALS ≡ true) is (all_listed refusal) in
    none_is_past (length REFUSALS) _ (some_position (has_code code) REFUSALS listed) none

pub code_found : (code i : ℕ) → position (has_code code) REFUSALS ≡ Some i → (i < length REFUSALS) × (code_of (get_or REFUSALS i r.UnknownMember) ≡ code)
unfolding has_code
code_found code i at =
    let found = position-Some (has_code code) REFUSALS i r.UnknownMember at in
    (found.0, eqb-true _ code found.1)
