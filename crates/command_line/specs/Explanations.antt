-- What `keycount explain` prints.
use Rattle.std.specs.Prelude.{◌≢◌, ℕ, ◌==◌, List, ◌++◌, IsTrue, Option, Some, None, codes, decimal, flat_map}
use Rattle.std.specs.List.{before_first, list_any, starts_with}
use Rattle.lane_words.specs.Refusal.{code_of}
use Rattle.lane_words.specs.declared.Refusal.{Refusal}
use Rattle.lane_words.specs.declared.Refusal.TheVariants as r
use Rattle.command_line.specs.declared.explanations.TheConstants.{ALREADY_JOINED, BAD_CSV, BAD_LINE, CLAIM_DIFFERS, DIFFERS, EMPTY_COMMIT, GATE_LIMIT, GENERATIONS_OVER, KEY_TOO_LONG, LOG_FULL, MAIL_FULL, MEMORY, NAME_USED, NOBODY_LEFT, NOBODY_PRESENT, NOTHING_TO_GIVE, NOT_HELD, NOT_KEPT, NOT_OWNER, NOT_SETTLED, NO_SUCH_COLUMN, NO_SUCH_COMMIT, NO_SUCH_TOPIC, OFFSET_MISMATCH, OUT_OF_GROUP, PAST_END, READ_FAILED, REBALANCE_IN_PROGRESS, REFUSALS, STALE_GENERATION, SYNC_FIRST, TOO_MANY_MEMBERS, UNKNOWN_MEMBER, WRITE_FAILED, WRONG_RECORDS}

-- the text of a refusal, whose line or record is of no account
unfoldable pub explanation_of : Refusal → List ℕ
explanation_of r.UnknownMember = UNKNOWN_MEMBER.now
explanation_of r.StaleGeneration = STALE_GENERATION.now
explanation_of r.RebalanceInProgress = REBALANCE_IN_PROGRESS.now
explanation_of r.NothingToGive = NOTHING_TO_GIVE.now
explanation_of r.SyncFirst = SYNC_FIRST.now
explanation_of r.ClaimDiffers = CLAIM_DIFFERS.now
explanation_of r.AlreadyJoined = ALREADY_JOINED.now
explanation_of r.NameUsed = NAME_USED.now
explanation_of r.TooManyMembers = TOO_MANY_MEMBERS.now
explanation_of r.NotOwner = NOT_OWNER.now
explanation_of (r.OffsetMismatch committed) = OFFSET_MISMATCH.now
explanation_of r.PastEnd = PAST_END.now
explanation_of r.WrongRecords = WRONG_RECORDS.now
explanation_of r.EmptyCommit = EMPTY_COMMIT.now
explanation_of r.NotHeld = NOT_HELD.now
explanation_of r.OutOfGroup = OUT_OF_GROUP.now
explanation_of r.NoSuchCommit = NO_SUCH_COMMIT.now
explanation_of r.NotSettled = NOT_SETTLED.now
explanation_of r.NobodyPresent = NOBODY_PRESENT.now
explanation_of r.KeyTooLong = KEY_TOO_LONG.now
explanation_of r.LogFull = LOG_FULL.now
explanation_of (r.BadLine line) = BAD_LINE.now
explanation_of (r.NoSuchColumn nth) = NO_SUCH_COLUMN.now
explanation_of (r.BadCsv nth) = BAD_CSV.now
explanation_of r.ReadFailed = READ_FAILED.now
explanation_of r.WriteFailed = WRITE_FAILED.now
explanation_of (r.NobodyLeft line) = NOBODY_LEFT.now
explanation_of r.Differs = DIFFERS.now
explanation_of r.GateLimit = GATE_LIMIT.now
explanation_of r.MailFull = MAIL_FULL.now
explanation_of r.GenerationsOver = GENERATIONS_OVER.now
explanation_of (r.NoSuchTopic nth) = NO_SUCH_TOPIC.now
explanation_of r.NotKept = NOT_KEPT.now
explanation_of r.Memory = MEMORY.now

-- the number of a refusal, in decimal
abbrev pub code_text : Refusal → List ℕ
code_text refusal = decimal (code_of refusal)

-- the text of each refusal begins with its number, and a space
abbrev pub BeginWithCodes : (Refusal → List ℕ) → Type 0
BeginWithCodes text_of = (refusal : Refusal)
    → IsTrue (starts_with (λ a b. a == b) (text_of refusal) (code_text refusal ++ codes " "))

-- the line of a refusal: the first of its text
abbrev pub line_of : Refusal → List ℕ
line_of refusal = before_first (λ byte. byte == 10) (explanation_of refusal)

-- a line for each refusal, by number
unfoldable pub list_text : List ℕ
list_text = flat_map (λ refusal. line_of refusal ++ codes "\n") REFUSALS

-- what is printed: of one refusal its text, and without one the list
abbrev pub explained : Option Refusal → List ℕ
explained None = list_text
explained (Some refusal) = explanation_of refusal

-- each refusal has its number among these
abbrev pub AreAllRefusals : List Refusal → Type 0
AreAllRefusals refusals = (refusal : Refusal)
    → IsTrue (list_any (λ listed. code_of listed == code_of refusal) refusals)

-- no refusal has this number
abbrev pub IsNoCode : ℕ → Type 0
IsNoCode code = (refusal : Refusal) → code_of refusal ≢ code
