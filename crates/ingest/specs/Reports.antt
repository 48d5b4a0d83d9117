-- What a report says of the bytes that it reads and writes.
use Rattle.std.specs.Prelude.{◌≡◌, ◌⊎◌, ◌+◌, ◌<◌, ⊤, ℕ, Bool, List, Option, Result, Ok, Err, IfErr, IfSome, Vec}
use Rattle.std.specs.Global.{Global}
use Rattle.std.specs.Io.KnownBytes.{Appends, Keeps}
use Rattle.std.specs.Result.{result_map_both}
use Rattle.lane_words.specs.declared.Refusal.{Refusal}
use Rattle.lane_words.specs.declared.Refusal.TheVariants as r
pub use Rattle.command_line.specs.Options.{AreInRange}
use Rattle.byte_io.specs.Devices.{AppendsPrefix}

-- the report of what was read, or the fault of the reading
abbrev pub report_of_read : {T : Type 0} → (T → Result (List ℕ) Refusal) → Result T Refusal
    → Result (List ℕ) Refusal
report_of_read report (Ok read) = report read
report_of_read report (Err fault) = Err fault

-- ---- what is written
-- what an answer says of the bytes written, given the report: all of its text; a prefix of it if a
-- write failed; otherwise nothing, and the fault is the report's, unless a read or an allocation
-- failed
abbrev pub WritesReport : Result (List ℕ) Refusal → Option (List ℕ) → Option (List ℕ)
    → Result (Unit {0}) Refusal → Type 0
WritesReport report old new (Ok _) = (text : List ℕ) × (report ≡ Ok text) × Appends old new text
WritesReport report old new (Err r.WriteFailed) =
    (text : List ℕ) × (report ≡ Ok text) × AppendsPrefix old new text
WritesReport report old new (Err r.ReadFailed) = Keeps old new
WritesReport report old new (Err r.Memory) = Keeps old new
WritesReport report old new (Err fault) = (report ≡ Err fault) × Keeps old new

-- if the bytes of a file are known, their report is written
abbrev pub WritesIfFileKnown : (List ℕ → Result (List ℕ) Refusal) → Option (List ℕ)
    → Option (List ℕ) → Option (List ℕ) → Result (Unit {0}) Refusal → Type 0
WritesIfFileKnown report file old new result =
    IfSome file (λ bytes. WritesReport (report bytes) old new result)

-- if the bytes of a file and of a script are known, their report is written
abbrev pub WritesIfKnown : (List ℕ → List ℕ → Result (List ℕ) Refusal) → Option (List ℕ)
    → Option (List ℕ) → Option (List ℕ) → Option (List ℕ) → Result (Unit {0}) Refusal → Type 0
WritesIfKnown report file script old new result =
    IfSome file (λ bytes. IfSome script (λ lines. WritesReport (report bytes lines) old new result))

-- an answer without what it returns
abbrev pub written : Result Bool Refusal → Result (Unit {0}) Refusal
written answer = result_map_both (λ found. tt) (λ fault. fault) answer

-- nothing was written, whatever was read, unless all went well or a write failed
abbrev pub WritesAtEndAlone : Option (List ℕ) → Option (List ℕ) → Result (Unit {0}) Refusal → Type 0
WritesAtEndAlone old new (Ok _) = Unit {0}
WritesAtEndAlone old new (Err r.WriteFailed) = Unit {0}
WritesAtEndAlone old new (Err fault) = Keeps old new

-- ---- which device failed
-- the number of failed reads that an answer reports
abbrev pub failed_reads : {T : Type 0} → Result T Refusal → ℕ
failed_reads (Err r.ReadFailed) = 1
failed_reads _ = 0

-- the number of failed writes that an answer reports
abbrev pub failed_writes : Result (Unit {0}) Refusal → ℕ
failed_writes (Err r.WriteFailed) = 1
failed_writes _ = 0

-- the failures that a file and a script count after an answer: one more of either if it reports a
-- failed read, and no more otherwise
abbrev pub CountsFailures : {T : Type 0} → ℕ → ℕ → ℕ → ℕ → Result T Refusal → Type 0
CountsFailures file file2 script script2 (Err r.ReadFailed) =
    ((file2 ≡ file + 1) × (script2 ≡ script)) ⊎ ((file2 ≡ file) × (script2 ≡ script + 1))
CountsFailures file file2 script script2 result = (file2 ≡ file) × (script2 ≡ script)

-- refused for this fault, unless a read or an allocation failed
abbrev pub IsRefusedFor : {T : Type 0} → Refusal → Result T Refusal → Type 0
IsRefusedFor fault (Err r.ReadFailed) = ⊤
IsRefusedFor fault (Err r.Memory) = ⊤
IsRefusedFor fault result = result ≡ Err fault

-- a script is not touched if a read of the file failed, or if the file has a bad record, whose
-- fault is then the answer
abbrev pub ReadsFileFirst : {A T X : Type 0} → (List ℕ → Result A Refusal) → Option (List ℕ) → ℕ → ℕ
    → X → X → Result T Refusal → Type 0
ReadsFileFirst records file failures failures2 script script2 result =
    (failures < failures2 → script2 ≡ script)
    × IfSome file (λ bytes. IfErr (records bytes)
    (λ fault. IsRefusedFor fault result × (script2 ≡ script)))

-- ---- what a report is refused for before it writes
-- not a failed write
abbrev pub IsNoWrite : Refusal → Type 0
IsNoWrite r.WriteFailed = ⊥
IsNoWrite fault = ⊤

-- neither a stopped run nor one that differed from what it was given
abbrev pub IsNoStop : Refusal → Type 0
IsNoStop r.GateLimit = ⊥
IsNoStop r.Differs = ⊥
IsNoStop fault = ⊤

-- a fault of what was read, or a failed allocation: no device has failed
abbrev pub IsNoDeviceFault : Refusal → Type 0
IsNoDeviceFault r.ReadFailed = ⊥
IsNoDeviceFault r.WriteFailed = ⊥
IsNoDeviceFault fault = ⊤

-- a fault that ends a read: that of what was read, a failed read, or a failed allocation
abbrev pub IsFaultOf : {T : Type 0} → Result T Refusal → Refusal → Type 0
IsFaultOf expected r.ReadFailed = ⊤
IsFaultOf expected r.Memory = ⊤
IsFaultOf expected r.WriteFailed = ⊥
IsFaultOf expected fault = expected ≡ Err fault

-- ---- the text before it is written
-- an answer as the text that it returns
abbrev pub text_seen : Result (Vec ℕ Global) Refusal → Result (List ℕ) Refusal
text_seen answer = result_map_both (λ text. text.items) (λ fault. fault) answer

-- if the bytes of a file and of a script are known, the answer is the text of their report, or one
-- of the faults that it allows
abbrev pub MakesIfKnown : (Result (List ℕ) Refusal → Refusal → Type 0)
    → (List ℕ → List ℕ → Result (List ℕ) Refusal) → Option (List ℕ) → Option (List ℕ)
    → Result (Vec ℕ Global) Refusal → Type 0
MakesIfKnown Fails report file script (Ok text) =
    IfSome file (λ bytes. IfSome script (λ lines. report bytes lines ≡ Ok text.items))
MakesIfKnown Fails report file script (Err fault) =
    IfSome file (λ bytes. IfSome script (λ lines. Fails (report bytes lines) fault))
