-- Which device failed, if a file is not counted to its end.
use Rattle.std.proofs.Common.{◌≡◌, ◌+◌, ℕ, Bool, true, false, List, [], ◌∷◌, ◌++◌, Option, Some, None, Result, Ok, Err, length, subst, sym, refl, arith, inl, inr}
use Rattle.std.specs.Prelude.{◌⊎◌, IfErr, if◌then◌else◌, nat_lt}
use Rattle.std.specs.Option.{option_or}
use Rattle.byte_io.specs.Devices.{IsReadFault}
use Rattle.lane_words.specs.declared.Refusal.{Refusal}
use Rattle.lane_words.specs.declared.Refusal.TheVariants as r
use Rattle.lane_words.specs.declared.limits.TheConstants.{LONGEST_KEY}
use Rattle.csv_ingest.specs.KeyFile.{IsFileFault, Taking}
use Rattle.csv_ingest.proofs.Faults.{fault-kind}
use Rattle.key_stream.specs.Counting.{HasFaultIn}
use Rattle.key_stream.specs.declared.counting.Counting.{Counting}
use Rattle.partition_log.specs.Keys.{Keyed, distinct, keys_in}
use Rattle.partition_log.specs.Logs.{exceeds_limits}
use Rattle.ingest.specs.Limits.{Limits}
use Rattle.ingest.specs.Private.Counted.{IsChecking, IsCountFault}
use Rattle.ingest.specs.RecordFaults.{IsKeyFault, first_fault, records_in_its_partition}
use Rattle.ingest.specs.Reports.{IsNoStop, IsNoWrite, failed_reads}

-- the number of failed reads that this fault reports
abbrev pub reads_of : Refusal → ℕ
reads_of e = failed_reads {T = Unit {0}} (Err e)

-- ---- a bad record
pub file-reads : (e : Refusal) → IsFileFault e → reads_of e ≡ 0
file-reads r.ReadFailed k = absurd k
file-reads e k = refl

-- the same of a window
pub window-kind : (delimiter : ℕ) (wanted : Taking) (header : Bool) (counts : List ℕ) (has_topics at_end : Bool) (first : List ℕ) (first_end : Bool) (left left2 : Option (List ℕ)) (window : List ℕ) (counting : Counting) (check : Option Limits) (e : Refusal)
    → IsChecking delimiter wanted header counts has_topics at_end first first_end left left2 window counting check → (e ≡ r.Memory) ⊎ HasFaultIn delimiter wanted header at_end window counting e → IsFileFault e
window-kind delimiter wanted header counts has_topics at_end first first_end left left2 window counting check e so fault =
    elim fault [
      | inl memory ↦ subst IsFileFault (sym memory) tt
      | inr bad ↦
          fault-kind delimiter wanted header (so.read ++ (window ++ [])) e (inr (bad so.read [] (so.split [] (λ end. refl)) (λ end. refl) so.counted))
    ]

-- ---- a record that can't be appended
key-fault : (long full : Bool) (later : Option Refusal) (e : Refusal) → (later ≡ Some e → IsKeyFault e) → option_or (if long then Some r.KeyTooLong else if full then Some r.LogFull else None) later ≡ Some e → IsKeyFault e
key-fault true full later e kind is = let same : r.KeyTooLong ≡ e = cc is in subst IsKeyFault same tt
key-fault false true later e kind is = let same : r.LogFull ≡ e = cc is in subst IsKeyFault same tt
key-fault false false later e kind is = kind is

pub first_fault-kind : (counts : List ℕ) (before records : List Keyed) (e : Refusal) → first_fault counts before records ≡ Some e → IsKeyFault e
unfolding first_fault
first_fault-kind counts before [] e is = absurd (cc is)
first_fault-kind counts before (keyed ∷ records) e is =
    key-fault (nat_lt LONGEST_KEY (length keyed.1)) (exceeds_limits (distinct (keys_in before)) (records_in_its_partition counts before keyed) keyed.1) (first_fault counts (before ++ keyed ∷ []) records) e
    (first_fault-kind counts (before ++ keyed ∷ []) records e) is

-- ---- all of these are faults of a count
pub file-count : (e : Refusal) → IsFileFault e → IsCountFault e
file-count (r.NoSuchColumn nth) k = tt
file-count (r.BadCsv nth) k = tt
file-count (r.NoSuchTopic nth) k = tt
file-count r.Memory k = tt
file-count e k = absurd k

pub found-count : {T : Type 0} (result : Result T Refusal) → IfErr result IsFileFault → IfErr result IsCountFault
found-count (Ok x) k = tt
found-count (Err e) k = file-count e k

pub read-count : (before after : ℕ) (e : Refusal) → IsReadFault before after e → IsCountFault e
read-count before after r.ReadFailed k = tt
read-count before after r.Memory k = tt
read-count before after e k = absurd k

pub read-reads : (before after : ℕ) (e : Refusal) → IsReadFault before after e → after ≡ before + reads_of e
read-reads before after r.ReadFailed k = k
read-reads before after r.Memory k = omega (arith, k)
read-reads before after e k = absurd k

pub read-device : (before after : ℕ) (e : Refusal) → IsReadFault before after e → (e ≡ r.Memory) ⊎ (e ≡ r.ReadFailed)
read-device before after r.ReadFailed k = inr refl
read-device before after r.Memory k = inl refl
read-device before after e k = absurd k

pub device-count : (e : Refusal) → (e ≡ r.Memory) ⊎ (e ≡ r.ReadFailed) → IsCountFault e
device-count e (inl memory) = subst IsCountFault (sym memory) tt
device-count e (inr read) = subst IsCountFault (sym read) tt

pub count-write : (e : Refusal) → IsCountFault e → IsNoWrite e
count-write r.WriteFailed k = absurd k
count-write e k = tt

pub count-stop : (e : Refusal) → IsCountFault e → IsNoStop e
count-stop r.GateLimit k = absurd k
count-stop r.Differs k = absurd k
count-stop e k = tt

pub counted-write : {T : Type 0} (result : Result T Refusal) → IfErr result IsCountFault → IfErr result IsNoWrite
counted-write (Ok u) k = tt
counted-write (Err e) k = count-write e k

pub counted-stop : {T : Type 0} (result : Result T Refusal) → IfErr result IsCountFault → IfErr result IsNoStop
counted-stop (Ok u) k = tt
counted-stop (Err e) k = count-stop e k
