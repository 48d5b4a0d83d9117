-- The report of a file and a script, from what was read of both.
use Rattle.std.proofs.Common.{◌≡◌, ◌∙◌, List, [], ℕ, Option, Some, None, Result, Ok, Err, Vec, ap, sym, subst, inl, inr}
use Rattle.std.specs.Prelude.{IfErr, IfSome}
use Rattle.std.specs.Global.{Global}
use Rattle.lane_words.specs.Answers.{Answers}
use Rattle.lane_words.specs.declared.Refusal.{Refusal}
use Rattle.lane_words.specs.declared.Refusal.TheVariants as r
use Rattle.ingest.specs.Reports.{IsFaultOf, IsNoDeviceFault, MakesIfKnown, report_of_read, text_seen}
use Rattle.ingest.proofs.ReadFaults.{fault_of}

pub fault-through : {A : Type 0} (f : A → Result (List ℕ) Refusal) (expected : Result A Refusal) (e : Refusal) → IsFaultOf expected e → IsFaultOf (report_of_read f expected) e
fault-through f expected r.ReadFailed so = tt
fault-through f expected r.Memory so = tt
fault-through f expected r.WriteFailed so = absurd so
fault-through f expected e so = ap (report_of_read f) so

-- the records of the file are known
pub made : {A : Type 0} (Fails : Result (List ℕ) Refusal → Refusal → Type 0) (records : List ℕ → Result A Refusal) (report : A → List ℕ → Result (List ℕ) Refusal) (file script : Option (List ℕ)) (found : A)
    (result : Result (Vec ℕ Global) Refusal) → IfSome file (λ bytes. records bytes ≡ Ok found) → MakesIfKnown Fails (λ bytes. report found) (Some []) script result
    → MakesIfKnown Fails (λ bytes lines. report_of_read (λ found. report found lines) (records bytes)) file script result
made Fails records report None script found (Ok text) is so = tt
made Fails records report None script found (Err e) is so = tt
made Fails records report (Some bytes) None found (Ok text) is so = tt
made Fails records report (Some bytes) None found (Err e) is so = tt
made Fails records report (Some bytes) (Some lines) found (Ok text) is so = ap (report_of_read (λ found. report found lines)) is ∙ so
made Fails records report (Some bytes) (Some lines) found (Err e) is so = subst (λ answer. Fails answer e) (sym (ap (report_of_read (λ found. report found lines)) is)) so

-- the script has a fault
pub script-fault : {A : Type 0} (answer : List ℕ → Result A Refusal) (f : A → Result (List ℕ) Refusal) (script : Option (List ℕ)) (e : Refusal) → IfSome script (λ lines. IsFaultOf (answer lines) e)
    → MakesIfKnown IsFaultOf (λ bytes lines. report_of_read f (answer lines)) (Some []) script (Err e)
script-fault answer f None e so = tt
script-fault answer f (Some lines) e so = fault-through f (answer lines) e so

-- the lines of the script are known
pub script-known : {A : Type 0} (answer : List ℕ → Result A Refusal) (f : A → Result (List ℕ) Refusal) (script : Option (List ℕ)) (lines : A) (result : Result (Vec ℕ Global) Refusal)
    → IfSome script (λ bytes. answer bytes ≡ Ok lines) → Answers (f lines) (text_seen result) → IfErr result IsNoDeviceFault
    → MakesIfKnown IsFaultOf (λ bytes script. report_of_read f (answer script)) (Some []) script result
script-known answer f None lines (Ok text) is so kind = tt
script-known answer f None lines (Err e) is so kind = tt
script-known answer f (Some bytes) lines (Ok text) is (inl so) kind = ap (report_of_read f) is ∙ sym so
script-known answer f (Some bytes) lines (Ok text) is (inr so) kind = absurd (cc so)
script-known answer f (Some bytes) lines (Err e) is (inl so) kind = subst (λ report. IsFaultOf report e) (sym (ap (report_of_read f) is)) (fault_of (f lines) e kind (inr (sym so)))
script-known answer f (Some bytes) lines (Err e) is (inr so) kind = subst (λ report. IsFaultOf report e) (sym (ap (report_of_read f) is)) (fault_of (f lines) e kind (inl (cc so)))

-- the same, where a fault may also stop a run
abbrev pub EndsAs : (Result (List ℕ) Refusal → Refusal → Type 0) → Refusal → Type 0
EndsAs Fails e = (report : Result (List ℕ) Refusal) → IsFaultOf report e → Fails report e

pub script-ends : {A : Type 0} (Fails : Result (List ℕ) Refusal → Refusal → Type 0) (answer : List ℕ → Result A Refusal) (f : A → Result (List ℕ) Refusal) (script : Option (List ℕ)) (e : Refusal) → EndsAs Fails e
    → IfSome script (λ lines. IsFaultOf (answer lines) e) → MakesIfKnown Fails (λ bytes lines. report_of_read f (answer lines)) (Some []) script (Err e)
script-ends Fails answer f None e ends so = tt
script-ends Fails answer f (Some lines) e ends so = ends (report_of_read f (answer lines)) (fault-through f (answer lines) e so)
