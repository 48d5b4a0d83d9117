-- The picture of a file and a script, from what was read of both.
use Rattle.std.proofs.Common.{◌≡◌, List, [], ℕ, Option, Some, None, Result, Ok, Err, Vec, subst}
use Rattle.std.specs.Prelude.{IfErr, IfSome}
use Rattle.std.specs.Global.{Global}
use Rattle.lane_words.specs.Answers.{Answers}
use Rattle.lane_words.specs.declared.Refusal.{Refusal}
use Rattle.ingest.specs.Reports.{IsFaultOf, IsNoDeviceFault, MakesIfKnown, report_of_read, text_seen}
use Rattle.ingest.proofs.Made.{fault-through, script-known}

-- the script has a fault
pub text-fault : {A : Type 0} (answer : List ℕ → Result A Refusal) (f : List ℕ → A → Result (List ℕ) Refusal) (script : Option (List ℕ)) (e : Refusal) → IfSome script (λ bytes. IsFaultOf (answer bytes) e)
    → MakesIfKnown IsFaultOf (λ file bytes. report_of_read (f bytes) (answer bytes)) (Some []) script (Err e)
text-fault answer f None e so = tt
text-fault answer f (Some bytes) e so = fault-through (f bytes) (answer bytes) e so

-- the text of the script and its lines are known
pub text-known : {A : Type 0} (answer : List ℕ → Result A Refusal) (f : List ℕ → A → Result (List ℕ) Refusal) (script : Option (List ℕ)) (text : List ℕ) (lines : A) (result : Result (Vec ℕ Global) Refusal)
    → IfSome script (λ bytes. text ≡ bytes) → IfSome script (λ bytes. answer bytes ≡ Ok lines) → Answers (f text lines) (text_seen result) → IfErr result IsNoDeviceFault
    → MakesIfKnown IsFaultOf (λ file bytes. report_of_read (f bytes) (answer bytes)) (Some []) script result
text-known answer f None text lines (Ok picture) same is so kind = tt
text-known answer f None text lines (Err e) same is so kind = tt
text-known answer f (Some bytes) text lines (Ok picture) same is so kind = script-known answer (f bytes) (Some bytes) lines (Ok picture) is (subst (λ t. Answers (f t lines) (text_seen (Ok picture))) same so) kind
text-known answer f (Some bytes) text lines (Err e) same is so kind = script-known answer (f bytes) (Some bytes) lines (Err e) is (subst (λ t. Answers (f t lines) (text_seen (Err e))) same so) kind
