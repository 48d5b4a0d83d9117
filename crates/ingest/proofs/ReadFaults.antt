-- The refusals of a replay and of a run before they write.
use Rattle.std.proofs.Common.{◌≡◌, ◌∙◌, List, ℕ, Option, Some, None, Result, Ok, Err, IfErr, ap, sym, refl, inl, inr, subst}
use Rattle.std.specs.Prelude.{◌⊎◌, ⊤, IfSome}
use Rattle.lane_words.specs.Answers.{Answers}
use Rattle.lane_words.specs.declared.Refusal.{Refusal}
use Rattle.lane_words.specs.declared.Refusal.TheVariants as r
use Rattle.ingest.specs.Reports.{IsFaultOf, IsNoDeviceFault, IsNoStop, IsNoWrite, failed_reads}

pub as_answer : {T : Type 0} (expected : Result T Refusal) (e : Refusal) → (e ≡ r.Memory) ⊎ (expected ≡ Err e) → Answers expected (Err e)
as_answer expected e (inl m) = inr (ap Err m)
as_answer expected e (inr h) = inl (sym h)

pub fault_of : {T : Type 0} (expected : Result T Refusal) (e : Refusal) → IsNoDeviceFault e → (e ≡ r.Memory) ⊎ (expected ≡ Err e) → IsFaultOf expected e
fault_of expected r.ReadFailed k h = tt
fault_of expected r.Memory k h = tt
fault_of expected r.WriteFailed k h = absurd k
fault_of expected e k (inl m) = absurd (cc m)
fault_of expected e k (inr h) = h

pub no_write : (e : Refusal) → IsNoDeviceFault e → IsNoWrite e
no_write r.WriteFailed k = absurd k
no_write e k = tt

pub no_read : (T : Type 0) (e : Refusal) → IsNoDeviceFault e → failed_reads {T = T} (Err e) ≡ 0
no_read T r.ReadFailed k = absurd k
no_read T e k = refl

-- ---- the answer of a parser of scripts

abbrev pub IsLineFault : Refusal → Type 0
IsLineFault (r.BadLine line) = ⊤
IsLineFault (r.NobodyLeft line) = ⊤
IsLineFault fault = ⊥

line_device : (e : Refusal) → IsLineFault e → IsNoDeviceFault e
line_device (r.BadLine line) k = tt
line_device (r.NobodyLeft line) k = tt
line_device e k = absurd k

line_stop : (e : Refusal) → IsLineFault e → IsNoStop e
line_stop (r.BadLine line) k = tt
line_stop (r.NobodyLeft line) k = tt
line_stop e k = absurd k

abbrev pub HasLineFaultsAlone : {T : Type 0} → (List ℕ → Result T Refusal) → Type 0
HasLineFaultsAlone answer = (bytes : List ℕ) (e : Refusal) → answer bytes ≡ Err e → IsLineFault e

module _ {T : Type 0} (answer : List ℕ → Result T Refusal) (line_faults : HasLineFaultsAlone answer) where
  answer_fault : (P : Refusal → Type 0) → P r.Memory → ((e : Refusal) → IsLineFault e → P e) → (bytes : List ℕ) (e : Refusal) → Answers (answer bytes) (Err e) → P e
  answer_fault P memory line bytes e (inl h) = line e (line_faults bytes e (sym h))
  answer_fault P memory line bytes e (inr h) = let is : r.Memory ≡ e = cc h in subst P is memory

  answer_as_expected : (bytes : List ℕ) (e : Refusal) → Answers (answer bytes) (Err e) → (e ≡ r.Memory) ⊎ (answer bytes ≡ Err e)
  answer_as_expected bytes e (inl h) = inr (sym h)
  answer_as_expected bytes e (inr h) = inl (cc h)

  pub answer_refused : (left : Option (List ℕ)) (all bytes : List ℕ) (read : Result T Refusal) → bytes ≡ all → IfSome left (λ b. all ≡ b) → Answers (answer bytes) read
      → IfErr read (λ e. IfSome left (λ b. IsFaultOf (answer b) e))
  answer_refused left all bytes (Ok lines) is whole h = tt
  answer_refused None all bytes (Err e) is whole h = tt
  answer_refused (Some b) all bytes (Err e) is whole h =
      subst (λ bs. IsFaultOf (answer bs) e) (is ∙ whole) (fault_of (answer bytes) e (answer_fault IsNoDeviceFault tt line_device bytes e h) (answer_as_expected bytes e h))

  pub answer_kind : (bytes : List ℕ) (read : Result T Refusal) → Answers (answer bytes) read → IfErr read IsNoWrite
  answer_kind bytes (Ok lines) h = tt
  answer_kind bytes (Err e) h = no_write e (answer_fault IsNoDeviceFault tt line_device bytes e h)

  pub answer_unstopped : (bytes : List ℕ) (read : Result T Refusal) → Answers (answer bytes) read → IfErr read IsNoStop
  answer_unstopped bytes (Ok lines) h = tt
  answer_unstopped bytes (Err e) h = answer_fault IsNoStop tt line_stop bytes e h

  pub answer_reads : (bytes : List ℕ) (read : Result T Refusal) → Answers (answer bytes) read → failed_reads read ≡ 0
  answer_reads bytes (Ok lines) h = refl
  answer_reads bytes (Err e) h = no_read T e (answer_fault IsNoDeviceFault tt line_device bytes e h)
