-- Lemmas on the answers of jobs.
use Rattle.std.proofs.Common.{◌≡◌, ◌∙◌, ◌+◌, ℕ, Result, Ok, Err, ap, inl, inr, sym, subst}
use Rattle.std.specs.Prelude.{◌⊎◌, IfErr, IfOk, MatchResult}
use Rattle.lane_words.specs.declared.Refusal.{Refusal}
use Rattle.lane_words.specs.declared.Refusal.TheVariants as r
use Rattle.ingest.specs.Reports.{CountsFailures}
use Rattle.report_cli.specs.Private.Input.{of_input}
use Rattle.report_cli.specs.declared.opened.Input.{Input}
use Rattle.report_cli.specs.declared.opened.Input.TheVariants as from

-- ---- an answer's fault
abbrev fault-of : {T : Type 0} → Refusal → Result T Refusal → Refusal
fault-of default (Ok value) = default
fault-of default (Err fault) = fault

pub same-fault : {T : Type 0} (answer : Result T Refusal) (fault other : Refusal) → answer ≡ Err fault → answer ≡ Err other → fault ≡ other
same-fault answer fault other h k = ap (fault-of fault) (sym h ∙ k)

pub match-result : {A B : Type 0} (r : Result A B) (P : A → Type 0) (Q : B → Type 0) → IfOk r P → IfErr r Q → MatchResult r P Q
match-result (Ok a) P Q p q = p
match-result (Err b) P Q p q = q

-- ---- which read failed
module _ {F I : Type 0} (HasFailed : Type 0) (of_file : F → ℕ) (of_stdin : I → ℕ) (by_file : (file : F) → of_file file ≡ 1 → HasFailed)
    (by_stdin : (stdin : I) → of_stdin stdin ≡ 1 → HasFailed) where
  has-failed : (input : Input F I) → of_input of_file of_stdin input ≡ 1 → HasFailed
  has-failed (from.File file) h = by_file file h
  has-failed (from.Stdin stdin) h = by_stdin stdin h

  -- of two
  either : (file script : Input F I) (a b a2 b2 : ℕ) → a ≡ 0 → b ≡ 0 → of_input of_file of_stdin file ≡ a2 → of_input of_file of_stdin script ≡ b2
      → ((a2 ≡ a + 1) × (b2 ≡ b)) ⊎ ((a2 ≡ a) × (b2 ≡ b + 1)) → HasFailed
  either file script a b a2 b2 z w f s (inl h) = has-failed file (f ∙ h.0 ∙ ap (λ n. n + 1) z)
  either file script a b a2 b2 z w f s (inr h) = has-failed script (s ∙ h.1 ∙ ap (λ n. n + 1) w)

  pub cause-two : {T : Type 0} (answer : Result T Refusal) (file script : Input F I) (a b a2 b2 : ℕ) → a ≡ 0 → b ≡ 0
      → of_input of_file of_stdin file ≡ a2 → of_input of_file of_stdin script ≡ b2
      → CountsFailures a a2 b b2 answer → answer ≡ Err r.ReadFailed → HasFailed
  cause-two answer file script a b a2 b2 z w f s h e =
      either file script a b a2 b2 z w f s (subst (λ x. CountsFailures a a2 b b2 x) e h)

  pub cause-of-fault : (fault : Refusal) (file script : Input F I) (a b a2 b2 : ℕ) → a ≡ 0 → b ≡ 0
      → of_input of_file of_stdin file ≡ a2 → of_input of_file of_stdin script ≡ b2
      → CountsFailures {T = Unit {0}} a a2 b b2 (Err fault) → fault ≡ r.ReadFailed → HasFailed
  cause-of-fault fault file script a b a2 b2 z w f s h e =
      either file script a b a2 b2 z w f s (subst (λ x. CountsFailures {T = Unit {0}} a a2 b b2 (Err x)) e h)
