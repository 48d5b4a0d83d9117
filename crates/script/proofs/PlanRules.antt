-- The rules of a plan, line by line.
use Rattle.std.proofs.Common.{◌≡◌, ◌≤◌, ◌<◌, ◌*◌, ◌-◌, refl, sym, subst, ap, ◌∙◌, ℕ, zero, suc, ◌+◌, ◌⊎◌, inl, inr, Bool, true, false, cond, not, ltb, ◌&&◌, List, [], ◌∷◌, ◌++◌, length, take, get_or, arith, Some, None}
use Rattle.std.proofs.lemmas.List.{get_or_append_left, get_or_push, length_push, take-append-le, take_all}
use Rattle.std.proofs.lemmas.List.Folds.{fold_along}
use Rattle.std.proofs.lemmas.List.Sums.{fold_more, fold_push}
use Rattle.std.proofs.lemmas.Option.{get_or_from_slice_get, slice_get-get_or, slice_get_within}
use Rattle.std.specs.List.{count_by, fold, slice_get}
use Rattle.lane_words.specs.declared.Refusal.TheVariants as r
use Rattle.lane_words.specs.declared.limits.TheConstants.{MOST_MEMBERS}
use Rattle.script.specs.Plan.{IsPlan, Roster, change_fault, entered, is_allowed, is_among, is_anybody_left, nobody_yet, roster_of}
use Rattle.script.specs.Private.Plans.{is_join}
use Rattle.script.specs.declared.plan.Change.{Change}
use Rattle.script.specs.declared.plan.Change.TheVariants.{Join, Leave, Lose}
use borrow.Author.Tests.{ltb-true}

-- ---- the rules, for any number of lines

pub record AreAllowed (lines : List Change) : Type 0 where
  pub allowed : (i : ℕ) (change : Change) → slice_get lines i ≡ Some change
      → is_allowed (roster_of (take i lines)) change ≡ true
  pub left : (i : ℕ) → i < length lines
      → is_anybody_left (roster_of (take (i + 1) lines)) ≡ true

pub none-allowed : AreAllowed []
none-allowed = record {
  allowed = λ i change e. absurd cc;
  left = λ i below. absurd (omega arith);
}

without_fault : (n : ℕ) (allowed left : Bool)
    → cond (not allowed) (Some (r.BadLine n)) (cond (not left) (Some (r.NobodyLeft n)) None) ≡ None
    → (allowed ≡ true) × (left ≡ true)
without_fault n true true e = (refl, refl)
without_fault n true false e = absurd cc
without_fault n false left e = absurd cc

no-fault : (n : ℕ) (before : Roster) (c : Change) → change_fault n before c ≡ None
    → (is_allowed before c ≡ true) × (is_anybody_left (entered before c) ≡ true)
unfolding change_fault
no-fault n before c e =
    without_fault n (is_allowed before c) (is_anybody_left (entered before c)) e

last_or_before : (n i : ℕ) → i < n + 1 → (i < n) ⊎ (i ≡ n)
last_or_before n i below = grind arith

pushed_allowed : (lines : List Change) (c x : Change) (i : ℕ)
    → AreAllowed lines → is_allowed (roster_of lines) c ≡ true
    → get_or (lines ++ c ∷ []) i c ≡ x
    → (i < length lines) ⊎ (i ≡ length lines)
    → is_allowed (roster_of (take i (lines ++ c ∷ []))) x ≡ true
pushed_allowed lines c x i h new at (inl below) =
    let before = take-append-le i lines (c ∷ []) (omega arith) in
    let is : slice_get lines i ≡ Some x =
    slice_get-get_or lines i c below
    ∙ ap Some (sym (get_or_append_left lines (c ∷ []) c i below) ∙ at) in
    ap (λ lines. is_allowed (roster_of lines) x) before ∙ h.allowed i x is
pushed_allowed lines c x i h new at (inr last) =
    let before =
    take-append-le i lines (c ∷ []) (omega arith) ∙ take_all i lines (omega arith) in
    let is : x ≡ c = sym at ∙ get_or_push lines c c i (sym last) in
    ap (λ lines. is_allowed (roster_of lines) x) before
    ∙ ap (is_allowed (roster_of lines)) is ∙ new

pushed_left : (lines : List Change) (c : Change) (i : ℕ)
    → AreAllowed lines → is_anybody_left (entered (roster_of lines) c) ≡ true
    → (i < length lines) ⊎ (i ≡ length lines)
    → is_anybody_left (roster_of (take (i + 1) (lines ++ c ∷ []))) ≡ true
pushed_left lines c i h new (inl below) =
    ap (λ lines. is_anybody_left (roster_of lines))
    (take-append-le (i + 1) lines (c ∷ []) (omega arith))
    ∙ h.left i below
pushed_left lines c i h new (inr last) =
    let size = length_push lines c in
    ap (λ lines. is_anybody_left (roster_of lines))
    (take_all (i + 1) (lines ++ c ∷ []) (omega arith))
    ∙ ap is_anybody_left (fold_push entered nobody_yet lines c)
    ∙ new

pub push-allowed : (n : ℕ) (lines : List Change) (c : Change)
    → AreAllowed lines → change_fault n (roster_of lines) c ≡ None
    → AreAllowed (lines ++ c ∷ [])
push-allowed n lines c h none =
    let new = no-fault n (roster_of lines) c none in
    let size = length_push lines c in
    record {
      allowed = λ i x e.
          let within = slice_get_within (lines ++ c ∷ []) i x e in
          pushed_allowed lines c x i h new.0 (get_or_from_slice_get (lines ++ c ∷ []) i x c e)
          (last_or_before (length lines) i (omega arith));
      left = λ i below.
          pushed_left lines c i h new.1 (last_or_before (length lines) i (omega arith));
    }

-- ---- the number of lines

sizes : (before : Roster) (lines : List Change)
    → length (fold entered before lines).joined + length (fold entered before lines).gone
    ≡ length before.joined + length before.gone + length lines
sizes before [] = omega arith
sizes before (Join name ∷ lines) =
    let more = length_push before.joined name in
    let rest = sizes (entered before (Join name)) lines in
    omega arith
sizes before (Leave name ∷ lines) =
    let more = length_push before.gone name in
    let rest = sizes (entered before (Leave name)) lines in
    omega arith
sizes before (Lose name ∷ lines) =
    let more = length_push before.gone name in
    let rest = sizes (entered before (Lose name)) lines in
    omega arith

one_joins : (before : Roster) (n : ℕ) (c : Change) → length before.joined ≡ n
    → length (entered before c).joined ≡ n + cond (is_join c) 1 0
one_joins before n (Join name) is = let more = length_push before.joined name in omega arith
one_joins before n (Leave name) is = omega arith
one_joins before n (Lose name) is = omega arith

pub joined-counted : (lines : List Change)
    → length (roster_of lines).joined ≡ count_by is_join lines
joined-counted lines =
    fold_along entered (λ n c. n + cond (is_join c) 1 0) (λ before n. length before.joined ≡ n)
    one_joins nobody_yet 0 lines refl

capacity : (fresh : Bool) (n : ℕ) → (fresh && ltb n MOST_MEMBERS) ≡ true → n + 1 ≤ MOST_MEMBERS
capacity true n e = let below = ltb-true n MOST_MEMBERS e in omega arith
capacity false n e = absurd cc

entered-few : (before : Roster) (c : Change) → is_allowed before c ≡ true
    → length before.joined ≤ MOST_MEMBERS → length (entered before c).joined ≤ MOST_MEMBERS
unfolding is_allowed
entered-few before (Join name) allowed few =
    let more = length_push before.joined name in
    let one = capacity (not (is_among before.joined name)) (length before.joined) allowed in
    omega arith
entered-few before (Leave name) allowed few = few
entered-few before (Lose name) allowed few = few

few_after : (lines : List Change) → AreAllowed lines → (i : ℕ) → i ≤ length lines
    → length (roster_of (take i lines)).joined ≤ MOST_MEMBERS
few_after lines h zero within = omega arith
few_after lines h (suc i) within =
    let c = get_or lines i (Join []) in
    let at = slice_get-get_or lines i (Join []) (omega arith) in
    let one = fold_more entered nobody_yet lines i (Join []) (omega arith) in
    let before = few_after lines h i (omega arith) in
    let few = entered-few (roster_of (take i lines)) c (h.allowed i c at) before in
    go (suc i) (i + 1) (omega arith) (rw one few)
  where
    go : (j k : ℕ) → j ≡ k → length (roster_of (take k lines)).joined ≤ MOST_MEMBERS
        → length (roster_of (take j lines)).joined ≤ MOST_MEMBERS
    go j k e few = rw e few

allowed-of : (lines : List Change) → IsPlan lines → AreAllowed lines
allowed-of lines plan = record { allowed = plan.allowed; left = plan.left }

pub members-few : (lines : List Change) → IsPlan lines
    → length (roster_of lines).joined ≤ MOST_MEMBERS
members-few lines plan =
    subst (λ lines. length (roster_of lines).joined ≤ MOST_MEMBERS)
    (take_all (length lines) lines (omega arith))
    (few_after lines (allowed-of lines plan) (length lines) (omega arith))

end-left : (lines : List Change) → IsPlan lines
    → length (roster_of lines).gone < length (roster_of lines).joined
end-left lines plan =
    let some = plan.some in
    let left = plan.left (length lines - 1) (omega arith) in
    let all = take_all (length lines - 1 + 1) lines (omega arith) in
    ltb-true _ _ (sym (ap (λ lines. is_anybody_left (roster_of lines)) all) ∙ left)

pub members-some : (lines : List Change) → IsPlan lines → 1 ≤ length (roster_of lines).joined
members-some lines plan = let left = end-left lines plan in omega arith

pub plan_is_short : (lines : List Change) → IsPlan lines → length lines < 2 * MOST_MEMBERS
plan_is_short lines plan =
    let few = members-few lines plan in
    let left = end-left lines plan in
    let all = sizes nobody_yet lines in
    omega arith
