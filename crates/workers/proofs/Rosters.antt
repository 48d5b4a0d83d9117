-- The members of a group and the roster of a plan.
use Rattle.std.proofs.Common.{ℕ, zero, suc, ◌≡◌, ◌+◌, ◌<◌, ◌≤◌, Bool, true, false, ◌&&◌, ◌||◌, not, List, [], ◌∷◌, ◌++◌, Option, Some, length, take, slice_get, refl, ap, sym, ◌∙◌, subst, inl, inr, arith}
use Rattle.std.specs.Prelude.{◌⊎◌}
use Rattle.std.specs.List.{fold}
use Rattle.std.specs.Option.{unwrap_or}
use Rattle.std.specs.Str.{bytes_eq}
use Rattle.std.proofs.lemmas.Bool.{false≢true}
use Rattle.std.proofs.lemmas.List.{length-map}
use Rattle.std.proofs.lemmas.Slice.Eq.{bytes_eq-Decides}
use Rattle.group_machine.specs.State.{GroupState, is_present, opening}
use Rattle.group_laws.specs.Names.{HasNumber, names}
use Rattle.group_machine.specs.Steps.{joined_by, left_by}
use Rattle.group_laws.specs.Rounds.{rebalance_result}
use Rattle.group_laws.proofs.ResultFacts.{joined_names, joined_stays, left_names, left_others, names_result, present_result}
use Rattle.group_machine.proofs.JoinLemmas.{joined_newcomer}
use Rattle.group_laws.proofs.NameLemmas.{name_has_number}
use Rattle.script.specs.Plan.{IsPlan, Roster, entered, is_allowed, is_among, is_there, nobody_yet, roster_of}
use Rattle.script.specs.declared.plan.Change.{Change}
use Rattle.script.specs.declared.plan.Change.TheVariants.{Join, Leave, Lose}
use Rattle.workers.specs.Plans.{changed_by, number_of, settled, settled_from}

-- ---- lists
some_same : {X : Type 0} (x y : X) → Some x ≡ Some y → x ≡ y
some_same x y e = cc

get_more : (xs : List (List ℕ)) (x y : List ℕ) (i : ℕ) → slice_get (xs ++ x ∷ []) i ≡ Some y → (slice_get xs i ≡ Some y) ⊎ (i ≡ length xs)
get_more [] x y zero e = inr refl
get_more [] x y (suc i) e = absurd (cc e)
get_more (z ∷ xs) x y zero e = inl e
get_more (z ∷ xs) x y (suc i) e =
    elim (get_more xs x y i e) [
      | inl was ↦ inl was
      | inr last ↦ inr (ap suc last)
    ]

or_false : (b : Bool) → (b || false) ≡ b
or_false true = refl
or_false false = refl

or_more : (b r l m : Bool) → l ≡ (r || m) → (b || l) ≡ ((b || r) || m)
or_more true r l m e = refl
or_more false r l m e = e

among_more : (xs : List (List ℕ)) (x y : List ℕ) → is_among (xs ++ x ∷ []) y ≡ (is_among xs y || bytes_eq x y)
among_more [] x y = or_false (bytes_eq x y)
among_more (z ∷ xs) x y = or_more (bytes_eq z y) (is_among xs y) (is_among (xs ++ x ∷ []) y) (bytes_eq x y) (among_more xs x y)

both_false : (a b : Bool) → (a || b) ≡ false → (a ≡ false) × (b ≡ false)
both_false true b e = absurd (false≢true (sym e))
both_false false b e = (refl, e)

neither : (xs : List (List ℕ)) (x y : List ℕ) → is_among (xs ++ x ∷ []) y ≡ false → (is_among xs y ≡ false) × (bytes_eq x y ≡ false)
neither xs x y e = both_false (is_among xs y) (bytes_eq x y) (sym (among_more xs x y) ∙ e)

abbrev IsAt : List (List ℕ) → List ℕ → Type 0
IsAt xs x = (i : ℕ) × (slice_get xs i ≡ Some x)

at_first : (z : List ℕ) (xs : List (List ℕ)) (x : List ℕ) (b : Bool) → bytes_eq z x ≡ b → (b || is_among xs x) ≡ true → (is_among xs x ≡ true → IsAt xs x) → IsAt (z ∷ xs) x
at_first z xs x true is e later = (zero, ap (λ y. Some y) ((bytes_eq-Decides z x).0 is))
at_first z xs x false is e later = let found = later e in (suc found.0, found.1)

among_at : (xs : List (List ℕ)) (x : List ℕ) → is_among xs x ≡ true → IsAt xs x
among_at [] x e = absurd (false≢true e)
among_at (z ∷ xs) x e = at_first z xs x (bytes_eq z x) refl e (among_at xs x)

take_line : (plan : List Change) (i : ℕ) (line : Change) → slice_get plan i ≡ Some line → take (suc i) plan ≡ take i plan ++ line ∷ []
take_line [] i line e = absurd (cc e)
take_line (x ∷ plan) zero line e = ap (λ y. y ∷ []) (some_same x line e)
take_line (x ∷ plan) (suc i) line e = ap (λ rest. x ∷ rest) (take_line plan i line e)

line_at : (plan : List Change) (i : ℕ) → i < length plan → (line : Change) × (slice_get plan i ≡ Some line)
line_at [] i lt = absurd (omega arith)
line_at (x ∷ plan) zero lt = (x, refl)
line_at (x ∷ plan) (suc i) lt = line_at plan i (omega arith)

-- ---- one line more
pub settled_more : (g : GroupState) (lines : List Change) (line : Change) → settled_from g (lines ++ line ∷ []) ≡ rebalance_result (changed_by (settled_from g lines) line)
settled_more g [] line = refl
settled_more g (x ∷ lines) line = settled_more (rebalance_result (changed_by g x)) lines line

roster_more : (r : Roster) (lines : List Change) (line : Change) → fold entered r (lines ++ line ∷ []) ≡ entered (fold entered r lines) line
roster_more r [] line = refl
roster_more r (x ∷ lines) line = roster_more (entered r x) lines line

pub next_settled : (p : ℕ) (plan : List Change) (i : ℕ) (line : Change) → slice_get plan i ≡ Some line → settled p (take (suc i) plan) ≡ rebalance_result (changed_by (settled p (take i plan)) line)
next_settled p plan i line at = ap (λ lines. settled p lines) (take_line plan i line at) ∙ settled_more (opening p) (take i plan) line

next_roster : (plan : List Change) (i : ℕ) (line : Change) → slice_get plan i ≡ Some line → roster_of (take (suc i) plan) ≡ entered (roster_of (take i plan)) line
next_roster plan i line at = ap roster_of (take_line plan i line at) ∙ roster_more nobody_yet (take i plan) line

-- ---- a group agrees with a roster
-- the names are those that joined, and each that is not gone is present
pub record HasRoster (g : GroupState) (r : Roster) : Type 0 where
  pub names_are : names g ≡ r.joined
  pub there : (i : ℕ) (name : List ℕ) → slice_get r.joined i ≡ Some name → is_among r.gone name ≡ false → is_present g (i + 1) ≡ true

pub slots_are : (g : GroupState) (r : Roster) → HasRoster g r → length g.slots ≡ length r.joined
slots_are g r has = sym (length-map g.slots (λ s. s.name)) ∙ ap length has.names_are

opening_roster : (p : ℕ) → HasRoster (opening p) nobody_yet
opening_roster p = record { names_are = refl; there = λ i name at gone. absurd (nothing i name at) }
  where
    nothing : (i : ℕ) (name : List ℕ) → ◌≡◌ {A = Option (List ℕ)} (slice_get [] i) (Some name) → ⊥
    nothing zero name at = cc
    nothing (suc i) name at = cc

joined_roster : (g : GroupState) (r : Roster) (name : List ℕ) → HasRoster g r → HasRoster (joined_by g name) (entered r (Join name))
joined_roster g r name has = record {
  names_are = joined_names g name ∙ ap (λ xs. xs ++ name ∷ []) has.names_are;
  there = λ i other at gone.
      elim (get_more r.joined name other i at) [
        | inl was ↦ joined_stays g name (i + 1) (has.there i other was gone)
        | inr last ↦ ap (λ k. is_present (joined_by g name) (k + 1)) (last ∙ sym (slots_are g r has)) ∙ joined_newcomer g name
      ];
}

pub number_there : (g : GroupState) (r : Roster) (name : List ℕ) → HasRoster g r → is_there r name ≡ true → HasNumber g name
number_there g r name has e =
    let both = first_of (is_among r.joined name) (not (is_among r.gone name)) e in
    let found = among_at r.joined name both in
    name_has_number g name found.0 (ap (λ xs. slice_get xs found.0) has.names_are ∙ found.1)
  where
    first_of : (a b : Bool) → (a && b) ≡ true → a ≡ true
    first_of true b h = refl
    first_of false b h = h

pub number_is : (g : GroupState) (name : List ℕ) (has : HasNumber g name) → number_of g name ≡ has.index + 1
number_is g name has = ap (λ o. unwrap_or o 0) has.number

pub present_there : (g : GroupState) (r : Roster) (name : List ℕ) → HasRoster g r → is_there r name ≡ true → is_present g (number_of g name) ≡ true
present_there g r name has e =
    let n = number_there g r name has e in
    let gone = second_of (is_among r.joined name) (is_among r.gone name) e in
    ap (λ k. is_present g k) (number_is g name n)
    ∙ has.there n.index name (ap (λ xs. slice_get xs n.index) (sym has.names_are) ∙ n.named) gone
  where
    second_of : (a b : Bool) → (a && not b) ≡ true → b ≡ false
    second_of true true h = absurd (false≢true h)
    second_of true false h = refl
    second_of false b h = absurd (false≢true h)

left_roster : (g : GroupState) (r : Roster) (name : List ℕ) → HasRoster g r → is_there r name ≡ true → HasRoster (left_by g (number_of g name)) (entered r (Leave name))
left_roster g r name has e = record {
  names_are = left_names g (number_of g name) ∙ has.names_are;
  there = λ i other at gone.
      let not_either = neither r.gone name other gone in
      left_others g (number_of g name) (i + 1) (λ same. another i other at not_either.1 same) ∙ has.there i other at not_either.0;
}
  where
    n : HasNumber g name
    n = number_there g r name has e

    another : (i : ℕ) (other : List ℕ) → slice_get r.joined i ≡ Some other → bytes_eq name other ≡ false → i + 1 ≡ number_of g name → ⊥
    another i other at not_either same =
        let index : i ≡ n.index = omega (arith, same, number_is g name n) in
        let named : Some other ≡ Some name = sym at ∙ ap (λ xs. slice_get xs i) (sym has.names_are) ∙ ap (λ k. slice_get (names g) k) index ∙ n.named in
        false≢true (sym not_either ∙ (bytes_eq-Decides name other).1 (sym (some_same other name named)))

changed_roster : (g : GroupState) (r : Roster) (line : Change) → HasRoster g r → is_allowed r line ≡ true → HasRoster (changed_by g line) (entered r line)
unfolding is_allowed
changed_roster g r (Join name) has e = joined_roster g r name has
changed_roster g r (Leave name) has e = left_roster g r name has e
changed_roster g r (Lose name) has e = left_roster g r name has e

ended_roster : (g : GroupState) (r : Roster) → HasRoster g r → HasRoster (rebalance_result g) r
ended_roster g r has = record {
  names_are = names_result g ∙ has.names_are;
  there = λ i name at gone. present_result g (i + 1) ∙ has.there i name at gone;
}

before_end : (g : GroupState) (r : Roster) → HasRoster (rebalance_result g) r → HasRoster g r
before_end g r has = record {
  names_are = sym (names_result g) ∙ has.names_are;
  there = λ i name at gone. sym (present_result g (i + 1)) ∙ has.there i name at gone;
}

settled_roster : (p : ℕ) (plan : List Change) → IsPlan plan → (i : ℕ) → i ≤ length plan → HasRoster (settled p (take i plan)) (roster_of (take i plan))
settled_roster p plan is zero le = opening_roster p
settled_roster p plan is (suc i) le =
    let at = line_at plan i (omega arith) in
    let before : HasRoster (settled p (take i plan)) (roster_of (take i plan)) = settled_roster p plan is i (omega arith) in
    let after : HasRoster (rebalance_result (changed_by (settled p (take i plan)) at.0)) (entered (roster_of (take i plan)) at.0) =
    ended_roster (changed_by (settled p (take i plan)) at.0) (entered (roster_of (take i plan)) at.0) (changed_roster (settled p (take i plan)) (roster_of (take i plan)) at.0 before (is.allowed i at.0 at.1)) in
    subst (λ r. HasRoster (settled p (take (suc i) plan)) r) (sym (next_roster plan i at.0 at.1))
    (subst (λ g. HasRoster g (entered (roster_of (take i plan)) at.0)) (sym (next_settled p plan i at.0 at.1)) after)

pub progress_roster : (g : GroupState) (p : ℕ) (plan : List Change) (i : ℕ) → IsPlan plan → i ≤ length plan → rebalance_result g ≡ settled p (take i plan) → HasRoster g (roster_of (take i plan))
progress_roster g p plan i is le end =
    before_end g (roster_of (take i plan)) (subst (λ h. HasRoster h (roster_of (take i plan))) (sym end) (settled_roster p plan is i le))
