-- What was shown of events, one after the other: the laws of an observer, for its impl.
use Rattle.std.proofs.Common.{◌≡◌, ◌∙◌, ◌+◌, ℕ, suc, List, [], ◌∷◌, ◌++◌, length, length-append, arith, refl, sym, ap, subst}
use Rattle.world.specs.Observing.{Seen}
use Rattle.replay_steps.specs.Private.Walks.{ShowsOfLine}
use Rattle.replay_steps.specs.Steps.{StepTaken, step_of_seen, steps_of_seen}

pub steps_append : (line next : ℕ) (xs ys : List Seen)
    → steps_of_seen line next (xs ++ ys)
    ≡ steps_of_seen line next xs ++ steps_of_seen line (next + length xs) ys
steps_append line next [] ys = ap (λ n. steps_of_seen line n ys) (omega arith)
steps_append line next (x ∷ xs) ys =
    let same : next + 1 + length xs ≡ next + suc (length xs) = omega arith in
    let later : ℕ → List StepTaken =
    λ n. steps_of_seen line (next + 1) xs ++ steps_of_seen line n ys in
    ap (λ rest. step_of_seen line next x ∷ rest)
    (steps_append line (next + 1) xs ys ∙ ap later same)

pub shows_of_none : {O : Type 0} (Shows : O → List StepTaken → O → Type 0)
    → ((o : O) → Shows o [] o) → (line next : ℕ) (o : O)
    → ShowsOfLine Shows line next o [] line next o
shows_of_none Shows none line next o =
    record { line_is = refl; next_is = omega arith; shown = none o }

pub shows_of_more : {O : Type 0} (Shows : O → List StepTaken → O → Type 0)
    → ((a b c : O) (xs ys : List StepTaken) → Shows a xs b → Shows b ys c → Shows a (xs ++ ys) c)
    → (line next : ℕ) (a : O) (xs : List Seen) (line2 next2 : ℕ) (b : O) (ys : List Seen)
    (line3 next3 : ℕ) (c : O) → ShowsOfLine Shows line next a xs line2 next2 b
    → ShowsOfLine Shows line2 next2 b ys line3 next3 c
    → ShowsOfLine Shows line next a (xs ++ ys) line3 next3 c
shows_of_more Shows more line next a xs line2 next2 b ys line3 next3 c one two =
    let first = steps_of_seen line next xs in
    let second = steps_of_seen line (next + length xs) ys in
    let from = subst (λ n. Shows b (steps_of_seen line2 n ys) c) one.next_is two.shown in
    let shown = subst (λ l. Shows b (steps_of_seen l (next + length xs) ys) c) one.line_is from in
    record {
      line_is = two.line_is ∙ one.line_is;
      next_is = omega (arith, one.next_is, two.next_is, length-append xs ys);
      shown = subst (λ steps. Shows a steps c) (sym (steps_append line next xs ys))
          (more a b c first second one.shown shown);
    }
