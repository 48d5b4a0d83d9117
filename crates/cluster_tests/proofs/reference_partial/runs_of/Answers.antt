use Rattle.std.proofs.Common.{◌≡◌, ◌-◌, ◌+◌, ◌∷◌, ◌++◌, [], ℕ, List, get_or, rules, arith, subst, sym}
use Rattle.cluster_tests.proofs.reference_partial.Listed.{AreListed, all-listed, run-grows, run-listed}
use Rattle.cluster_tests.proofs.reference_partial.runs_of.Goals as goal
use Rattle.cluster_tests.proofs.reference_partial.runs_of.Goals.{then-ends_run+in_ok-push, else-ends_run}

pub loop-at-preserved : goal.loop-at-preserved
loop-at-preserved c =
    let ids = c.args.ids.now in
    let at = c.loop-at.at in
    let start = c.loop-at.start in
    let runs = c.loop-at.runs.items in
    elim c.if-ends_run.branch [
      | then-ends_run+in_ok-push w ↦
          let listed = run-listed runs ids start at c.requires (omega arith) c.loop-at.invariant (c.ends_run.ensures.if_true w.if-ends_run.true) in
          let pushed : c.if-ends_run.runs.items ≡ runs ++ (get_or ids at 0, at + 1 - start) ∷ [] = search rules in
          rw w.start-is (subst (λ (rs : List (ℕ × ℕ)). AreListed rs ids (at + 1) (at + 1)) (sym pushed) listed)
      | else-ends_run w ↦
          let goes_on = c.ends_run.ensures.if_false w.if-ends_run.false in
          rw (w.runs-is, w.start-is) (run-grows runs ids start at c.loop-at.invariant goes_on.0 goes_on.1)
    ]

pub returns : goal.returns
returns c = all-listed c.loop-at.runs.items c.args.ids.now c.loop-at.start c.loop-at.at c.loop-at.invariant (omega arith)
