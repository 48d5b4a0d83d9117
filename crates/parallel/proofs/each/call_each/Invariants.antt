use Rattle.std.proofs.Common.{◌≡◌, ◌≤◌, ◌<◌, ◌+◌, ℕ, get_or}
use Rattle.std.specs.Fork.{ChangesAt}
use Rattle.parallel.proofs.each.call_each.Given as goal

abbrev pub invariant-loop-k : goal.invariant-loop-k
invariant-loop-k g l =
    ((j : ℕ) (d : g.row.T.Denot) → l.k ≤ j → get_or l.items j d ≡ get_or l.initial.items j d)
    × ((j : ℕ) (d : g.row.T.Denot) → j < l.k → ChangesAt g.F.Fn l.f (l.from + j) (get_or l.initial.items j d) (get_or l.items j d))
