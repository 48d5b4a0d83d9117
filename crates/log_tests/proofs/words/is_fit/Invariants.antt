use Rattle.std.proofs.Common.{ℕ, ◌+◌, ◌<◌, ◌^◌, get_or}
use Rattle.log_tests.proofs.words.is_fit.Given as goal

abbrev pub invariant-loop-i : goal.invariant-loop-i
invariant-loop-i l = (j : ℕ) → j < l.i → get_or l.a j 0 + get_or l.b j 0 < 2 ^ 64
