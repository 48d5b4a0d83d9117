use Rattle.std.proofs.Common.{◌≡◌, ◌≤◌, ◌*◌, sum_by, count_ones, take}
use Rattle.lane_words.proofs.words.count_ones.Given as goal

abbrev pub invariant-loop-word : goal.invariant-loop-word
invariant-loop-word l = record { so_far : l.count ≡ sum_by count_ones (take l.word-index l.a); most : l.count ≤ 64 * l.word-index }
