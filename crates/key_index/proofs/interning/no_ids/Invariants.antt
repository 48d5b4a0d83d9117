use Rattle.std.proofs.Common.{◌≡◌, [], map, vec_items, replicate}
use Rattle.key_index.proofs.interning.no_ids.Given as goal

abbrev pub invariant-loop-s : goal.invariant-loop-s
invariant-loop-s l = map vec_items l.ids.items ≡ replicate l.s []
