use Rattle.std.proofs.Common.{◌≡◌, [], map, replicate, vec_items}
use Rattle.key_index.proofs.scattering.no_keys.Given as goal

abbrev pub invariant-loop-s : goal.invariant-loop-s
invariant-loop-s l = map vec_items l.rows.items ≡ replicate l._s []
