use Rattle.std.proofs.Common.{◌≡◌, ◌++◌, flat_map, length, vec_items}
use Rattle.std.specs.Vec.Iter.{into_iter_items, into_iter_len}
use Rattle.report_rows.proofs.replay_rows.add_texts.Given as goal

abbrev pub invariant-loop-text : goal.invariant-loop-text
invariant-loop-text l = record {
  len : into_iter_len l.text-iterator ≡ length (into_iter_items l.text-iterator);
  all : l.all.items ++ flat_map vec_items (into_iter_items l.text-iterator) ≡ l.fn.all.items ++ flat_map vec_items l.fn.texts.items;
}
