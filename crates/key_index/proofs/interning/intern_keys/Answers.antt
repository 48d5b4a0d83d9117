use Rattle.std.proofs.Common.{arith}
use Rattle.std.proofs.lemmas.Grind.{common_steps}
use Rattle.key_index.proofs.interning.intern_keys.Goals as goal

pub assign_global_ids-assigned-requires-clause-shards : goal.assign_global_ids-assigned-requires-clause-shards
assign_global_ids-assigned-requires-clause-shards g c κs within = grind (arith, common_steps)

pub assign_global_ids-assigned-requires-clause-tables : goal.assign_global_ids-assigned-requires-clause-tables
assign_global_ids-assigned-requires-clause-tables g c κs within = grind (arith, common_steps)

pub assign_global_ids-assigned-requires-clause-local_ids : goal.assign_global_ids-assigned-requires-clause-local_ids
assign_global_ids-assigned-requires-clause-local_ids g c κs within = grind (arith, common_steps)

pub numbered-requires-clause-shards : goal.numbered-requires-clause-shards
numbered-requires-clause-shards g c κs within = grind (arith, common_steps)

pub numbered-requires-clause-local_ids : goal.numbered-requires-clause-local_ids
numbered-requires-clause-local_ids g c κs within = grind (arith, common_steps)

pub numbered-requires-clause-assigned : goal.numbered-requires-clause-assigned
numbered-requires-clause-assigned g c κs within = grind (arith, common_steps)
