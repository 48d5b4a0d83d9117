use Rattle.std.proofs.Common.{◌+◌, ◌∙◌, [], length, arith, ap, refl, get_or}
use Rattle.partitioner.specs.Private.Groups.{no_key}
use Rattle.partitioner.proofs.Groups.{extended_long, extended_of_length, read_row, pending_at, pending_set}
use Rattle.partitioner.proofs.hashing.add_to_group.Goals as goal

pub extended-requires : goal.extended-requires
extended-requires c =
    let below = c.requires.bound no_key in
    (pending_at c.args.keys.now (length (get_or c.args.keys.now c.args.i no_key).now) c.args.rows.now c.args.counts.now c.requires.pending (omega arith) (omega arith)).1

pub hash_eight-requires-clause-row : goal.hash_eight-requires-clause-row
hash_eight-requires-clause-row c =
    let below = c.requires.bound no_key in
    let w = pending_at c.args.keys.now (length (get_or c.args.keys.now c.args.i no_key).now) c.args.rows.now c.args.counts.now c.requires.pending (omega arith) (omega arith) in
    ((length (get_or c.args.keys.now c.args.i no_key).now), rw (read_row c.args.rows.now (length (get_or c.args.keys.now c.args.i no_key).now) c.extended.result (omega arith)) (rw c.extended.ensures (extended_of_length c.args.keys.now (length (get_or c.args.keys.now c.args.i no_key).now) (get_or c.args.rows.now (length (get_or c.args.keys.now c.args.i no_key).now) []) (get_or c.args.counts.now (length (get_or c.args.keys.now c.args.i no_key).now) 0) c.args.i w (c.requires.index, refl))))

pub returns-then-count-clause-pending : goal.returns-then-count-clause-pending
returns-then-count-clause-pending c =
    let below = c.requires.bound no_key in
    let w = pending_at c.args.keys.now (length (get_or c.args.keys.now c.args.i no_key).now) c.args.rows.now c.args.counts.now c.requires.pending (omega arith) (omega arith) in
    pending_set c.args.keys.now (length (get_or c.args.keys.now c.args.i no_key).now) c.args.rows.now c.args.counts.now c.extended.result ((get_or c.args.counts.now (length (get_or c.args.keys.now c.args.i no_key).now) 0) + 1) c.requires.pending (ap length c.extended.ensures ∙ extended_long c.args.keys.now (length (get_or c.args.keys.now c.args.i no_key).now) (get_or c.args.rows.now (length (get_or c.args.keys.now c.args.i no_key).now) []) (get_or c.args.counts.now (length (get_or c.args.keys.now c.args.i no_key).now) 0) c.args.i w, omega arith, λ some. rw c.extended.ensures (extended_of_length c.args.keys.now (length (get_or c.args.keys.now c.args.i no_key).now) (get_or c.args.rows.now (length (get_or c.args.keys.now c.args.i no_key).now) []) (get_or c.args.counts.now (length (get_or c.args.keys.now c.args.i no_key).now) 0) c.args.i w (c.requires.index, refl)))

pub returns-else-count-clause-pending : goal.returns-else-count-clause-pending
returns-else-count-clause-pending c =
    let below = c.requires.bound no_key in
    let w = pending_at c.args.keys.now (length (get_or c.args.keys.now c.args.i no_key).now) c.args.rows.now c.args.counts.now c.requires.pending (omega arith) (omega arith) in
    pending_set c.args.keys.now (length (get_or c.args.keys.now c.args.i no_key).now) c.args.rows.now c.args.counts.now c.extended.result 0 c.requires.pending (ap length c.extended.ensures ∙ extended_long c.args.keys.now (length (get_or c.args.keys.now c.args.i no_key).now) (get_or c.args.rows.now (length (get_or c.args.keys.now c.args.i no_key).now) []) (get_or c.args.counts.now (length (get_or c.args.keys.now c.args.i no_key).now) 0) c.args.i w, omega arith, λ some. absurd (omega arith))
