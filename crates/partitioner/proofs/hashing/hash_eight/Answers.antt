use Rattle.std.proofs.Common.{ℕ, arith, get_or}
use Rattle.std.proofs.Math.ListN.{length-set}
use Rattle.partitioner.proofs.Groups.{computed_set, lane_positive, lane_within, row_of_one_length}
use Rattle.partitioner.proofs.hashing.hash_eight.Goals as goal

pub offset_bounds-keys-a : goal.offset_bounds-keys-a
offset_bounds-keys-a c = omega (arith, lane_within c.args.keys.now c.requires.row.0 c.args.row 0 c.requires.row.1 (omega arith))

pub bounds-keys-a : goal.bounds-keys-a
bounds-keys-a c = lane_within c.args.keys.now c.requires.row.0 c.args.row 0 c.requires.row.1 (omega arith)

pub offset_bounds-keys-b : goal.offset_bounds-keys-b
offset_bounds-keys-b c = omega (arith, lane_within c.args.keys.now c.requires.row.0 c.args.row 1 c.requires.row.1 (omega arith))

pub bounds-keys-b : goal.bounds-keys-b
bounds-keys-b c = lane_within c.args.keys.now c.requires.row.0 c.args.row 1 c.requires.row.1 (omega arith)

pub offset_bounds-keys-c : goal.offset_bounds-keys-c
offset_bounds-keys-c c = omega (arith, lane_within c.args.keys.now c.requires.row.0 c.args.row 2 c.requires.row.1 (omega arith))

pub bounds-keys-c : goal.bounds-keys-c
bounds-keys-c c = lane_within c.args.keys.now c.requires.row.0 c.args.row 2 c.requires.row.1 (omega arith)

pub offset_bounds-keys-d : goal.offset_bounds-keys-d
offset_bounds-keys-d c = omega (arith, lane_within c.args.keys.now c.requires.row.0 c.args.row 3 c.requires.row.1 (omega arith))

pub bounds-keys-d : goal.bounds-keys-d
bounds-keys-d c = lane_within c.args.keys.now c.requires.row.0 c.args.row 3 c.requires.row.1 (omega arith)

pub offset_bounds-keys-e : goal.offset_bounds-keys-e
offset_bounds-keys-e c = omega (arith, lane_within c.args.keys.now c.requires.row.0 c.args.row 4 c.requires.row.1 (omega arith))

pub bounds-keys-e : goal.bounds-keys-e
bounds-keys-e c = lane_within c.args.keys.now c.requires.row.0 c.args.row 4 c.requires.row.1 (omega arith)

pub offset_bounds-keys-f : goal.offset_bounds-keys-f
offset_bounds-keys-f c = omega (arith, lane_within c.args.keys.now c.requires.row.0 c.args.row 5 c.requires.row.1 (omega arith))

pub bounds-keys-f : goal.bounds-keys-f
bounds-keys-f c = lane_within c.args.keys.now c.requires.row.0 c.args.row 5 c.requires.row.1 (omega arith)

pub offset_bounds-keys-g : goal.offset_bounds-keys-g
offset_bounds-keys-g c = omega (arith, lane_within c.args.keys.now c.requires.row.0 c.args.row 6 c.requires.row.1 (omega arith))

pub bounds-keys-g : goal.bounds-keys-g
bounds-keys-g c = lane_within c.args.keys.now c.requires.row.0 c.args.row 6 c.requires.row.1 (omega arith)

pub offset_bounds-keys-h : goal.offset_bounds-keys-h
offset_bounds-keys-h c = omega (arith, lane_within c.args.keys.now c.requires.row.0 c.args.row 7 c.requires.row.1 (omega arith))

pub bounds-keys-h : goal.bounds-keys-h
bounds-keys-h c = lane_within c.args.keys.now c.requires.row.0 c.args.row 7 c.requires.row.1 (omega arith)

pub murmur2_x8-eight-requires : goal.murmur2_x8-eight-requires
murmur2_x8-eight-requires c = row_of_one_length c.args.keys.now c.requires.row.0 c.args.row (omega arith) c.requires.row.1

pub offset_bounds-hashes-row : goal.offset_bounds-hashes-row
offset_bounds-hashes-row c = omega (arith, lane_within c.args.keys.now c.requires.row.0 c.args.row c.loop-lane.lane c.requires.row.1 (omega arith), c.loop-lane.invariant.long)

pub bounds-hashes-row : goal.bounds-hashes-row
bounds-hashes-row c = omega (arith, lane_within c.args.keys.now c.requires.row.0 c.args.row c.loop-lane.lane c.requires.row.1 (omega arith), c.loop-lane.invariant.long)

pub loop-lane-preserved : goal.loop-lane-preserved
loop-lane-preserved c = record {
  long = omega (arith, length-set {A = ℕ});
  computed = computed_set c.args.keys.now c.loop-lane.hashes (get_or c.args.row c.loop-lane.lane 0) c.positive.result c.loop-lane.invariant.computed (lane_positive c.args.keys.now c.args.row c.murmur2_x8-eight.result c.loop-lane.lane c.positive.result (omega arith) c.murmur2_x8-eight.ensures c.positive.ensures);
}
