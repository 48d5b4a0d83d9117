use Rattle.std.proofs.Common.{◌≡◌, ℕ, ◌<◌, ◌≤◌, [], ◌∷◌, length, slice_index_or}
use Rattle.partitioner.specs.Place.{place_of}
use Rattle.keycount_c.specs.Places.{key_in}
use Rattle.keycount_c.proofs.places.put_places.Given as goal

abbrev pub invariant-loop-i : goal.invariant-loop-i
invariant-loop-i l = record {
  len : length l.places ≡ length l.fn.places;
  placed : (k : ℕ) → k < l.i → slice_index_or l.places k 0 ≡ place_of l.fn.partitions (key_in l.bytes l.ends k);
  rest : (k : ℕ) → l.i ≤ k → slice_index_or l.places k 0 ≡ slice_index_or l.fn.places k 0;
  one : l.partitions ≡ l.fn.partitions ∷ [];
}
