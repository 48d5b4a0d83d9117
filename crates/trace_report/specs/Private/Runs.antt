-- Ranges that still grow.
use Rattle.std.specs.Prelude.{◌≡◌, ℕ, List, [], ◌∷◌, ◌++◌, Bool, false, Option, Some, None, map}
use Rattle.std.specs.Option.{option_map_or}
use Rattle.bit_planes.specs.PartitionSet.{PartitionSet, is_in, partitions_of}
use Rattle.trace_report.specs.Sets.{before_range, each_after, is_read, numbers_among, range_text, ranges}
use Rattle.trace_report.specs.declared.texts.TheConstants.{SPACE}
use Rattle.world.specs.World.{WorldState}

-- the ranges of a range that still grows, and of the numbers after it
abbrev pub runs_after : Option (ℕ × ℕ) → List ℕ → List (ℕ × ℕ)
runs_after None ns = ranges ns
runs_after (Some range) ns = before_range range (ranges ns)

-- their text, each after a space
abbrev pub run_texts : Option (ℕ × ℕ) → List ℕ → List ℕ
run_texts range ns = each_after SPACE (map range_text (runs_after range ns))

-- a range that still grows, after it took this number: whatever numbers follow, the text with what
-- is left is the same
abbrev pub IsNextRun : List ℕ → List ℕ → Option (ℕ × ℕ) → ℕ → Option (ℕ × ℕ) → Type 0
IsNextRun old new range n next =
    (ns : List ℕ) → new ++ run_texts next ns ≡ old ++ run_texts range (n ∷ ns)

-- the same of a number that is taken only among some
abbrev pub IsNextAmong : ℕ → ℕ → List ℕ → List ℕ → Option (ℕ × ℕ) → ℕ → Option (ℕ × ℕ) → Type 0
IsNextAmong from to old new range n next =
    (ns : List ℕ) → new ++ run_texts next (numbers_among from to ns)
    ≡ old ++ run_texts range (numbers_among from to (n ∷ ns))

-- the partitions that some present member's consumer holds
pub record IsReadSet (w : WorldState) (read : PartitionSet) : Type 0 where
  pub partitions : partitions_of read ≡ w.cluster.group.partitions
  pub elements : (p : ℕ) → is_in read p ≡ is_read w p
