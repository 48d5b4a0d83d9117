-- Who is to have each partition. A list of owners has the number of a member for each partition;
-- that of anybody else stands for nobody.
use Rattle.std.specs.Prelude.{◌≡◌, ℕ, ◌<◌, ◌≤◌, ◌==◌, ◌⊎◌, List, ◌∷◌, find, length, map, slice_index_or, unwrap_or}
use Rattle.std.specs.List.Sorted.{IsStrictlyIncreasing}
use Rattle.bit_planes.specs.PartitionSet.{PartitionSet, is_in, set_where}
use Rattle.bit_planes.specs.SetRows.{SetRows, set_of}
use Rattle.sticky_assignor.specs.Assigned.{assigned}
use Rattle.coop_rebalance.specs.Withheld.{withheld}
use Rattle.keycount_c.specs.Places.{AreFew}
use Rattle.keycount_c.specs.declared.answers.TheConstants.{BAD_ARGUMENT, DONE, MEMORY}

-- the numbers of members rise from 1 on
abbrev pub AreMembers : List ℕ → Type 0
AreMembers numbers = IsStrictlyIncreasing (0 ∷ numbers)

-- what a member owns
abbrev pub row_in : List ℕ → ℕ → PartitionSet
row_in owners member = set_where (length owners) (λ q. slice_index_or owners q 0 == member)

-- what each of these members owns
abbrev pub rows_in : List ℕ → List ℕ → SetRows
rows_in members owners = record {
  partitions = length owners;
  rows = map (λ member. (member, row_in owners member)) members;
}

-- the first of these members whose row has a partition, or 0
abbrev pub holder_in : SetRows → List ℕ → ℕ → ℕ
holder_in rows members q = unwrap_or (find (λ m. is_in (set_of rows m) q) members) 0

-- the holder of each partition stands at its index, and the rest is as it was
pub record AreHeld (rows : SetRows) (members out out' : List ℕ) : Type 0 where
  pub len : length out' ≡ length out
  pub holders : (q : ℕ) → q < rows.partitions
      → slice_index_or out' q 0 ≡ holder_in rows members q
  pub rest : (q : ℕ) → rows.partitions ≤ q → slice_index_or out' q 0 ≡ slice_index_or out q 0

-- there may be such members, and as many partitions, and there is room for a list of owners
pub record MayOwn (members : List ℕ) (partitions room : ℕ) : Type 0 where
  pub some : 0 < length members
  pub numbers : AreMembers members
  pub few : AreFew partitions
  pub fits : partitions ≤ room

-- a call that writes the holders by these rows, unless memory is refused
abbrev pub Holds : SetRows → List ℕ → List ℕ → ℕ → List ℕ → Type 0
Holds rows members out number out' =
    ((number ≡ DONE) × AreHeld rows members out out') ⊎ ((number ≡ MEMORY) × (out' ≡ out))

-- a call that returns that it may not be made, and writes nothing
abbrev pub Unless : Type 0 → List ℕ → ℕ → List ℕ → Type 0
Unless may out number out' = (may → ⊥) × (number ≡ BAD_ARGUMENT) × (out' ≡ out)

-- a call that assigns each partition to a member
abbrev pub Assigns : List ℕ → List ℕ → List ℕ → ℕ → List ℕ → Type 0
Assigns members owners out number out' =
    let may : Type 0 = MayOwn members (length owners) (length out) in
    (may
    × Holds (assigned (length owners) members (rows_in members owners)) members out number out')
    ⊎ Unless may out number out'

-- a call that assigns what nobody else owns of a target
abbrev pub Withholds : List ℕ → List ℕ → List ℕ → List ℕ → ℕ → List ℕ → Type 0
Withholds members target owners out number out' =
    let may : Type 0 =
    MayOwn members (length owners) (length out) × (length target ≡ length owners) in
    (may
    × Holds (withheld (rows_in members target) (rows_in members owners)) members out number out')
    ⊎ Unless may out number out'
