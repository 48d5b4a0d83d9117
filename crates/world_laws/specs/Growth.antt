-- What only grows in a cluster.
use Rattle.std.specs.Prelude.{◌≡◌, ◌≤◌, ℕ, List, ◌++◌}
use Rattle.partition_log.specs.Logs.{log_at}
use Rattle.group_laws.specs.Names.{names}
use Rattle.group_machine.specs.Cluster.{ClusterState, committed_at}

-- the second list begins with the first
abbrev pub BeginsWith : {A : Type 0} → List A → List A → Type 0
BeginsWith {A} old new = (more : List A) × (new ≡ old ++ more)

-- generations and committed offsets do not fall; each log, the keys, the names and the moves only
-- get more entries
pub record OnlyGrows (old new : ClusterState) : Type 0 where
  pub generation : old.group.generation ≤ new.group.generation
  pub committed : (p : ℕ) → committed_at old.store p ≤ committed_at new.store p
  pub logs : (p : ℕ) → BeginsWith (log_at old.logs p) (log_at new.logs p)
  pub keys : BeginsWith old.logs.keys new.logs.keys
  pub names_grow : BeginsWith (names old.group) (names new.group)
  pub moves : BeginsWith old.group.moves new.group.moves
