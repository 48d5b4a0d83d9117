-- What only grows, at each step of a cluster.
use Rattle.std.proofs.Common.{◌≡◌, ◌∙◌, ◌≤◌, ℕ, suc, Bool, true, false, List, [], ◌∷◌, ◌++◌, Option, Some, None, Ok, append_assoc, cond, map, refl, sym, ap, arith}
use Rattle.std.specs.Prelude.{if◌then◌else◌}
use Rattle.std.specs.Option.{option_map_or}
use Rattle.std.proofs.lemmas.List.{append-nil}
use Rattle.partition_log.specs.Keys.{Key, Keyed, is_interned, with_key}
use Rattle.partition_log.specs.Logs.{IsOfTopic, log_at}
use Rattle.group_machine.specs.declared.group.Seat.{Seat}
use Rattle.group_machine.specs.declared.group.Slot.{Slot}
use Rattle.group_machine.specs.Cluster.{ClusterState, CommitTerms, IsValidCluster, append_answer, appended_to, cluster_commit_answer, committed_by, with_group}
use Rattle.group_machine.specs.Completion.{complete, completed, is_ready, next_rows_of}
use Rattle.group_machine.specs.Moves.{moves_to}
use Rattle.group_machine.specs.Slots.{reseated_from, without_seat}
use Rattle.group_machine.specs.State.{GroupState, static_member}
use Rattle.group_machine.specs.Steps.{handing_on, joined_by, joined_static_by, joining, leaving, left_by, rejoined_by, rejoining, successor, synced_by, taken_over_by}
use Rattle.group_laws.specs.Names.{names}
use Rattle.group_laws.proofs.ResultFacts.{joined_names, left_names}
use Rattle.world.proofs.Clusters.{append_leaves, commit_leaves, committed_valid}
use Rattle.world_laws.specs.Growth.{BeginsWith, OnlyGrows}
use Rattle.world_laws.proofs.Steps.{GoesOn, HoldsOfMembers, HoldsOfSteps}

begins_same : {A : Type 0} (xs : List A) → BeginsWith xs xs
begins_same xs = ([], sym (append-nil xs))

begins_on : {A : Type 0} (xs ys zs : List A) → BeginsWith xs ys → BeginsWith ys zs → BeginsWith xs zs
begins_on xs ys zs first second =
    (first.0 ++ second.0, second.1 ∙ ap (λ l. l ++ second.0) first.1 ∙ append_assoc xs first.0 second.0)

-- ---- names, which a step about the members there are leaves, and a new member adds to
abbrev names_in : List Slot → List (List ℕ)
names_in slots = map (λ s. s.name) slots

names_reseated : (m : ℕ) (f : ℕ → Option Seat → Option Seat) (slots : List Slot) → names_in (reseated_from m f slots) ≡ names_in slots
names_reseated m f [] = refl
names_reseated m f (s ∷ slots) = ap (λ r. s.name ∷ r) (names_reseated (suc m) f slots)

names_more : (slots : List Slot) (s : Slot) → names_in (slots ++ s ∷ []) ≡ names_in slots ++ s.name ∷ []
names_more [] s = refl
names_more (t ∷ slots) s = ap (λ r. t.name ∷ r) (names_more slots s)

pub completed_names : (g : GroupState) → names (completed g) ≡ names g
completed_names g = go (is_ready g)
  where
    go : (b : Bool) → names (cond b (complete g) g) ≡ names g
    go true = names_reseated 1 _ g.slots
    go false = refl

pub rejoined_names : (g : GroupState) (m : ℕ) → names (rejoined_by g m) ≡ names g
rejoined_names g m = completed_names (rejoining g m) ∙ names_reseated 1 _ g.slots

pub synced_names : (g : GroupState) (m : ℕ) → names (synced_by g m) ≡ names g
synced_names g m = names_reseated 1 _ g.slots

pub static_names : (g : GroupState) (name : List ℕ) → names (joined_static_by g name) ≡ names g ++ name ∷ []
static_names g name = names_reseated 1 _ (joined_by g name).slots ∙ joined_names g name

pub handed_names : (g : GroupState) (name : List ℕ) (m : ℕ) → names (handing_on g name m) ≡ names g ++ name ∷ []
handed_names g name m =
    names_more (without_seat g.slots m) (successor g name m) ∙ ap (λ l. l ++ name ∷ []) (names_reseated 1 _ g.slots)

-- ---- groups
record GroupGrows (old new : GroupState) : Type 0 where
  generation : old.generation ≤ new.generation
  names_grow : BeginsWith (names old) (names new)
  moves : BeginsWith old.moves new.moves

completed_grows : (g : GroupState) → (g.generation ≤ (completed g).generation) × BeginsWith g.moves (completed g).moves
completed_grows g = go (is_ready g)
  where
    go : (b : Bool) → (let next : GroupState = cond b (complete g) g in (g.generation ≤ next.generation) × BeginsWith g.moves next.moves)
    go true = (omega arith, (moves_to g (next_rows_of g), refl))
    go false = (omega arith, begins_same g.moves)

names_kept : (old new : GroupState) → names new ≡ names old → BeginsWith (names old) (names new)
names_kept old new same = ([], same ∙ sym (append-nil (names old)))

taken_over_grows : (g : GroupState) (name : List ℕ) → GroupGrows g (taken_over_by g name)
taken_over_grows g name = go (static_member g name)
  where
    go : (o : Option ℕ) → GroupGrows g (option_map_or (handing_on g name) o g)
    go None = record { generation = omega arith; names_grow = begins_same (names g); moves = begins_same g.moves }
    go (Some m) = record { generation = omega arith; names_grow = (name ∷ [], handed_names g name m); moves = begins_same g.moves }

synced_grows : (g : GroupState) (m : ℕ) → GroupGrows g (synced_by g m)
synced_grows g m = record { generation = omega arith; names_grow = names_kept g (synced_by g m) (synced_names g m); moves = begins_same g.moves }

rejoined_grows : (g : GroupState) (m : ℕ) → GroupGrows g (rejoined_by g m)
rejoined_grows g m =
    let more = completed_grows (rejoining g m) in
    record { generation = more.0; names_grow = names_kept g (rejoined_by g m) (rejoined_names g m); moves = more.1 }

left_grows : (g : GroupState) (m : ℕ) → GroupGrows g (left_by g m)
left_grows g m =
    let more = completed_grows (leaving g m) in
    record { generation = more.0; names_grow = names_kept g (left_by g m) (left_names g m); moves = more.1 }

joined_grows : (g : GroupState) (name : List ℕ) → GroupGrows g (joined_by g name)
joined_grows g name =
    let more = completed_grows (joining g name) in
    record { generation = more.0; names_grow = (name ∷ [], joined_names g name); moves = more.1 }

joined_static_grows : (g : GroupState) (name : List ℕ) → GroupGrows g (joined_static_by g name)
joined_static_grows g name =
    let more = completed_grows (joining g name) in
    record { generation = more.0; names_grow = (name ∷ [], static_names g name); moves = more.1 }

-- ---- clusters
regrouped_grows : (s : ClusterState) (g : GroupState) → GroupGrows s.group g → OnlyGrows s (with_group s g)
regrouped_grows s g more = record {
  generation = more.generation;
  committed = λ p. omega arith;
  logs = λ p. begins_same (log_at s.logs p);
  keys = begins_same s.logs.keys;
  names_grow = more.names_grow;
  moves = more.moves;
}

keys_grow : (keys : List Key) (key : Key) → BeginsWith keys (with_key keys key)
keys_grow keys key = go (is_interned keys key)
  where
    go : (b : Bool) → BeginsWith keys (if b then keys else keys ++ key ∷ [])
    go true = begins_same keys
    go false = (key ∷ [], refl)

appended_grows : (s : ClusterState) (keyed : Keyed) (at : ℕ × ℕ) → IsValidCluster s → IsOfTopic s.logs keyed → append_answer s.logs keyed ≡ Ok at → OnlyGrows s (appended_to s keyed)
appended_grows s keyed at v topic ok =
    let leaves = append_leaves s keyed at 0 v topic ok in
    record {
      generation = omega arith;
      committed = leaves.committed;
      logs = leaves.logs;
      keys = keys_grow s.logs.keys keyed.1;
      names_grow = begins_same (names s.group);
      moves = begins_same s.group.moves;
    }

committed_grows : (s : ClusterState) (c : CommitTerms) (end : ℕ) → IsValidCluster s → cluster_commit_answer s c ≡ Ok end → OnlyGrows s (committed_by s c)
committed_grows s c end v ok =
    let leaves = commit_leaves s c end 0 (committed_valid s c end v ok) in
    record {
      generation = omega arith;
      committed = leaves.committed;
      logs = leaves.logs;
      keys = begins_same s.logs.keys;
      names_grow = begins_same (names s.group);
      moves = begins_same s.group.moves;
    }

pub grows : HoldsOfSteps (λ commits. OnlyGrows)
grows = record {
  same = λ s. regrouped_grows s s.group (record { generation = omega arith; names_grow = begins_same (names s.group); moves = begins_same s.group.moves });
  appended = appended_grows;
  taken_over = λ s name n v ok. regrouped_grows s (taken_over_by s.group name) (taken_over_grows s.group name);
  synced = λ s m v. regrouped_grows s (synced_by s.group m) (synced_grows s.group m);
  rejoined = λ s m generation claim v ok. regrouped_grows s (rejoined_by s.group m) (rejoined_grows s.group m);
  committed = committed_grows;
}

pub members_grow : HoldsOfMembers (λ commits. OnlyGrows)
members_grow = record {
  joined = λ s name n v ok. regrouped_grows s (joined_by s.group name) (joined_grows s.group name);
  joined_static = λ s name n v ok. regrouped_grows s (joined_static_by s.group name) (joined_static_grows s.group name);
  left = λ s m v ok. regrouped_grows s (left_by s.group m) (left_grows s.group m);
}

pub grows_on : GoesOn (λ commits. OnlyGrows)
grows_on xs ys a b c first second = record {
  generation = omega (arith, first.generation, second.generation);
  committed = λ p. omega (arith, first.committed p, second.committed p);
  logs = λ p. begins_on (log_at a.logs p) (log_at b.logs p) (log_at c.logs p) (first.logs p) (second.logs p);
  keys = begins_on a.logs.keys b.logs.keys c.logs.keys first.keys second.keys;
  names_grow = begins_on (names a.group) (names b.group) (names c.group) first.names_grow second.names_grow;
  moves = begins_on a.group.moves b.group.moves c.group.moves first.moves second.moves;
}
