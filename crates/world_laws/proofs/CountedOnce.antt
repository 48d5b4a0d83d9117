-- How often a record is counted, at each step of a cluster.
use Rattle.std.proofs.Common.{◌≡◌, ◌∙◌, ◌⊎◌, ◌+◌, ◌<◌, ◌≤◌, ℕ, Bool, true, false, List, [], ◌∷◌, ◌++◌, Ok, cond, length, length-append, refl, sym, ap, inl, inr, arith}
use Rattle.std.specs.Prelude.{◌&&◌, ◌==◌, filter, nat_le, nat_lt, slice_index_or, if◌then◌else◌}
use Rattle.std.proofs.lemmas.Bool.{cases_lt, false≢true}
use Rattle.std.proofs.lemmas.Bool.Decides.{eqb_tells, nat_tests}
use Rattle.std.proofs.lemmas.List.{get_or-set_other, get_or-set_same}
use Rattle.std.proofs.lemmas.List.Elements.{filter-append}
use Rattle.partition_log.specs.Keys.{Keyed, is_interned}
use Rattle.commit_store.specs.Commits.{Commits}
use Rattle.group_machine.specs.Cluster.{ClusterState, CommitTerms, IsValidCluster, appended_to, cluster_commit_answer, committed_at, committed_by}
use Rattle.world.specs.declared.event.Event.{Event}
use Rattle.world.specs.Courses.{after_all}
use Rattle.world.specs.Valid.{IsValidWorld}
use Rattle.world.specs.World.{WorldState}
use Rattle.world.proofs.Clusters.{IsAccepted, committed_valid}
use Rattle.world_laws.specs.Counting.{GetsCommitted, accepted_in, counts_record, times_counted}
use Rattle.world_laws.specs.Growth.{OnlyGrows}
use Rattle.world_laws.proofs.Grown.{grows, grows_on, members_grow}
use Rattle.world_laws.proofs.Steps.{GoesOn, HoldsOfMembers, HoldsOfSteps, holds_all}

-- 1 if an offset is below what is committed, 0 if not
abbrev below : ℕ → ℕ → ℕ
below committed offset = cond (nat_lt offset committed) 1 0

abbrev times : List CommitTerms → ℕ → ℕ → ℕ
times commits p offset = length (filter (counts_record p offset) commits)

-- what was counted before and by these commits is counted now
abbrev pub AddsUp : List CommitTerms → ClusterState → ClusterState → Type 0
AddsUp commits old new =
    (p offset : ℕ) → times commits p offset + below (committed_at old.store p) offset ≡ below (committed_at new.store p) offset

none_more : (n : ℕ) → 0 + n ≡ n
none_more n = omega arith

-- ---- a commit
in_range : (c : CommitTerms) (from n offset : ℕ) → length (cond (nat_le from offset && nat_lt offset (from + n)) (c ∷ []) []) + below from offset ≡ below (from + n) offset
in_range c from n offset = go (nat_le from offset) (nat_lt offset (from + n)) (nat_lt offset from) refl refl refl
  where
    go : (a b d : Bool) → nat_le from offset ≡ a → nat_lt offset (from + n) ≡ b → nat_lt offset from ≡ d → length (cond (a && b) (c ∷ []) []) + cond d 1 0 ≡ cond b 1 0
    go true true true x y z = absurd (grind (arith, nat_tests))
    go true true false x y z = refl
    go true false true x y z = absurd (grind (arith, nat_tests))
    go true false false x y z = refl
    go false true true x y z = refl
    go false true false x y z = absurd (grind (arith, nat_tests))
    go false false true x y z = absurd (grind (arith, nat_tests))
    go false false false x y z = refl

adds_at : (c : CommitTerms) (offset old new : ℕ) → old ≡ c.from → new ≡ c.from + length c.ids
    → length (cond (nat_le c.from offset && nat_lt offset (c.from + length c.ids)) (c ∷ []) []) + below old offset ≡ below new offset
adds_at c offset old new from to = rw (from, to) (in_range c c.from (length c.ids) offset)

commit_adds : (s : ClusterState) (c : CommitTerms) (end : ℕ) → IsValidCluster s → cluster_commit_answer s c ≡ Ok end → AddsUp (c ∷ []) s (committed_by s c)
commit_adds s c end v ok p offset = go (c.partition == p) (eqb_tells c.partition p)
  where
    a : IsAccepted s c end
    a = committed_valid s c end v ok

    more : ℕ
    more = committed_at s.store c.partition + length c.ids

    go : (b : Bool) → ((b ≡ true) × (c.partition ≡ p)) ⊎ ((b ≡ false) × (c.partition ≡ p → ⊥))
        → length (cond (b && nat_le c.from offset && nat_lt offset (c.from + length c.ids)) (c ∷ []) []) + below (committed_at s.store p) offset ≡ below (committed_at (committed_by s c).store p) offset
    go true (inl t) =
        adds_at c offset (committed_at s.store p) (committed_at (committed_by s c).store p)
        (ap (committed_at s.store) (sym t.1) ∙ sym a.fits.next)
        (ap (committed_at (committed_by s c).store) (sym t.1) ∙ get_or-set_same s.store.offsets c.partition more 0 a.below ∙ ap (λ n. n + length c.ids) (sym a.fits.next))
    go true (inr f) = absurd (false≢true (sym f.0))
    go false (inl t) = absurd (false≢true t.0)
    go false (inr f) = none_more (below (committed_at s.store p) offset) ∙ ap (λ n. below n offset) (sym (get_or-set_other s.store.offsets c.partition p more 0 (λ same. f.1 (sym same))))

-- ---- the other steps leave the offsets
offsets_kept : (b : Bool) (store : Commits) → (if b then store else (record store { counts = store.counts ++ 0 ∷ [] })).offsets ≡ store.offsets
offsets_kept true store = refl
offsets_kept false store = refl

append_adds : (s : ClusterState) (keyed : Keyed) → AddsUp [] s (appended_to s keyed)
append_adds s keyed p offset = none_more (below (committed_at s.store p) offset) ∙ ap (λ (os : List ℕ). below (slice_index_or os p 0) offset) (sym (offsets_kept (is_interned s.logs.keys keyed.1) s.store))

pub adds_up : HoldsOfSteps AddsUp
adds_up = record {
  same = λ s p offset. none_more (below (committed_at s.store p) offset);
  appended = λ s keyed at v topic ok. append_adds s keyed;
  taken_over = λ s name n v ok p offset. none_more (below (committed_at s.store p) offset);
  synced = λ s m v p offset. none_more (below (committed_at s.store p) offset);
  rejoined = λ s m generation claim v ok p offset. none_more (below (committed_at s.store p) offset);
  committed = commit_adds;
}

pub members_add_up : HoldsOfMembers AddsUp
members_add_up = record {
  joined = λ s name n v ok p offset. none_more (below (committed_at s.store p) offset);
  joined_static = λ s name n v ok p offset. none_more (below (committed_at s.store p) offset);
  left = λ s m v ok p offset. none_more (below (committed_at s.store p) offset);
}

pub adds_on : GoesOn AddsUp
adds_on xs ys a b c first second p offset =
    omega (arith, first p offset, second p offset, ap length (filter-append (counts_record p offset) xs ys), length-append (filter (counts_record p offset) xs) (filter (counts_record p offset) ys))

-- ---- any list of events
is_below : (committed offset : ℕ) → offset < committed → below committed offset ≡ 1
is_below committed offset lt = go (nat_lt offset committed) refl
  where
    go : (b : Bool) → nat_lt offset committed ≡ b → ◌≡◌ {A = ℕ} (cond b 1 0) 1
    go true is = refl
    go false is = absurd (grind (arith, nat_tests))

is_not_below : (committed offset : ℕ) → committed ≤ offset → below committed offset ≡ 0
is_not_below committed offset le = go (nat_lt offset committed) refl
  where
    go : (b : Bool) → nat_lt offset committed ≡ b → ◌≡◌ {A = ℕ} (cond b 1 0) 0
    go true is = absurd (grind (arith, nat_tests))
    go false is = refl

pub counted_once : (w : WorldState) (es : List Event) (p offset : ℕ) → IsValidWorld w → GetsCommitted w es p offset → times_counted w es p offset ≡ 1
counted_once w es p offset v gets =
    omega (arith, holds_all AddsUp adds_on adds_up members_add_up w es v p offset, is_not_below (committed_at w.cluster.store p) offset gets.0, is_below (committed_at (after_all w es).cluster.store p) offset gets.1)

pub never_counted : (w : WorldState) (es : List Event) (p offset : ℕ) → IsValidWorld w → (GetsCommitted w es p offset → ⊥) → times_counted w es p offset ≡ 0
never_counted w es p offset v gets_not = go (cases_lt offset (committed_at w.cluster.store p)) (cases_lt offset (committed_at (after_all w es).cluster.store p))
  where
    adds : AddsUp (accepted_in w es) w.cluster (after_all w es).cluster
    adds = holds_all AddsUp adds_on adds_up members_add_up w es v

    grown : committed_at w.cluster.store p ≤ committed_at (after_all w es).cluster.store p
    grown = (holds_all (λ commits. OnlyGrows) grows_on grows members_grow w es v).committed p

    go : (offset < committed_at w.cluster.store p) ⊎ (committed_at w.cluster.store p ≤ offset)
        → (offset < committed_at (after_all w es).cluster.store p) ⊎ (committed_at (after_all w es).cluster.store p ≤ offset) → times_counted w es p offset ≡ 0
    go (inl before) after =
        omega (arith, adds p offset, is_below (committed_at w.cluster.store p) offset before, is_below (committed_at (after_all w es).cluster.store p) offset (omega (arith, before, grown)))
    go (inr from) (inl to) = absurd (gets_not (from, to))
    go (inr from) (inr behind) = omega (arith, adds p offset, is_not_below (committed_at (after_all w es).cluster.store p) offset behind)
