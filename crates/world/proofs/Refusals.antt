-- What follows from accepted and refused calls of the cluster.
use Rattle.std.proofs.Common.{◌≡◌, ◌∙◌, ◌+◌, ◌<◌, ◌≤◌, ℕ, Bool, true, false, List, Option, Some, None, Result, Ok, Err, length, refl, sym, ap, inl, inr, arith}
use Rattle.std.specs.Prelude.{nat_lt, not, ◌==◌, ◌&&◌, is_some, if◌then◌else◌}
use Rattle.std.specs.Option.{option_map_or}
use Rattle.std.specs.Result.{result_and}
use Rattle.std.specs.Str.{bytes_eq}
use Rattle.std.proofs.lemmas.Bool.Decides.{eqb_tells, nat_tests}
use Rattle.std.proofs.lemmas.Slice.Eq.{bytes_eq-Decides}
use Rattle.lane_words.specs.declared.Refusal.{Refusal}
use Rattle.lane_words.specs.declared.Refusal.TheVariants as r
use Rattle.bit_planes.specs.PartitionSet.{PartitionSet, is_same}
use Rattle.bit_planes.proofs.Sets.{same_self}
use Rattle.commit_store.specs.Commits.{commit_answer, committed_at, log_at, records_between}
use Rattle.group_machine.specs.declared.group.Seat.{Seat}
use Rattle.group_machine.specs.State.{GroupState, assigned_of, is_present, is_synced, member_of, seat_assigned, seat_synced}
use Rattle.group_machine.specs.Settled.{agrees, is_stable}
use Rattle.group_machine.specs.Steps.{leave_answer, leaving, rejoin_answer, rejoin_refusal, rejoining, sync_seat_answer, unless_over}
use Rattle.group_machine.specs.Completion.{is_over}
use Rattle.group_machine.specs.Cluster.{ClusterState, CommitTerms, LeaseTerms, cluster_commit_answer, cluster_sync_answer, lease_of}
use Rattle.world.specs.Steps.{IsNoCommitFault, IsNoRejoinFault}
use Rattle.world.specs.Valid.{IsSent}

-- ---- syncs
unknown_sync : (o : Option Seat) (lease : LeaseTerms) → result_and (sync_seat_answer o) (Ok lease) ≡ Err r.UnknownMember → is_some o ≡ false
unknown_sync None lease e = refl
unknown_sync (Some seat) lease e = absurd (go seat.joined e)
  where
    go : (joined : Bool) → ◌≡◌ {A = Result LeaseTerms Refusal} (result_and (let x : Result (Unit {0}) Refusal = if joined then Err r.RebalanceInProgress else Ok tt in x) (Ok lease)) (Err r.UnknownMember) → ⊥
    go true h = cc
    go false h = cc

pub sync_unknown : (s : ClusterState) (m : ℕ) → cluster_sync_answer s m ≡ Err r.UnknownMember → is_present s.group m ≡ false
sync_unknown s m e = unknown_sync (member_of s.group m) (lease_of s m) e

sync_by_consumer : (o : Option Seat) (lease got : LeaseTerms) → result_and (sync_seat_answer o) (Ok lease) ≡ Ok got → is_some o ≡ true
sync_by_consumer None lease got e = absurd (cc e)
sync_by_consumer (Some seat) lease got e = refl

pub sync_present : (s : ClusterState) (m : ℕ) (lease : LeaseTerms) → cluster_sync_answer s m ≡ Ok lease → is_present s.group m ≡ true
sync_present s m lease e = sync_by_consumer (member_of s.group m) (lease_of s m) lease e

-- ---- leaving
unknown_leave : (here over : Bool) → ◌≡◌ {A = Result (Unit {0}) Refusal} (if here then (if over then Err r.GenerationsOver else Ok tt) else Err r.UnknownMember) (Err r.UnknownMember) → here ≡ false
unknown_leave true true e = absurd (cc e)
unknown_leave true false e = absurd (cc e)
unknown_leave false over e = refl

pub leave_unknown : (g : GroupState) (m : ℕ) → leave_answer g m ≡ Err r.UnknownMember → is_present g m ≡ false
leave_unknown g m e = unknown_leave (is_present g m) (is_over (leaving g m)) e

-- ---- rejoins
abbrev refusal_by : Bool → Bool → Bool → Bool → Bool → Option Refusal
refusal_by stale joined unsynced nothing differs =
    if stale then Some r.StaleGeneration
    else if joined then Some r.AlreadyJoined
    else if unsynced then Some r.SyncFirst
    else if nothing then Some r.NothingToGive
    else if differs then Some r.ClaimDiffers
    else None

abbrev rejoin_by : Option Refusal → Bool → Result (Unit {0}) Refusal
rejoin_by why over = option_map_or Err why (if over then Err r.GenerationsOver else Ok tt)

never_unknown : (stale joined unsynced nothing differs over : Bool) → rejoin_by (refusal_by stale joined unsynced nothing differs) over ≡ Err r.UnknownMember → ⊥
never_unknown true joined unsynced nothing differs over e = cc
never_unknown false true unsynced nothing differs over e = cc
never_unknown false false true nothing differs over e = cc
never_unknown false false false true differs over e = cc
never_unknown false false false false true over e = cc
never_unknown false false false false false true e = cc
never_unknown false false false false false false e = cc

pub rejoin_unknown : (g : GroupState) (m generation : ℕ) (claim : PartitionSet) → rejoin_answer g m generation claim ≡ Err r.UnknownMember → is_present g m ≡ false
rejoin_unknown g m generation claim e = go (member_of g m) e
  where
    go : (o : Option Seat) → option_map_or Err (rejoin_refusal g generation claim o) (unless_over {A = Unit {0}} (rejoining g m) tt) ≡ Err r.UnknownMember → is_some o ≡ false
    go None h = refl
    go (Some x) h = absurd (never_unknown (not (generation == g.generation)) x.joined (not x.synced) (is_stable g.phase && agrees x) (not (is_same claim x.assigned)) (is_over (rejoining g m)) h)

current_and_synced : (stale joined unsynced nothing differs over : Bool) → rejoin_by (refusal_by stale joined unsynced nothing differs) over ≡ Ok tt → (stale ≡ false) × (unsynced ≡ false)
current_and_synced true joined unsynced nothing differs over e = absurd (cc e)
current_and_synced false true unsynced nothing differs over e = absurd (cc e)
current_and_synced false false true nothing differs over e = absurd (cc e)
current_and_synced false false false true differs over e = absurd (cc e)
current_and_synced false false false false true over e = absurd (cc e)
current_and_synced false false false false false over e = (refl, refl)

equal_if : (m n : ℕ) → not (m == n) ≡ false → m ≡ n
equal_if m n e =
    elim (eqb_tells m n) [
      | inl t ↦ t.1
      | inr f ↦ absurd (let wrong = rw f.0 at e in cc)
    ]

not_back : (b : Bool) → not b ≡ false → b ≡ true
not_back true e = refl
not_back false e = absurd (cc e)

pub record IsRejoining (g : GroupState) (m generation : ℕ) : Type 0 where
  pub present : is_present g m ≡ true
  pub current : generation ≡ g.generation
  pub synced : is_synced g m ≡ true

pub rejoin_accepted : (g : GroupState) (m generation : ℕ) (claim : PartitionSet) → rejoin_answer g m generation claim ≡ Ok tt → IsRejoining g m generation
rejoin_accepted g m generation claim e = go (member_of g m) refl e
  where
    go : (o : Option Seat) → member_of g m ≡ o → option_map_or Err (rejoin_refusal g generation claim o) (unless_over {A = Unit {0}} (rejoining g m) tt) ≡ Ok tt → IsRejoining g m generation
    go None is h = absurd (cc h)
    go (Some x) is h =
        let passed = current_and_synced (not (generation == g.generation)) x.joined (not x.synced) (is_stable g.phase && agrees x) (not (is_same claim x.assigned)) (is_over (rejoining g m)) h in
        record {
          present = ap is_some is;
          current = equal_if generation g.generation passed.0;
          synced = ap seat_synced is ∙ not_back x.synced passed.1;
        }

no_fault_by : (stale joined unsynced nothing differs over : Bool) → (stale ≡ false → unsynced ≡ false) → (stale ≡ false → differs ≡ false) → IsNoRejoinFault (rejoin_by (refusal_by stale joined unsynced nothing differs) over)
no_fault_by true joined unsynced nothing differs over synced same = tt
no_fault_by false true unsynced nothing differs over synced same = tt
no_fault_by false false true nothing differs over synced same = absurd (let wrong = synced refl in cc)
no_fault_by false false false true differs over synced same = tt
no_fault_by false false false false true over synced same = absurd (let wrong = same refl in cc)
no_fault_by false false false false false true synced same = tt
no_fault_by false false false false false false synced same = tt

pub rejoin_never_faults : (g : GroupState) (m generation : ℕ) (claim : PartitionSet)
    → (is_present g m ≡ true → generation ≡ g.generation → is_synced g m ≡ true) → (is_present g m ≡ true → generation ≡ g.generation → claim ≡ assigned_of g m)
    → IsNoRejoinFault (rejoin_answer g m generation claim)
rejoin_never_faults g m generation claim synced same = go (member_of g m) refl
  where
    go : (o : Option Seat) → member_of g m ≡ o → IsNoRejoinFault (option_map_or Err (rejoin_refusal g generation claim o) (unless_over {A = Unit {0}} (rejoining g m) tt))
    go None is = tt
    go (Some x) is =
        no_fault_by (not (generation == g.generation)) x.joined (not x.synced) (is_stable g.phase && agrees x) (not (is_same claim x.assigned)) (is_over (rejoining g m))
        (λ e. ap not (sym (ap seat_synced is) ∙ synced (ap is_some is) (equal_if generation g.generation e)))
        (λ e. ap not (ap (λ s. is_same s x.assigned) (same (ap is_some is) (equal_if generation g.generation e) ∙ ap (seat_assigned g.partitions) is) ∙ same_self x.assigned))

-- ---- commits
abbrev fence_by : Bool → Bool → Bool → Result (Unit {0}) Refusal
fence_by gone stale other = if gone then Err r.UnknownMember else if stale then Err r.StaleGeneration else if other then Err r.NotOwner else Ok tt

abbrev offset_by : ℕ → ℕ → Bool → Bool → Bool → Bool → Result ℕ Refusal
offset_by committed end none elsewhere past wrong =
    if none then Err r.EmptyCommit
    else if elsewhere then Err (r.OffsetMismatch committed)
    else if past then Err r.PastEnd
    else if wrong then Err r.WrongRecords
    else Ok end

never_unknown_offset : (committed end : ℕ) (none elsewhere past wrong : Bool) → offset_by committed end none elsewhere past wrong ≡ Err r.UnknownMember → ⊥
never_unknown_offset committed end true elsewhere past wrong e = cc
never_unknown_offset committed end false true past wrong e = cc
never_unknown_offset committed end false false true wrong e = cc
never_unknown_offset committed end false false false true e = cc
never_unknown_offset committed end false false false false e = cc

unknown_by : (gone stale other : Bool) (b : Result ℕ Refusal) → (b ≡ Err r.UnknownMember → ⊥) → result_and (fence_by gone stale other) b ≡ Err r.UnknownMember → gone ≡ true
unknown_by true stale other b never e = refl
unknown_by false true other b never e = absurd (cc e)
unknown_by false false true b never e = absurd (cc e)
unknown_by false false false b never e = absurd (never e)

not_there : (b : Bool) → not b ≡ true → b ≡ false
not_there true e = absurd (cc e)
not_there false e = refl

pub commit_unknown : (s : ClusterState) (c : CommitTerms) → cluster_commit_answer s c ≡ Err r.UnknownMember → is_present s.group c.member ≡ false
commit_unknown s c e =
    not_there (is_present s.group c.member) (unknown_by (not (is_present s.group c.member)) _ _ (commit_answer s.store s.logs c.partition c.from c.ids)
    (never_unknown_offset (committed_at s.store c.partition) (c.from + length c.ids) (length c.ids == 0) (not (c.from == committed_at s.store c.partition))
    (nat_lt (length (log_at s.logs c.partition)) (c.from + length c.ids)) (not (bytes_eq (records_between s.logs c.partition c.from (c.from + length c.ids)) c.ids))) e)

mismatch_offset : (committed end k : ℕ) (none elsewhere past wrong : Bool) → offset_by committed end none elsewhere past wrong ≡ Err (r.OffsetMismatch k) → k ≡ committed
mismatch_offset committed end k true elsewhere past wrong e = absurd (cc e)
mismatch_offset committed end k false true past wrong e = cc
mismatch_offset committed end k false false true wrong e = absurd (cc e)
mismatch_offset committed end k false false false true e = absurd (cc e)
mismatch_offset committed end k false false false false e = absurd (cc e)

mismatch_by : (gone stale other : Bool) (b : Result ℕ Refusal) (k : ℕ) → result_and (fence_by gone stale other) b ≡ Err (r.OffsetMismatch k) → b ≡ Err (r.OffsetMismatch k)
mismatch_by true stale other b k e = absurd (cc e)
mismatch_by false true other b k e = absurd (cc e)
mismatch_by false false true b k e = absurd (cc e)
mismatch_by false false false b k e = e

pub commit_mismatch : (s : ClusterState) (c : CommitTerms) (k : ℕ) → cluster_commit_answer s c ≡ Err (r.OffsetMismatch k) → k ≡ committed_at s.store c.partition
commit_mismatch s c k e =
    mismatch_offset (committed_at s.store c.partition) (c.from + length c.ids) k (length c.ids == 0) (not (c.from == committed_at s.store c.partition))
    (nat_lt (length (log_at s.logs c.partition)) (c.from + length c.ids)) (not (bytes_eq (records_between s.logs c.partition c.from (c.from + length c.ids)) c.ids))
    (mismatch_by (not (is_present s.group c.member)) _ _ (commit_answer s.store s.logs c.partition c.from c.ids) k e)

mismatch_elsewhere : (committed end k : ℕ) (none elsewhere past wrong : Bool) → offset_by committed end none elsewhere past wrong ≡ Err (r.OffsetMismatch k) → elsewhere ≡ true
mismatch_elsewhere committed end k true elsewhere past wrong e = absurd (cc e)
mismatch_elsewhere committed end k false true past wrong e = refl
mismatch_elsewhere committed end k false false true wrong e = absurd (cc e)
mismatch_elsewhere committed end k false false false true e = absurd (cc e)
mismatch_elsewhere committed end k false false false false e = absurd (cc e)

not_equal : (a b : ℕ) → not (a == b) ≡ true → a ≡ b → ⊥
not_equal a b e same = absurd (grind (arith, nat_tests, e, same))

pub commit_elsewhere : (s : ClusterState) (c : CommitTerms) (k : ℕ) → cluster_commit_answer s c ≡ Err (r.OffsetMismatch k) → c.from ≡ committed_at s.store c.partition → ⊥
commit_elsewhere s c k e =
    not_equal c.from (committed_at s.store c.partition)
    (mismatch_elsewhere (committed_at s.store c.partition) (c.from + length c.ids) k (length c.ids == 0) (not (c.from == committed_at s.store c.partition))
    (nat_lt (length (log_at s.logs c.partition)) (c.from + length c.ids)) (not (bytes_eq (records_between s.logs c.partition c.from (c.from + length c.ids)) c.ids))
    (mismatch_by (not (is_present s.group c.member)) _ _ (commit_answer s.store s.logs c.partition c.from c.ids) k e))

sound_offset : (committed end : ℕ) (none elsewhere past wrong : Bool) → none ≡ false → past ≡ false → wrong ≡ false → IsNoCommitFault (offset_by committed end none elsewhere past wrong)
sound_offset committed end true elsewhere past wrong a b c = absurd (cc a)
sound_offset committed end false true past wrong a b c = tt
sound_offset committed end false false true wrong a b c = absurd (cc b)
sound_offset committed end false false false true a b c = absurd (cc c)
sound_offset committed end false false false false a b c = tt

sound_by : (gone stale other : Bool) (b : Result ℕ Refusal) → IsNoCommitFault b → IsNoCommitFault (result_and (fence_by gone stale other) b)
sound_by true stale other b sound = tt
sound_by false true other b sound = tt
sound_by false false true b sound = tt
sound_by false false false b sound = sound

some_records : (n : ℕ) → 0 < n → (n == 0) ≡ false
some_records n lt = grind (arith, nat_tests)

not_past : (m n : ℕ) → n ≤ m → nat_lt m n ≡ false
not_past m n le = grind (arith, nat_tests)

same_records : (xs ys : List ℕ) → xs ≡ ys → bytes_eq xs ys ≡ true
same_records xs ys e = (bytes_eq-Decides xs ys).1 e

pub commit_never_faults : (s : ClusterState) (c : CommitTerms) → IsSent s.logs c → IsNoCommitFault (cluster_commit_answer s c)
commit_never_faults s c sent =
    sound_by (not (is_present s.group c.member)) _ _ (commit_answer s.store s.logs c.partition c.from c.ids)
    (sound_offset (committed_at s.store c.partition) (c.from + length c.ids) (length c.ids == 0) (not (c.from == committed_at s.store c.partition))
    (nat_lt (length (log_at s.logs c.partition)) (c.from + length c.ids)) (not (bytes_eq (records_between s.logs c.partition c.from (c.from + length c.ids)) c.ids))
    (some_records (length c.ids) sent.some) (not_past (length (log_at s.logs c.partition)) (c.from + length c.ids) sent.within)
    (ap not (same_records (records_between s.logs c.partition c.from (c.from + length c.ids)) c.ids sent.same)))
