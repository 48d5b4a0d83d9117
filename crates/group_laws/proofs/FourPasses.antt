-- Four passes settle and sync a group. The first leaves it one round away from a settled group, the
-- second settled or in its last round, the third settled, and in the fourth all sync.
use Rattle.std.proofs.Common.{ℕ, ◌≡◌, ◌∙◌, ◌==◌, Bool, true, false, ◌&&◌, ◌||◌, ◌⊎◌, inl, inr, not, List, [], ◌∷◌, Option, Some, None, is_some, refl, ap, sym, subst, cond}
use Rattle.std.proofs.lemmas.Bool.{false≢true}
use Rattle.std.specs.List.{list_all}
use Rattle.std.specs.Option.{option_map}
use Rattle.bit_planes.specs.PartitionSet.{is_same}
use Rattle.bit_planes.proofs.Sets.{both_true}
use Rattle.group_machine.specs.declared.group.Seat.{Seat}
use Rattle.group_machine.specs.declared.group.Phase.{Phase}
use Rattle.group_machine.specs.declared.group.Phase.TheVariants.{Empty, Preparing, Stable}
use Rattle.group_machine.specs.State.{GroupState, member_of, members, is_present, is_anybody, is_joined, is_synced, seat_joined, seat_synced, seat_granted, seat_assigned, granted_of, assigned_of}
use Rattle.group_machine.specs.Completion.{all_joined, is_ready, complete}
use Rattle.group_machine.specs.Settled.{is_stable, agrees, all_agree, is_settled}
use Rattle.group_machine.specs.Steps.{rejoined_seat, rejoining, rejoined_by, synced_seat, synced_by}
use Rattle.group_machine.specs.Valid.{IsValidGroup}
use Rattle.group_machine.proofs.PresentLemmas.{Listed, listed_present, all_of}
use Rattle.group_machine.proofs.CompletionLemmas.{some_of}
use Rattle.group_machine.proofs.StepLemmas.{any_of_present, rejoining_consistent}
use Rattle.group_laws.specs.Rounds.{round}
use Rattle.group_machine.specs.NextSteps.{has_to_rejoin}
use Rattle.group_laws.specs.Passes.{is_settled_and_synced, synced_if_new, rejoined_if_due, after_turn, after_pass}
use Rattle.group_laws.proofs.PassLemmas.{present_listed, rejoining_present, new_same, new_valid, new_present, settled_same, settled_not_due, after_pass_preserves, after_pass_valid, after_pass_any}
use Rattle.group_laws.proofs.AssignedLemmas.{has_partitions}
use Rattle.group_laws.proofs.StepLemmas.{synced_same, settled_synced}
use Rattle.group_laws.proofs.OtherLemmas.{rejoining_at, rejoining_here, synced_at, sync_marks}
use Rattle.group_laws.proofs.ResultLemmas.{two_rounds, complete_round, synced_round, rejoining_round}
use Rattle.group_laws.proofs.WithinBalancedLemmas.{stable_round}

-- ---- what the rejoin of a turn comes to
due_by : (holds : GroupState → Type 0) (g : GroupState) (member : ℕ) → IsValidGroup g → (has_to_rejoin g member ≡ false → holds g) → (has_to_rejoin g member ≡ true → holds (rejoining g member)) → (has_to_rejoin g member ≡ true → holds (round g)) → holds (rejoined_if_due g member)
unfolding rejoined_if_due
due_by holds g member valid none some all = go (has_to_rejoin g member) refl
  where
    rejoins : (b : Bool) → is_ready (rejoining g member) ≡ b → has_to_rejoin g member ≡ true → holds (cond b (complete (rejoining g member)) (rejoining g member))
    rejoins true ready e =
        let joined : all_joined (rejoining g member) ≡ true = (both_true (is_anybody (rejoining g member)) (all_joined (rejoining g member)) ready).1 in
        subst holds (sym (complete_round (rejoining g member) (rejoining_consistent g member valid.consistent) joined ∙ rejoining_round g member)) (all e)
    rejoins false ready e = some e

    go : (b : Bool) → has_to_rejoin g member ≡ b → holds (cond b (rejoined_by g member) g)
    go true e = rejoins (is_ready (rejoining g member)) refl e
    go false e = none e

-- ---- one round away from a settled group
abbrev pub EndsNext : GroupState → Type 0
EndsNext g = is_settled (round g) ≡ true

rounds_settle : (g : GroupState) (member : ℕ) → IsValidGroup g → is_present g member ≡ true → EndsNext (round g)
rounds_settle g member valid here = two_rounds g (has_partitions g valid.sized) (any_of_present g member here) valid.consistent valid.disjoint

due_ends : (g : GroupState) (member : ℕ) → IsValidGroup g → is_present g member ≡ true → EndsNext g → EndsNext (rejoined_if_due g member)
due_ends g member valid here ends = due_by EndsNext g member valid (λ e. ends) (λ e. ap is_settled (rejoining_round g member) ∙ ends) (λ e. rounds_settle g member valid here)

new_round : (g : GroupState) (member : ℕ) → round (synced_if_new g member) ≡ round g
new_round g member = new_same round g member (synced_round g member)

after_turn_ends : (g : GroupState) (member : ℕ) → IsValidGroup g → is_present g member ≡ true → EndsNext g → EndsNext (after_turn g member)
after_turn_ends g member valid here ends = due_ends (synced_if_new g member) member (new_valid g member valid) (new_present g member member ∙ here) (ap is_settled (new_round g member) ∙ ends)

-- ---- settled
due_settled : (g : GroupState) (member : ℕ) → IsValidGroup g → is_settled g ≡ true → (holds : GroupState → Type 0) → holds g → holds (rejoined_if_due g member)
due_settled g member valid settled holds now =
    let none : has_to_rejoin g member ≡ true → ⊥ = λ e. false≢true (sym (settled_not_due g member settled) ∙ e) in
    due_by holds g member valid (λ e. now) (λ e. absurd (none e)) (λ e. absurd (none e))

new_settled : (g : GroupState) (member : ℕ) → is_settled (synced_if_new g member) ≡ is_settled g
new_settled g member = new_same is_settled g member (settled_synced g member)

settled_turn : (g : GroupState) (member : ℕ) → IsValidGroup g → is_settled g ≡ true → (holds : GroupState → Type 0) → holds (synced_if_new g member) → holds (after_turn g member)
settled_turn g member valid settled holds now = due_settled (synced_if_new g member) member (new_valid g member valid) (new_settled g member ∙ settled) holds now

after_turn_settled : (g : GroupState) (member : ℕ) → IsValidGroup g → is_settled g ≡ true → is_settled (after_turn g member) ≡ true
after_turn_settled g member valid settled = settled_turn g member valid settled (λ s. is_settled s ≡ true) (new_settled g member ∙ settled)

-- ---- a generation is prepared, and whoever has not joined is in a list
record IsWaiting (g : GroupState) (rest : List ℕ) : Type 0 where
  pub phase : g.phase ≡ Preparing
  pub listed : (n : ℕ) → is_present g n ≡ true → is_joined g n ≡ false → Listed n rest

joined_before : (b : Bool) (o : Option Seat) → seat_joined (option_map (λ x. cond b (rejoined_seat x) x) o) ≡ false → seat_joined o ≡ false
joined_before b None e = refl
joined_before true (Some x) e = absurd (false≢true (sym e))
joined_before false (Some x) e = e

joined_now : (o : Option Seat) → is_some o ≡ true → seat_joined (option_map rejoined_seat o) ≡ true
joined_now None e = e
joined_now (Some x) e = refl

due_joined : (joined stable same : Bool) → stable ≡ false → (not joined && (not stable || not same)) ≡ false → joined ≡ true
due_joined true stable same s e = refl
due_joined false true same s e = absurd (false≢true (sym s))
due_joined false false same s e = absurd (false≢true (sym e))

listed_behind : (f : ℕ → Bool) (b c : Bool) (n m : ℕ) (ms : List ℕ) → f n ≡ b → f m ≡ c → (b ≡ c → ⊥) → Listed n (m ∷ ms) → Listed n ms
listed_behind f b c n m ms at first ne (inl is) = absurd (ne (sym at ∙ ap f is ∙ first))
listed_behind f b c n m ms at first ne (inr listed) = listed

rejoining_waits : (g : GroupState) (member : ℕ) (rest : List ℕ) → is_present g member ≡ true → IsWaiting g (member ∷ rest) → IsWaiting (rejoining g member) rest
rejoining_waits g member rest here waits = record {
  phase = refl;
  listed = λ n p e.
      let before : is_joined g n ≡ false = joined_before (n == member) (member_of g n) (ap seat_joined (sym (rejoining_at g member n)) ∙ e) in
      let now : is_joined (rejoining g member) member ≡ true = ap seat_joined (rejoining_here g member) ∙ joined_now (member_of g member) here in
      listed_behind (is_joined (rejoining g member)) false true n member rest e now false≢true (waits.listed n (sym (rejoining_present g member n) ∙ p) before);
}

due_waits : (holds : GroupState → Type 0) (g : GroupState) (member : ℕ) (rest : List ℕ) → IsValidGroup g → is_present g member ≡ true → IsWaiting g (member ∷ rest) → holds (round g) → holds (rejoined_if_due g member) ⊎ IsWaiting (rejoined_if_due g member) rest
due_waits holds g member rest valid here waits after = due_by (λ s. holds s ⊎ IsWaiting s rest) g member valid (λ e. inr (still e)) (λ e. inr (rejoining_waits g member rest here waits)) (λ e. inl after)
  where
    still : has_to_rejoin g member ≡ false → IsWaiting g rest
    still e =
        let joined : is_joined g member ≡ true = due_joined (is_joined g member) (is_stable g.phase) (is_same (granted_of g member) (assigned_of g member)) (ap is_stable waits.phase) e in
        record { phase = waits.phase; listed = λ n p h. listed_behind (is_joined g) false true n member rest h joined false≢true (waits.listed n p h) }

new_waits : (g : GroupState) (member : ℕ) (rest : List ℕ) → IsWaiting g rest → IsWaiting (synced_if_new g member) rest
new_waits g member rest waits = record {
  phase = new_same (λ s. s.phase) g member refl ∙ waits.phase;
  listed = λ n p e. waits.listed n (sym (new_present g member n) ∙ p) (sym (new_same (λ s. is_joined s n) g member (synced_same seat_joined (λ x. refl) g member n)) ∙ e);
}

after_turn_waits : (holds : GroupState → Type 0) (g : GroupState) (member : ℕ) (rest : List ℕ) → IsValidGroup g → is_present g member ≡ true → IsWaiting g (member ∷ rest) → holds (round g) → holds (after_turn g member) ⊎ IsWaiting (after_turn g member) rest
after_turn_waits holds g member rest valid here waits after = due_waits holds (synced_if_new g member) member rest (new_valid g member valid) (new_present g member member ∙ here) (new_waits g member (member ∷ rest) waits) (subst holds (sym (new_round g member)) after)

waits_none : (g : GroupState) → IsValidGroup g → IsWaiting g [] → ⊥
waits_none g valid waits = let n = valid.preparing waits.phase in waits.listed n.0 n.1 n.2

all_listed : (g : GroupState) (n : ℕ) → is_present g n ≡ true → Listed n (members g)
all_listed g n here = let x = some_of (member_of g n) here in present_listed g.slots n x.0 x.1

waits_all : (g : GroupState) → g.phase ≡ Preparing → IsWaiting g (members g)
waits_all g phase = record { phase = phase; listed = λ n p e. all_listed g n p }

-- ---- the first pass
which_phase : (g : GroupState) → IsValidGroup g → is_anybody g ≡ true → (g.phase ≡ Preparing) ⊎ (g.phase ≡ Stable)
which_phase g valid any = go g.phase refl
  where
    go : (f : Phase) → g.phase ≡ f → (g.phase ≡ Preparing) ⊎ (g.phase ≡ Stable)
    go Empty e = absurd (false≢true (sym (valid.empty.0 e) ∙ any))
    go Preparing e = inl e
    go Stable e = inr e

-- what holds between the turns of the first pass
abbrev EndsOrWaits : GroupState → List ℕ → Type 0
EndsOrWaits s rest = EndsNext s ⊎ IsWaiting s rest

pub pass_ends : (g : GroupState) → IsValidGroup g → is_anybody g ≡ true → EndsNext (after_pass g)
pass_ends g valid any = elim (after_pass_preserves EndsOrWaits is_preserved g valid first) [ inl ends ↦ ends | inr waits ↦ absurd (waits_none (after_pass g) (after_pass_valid g valid) waits) ]
  where
    is_preserved : (s : GroupState) (m : ℕ) (rest : List ℕ) → IsValidGroup s → is_present s m ≡ true → EndsOrWaits s (m ∷ rest) → EndsOrWaits (after_turn s m) rest
    is_preserved s m rest v here (inl ends) = inl (after_turn_ends s m v here ends)
    is_preserved s m rest v here (inr waits) = after_turn_waits EndsNext s m rest v here waits (rounds_settle s m v here)

    first : EndsOrWaits g (members g)
    first = elim (which_phase g valid any) [ inl phase ↦ inr (waits_all g phase) | inr stable ↦ inl (stable_round g valid stable any) ]

-- ---- the second pass: each member with something to revoke is in a list
record IsGiving (g : GroupState) (rest : List ℕ) : Type 0 where
  pub phase : g.phase ≡ Stable
  pub listed : (n : ℕ) → is_present g n ≡ true → is_same (granted_of g n) (assigned_of g n) ≡ false → Listed n rest

settled_gives : (g : GroupState) (rest : List ℕ) → g.phase ≡ Stable → is_settled g ≡ true → IsGiving g rest
settled_gives g rest phase settled = record { phase = phase; listed = λ n p e. absurd (false≢true (sym e ∙ settled_same g n settled)) }

gives_settled : (g : GroupState) → IsGiving g [] → is_settled g ≡ true
gives_settled g gives = rw (ap is_stable gives.phase) (all_of agrees g.slots (λ m x is. go m x is (agrees x) refl))
  where
    go : (m : ℕ) (x : Seat) → member_of g m ≡ Some x → (b : Bool) → agrees x ≡ b → agrees x ≡ true
    go m x is true e = e
    go m x is false e = absurd (gives.listed m (ap is_some is) (ap (λ o. is_same (seat_granted g.partitions o) (seat_assigned g.partitions o)) is ∙ e))

due_agrees : (joined stable same : Bool) → joined ≡ false → stable ≡ true → (not joined && (not stable || not same)) ≡ false → same ≡ true
due_agrees true stable same j s e = absurd (false≢true (sym j))
due_agrees false false same j s e = absurd (false≢true s)
due_agrees false true true j s e = refl
due_agrees false true false j s e = absurd (false≢true (sym e))

-- a rejoin has begun the round, or each member with something to revoke is in a list
abbrev HasBegun : GroupState → List ℕ → Type 0
HasBegun g rest = (g.phase ≡ Preparing) ⊎ IsGiving g rest

due_begun : (g : GroupState) (member : ℕ) (rest : List ℕ) → IsValidGroup g → EndsNext g → HasBegun g (member ∷ rest) → HasBegun (rejoined_if_due g member) rest
due_begun g member rest valid ends begun = due_by (λ s. HasBegun s rest) g member valid (λ e. still e begun) (λ e. inl refl) (λ e. inr (settled_gives (round g) rest refl ends))
  where
    still : has_to_rejoin g member ≡ false → HasBegun g (member ∷ rest) → HasBegun g rest
    still e (inl phase) = inl phase
    still e (inr gives) =
        let same : is_same (granted_of g member) (assigned_of g member) ≡ true = due_agrees (is_joined g member) (is_stable g.phase) (is_same (granted_of g member) (assigned_of g member)) (valid.stable gives.phase member) (ap is_stable gives.phase) e in
        inr (record { phase = gives.phase; listed = λ n p h. listed_behind (λ k. is_same (granted_of g k) (assigned_of g k)) false true n member rest h same false≢true (gives.listed n p h) })

new_begun : (g : GroupState) (member : ℕ) (rest : List ℕ) → HasBegun g rest → HasBegun (synced_if_new g member) rest
new_begun g member rest (inl phase) = inl (new_same (λ s. s.phase) g member refl ∙ phase)
new_begun g member rest (inr gives) = inr (record {
  phase = new_same (λ s. s.phase) g member refl ∙ gives.phase;
  listed = λ n p e. gives.listed n (sym (new_present g member n) ∙ p) (sym (new_same (λ s. is_same (granted_of s n) (assigned_of s n)) g member (synced_same (λ o. is_same (seat_granted g.partitions o) (seat_assigned g.partitions o)) (λ x. refl) g member n)) ∙ e);
})

after_turn_begun : (g : GroupState) (member : ℕ) (rest : List ℕ) → IsValidGroup g → EndsNext g → HasBegun g (member ∷ rest) → HasBegun (after_turn g member) rest
after_turn_begun g member rest valid ends begun = due_begun (synced_if_new g member) member rest (new_valid g member valid) (ap is_settled (new_round g member) ∙ ends) (new_begun g member (member ∷ rest) begun)

-- settled, or in the last round
abbrev pub IsLast : GroupState → Type 0
IsLast g = (is_settled g ≡ true) ⊎ ((g.phase ≡ Preparing) × EndsNext g)

-- what holds between the turns of the second pass
abbrev HasBegunLast : GroupState → List ℕ → Type 0
HasBegunLast s rest = EndsNext s × HasBegun s rest

pub pass_begins : (g : GroupState) → IsValidGroup g → is_anybody g ≡ true → EndsNext g → IsLast (after_pass g)
pass_begins g valid any ends = let last = after_pass_preserves HasBegunLast is_preserved g valid (ends, first) in elim last.1 [ inl phase ↦ inr (phase, last.0) | inr gives ↦ inl (gives_settled (after_pass g) gives) ]
  where
    is_preserved : (s : GroupState) (m : ℕ) (rest : List ℕ) → IsValidGroup s → is_present s m ≡ true → HasBegunLast s (m ∷ rest) → HasBegunLast (after_turn s m) rest
    is_preserved s m rest v here h = (after_turn_ends s m v here h.0, after_turn_begun s m rest v h.0 h.1)

    first : HasBegun g (members g)
    first = elim (which_phase g valid any) [ inl phase ↦ inl phase | inr stable ↦ inr (record { phase = stable; listed = λ n p e. all_listed g n p }) ]

-- ---- the third pass
-- what holds between the turns of the third pass
abbrev SettlesOrWaits : GroupState → List ℕ → Type 0
SettlesOrWaits s rest = (is_settled s ≡ true) ⊎ (EndsNext s × IsWaiting s rest)

pub pass_settles : (g : GroupState) → IsValidGroup g → IsLast g → is_settled (after_pass g) ≡ true
pass_settles g valid last = elim (after_pass_preserves SettlesOrWaits is_preserved g valid (first last)) [ inl settled ↦ settled | inr waits ↦ absurd (waits_none (after_pass g) (after_pass_valid g valid) waits.1) ]
  where
    is_preserved : (s : GroupState) (m : ℕ) (rest : List ℕ) → IsValidGroup s → is_present s m ≡ true → SettlesOrWaits s (m ∷ rest) → SettlesOrWaits (after_turn s m) rest
    is_preserved s m rest v here (inl settled) = inl (after_turn_settled s m v settled)
    is_preserved s m rest v here (inr h) = elim (after_turn_waits (λ t. is_settled t ≡ true) s m rest v here h.1 h.0) [ inl settled ↦ inl settled | inr waits ↦ inr (after_turn_ends s m v here h.0, waits) ]

    first : IsLast g → SettlesOrWaits g (members g)
    first (inl settled) = inl settled
    first (inr h) = inr (h.1, waits_all g h.0)

-- ---- the fourth pass: whoever has not synced is in a list
abbrev AreUnsynced : GroupState → List ℕ → Type 0
AreUnsynced g rest = (n : ℕ) → is_present g n ≡ true → is_synced g n ≡ false → Listed n rest

stable_phase : (f : Phase) → is_stable f ≡ true → f ≡ Stable
stable_phase Empty e = absurd (false≢true e)
stable_phase Preparing e = absurd (false≢true e)
stable_phase Stable e = refl

synced_before : (b : Bool) (o : Option Seat) → seat_synced (option_map (λ x. cond b (synced_seat x) x) o) ≡ false → seat_synced o ≡ false
synced_before b None e = refl
synced_before true (Some x) e = absurd (false≢true (sym e))
synced_before false (Some x) e = e

or_second : (a b : Bool) → a ≡ false → (a || b) ≡ true → b ≡ true
or_second true b x e = absurd (false≢true (sym x))
or_second false b x e = e

new_unsynced : (g : GroupState) (member : ℕ) (rest : List ℕ) → is_joined g member ≡ false → is_present g member ≡ true → AreUnsynced g (member ∷ rest) → AreUnsynced (synced_if_new g member) rest
unfolding synced_if_new
new_unsynced g member rest joined here un = go (is_joined g member || is_synced g member) refl
  where
    now : is_synced (synced_by g member) member ≡ true
    now = (sync_marks g member).synced ∙ here

    go : (b : Bool) → (is_joined g member || is_synced g member) ≡ b → AreUnsynced (cond b g (synced_by g member)) rest
    go true h n p e = listed_behind (is_synced g) false true n member rest e (or_second (is_joined g member) (is_synced g member) joined h) false≢true (un n p e)
    go false h n p e =
        let before : is_synced g n ≡ false = synced_before (n == member) (member_of g n) (ap seat_synced (sym (synced_at g member n)) ∙ e) in
        listed_behind (is_synced (synced_by g member)) false true n member rest e now false≢true (un n (sym (synced_same is_some (λ x. refl) g member n) ∙ p) before)

after_turn_unsynced : (g : GroupState) (member : ℕ) (rest : List ℕ) → IsValidGroup g → is_present g member ≡ true → is_settled g ≡ true → AreUnsynced g (member ∷ rest) → AreUnsynced (after_turn g member) rest
after_turn_unsynced g member rest valid here settled un =
    let phase : g.phase ≡ Stable = stable_phase g.phase (both_true (is_stable g.phase) (all_agree g) settled).0 in
    settled_turn g member valid settled (λ s. AreUnsynced s rest) (new_unsynced g member rest (valid.stable phase member) here un)

all_in : (f : ℕ → Bool) (ms : List ℕ) → ((n : ℕ) → Listed n ms → f n ≡ true) → list_all f ms ≡ true
all_in f [] each = refl
all_in f (m ∷ ms) each = rw (each m (inl refl)) (all_in f ms (λ n at. each n (inr at)))

all_synced : (g : GroupState) → AreUnsynced g [] → list_all (is_synced g) (members g) ≡ true
all_synced g un = all_in (is_synced g) (members g) (λ n listed. let x = listed_present g.slots n listed in go n (ap is_some x.1) (is_synced g n) refl)
  where
    go : (n : ℕ) → is_present g n ≡ true → (b : Bool) → is_synced g n ≡ b → is_synced g n ≡ true
    go n here true e = e
    go n here false e = absurd (un n here e)

-- what holds between the turns of the fourth pass
abbrev IsSettledBut : GroupState → List ℕ → Type 0
IsSettledBut s rest = (is_settled s ≡ true) × AreUnsynced s rest

pub pass_sync : (g : GroupState) → IsValidGroup g → is_settled g ≡ true → is_settled_and_synced (after_pass g) ≡ true
pass_sync g valid settled = let last = after_pass_preserves IsSettledBut is_preserved g valid (settled, λ n p e. all_listed g n p) in rw last.0 (all_synced (after_pass g) last.1)
  where
    is_preserved : (s : GroupState) (m : ℕ) (rest : List ℕ) → IsValidGroup s → is_present s m ≡ true → IsSettledBut s (m ∷ rest) → IsSettledBut (after_turn s m) rest
    is_preserved s m rest v here h = (after_turn_settled s m v h.0, after_turn_unsynced s m rest v here h.0 h.1)

-- ---- all four
pub four_passes : (g : GroupState) → IsValidGroup g → is_anybody g ≡ true → is_settled_and_synced (after_pass (after_pass (after_pass (after_pass g)))) ≡ true
four_passes g valid any =
    let one : GroupState = after_pass g in
    let two : GroupState = after_pass one in
    let v1 : IsValidGroup one = after_pass_valid g valid in
    let v2 : IsValidGroup two = after_pass_valid one v1 in
    let ends : EndsNext one = pass_ends g valid any in
    let last : IsLast two = pass_begins one v1 (after_pass_any g ∙ any) ends in
    pass_sync (after_pass two) (after_pass_valid two v2) (pass_settles two v2 last)
