-- Draining commits all logs to their ends.
use Rattle.std.proofs.Common.{◌≡◌, ◌∙◌, ◌+◌, ◌-◌, ◌<◌, ◌≤◌, ℕ, zero, suc, Bool, true, false, List, [], ◌∷◌, ◌++◌, Option, Some, None, Result, Ok, Err, cond, is_some, length, map, min, refl, sym, ap, subst, inl, inr, arith, length-append}
use Rattle.std.specs.Prelude.{◌==◌, if◌then◌else◌, is_ok, nat_le, slice_get, slice_set}
use Rattle.std.specs.List.{list_all}
use Rattle.std.specs.Option.{option_map_or, unwrap_or}
use Rattle.std.specs.Result.{result_and}
use Rattle.std.proofs.lemmas.Bool.{cases_lt}
use Rattle.bit_planes.proofs.Sets.{both_true}
use Rattle.std.proofs.lemmas.Bool.Decides.{nat_tests}
use Rattle.std.proofs.lemmas.List.{get_or_past, get_or-set_same}
use Rattle.std.proofs.lemmas.Option.{slice_get_within}
use Rattle.lane_words.specs.declared.Refusal.{Refusal}
use Rattle.lane_words.specs.declared.Refusal.TheVariants as r
use Rattle.bit_planes.specs.PartitionSet.{PartitionSet, elements, is_in, one, partitions_of}
use Rattle.bit_planes.specs.Private.Lists.{list_where}
use Rattle.bit_planes.proofs.Sets.{in_below, in_where, same_says}
use Rattle.partition_log.specs.Logs.{log_at}
use Rattle.commit_store.specs.Commits.{AreEndsCommitted, committed_at}
use Rattle.group_machine.specs.declared.group.Slot.{Slot}
use Rattle.group_machine.specs.State.{GroupState, assigned_of, granted_of, is_present, is_synced, members}
use Rattle.group_machine.specs.Slots.{seat_in}
use Rattle.group_machine.specs.Cluster.{cluster_commit_answer}
use Rattle.group_laws.specs.Passes.{is_settled_and_synced}
use Rattle.group_machine.specs.Settled.{is_settled}
use Rattle.group_laws.proofs.PassLemmas.{settled_same}
use Rattle.group_machine.proofs.PresentLemmas.{Listed, listed_present}
use Rattle.consumer.specs.declared.held.Held.{Held}
use Rattle.consumer.specs.Consumer.{ConsumerState, answered_by, base_of, commit_of, held_at, hold_answer, is_held, polled, polled_count, position_of, realigned_held, realigned_slot, sendable_answer, with_held}
use Rattle.consumer.proofs.Valid.{slot_base, slot_position}
use Rattle.world.specs.declared.event.Event.{Event}
use Rattle.world.specs.declared.event.Event.TheVariants as event
use Rattle.world.specs.declared.event.Reply.TheVariants as reply
use Rattle.world.specs.declared.event.TheConstants.{MOST_COMMITS}
use Rattle.world.specs.Courses.{Course, Follows, answer_in, chain, for_each, goes_on, happens, nothing, outcome_of}
use Rattle.world.specs.Draining.{drain_log, drain_member, drain_members, held_by, is_read_up, read_on, read_up}
use Rattle.world.specs.Settling.{commit_pending, forgiven, is_pending, unless_mismatch}
use Rattle.world.specs.Steps.{Outcome, delivered, delivery, deliver_event, done, given, poll_event, poll_by_consumer, poll_outcome, refused, send_event, send_by_consumer, send_outcome, replied}
use Rattle.world.specs.Valid.{IsValidWorld}
use Rattle.world.specs.World.{WorldState, changed, commit_at, consumer_of, on_consumer, with_cluster}
use Rattle.world.proofs.Clusters.{committed_valid}
use Rattle.world.proofs.Following.{IsCourse, drain_log_course, drain_member_course, drain_members_course, each_course, happens_course, read_on_course}
use Rattle.world.proofs.Preserved.{AreAll, GoesFurther, IsFurther, IsReading, LeavesGroup, drain_log_events, drain_member_events, drain_members_events, each_events, preserves_further, preserves_group, preserved_course, read_on_events, reading_open, valid_course}
use Rattle.world.proofs.Lists.{get_last}
use Rattle.world.proofs.Refusals.{commit_elsewhere, commit_mismatch}
use Rattle.world.proofs.Settled.{settled_and_synced_is_settled, chain_done}
use Rattle.world.proofs.Walks.{holds_some}

-- ---- lookups
get_set_same : {A : Type 0} (xs : List A) (i : ℕ) (x y : A) → slice_get xs i ≡ Some y → slice_get (slice_set xs i x) i ≡ Some x
get_set_same [] i x y e = absurd (cc e)
get_set_same (z ∷ xs) zero x y e = refl
get_set_same (z ∷ xs) (suc i) x y e = get_set_same xs i x y e

get_within : {A : Type 0} (xs : List A) (i : ℕ) → i < length xs → (x : A) × (slice_get xs i ≡ Some x)
get_within [] i lt = absurd (omega arith)
get_within (x ∷ xs) zero lt = (x, refl)
get_within (x ∷ xs) (suc i) lt = get_within xs i (omega arith)

changed_existing : (w : WorldState) (m : ℕ) (c : ConsumerState) (f : ConsumerState → ConsumerState) → consumer_of w m ≡ Some c → consumer_of (on_consumer w m f) m ≡ Some (f c)
changed_existing w zero c f e = absurd (cc e)
changed_existing w (suc i) c f e = ap (λ o. consumer_of (changed w (suc i) f o) (suc i)) e ∙ get_set_same w.consumers i (f c) c e

same_consumers : (w w2 : WorldState) (m : ℕ) → w2.consumers ≡ w.consumers → consumer_of w2 m ≡ consumer_of w m
same_consumers w w2 zero e = refl
same_consumers w w2 (suc i) e = ap (λ (cs : List ConsumerState). slice_get cs i) e

below_held : (c : ConsumerState) (p : ℕ) (h : Held) → held_at c p ≡ Some h → p < length c.held
below_held c p h e =
    elim (cases_lt p (length c.held)) [
      | inl lt ↦ lt
      | inr le ↦ absurd (let none = get_or_past c.held p None le in cc)
    ]

held_there : (c : ConsumerState) (p : ℕ) (old h : Held) → held_at c p ≡ Some old → held_at (with_held c p h) p ≡ Some h
held_there c p old h held = get_or-set_same c.held p (Some h) None (below_held c p old held)

-- ---- who reads a partition
record IsReader (g : GroupState) (m p : ℕ) : Type 0 where
  pub present : is_present g m ≡ true
  pub synced : is_synced g m ≡ true
  pub assigned : is_in (assigned_of g m) p ≡ true
  pub below : p < g.partitions

record HoldsAt (w : WorldState) (m p : ℕ) (h : Held) : Type 0 where
  pub c : ConsumerState
  pub is_consumer : consumer_of w m ≡ Some c
  pub member : c.member ≡ Some m
  pub held : held_at c p ≡ Some h

seat_within : (slots : List Slot) (i : ℕ) → is_some (seat_in (slice_get slots i)) ≡ true → i < length slots
seat_within slots i here = go (slice_get slots i) refl here
  where
    go : (o : Option Slot) → slice_get slots i ≡ o → is_some (seat_in o) ≡ true → i < length slots
    go None is some = absurd (cc some)
    go (Some s) is some = slice_get_within slots i s is

present_has_consumer : (w : WorldState) (m : ℕ) → IsValidWorld w → is_present w.cluster.group m ≡ true → (c : ConsumerState) × (consumer_of w m ≡ Some c)
present_has_consumer w zero v here = absurd (cc here)
present_has_consumer w (suc i) v here =
    let lt = seat_within w.cluster.group.slots i here in
    get_within w.consumers i (omega (arith, lt, v.a_consumer_each))

some_held : (o : Option Held) → is_some o ≡ true → (h : Held) × (o ≡ Some h)
some_held None e = absurd (cc e)
some_held (Some h) e = (h, refl)

reader_holds : (w : WorldState) (m p : ℕ) → IsValidWorld w → IsReader w.cluster.group m p → (h : Held) × HoldsAt w m p h
reader_holds w m p v reads =
    let is_consumer = present_has_consumer w m v reads.present in
    let step = v.present m is_consumer.0 reads.present is_consumer.1 in
    let held = some_held (held_at is_consumer.0 p) (step.held reads.synced p reads.assigned) in
    (held.0, record { c = is_consumer.0; is_consumer = is_consumer.1; member = step.member; held = held.1 })

abbrev base_in : WorldState → ℕ → ℕ → ℕ
base_in w m p = option_map_or (λ c. base_of c p) (consumer_of w m) 0

base_held : (w : WorldState) (m p : ℕ) (h : Held) → HoldsAt w m p h → base_in w m p ≡ h.base
base_held w m p h at = ap (λ o. option_map_or (λ c. base_of c p) o 0) at.is_consumer ∙ ap slot_base at.held

base_committed : (w : WorldState) (m p : ℕ) → IsValidWorld w → base_in w m p ≤ committed_at w.cluster.store p
base_committed w m p v = go (consumer_of w m) refl
  where
    go : (o : Option ConsumerState) → consumer_of w m ≡ o → option_map_or (λ c. base_of c p) o 0 ≤ committed_at w.cluster.store p
    go None is = omega arith
    go (Some c) is = (v.consumers m c is).committed p

-- ---- a poll
hold_ok : (c : ConsumerState) (m p : ℕ) (h : Held) → c.member ≡ Some m → held_at c p ≡ Some h → hold_answer c p ≡ Ok tt
hold_ok c m p h member held = rw (member, held) refl

poll_accepted : (w : WorldState) (m p n : ℕ) (h : Held) (at : HoldsAt w m p h) → (poll_event w m p n).after ≡ on_consumer w m (λ x. polled x w.cluster.logs p n)
poll_accepted w m p n h at =
    let ok = hold_ok at.c m p h at.member at.held in
    ap (λ o. (poll_by_consumer w m p n o).after) at.is_consumer ∙ ap (λ a. (poll_outcome w m p n at.c (result_and a (Ok (polled_count at.c w.cluster.logs p n)))).after) ok

abbrev polled_held : WorldState → ℕ → ℕ → Held → Held
polled_held w p n h = record { base = h.base; position = h.position + min n (length (log_at w.cluster.logs p) - h.position) }

poll_moves : (w : WorldState) (m p n : ℕ) (h : Held) → HoldsAt w m p h → HoldsAt (happens (event.Poll m p n) w).after m p (polled_held w p n h)
unfolding happens
poll_moves w m p n h at =
    let f : ConsumerState → ConsumerState = λ x. polled x w.cluster.logs p n in
    let offsets : Option Held → Held = λ o. record { base = slot_base o; position = slot_position o + min n (length (log_at w.cluster.logs p) - slot_position o) } in
    record {
      c = f at.c;
      is_consumer = ap (λ x. consumer_of x m) (poll_accepted w m p n h at) ∙ changed_existing w m at.c f at.is_consumer;
      member = at.member;
      held = held_there at.c p h (offsets (held_at at.c p)) at.held ∙ ap (λ o. Some (offsets o)) at.held;
    }

-- ---- a commit of what is pending
chain_event : (e : Event) (w : WorldState) (next : WorldState → Course) (o : Outcome) → outcome_of w e ≡ o → chain (happens e w) next ≡ goes_on (record { events = e ∷ []; answer = answer_in o.reply; after = o.after }) (next o.after) (answer_in o.reply)
unfolding chain happens
chain_event e w next o is = ap (λ (x : Outcome). goes_on (record { events = e ∷ []; answer = answer_in x.reply; after = x.after }) (next x.after) (answer_in x.reply)) is

happens_is : (e : Event) (w : WorldState) (o : Outcome) → outcome_of w e ≡ o → happens e w ≡ record { events = e ∷ []; answer = answer_in o.reply; after = o.after }
unfolding happens
happens_is e w o is = ap (λ (x : Outcome). let c : Course = record { events = e ∷ []; answer = answer_in x.reply; after = x.after } in c) is

pending_is : (w : WorldState) (m p : ℕ) → is_pending w m p ≡ true → commit_pending m p w ≡ chain (happens (event.Send m p) w) (λ sent. happens (event.Deliver (length sent.mail)) sent)
unfolding commit_pending
pending_is w m p e = ap (λ b. cond b (chain (happens (event.Send m p) w) (λ sent. happens (event.Deliver (length sent.mail)) sent)) (nothing w)) e

different : (b e : ℕ) → b < e → (b == e) ≡ false
different b e lt = grind (arith, nat_tests)

sendable : (c : ConsumerState) (m p : ℕ) (h : Held) → c.member ≡ Some m → held_at c p ≡ Some h → h.base < h.position → sendable_answer c p ≡ Ok tt
sendable c m p h member held lt =
    let ok = hold_ok c m p h member held in
    let some : (base_of c p == position_of c p) ≡ false = ap (λ o. slot_base o == slot_position o) held ∙ different h.base h.position lt in
    rw (ok, some) refl

holds_pending : (w : WorldState) (m p : ℕ) (h : Held) → HoldsAt w m p h → h.base < h.position → is_pending w m p ≡ true
holds_pending w m p h at lt = ap (λ o. option_map_or (λ c. is_ok (sendable_answer c p)) o false) at.is_consumer ∙ ap is_ok (sendable at.c m p h at.member at.held lt)

-- the world with the commit in its mail
abbrev sent_by : WorldState → ConsumerState → ℕ → WorldState
sent_by w c p = record w { mail = w.mail ++ commit_of c w.cluster.logs p ∷ [] }

send_is : (w : WorldState) (m p : ℕ) (h : Held) (at : HoldsAt w m p h) → h.base < h.position → (full : Bool) → nat_le MOST_COMMITS (length w.mail) ≡ full
    → send_event w m p ≡ send_outcome w p at.c (let a : Result (Unit {0}) Refusal = if full then Err r.MailFull else Ok tt in a)
send_is w m p h at lt full is =
    let ok = sendable at.c m p h at.member at.held lt in
    ap (send_by_consumer w p) at.is_consumer ∙ ap (λ a. send_outcome w p at.c (result_and a (let x : Result (Unit {0}) Refusal = if nat_le MOST_COMMITS (length w.mail) then Err r.MailFull else Ok tt in x))) ok
    ∙ ap (λ b. send_outcome w p at.c (let x : Result (Unit {0}) Refusal = if b then Err r.MailFull else Ok tt in x)) is

last_sent : (w : WorldState) (c : ConsumerState) (p : ℕ) → commit_at (sent_by w c p) (length (sent_by w c p).mail) ≡ Some (commit_of c w.cluster.logs p)
last_sent w c p =
    let t = commit_of c w.cluster.logs p in
    let long : length (w.mail ++ t ∷ []) ≡ suc (length w.mail) = omega (arith, length-append w.mail (t ∷ [])) in
    ap (commit_at (sent_by w c p)) long ∙ get_last w.mail t

realigned_base : (c : ConsumerState) (p k : ℕ) (h : Held) → held_at c p ≡ Some h → base_of (answered_by c p (Ok k)) p ≡ k
realigned_base c p k h held = ap (λ o. base_of (realigned_slot c p k o) p) held ∙ ap slot_base (held_there c p h (realigned_held h k) held)

answer_raises : (w : WorldState) (m p : ℕ) (h : Held) (at : HoldsAt w m p h) → IsValidWorld w → (a : Result ℕ Refusal) → cluster_commit_answer w.cluster (commit_of at.c w.cluster.logs p) ≡ a
    → unless_mismatch (answer_in (replied a)) ≡ Ok tt → h.base < base_of (answered_by at.c p a) p
answer_raises w m p h at v (Ok end) is ok =
    let taken = committed_valid w.cluster (commit_of at.c w.cluster.logs p) end v.cluster is in
    omega (arith, taken.end_is, taken.fits.some, realigned_base at.c p end h at.held, ap slot_base at.held)
answer_raises w m p h at v (Err (r.OffsetMismatch k)) is ok =
    let t = commit_of at.c w.cluster.logs p in
    let replied = commit_mismatch w.cluster t k is in
    let committed = (v.consumers m at.c at.is_consumer).committed p in
    let other = commit_elsewhere w.cluster t k is in
    elim (cases_lt (base_of at.c p) (committed_at w.cluster.store p)) [
      | inl lt ↦ omega (arith, lt, replied, realigned_base at.c p k h at.held, ap slot_base at.held)
      | inr le ↦ absurd (other (omega (arith, le, committed)))
    ]
answer_raises w m p h at v (Err why) is ok = absurd (cc ok)

delivery_is : (w : WorldState) (c : ConsumerState) (p : ℕ) → deliver_event (sent_by w c p) (length (sent_by w c p).mail) ≡ delivered (sent_by w c p) (commit_of c w.cluster.logs p) (cluster_commit_answer w.cluster (commit_of c w.cluster.logs p))
delivery_is w c p = ap (delivery (sent_by w c p) (delivered (sent_by w c p))) (last_sent w c p)

delivered_base : (w : WorldState) (m p : ℕ) (h : Held) (at : HoldsAt w m p h) (a : Result ℕ Refusal) → base_in (delivered (sent_by w at.c p) (commit_of at.c w.cluster.logs p) a).after m p ≡ base_of (answered_by at.c p a) p
delivered_base w m p h at a =
    let t = commit_of at.c w.cluster.logs p in
    let w1 = sent_by w at.c p in
    let w2 = with_cluster w1 (given w.cluster t a) in
    let mine : t.member ≡ m = ap (λ o. unwrap_or o 0) at.member in
    let is_consumer : consumer_of w2 m ≡ Some at.c = same_consumers w w2 m refl ∙ at.is_consumer in
    let f : ConsumerState → ConsumerState = λ x. answered_by x p a in
    ap (λ n. base_in (on_consumer w2 n f) m p) mine ∙ ap (λ o. option_map_or (λ c. base_of c p) o 0) (changed_existing w2 m at.c f is_consumer)

commit_raises : (w : WorldState) (m p : ℕ) (h : Held) → IsValidWorld w → HoldsAt w m p h → h.base < h.position → (forgiven (commit_pending m p w)).answer ≡ Ok tt
    → h.base < base_in (commit_pending m p w).after m p
commit_raises w m p h v at lt ok = go (nat_le MOST_COMMITS (length w.mail)) refl
  where
    next : WorldState → Course
    next sent = happens (event.Deliver (length sent.mail)) sent

    whole : (o : Outcome) → send_event w m p ≡ o → commit_pending m p w ≡ goes_on (record { events = event.Send m p ∷ []; answer = answer_in o.reply; after = o.after }) (next o.after) (answer_in o.reply)
    whole o is = pending_is w m p (holds_pending w m p h at lt) ∙ chain_event (event.Send m p) w next o is

    go : (full : Bool) → nat_le MOST_COMMITS (length w.mail) ≡ full → h.base < base_in (commit_pending m p w).after m p
    go true is =
        let all = whole (refused w r.MailFull) (send_is w m p h at lt true is) in
        absurd (let wrong = ap (λ (c : Course). unless_mismatch c.answer) (sym all) ∙ ok in cc wrong)
    go false is =
        let w1 = sent_by w at.c p in
        let a = cluster_commit_answer w.cluster (commit_of at.c w.cluster.logs p) in
        let all = whole (done (reply.Sent (length w.mail + 1)) w1) (send_is w m p h at lt false is) in
        let delivering = happens_is (event.Deliver (length w1.mail)) w1 (delivered w1 (commit_of at.c w.cluster.logs p) a) (delivery_is w at.c p) in
        let answer : unless_mismatch (answer_in (replied a)) ≡ Ok tt = ap (λ (c : Course). unless_mismatch c.answer) (sym delivering) ∙ ap (λ (c : Course). unless_mismatch c.answer) (sym all) ∙ ok in
        let after = ap (λ (c : Course). base_in c.after m p) all ∙ ap (λ (c : Course). base_in c.after m p) delivering ∙ delivered_base w m p h at a in
        omega (arith, after, answer_raises w m p h at v a refl answer)

-- ---- a log
not_up : (b n : ℕ) → (b == n) ≡ false → b ≤ n → b < n
not_up b n e le = grind (arith, nat_tests)

is_up : (b n : ℕ) → (b == n) ≡ true → b ≡ n
is_up b n e = grind (arith, nat_tests)

read_up_is : (w : WorldState) (m p : ℕ) (h : Held) → HoldsAt w m p h → is_read_up w m p ≡ (h.base == length (log_at w.cluster.logs p))
read_up_is w m p h at = ap (λ o. option_map_or (λ c. base_of c p == length (log_at w.cluster.logs p)) o false) at.is_consumer ∙ ap (λ o. slot_base o == length (log_at w.cluster.logs p)) at.held

holds_within : (w : WorldState) (m p : ℕ) (h : Held) → IsValidWorld w → HoldsAt w m p h → (h.base ≤ h.position) × (h.position ≤ length (log_at w.cluster.logs p))
holds_within w m p h v at =
    let was = v.consumers m at.c at.is_consumer in
    (omega (arith, was.valid.ordered p, ap slot_base at.held, ap slot_position at.held), omega (arith, was.within p, ap slot_position at.held))

read_on_raises : (batch m p : ℕ) (w : WorldState) → 1 ≤ batch → IsValidWorld w → IsReader w.cluster.group m p → is_read_up w m p ≡ false → (read_on batch m p w).answer ≡ Ok tt
    → base_in w m p < base_in (read_on batch m p w).after m p
unfolding read_on
read_on_raises batch m p w some v reads not_yet ok =
    let d = chain_done (happens (event.Poll m p batch) w) (λ read. forgiven (commit_pending m p read)) ok in
    let w1 = (happens (event.Poll m p batch) w).after in
    let v1 = valid_course w (happens (event.Poll m p batch) w) (happens_course (event.Poll m p batch) w) v in
    let holds = reader_holds w m p v reads in
    let h = holds.0 in
    let at = holds.1 in
    let in_log = holds_within w m p h v at in
    let end = length (log_at w.cluster.logs p) in
    let before = not_up h.base end (sym (read_up_is w m p h at) ∙ not_yet) (omega (arith, in_log.0, in_log.1)) in
    let more : h.base < h.position + min batch (end - h.position) = omega (arith, some, before, in_log.0, in_log.1) in
    let raised = commit_raises w1 m p (polled_held w p batch h) v1 (poll_moves w m p batch h at) more d.next_ok in
    omega (arith, base_held w m p h at, raised, ap (λ (x : WorldState). base_in x m p) d.after_is)

abbrev IsDrained : WorldState → ℕ → Type 0
IsDrained w p = length (log_at w.cluster.logs p) ≤ committed_at w.cluster.store p

read_leaves : (batch m p : ℕ) (w : WorldState) → LeavesGroup w (read_on batch m p w).after
read_leaves batch m p w = preserved_course IsReading LeavesGroup preserves_group w (read_on batch m p w) (read_on_course batch m p w) (read_on_events IsReading reading_open batch m p w)

reader_stays : (w w2 : WorldState) (m p : ℕ) → LeavesGroup w w2 → IsReader w.cluster.group m p → IsReader w2.cluster.group m p
reader_stays w w2 m p left reads = subst (λ g. IsReader g m p) (sym left.group) reads

read_up_drains : (n batch m p : ℕ) (w : WorldState) → 1 ≤ batch → IsValidWorld w → IsReader w.cluster.group m p → length (log_at w.cluster.logs p) ≤ base_in w m p + n → (read_up n batch m p w).answer ≡ Ok tt
    → IsDrained (read_up n batch m p w).after p
unfolding read_up
read_up_drains zero batch m p w some v reads enough ok = omega (arith, enough, base_committed w m p v)
read_up_drains (suc n) batch m p w some v reads enough ok = go (read_up_drains n batch m p (read_on batch m p w).after some v2 (reader_stays w (read_on batch m p w).after m p left reads)) (is_read_up w m p) refl ok
  where
    v2 : IsValidWorld (read_on batch m p w).after
    v2 = valid_course w (read_on batch m p w) (read_on_course batch m p w) v

    left : LeavesGroup w (read_on batch m p w).after
    left = read_leaves batch m p w

    go : (length (log_at (read_on batch m p w).after.cluster.logs p) ≤ base_in (read_on batch m p w).after m p + n → (read_up n batch m p (read_on batch m p w).after).answer ≡ Ok tt → IsDrained (read_up n batch m p (read_on batch m p w).after).after p)
        → (b : Bool) → is_read_up w m p ≡ b → (cond b (nothing w) (chain (read_on batch m p w) (read_up n batch m p))).answer ≡ Ok tt → IsDrained (cond b (nothing w) (chain (read_on batch m p w) (read_up n batch m p))).after p
    go later true is done_so =
        let holds = reader_holds w m p v reads in
        let up = is_up holds.0.base (length (log_at w.cluster.logs p)) (sym (read_up_is w m p holds.0 holds.1) ∙ is) in
        omega (arith, up, base_held w m p holds.0 holds.1, base_committed w m p v)
    go later false is done_so =
        let d = chain_done (read_on batch m p w) (read_up n batch m p) done_so in
        let raised = read_on_raises batch m p w some v reads is d.first_ok in
        subst (λ (x : WorldState). IsDrained x p) (sym d.after_is) (later (omega (arith, enough, raised, ap (λ l. length (log_at l p)) left.logs)) d.next_ok)

log_drains : (batch m p : ℕ) (w : WorldState) → 1 ≤ batch → IsValidWorld w → IsReader w.cluster.group m p → (drain_log batch m p w).answer ≡ Ok tt → IsDrained (drain_log batch m p w).after p
unfolding drain_log
log_drains batch m p w some v reads ok = read_up_drains (length (log_at w.cluster.logs p)) batch m p w some v reads (omega arith) ok

-- ---- one course after the other
drained_stays : (w w2 : WorldState) (p : ℕ) → LeavesGroup w w2 → IsFurther w w2 → IsDrained w p → IsDrained w2 p
drained_stays w w2 p left further drained = omega (arith, drained, further.committed p, ap (λ l. length (log_at l p)) left.logs)

each_drains : (course : ℕ → WorldState → Course) (made : (n : ℕ) (w : WorldState) → IsCourse w (course n w)) (reading : (n : ℕ) (w : WorldState) → AreAll IsReading (course n w).events) (m p k : ℕ)
    → ((w : WorldState) → IsValidWorld w → IsReader w.cluster.group m p → (course k w).answer ≡ Ok tt → IsDrained (course k w).after p)
    → (ns : List ℕ) → Listed k ns → (w : WorldState) → IsValidWorld w → IsReader w.cluster.group m p → (for_each ns course w).answer ≡ Ok tt → IsDrained (for_each ns course w).after p
unfolding for_each
each_drains course made reading m p k drains [] here w v reads ok = absurd here
each_drains course made reading m p k drains (n ∷ ns) here w v reads ok =
    let d = chain_done (course n w) (for_each ns course) ok in
    let w1 = (course n w).after in
    let rest = for_each ns course w1 in
    let v1 = valid_course w (course n w) (made n w) v in
    let left = preserved_course IsReading LeavesGroup preserves_group w (course n w) (made n w) (reading n w) in
    subst (λ (x : WorldState). IsDrained x p) (sym d.after_is) (elim here [
      | inl is ↦
          let first = drains w v reads (subst (λ j. (course j w).answer ≡ Ok tt) (sym is) d.first_ok) in
          let made_rest = each_course ns course made w1 in
          let reading_rest = each_events IsReading ns course reading w1 in
          drained_stays w1 rest.after p (preserved_course IsReading LeavesGroup preserves_group w1 rest made_rest reading_rest) (preserved_course IsReading GoesFurther preserves_further w1 rest made_rest reading_rest v1)
          (subst (λ j. IsDrained (course j w).after p) is first)
      | inr later ↦ each_drains course made reading m p k drains ns later w1 v1 (reader_stays w w1 m p left reads) d.next_ok
    ])

-- ---- a member's logs
listed_first : (q : ℕ) (xs ys : List ℕ) → Listed q xs → Listed q (xs ++ ys)
listed_first q [] ys at = absurd at
listed_first q (x ∷ xs) ys (inl is) = inl is
listed_first q (x ∷ xs) ys (inr at) = inr (listed_first q xs ys at)

listed_last : (q : ℕ) (xs : List ℕ) (b : Bool) → b ≡ true → Listed q (xs ++ (if b then q ∷ [] else []))
listed_last q xs false e = absurd (cc e)
listed_last q [] true e = inl refl
listed_last q (x ∷ xs) true e = inr (listed_last q xs true refl)

where_listed : (n : ℕ) (f : ℕ → Bool) (q : ℕ) → q < n → f q ≡ true → Listed q (list_where n f)
where_listed zero f q lt e = absurd (omega arith)
where_listed (suc n) f q lt e =
    elim (cases_lt q n) [
      | inl below ↦ listed_first q (list_where n f) (if f n then n ∷ [] else []) (where_listed n f q below e)
      | inr le ↦
          let last : q ≡ n = omega arith in
          subst (λ k. Listed q (list_where n f ++ (if f k then k ∷ [] else []))) last (listed_last q (list_where n f) (f q) e)
    ]

elements_listed : (s : PartitionSet) (q : ℕ) → is_in s q ≡ true → Listed q (elements s)
unfolding elements
elements_listed s q e = where_listed (partitions_of s) (is_in s) q (in_below s q e) e

reader_listed : (w : WorldState) (m p : ℕ) → IsValidWorld w → IsReader w.cluster.group m p → Listed p (elements (held_by w m))
reader_listed w m p v reads =
    let at = (reader_holds w m p v reads).1 in
    elements_listed (held_by w m) p (ap (λ s. is_in s p) (holds_some w m at.c at.is_consumer) ∙ in_where w.cluster.group.partitions (is_held at.c) p reads.below ∙ ap is_some at.held)

member_drains : (batch m p : ℕ) (w : WorldState) → 1 ≤ batch → IsValidWorld w → IsReader w.cluster.group m p → (drain_member batch m w).answer ≡ Ok tt → IsDrained (drain_member batch m w).after p
unfolding drain_member
member_drains batch m p w some v reads ok =
    each_drains (drain_log batch m) (drain_log_course batch m) (drain_log_events IsReading reading_open batch m) m p p (λ x vx readsx okx. log_drains batch m p x some vx readsx okx)
    (elements (held_by w m)) (reader_listed w m p v reads) w v reads ok

members_drain : (batch m p : ℕ) (w : WorldState) → 1 ≤ batch → IsValidWorld w → IsReader w.cluster.group m p → Listed m (members w.cluster.group) → (drain_members batch w).answer ≡ Ok tt → IsDrained (drain_members batch w).after p
unfolding drain_members
members_drain batch m p w some v reads at ok =
    each_drains (drain_member batch) (drain_member_course batch) (drain_member_events IsReading reading_open batch) m p m (λ x vx readsx okx. member_drains batch m p x some vx readsx okx)
    (members w.cluster.group) at w v reads ok

-- ---- in a settled and synced group each partition has a reader
-- the number of rows with a partition, as balanced rows count it
abbrev rows_with : List PartitionSet → ℕ → ℕ
rows_with [] q = 0
rows_with (row ∷ rows) q = one (is_in row q) + rows_with rows q

some_row : (f : ℕ → PartitionSet) (q : ℕ) (ms : List ℕ) → 0 < rows_with (map f ms) q → (m : ℕ) × Listed m ms × (is_in (f m) q ≡ true)
some_row f q [] some = absurd (omega arith)
some_row f q (m ∷ ms) some = go (some_row f q ms) (is_in (f m) q) refl
  where
    go : (0 < rows_with (map f ms) q → (k : ℕ) × Listed k ms × (is_in (f k) q ≡ true)) → (b : Bool) → is_in (f m) q ≡ b → (k : ℕ) × Listed k (m ∷ ms) × (is_in (f k) q ≡ true)
    go others true e = (m, inl refl, e)
    go others false e =
        let none : one (is_in (f m) q) ≡ 0 = ap one e in
        let later = others (omega (arith, some, none)) in
        (later.0, inr later.1, later.2)

all_listed : (f : ℕ → Bool) (ms : List ℕ) (m : ℕ) → list_all f ms ≡ true → Listed m ms → f m ≡ true
all_listed f [] m all at = absurd at
all_listed f (x ∷ ms) m all at =
    let both = both_true (f x) (list_all f ms) all in
    elim at [
      | inl is ↦ ap f is ∙ both.0
      | inr later ↦ all_listed f ms m both.1 later
    ]

settled_and_synced_reader : (w : WorldState) (p : ℕ) → IsValidWorld w → is_settled_and_synced w.cluster.group ≡ true → p < w.cluster.group.partitions → (m : ℕ) × Listed m (members w.cluster.group) × IsReader w.cluster.group m p
settled_and_synced_reader w p v settled_and_synced lt =
    let g = w.cluster.group in
    let settled = settled_and_synced_is_settled g settled_and_synced in
    let once : rows_with (map (λ m. granted_of g m) (members g)) p ≡ 1 = (v.cluster.group.balanced settled).once p lt in
    let found = some_row (λ m. granted_of g m) p (members g) (omega (arith, once)) in
    let m = found.0 in
    let same = same_says (granted_of g m) (assigned_of g m) (settled_same g m settled) in (
      m,
      found.1,
      record {
        present = ap is_some (listed_present g.slots m found.1).1;
        synced = all_listed (is_synced g) (members g) m (both_true (is_settled g) _ settled_and_synced).1 found.1;
        assigned = ap (λ s. is_in s p) (sym same) ∙ found.2;
        below = lt;
      },
    )

-- ---- all logs
all_drained : (batch : ℕ) (w : WorldState) → 1 ≤ batch → IsValidWorld w → is_settled_and_synced w.cluster.group ≡ true → (drain_members batch w).answer ≡ Ok tt
    → AreEndsCommitted (drain_members batch w).after.cluster.store (drain_members batch w).after.cluster.logs
all_drained batch w some v settled_and_synced ok p lt =
    let c = drain_members batch w in
    let v2 = valid_course w c (drain_members_course batch w) v in
    let left = preserved_course IsReading LeavesGroup preserves_group w c (drain_members_course batch w) (drain_members_events IsReading reading_open batch w) in
    let reader = settled_and_synced_reader w p v settled_and_synced (omega (arith, lt, ap (λ (g : GroupState). g.partitions) left.group, v2.cluster.logs_partitions)) in
    omega (arith, members_drain batch reader.0 p w some v reader.2 reader.1 ok, v2.cluster.exact.within p)

pub drained_committed : (batch : ℕ) (w w2 : WorldState) (result : Result (Unit {0}) Refusal) → 1 ≤ batch → IsValidWorld w → is_settled_and_synced w.cluster.group ≡ true → Follows w (drain_members batch w) result w2 → result ≡ Ok tt
    → AreEndsCommitted w2.cluster.store w2.cluster.logs
drained_committed batch w w2 result some v settled_and_synced (inl replied) ok = subst (λ (x : WorldState). AreEndsCommitted x.cluster.store x.cluster.logs) (sym replied.1) (all_drained batch w some v settled_and_synced (sym replied.0 ∙ ok))
drained_committed batch w w2 result some v settled_and_synced (inr way) ok = absurd (cc (way.0, ok))
