-- Courses consist of their events, and calls follow them one after the other.
use Rattle.std.proofs.Common.{◌≡◌, ◌⊎◌, ◌∙◌, ℕ, zero, suc, Bool, true, false, ◌||◌, List, [], ◌∷◌, ◌++◌, Result, Ok, Err, append_assoc, cond, length, refl, sym, ap, subst, inl, inr}
use Rattle.lane_words.specs.declared.Refusal.{Refusal}
use Rattle.lane_words.specs.declared.Refusal.TheVariants as r
use Rattle.bit_planes.specs.PartitionSet.{elements, minus}
use Rattle.group_machine.specs.State.{assigned_of, granted_of, is_anybody, is_joined, is_synced, members}
use Rattle.partition_log.specs.Logs.{log_at}
use Rattle.world.specs.declared.event.Event.{Event}
use Rattle.world.specs.declared.event.Event.TheVariants as event
use Rattle.world.specs.declared.event.Reply.{Reply}
use Rattle.world.specs.declared.event.Reply.TheVariants as reply
use Rattle.group_machine.specs.NextSteps.{has_to_rejoin}
use Rattle.group_laws.specs.Passes.{is_settled_and_synced}
use Rattle.world.specs.Courses.{Course, Follows, after_all, answer_in, answered_at_once, chain, for_each, goes_on, happens, nothing, outcome_of}
use Rattle.world.specs.Draining.{drain_log, drain_member, drain_members, draining, held_by, is_read_up, read_on, read_up}
use Rattle.world.specs.Observing.{FollowsObserved, Seen, seen_of}
use Rattle.world.specs.Settling.{commit_pending, flush, forgiven, is_pending, unless_mismatch, pass, passes, rejoin_if_due, settling, sync_if_new, turn}
use Rattle.world.specs.Steps.{Comes, Step, refused}
use Rattle.world.specs.World.{WorldState}

-- ---- courses consist of their events
abbrev pub IsCourse : WorldState → Course → Type 0
IsCourse w c = c.after ≡ after_all w c.events

after_append : (w : WorldState) (xs ys : List Event) → after_all w (xs ++ ys) ≡ after_all (after_all w xs) ys
after_append w [] ys = refl
after_append w (x ∷ xs) ys = after_append (outcome_of w x).after xs ys

pub happens_course : (e : Event) (w : WorldState) → IsCourse w (happens e w)
unfolding happens
happens_course e w = refl

goes_on_course : (w : WorldState) (first second : Course) (a : Result (Unit {0}) Refusal) → IsCourse w first → IsCourse first.after second → IsCourse w (goes_on first second a)
goes_on_course w first second (Ok u) h k = k ∙ ap (λ x. after_all x second.events) h ∙ sym (after_append w first.events second.events)
goes_on_course w first second (Err why) h k = h

pub chain_course : (w : WorldState) (first : Course) (next : WorldState → Course) → IsCourse w first → ((x : WorldState) → IsCourse x (next x)) → IsCourse w (chain first next)
unfolding chain
chain_course w first next h k = goes_on_course w first (next first.after) first.answer h (k first.after)

pub each_course : (ns : List ℕ) (course : ℕ → WorldState → Course) → ((n : ℕ) (x : WorldState) → IsCourse x (course n x)) → (w : WorldState) → IsCourse w (for_each ns course w)
unfolding for_each
each_course [] course h w = refl
each_course (n ∷ ns) course h w = chain_course w (course n w) (for_each ns course) (h n w) (each_course ns course h)

if_course : (b : Bool) (w : WorldState) (c d : Course) → IsCourse w c → IsCourse w d → IsCourse w (cond b c d)
if_course true w c d h k = h
if_course false w c d h k = k

pub commit_pending_course : (m p : ℕ) (w : WorldState) → IsCourse w (commit_pending m p w)
unfolding commit_pending
commit_pending_course m p w =
    if_course (is_pending w m p) w _ (nothing w)
    (chain_course w (happens (event.Send m p) w) (λ sent. happens (event.Deliver (length sent.mail)) sent) (happens_course (event.Send m p) w) (λ x. happens_course (event.Deliver (length x.mail)) x)) refl

pub flush_course : (m p : ℕ) (w : WorldState) → IsCourse w (flush m p w)
unfolding flush
flush_course m p w = chain_course w (forgiven (commit_pending m p w)) (commit_pending m p) (commit_pending_course m p w) (commit_pending_course m p)

pub sync_course : (m : ℕ) (w : WorldState) → IsCourse w (sync_if_new m w)
unfolding sync_if_new
sync_course m w = if_course (is_joined w.cluster.group m || is_synced w.cluster.group m) w (nothing w) (happens (event.Sync m) w) refl (happens_course (event.Sync m) w)

pub rejoin_course : (m : ℕ) (w : WorldState) → IsCourse w (rejoin_if_due m w)
unfolding rejoin_if_due
rejoin_course m w =
    if_course (has_to_rejoin w.cluster.group m) w _ (nothing w)
    (chain_course w _ (happens (event.Rejoin m)) (each_course _ (flush m) (flush_course m) w) (happens_course (event.Rejoin m))) refl

pub turn_course : (m : ℕ) (w : WorldState) → IsCourse w (turn m w)
unfolding turn
turn_course m w = chain_course w (sync_if_new m w) (rejoin_if_due m) (sync_course m w) (rejoin_course m)

pub pass_course : (w : WorldState) → IsCourse w (pass w)
unfolding pass
pass_course w = each_course (members w.cluster.group) turn turn_course w

pub passes_course : (n : ℕ) (w : WorldState) → IsCourse w (passes n w)
unfolding passes
passes_course zero w = if_course (is_settled_and_synced w.cluster.group) w (nothing w) (answered_at_once (Err r.NotSettled) w) refl refl
passes_course (suc n) w = if_course (is_settled_and_synced w.cluster.group) w (nothing w) _ refl (chain_course w (pass w) (passes n) (pass_course w) (passes_course n))

pub settling_course : (w : WorldState) → IsCourse w (settling w)
unfolding settling
settling_course w = if_course (is_anybody w.cluster.group) w (passes 4 w) (answered_at_once (Err r.NobodyPresent) w) (passes_course 4 w) refl

pub read_on_course : (batch m p : ℕ) (w : WorldState) → IsCourse w (read_on batch m p w)
unfolding read_on
read_on_course batch m p w = chain_course w (happens (event.Poll m p batch) w) (λ read. forgiven (commit_pending m p read)) (happens_course (event.Poll m p batch) w) (commit_pending_course m p)

pub read_up_course : (n batch m p : ℕ) (w : WorldState) → IsCourse w (read_up n batch m p w)
unfolding read_up
read_up_course zero batch m p w = refl
read_up_course (suc n) batch m p w = if_course (is_read_up w m p) w (nothing w) _ refl (chain_course w (read_on batch m p w) (read_up n batch m p) (read_on_course batch m p w) (read_up_course n batch m p))

pub drain_log_course : (batch m p : ℕ) (w : WorldState) → IsCourse w (drain_log batch m p w)
unfolding drain_log
drain_log_course batch m p w = read_up_course (length (log_at w.cluster.logs p)) batch m p w

pub drain_member_course : (batch m : ℕ) (w : WorldState) → IsCourse w (drain_member batch m w)
unfolding drain_member
drain_member_course batch m w = each_course (elements (held_by w m)) (drain_log batch m) (drain_log_course batch m) w

pub drain_members_course : (batch : ℕ) (w : WorldState) → IsCourse w (drain_members batch w)
unfolding drain_members
drain_members_course batch w = each_course (members w.cluster.group) (drain_member batch) (drain_member_course batch) w

-- ---- one event
pub step_comes : (w : WorldState) (e : Event) (replied : Reply) (w2 : WorldState) → Step w e replied w2 → Comes (outcome_of w e) replied w2 ⊎ Comes (refused w r.Memory) replied w2
step_comes w (event.Append key) replied w2 s = s
step_comes w (event.AppendIn topic key) replied w2 s = s
step_comes w (event.Join name) replied w2 s = s
step_comes w (event.JoinKept name) replied w2 s = s
step_comes w (event.TakeOver name) replied w2 s = s
step_comes w (event.Sync m) replied w2 s = s
step_comes w (event.Rejoin m) replied w2 s = s
step_comes w (event.Leave m) replied w2 s = s
step_comes w (event.Lose m) replied w2 s = s
step_comes w (event.Poll m p n) replied w2 s = inl s
step_comes w (event.Send m p) replied w2 s = s
step_comes w (event.Deliver k) replied w2 s = inl s
step_comes w (event.DeliverUnanswered k) replied w2 s = inl s

-- ---- a world before an observer's eyes
-- the laws of what an observer has seen
pub record Watch {O : Type 0} (Sees : O → List Seen → O → Type 0) : Type 0 where
  pub none : (o : O) → Sees o [] o
  pub more : (a b c : O) (first second : List Seen) → Sees a first b → Sees b second c → Sees a (first ++ second) c

pub watch : {O : Type 0} (Sees : O → List Seen → O → Type 0) → ((o : O) → Sees o [] o) → ((a b c : O) (first second : List Seen) → Sees a first b → Sees b second c → Sees a (first ++ second) c) → Watch Sees
watch Sees none more = record { none = none; more = more }

abbrev pub Scene : Type 0 → Type 0
Scene O = WorldState × O

abbrev pub scene : {O : Type 0} → WorldState → O → Scene O
scene w o = (w, o)

abbrev pub Follow : {O : Type 0} → (O → List Seen → O → Type 0) → Scene O → Course → Result (Unit {0}) Refusal → Scene O → Type 0
Follow S s c result s2 = FollowsObserved S s.0 s.1 c result s2.0 s2.1

-- an observed call follows its course
pub unseen : {O : Type 0} {S : O → List Seen → O → Type 0} (k : Watch S) (s s2 : Scene O) (c : Course) (result : Result (Unit {0}) Refusal) → Follow S s c result s2 → Follows s.0 c result s2.0
unseen k s s2 c result (inl replied) = inl (replied.0, replied.1)
unseen k s s2 c result (inr way) = inr way

pub attempted_refused : {O : Type 0} {S : O → List Seen → O → Type 0} (k : Watch S) (w w2 : WorldState) (o o2 : O) (e : Event) (replied : Reply) → Step w e replied w2 → Follow S (w, o) (happens e w) (Err r.Memory) (w2, o2)
unfolding happens
attempted_refused k w w2 o o2 e replied s =
    elim (step_comes w e replied w2 s) [
      | inl comes ↦ inr (refl, record { came = e ∷ []; left = []; events_are = refl; world_is = comes.1 })
      | inr comes ↦ inr (refl, record { came = []; left = e ∷ []; events_are = refl; world_is = comes.1 })
    ]

seen_once : (w w2 : WorldState) (e : Event) (replied : Reply) → Comes (outcome_of w e) replied w2 → record { event = e; reply = replied; after = w2 } ∷ [] ≡ seen_of w (e ∷ [])
seen_once w w2 e replied comes =
    ap (λ x. record { event = e; reply = x; after = w2 } ∷ []) comes.0 ∙ ap (λ x. record { event = e; reply = (outcome_of w e).reply; after = x } ∷ []) comes.1

pub attempted : {O : Type 0} {S : O → List Seen → O → Type 0} (k : Watch S) (w w2 : WorldState) (o o2 : O) (e : Event) (replied : Reply) → Step w e replied w2 → (replied ≡ reply.Refused r.Memory → ⊥) → S o (record { event = e; reply = replied; after = w2 } ∷ []) o2 → Follow S (w, o) (happens e w) (answer_in replied) (w2, o2)
unfolding happens
attempted {S = S} k w w2 o o2 e replied s other seen =
    elim (step_comes w e replied w2 s) [
      | inl comes ↦ inl (ap answer_in comes.0, comes.1, subst (λ xs. S o xs o2) (seen_once w w2 e replied comes) seen)
      | inr comes ↦ absurd (other comes.0)
    ]

-- ---- one course and then another
-- a call that follows the one from here on follows the other from its start
abbrev pub Continues : {O : Type 0} → (O → List Seen → O → Type 0) → Scene O → Course → Scene O → Course → Type 0
Continues {O} S s c mid rest = (result : Result (Unit {0}) Refusal) (s2 : Scene O) → Follow S mid rest result s2 → Follow S s c result s2

pub begins : {O : Type 0} {S : O → List Seen → O → Type 0} (k : Watch S) (s : Scene O) (c : Course) → Continues S s c s c
begins k s c result s2 f = f

abbrev both : Course → Course → Course
both first second = record { events = first.events ++ second.events; answer = second.answer; after = second.after }

seen_append : (w : WorldState) (xs ys : List Event) → seen_of w (xs ++ ys) ≡ seen_of w xs ++ seen_of (after_all w xs) ys
seen_append w [] ys = refl
seen_append w (x ∷ xs) ys = ap (λ seen. record { event = x; reply = (outcome_of w x).reply; after = (outcome_of w x).after } ∷ seen) (seen_append (outcome_of w x).after xs ys)

second_follows : {O : Type 0} {S : O → List Seen → O → Type 0} (k : Watch S) (s mid : Scene O) (first second : Course) → IsCourse s.0 first → mid.0 ≡ first.after → S s.1 (seen_of s.0 first.events) mid.1 → Continues S s (both first second) mid second
second_follows {S = S} k s mid first second made here seen result s2 (inl replied) =
    inl (
      replied.0,
      replied.1,
      subst (λ xs. S s.1 xs s2.1) (sym (seen_append s.0 first.events second.events))
          (k.more s.1 mid.1 s2.1 (seen_of s.0 first.events) (seen_of (after_all s.0 first.events) second.events) seen
          (subst (λ w. S mid.1 (seen_of w second.events) s2.1) (here ∙ made) replied.2)),
    )
second_follows {S = S} k s mid first second made here seen result s2 (inr way) =
    inr (
      way.0,
      record {
        came = first.events ++ way.1.came;
        left = way.1.left;
        events_are = ap (λ es. first.events ++ es) way.1.events_are ∙ sym (append_assoc first.events way.1.came way.1.left);
        world_is = way.1.world_is ∙ ap (λ x. after_all x way.1.came) (here ∙ made) ∙ sym (after_append s.0 first.events way.1.came);
      },
    )

pub chain_on : {O : Type 0} {S : O → List Seen → O → Type 0} (k : Watch S) (s mid : Scene O) (first : Course) (next : WorldState → Course) (a : Result (Unit {0}) Refusal) → IsCourse s.0 first → Follow S s first a mid → a ≡ Ok tt → Continues S s (chain first next) mid (next mid.0)
unfolding chain
chain_on {S = S} k s mid first next a made (inl replied) ok result s2 f =
    let go : goes_on first (next first.after) first.answer ≡ both first (next first.after) = ap (goes_on first (next first.after)) (sym replied.0 ∙ ok) in
    subst (λ c. Follow S s c result s2) (sym go)
    (second_follows k s mid first (next first.after) made replied.1 replied.2 result s2 (subst (λ x. Follow S mid (next x) result s2) replied.1 f))
chain_on {S = S} k s mid first next a made (inr way) ok result s2 f = absurd (cc (way.0, ok))

pub chain_stop : {O : Type 0} {S : O → List Seen → O → Type 0} (k : Watch S) (s mid : Scene O) (first : Course) (next : WorldState → Course) (a : Result (Unit {0}) Refusal) (why : Refusal) → IsCourse s.0 first → Follow S s first a mid → a ≡ Err why → Follow S s (chain first next) (Err why) mid
unfolding chain
chain_stop {S = S} k s mid first next a why made (inl replied) err =
    let go : goes_on first (next first.after) first.answer ≡ first = ap (goes_on first (next first.after)) (sym replied.0 ∙ err) in
    subst (λ c. Follow S s c (Err why) mid) (sym go) (inl (sym err ∙ replied.0, replied.1, replied.2))
chain_stop {S = S} k s mid first next a why made (inr way) err = stopped first.answer
  where
    stopped : (b : Result (Unit {0}) Refusal) → Follow S s (goes_on first (next first.after) b) (Err why) mid
    stopped (Ok u) = inr (
      sym err ∙ way.0,
      record {
        came = way.1.came;
        left = way.1.left ++ (next first.after).events;
        events_are = ap (λ es. es ++ (next first.after).events) way.1.events_are ∙ append_assoc way.1.came way.1.left (next first.after).events;
        world_is = way.1.world_is;
      },
    )
    stopped (Err other) = inr (sym err ∙ way.0, way.1)

pub chain_stops : {O : Type 0} {S : O → List Seen → O → Type 0} (k : Watch S) (s mid : Scene O) (first : Course) (next : WorldState → Course) (a result : Result (Unit {0}) Refusal) (why : Refusal) → IsCourse s.0 first → Follow S s first a mid → a ≡ Err why → result ≡ Err why → Follow S s (chain first next) result mid
chain_stops {S = S} k s mid first next a result why made f err same = subst (λ x. Follow S s (chain first next) x mid) (sym same) (chain_stop k s mid first next a why made f err)

pub goes_further : {O : Type 0} {S : O → List Seen → O → Type 0} (k : Watch S) (s mid far : Scene O) (c rest more : Course) → Continues S s c mid rest → Continues S mid rest far more → Continues S s c far more
goes_further k s mid far c rest more one two result s2 f = one result s2 (two result s2 f)

pub same_scene : {O : Type 0} (S : O → List Seen → O → Type 0) (s : Scene O) (c : Course) (rest : WorldState → Course) {x y : WorldState} {o p : O} → x ≡ y → o ≡ p → Continues S s c (y, p) (rest y) → Continues S s c (x, o) (rest x)
same_scene S s c rest {x = x} {y = y} {o = o} {p = p} same_world same_observer f =
    subst (λ z. Continues S s c (z, o) (rest z)) (sym same_world) (subst (λ q. Continues S s c (y, q) (rest y)) (sym same_observer) f)

-- ---- a course for each of some numbers
pub each_on : {O : Type 0} {S : O → List Seen → O → Type 0} (k : Watch S) (s mid : Scene O) (n : ℕ) (ns : List ℕ) (course : ℕ → WorldState → Course) (a : Result (Unit {0}) Refusal) → IsCourse s.0 (course n s.0) → Follow S s (course n s.0) a mid → a ≡ Ok tt → Continues S s (for_each (n ∷ ns) course s.0) mid (for_each ns course mid.0)
unfolding for_each
each_on k s mid n ns course a made f ok = chain_on k s mid (course n s.0) (for_each ns course) a made f ok

pub each_stops : {O : Type 0} {S : O → List Seen → O → Type 0} (k : Watch S) (s mid : Scene O) (n : ℕ) (ns : List ℕ) (course : ℕ → WorldState → Course) (a result : Result (Unit {0}) Refusal) (why : Refusal) → IsCourse s.0 (course n s.0) → Follow S s (course n s.0) a mid → a ≡ Err why → result ≡ Err why → Follow S s (for_each (n ∷ ns) course s.0) result mid
unfolding for_each
each_stops k s mid n ns course a result why made f err same = chain_stops k s mid (course n s.0) (for_each ns course) a result why made f err same

pub each_done : {O : Type 0} {S : O → List Seen → O → Type 0} (k : Watch S) (s : Scene O) (course : ℕ → WorldState → Course) → Follow S s (for_each [] course s.0) (Ok tt) s
unfolding for_each
each_done k s course = inl (refl, refl, k.none s.1)

-- ---- the courses of settling and draining, step by step
left_out : {O : Type 0} {S : O → List Seen → O → Type 0} (k : Watch S) (b : Bool) (c : Course) (s : Scene O) → b ≡ false → Follow S s (cond b c (nothing s.0)) (Ok tt) s
left_out k true c s e = absurd (cc e)
left_out k false c s e = inl (refl, refl, k.none s.1)

at_once : {O : Type 0} {S : O → List Seen → O → Type 0} (k : Watch S) (b : Bool) (c : Course) (s : Scene O) → b ≡ true → Follow S s (cond b (nothing s.0) c) (Ok tt) s
at_once k true c s e = inl (refl, refl, k.none s.1)
at_once k false c s e = absurd (cc e)

chosen : {O : Type 0} {S : O → List Seen → O → Type 0} (k : Watch S) (b : Bool) (c d : Course) (s : Scene O) → b ≡ true → Continues S s (cond b c d) s c
chosen k true c d s e result s2 f = f
chosen k false c d s e result s2 f = absurd (cc e)

other_chosen : {O : Type 0} {S : O → List Seen → O → Type 0} (k : Watch S) (b : Bool) (c d : Course) (s : Scene O) → b ≡ false → Continues S s (cond b c d) s d
other_chosen k true c d s e result s2 f = absurd (cc e)
other_chosen k false c d s e result s2 f = f

pub nothing_pending : {O : Type 0} {S : O → List Seen → O → Type 0} (k : Watch S) (m p : ℕ) (s : Scene O) → is_pending s.0 m p ≡ false → Follow S s (commit_pending m p s.0) (Ok tt) s
unfolding commit_pending
nothing_pending k m p s e = left_out k (is_pending s.0 m p) _ s e

pub something_pending : {O : Type 0} {S : O → List Seen → O → Type 0} (k : Watch S) (m p : ℕ) (s : Scene O) → is_pending s.0 m p ≡ true → Continues S s (commit_pending m p s.0) s (chain (happens (event.Send m p) s.0) (λ sent. happens (event.Deliver (length sent.mail)) sent))
unfolding commit_pending
something_pending k m p s e = chosen k (is_pending s.0 m p) _ (nothing s.0) s e

pub flush_is : {O : Type 0} {S : O → List Seen → O → Type 0} (k : Watch S) (m p : ℕ) (s : Scene O) → Continues S s (flush m p s.0) s (chain (forgiven (commit_pending m p s.0)) (commit_pending m p))
unfolding flush
flush_is k m p s result s2 f = f

pub not_new : {O : Type 0} {S : O → List Seen → O → Type 0} (k : Watch S) (m : ℕ) (s : Scene O) → (is_joined s.0.cluster.group m || is_synced s.0.cluster.group m) ≡ true → Follow S s (sync_if_new m s.0) (Ok tt) s
unfolding sync_if_new
not_new k m s e = at_once k (is_joined s.0.cluster.group m || is_synced s.0.cluster.group m) (happens (event.Sync m) s.0) s e

pub new_syncs : {O : Type 0} {S : O → List Seen → O → Type 0} (k : Watch S) (m : ℕ) (s : Scene O) → (is_joined s.0.cluster.group m || is_synced s.0.cluster.group m) ≡ false → Continues S s (sync_if_new m s.0) s (happens (event.Sync m) s.0)
unfolding sync_if_new
new_syncs k m s e = other_chosen k (is_joined s.0.cluster.group m || is_synced s.0.cluster.group m) (nothing s.0) (happens (event.Sync m) s.0) s e

pub not_due : {O : Type 0} {S : O → List Seen → O → Type 0} (k : Watch S) (m : ℕ) (s : Scene O) → has_to_rejoin s.0.cluster.group m ≡ false → Follow S s (rejoin_if_due m s.0) (Ok tt) s
unfolding rejoin_if_due
not_due k m s e = left_out k (has_to_rejoin s.0.cluster.group m) _ s e

pub due : {O : Type 0} {S : O → List Seen → O → Type 0} (k : Watch S) (m : ℕ) (s : Scene O) → has_to_rejoin s.0.cluster.group m ≡ true
    → Continues S s (rejoin_if_due m s.0) s (chain (for_each (elements (minus (granted_of s.0.cluster.group m) (assigned_of s.0.cluster.group m))) (flush m) s.0) (happens (event.Rejoin m)))
unfolding rejoin_if_due
due k m s e = chosen k (has_to_rejoin s.0.cluster.group m) _ (nothing s.0) s e

pub flushes_course : (ns : List ℕ) (m : ℕ) (w : WorldState) → IsCourse w (for_each ns (flush m) w)
flushes_course ns m w = each_course ns (flush m) (flush_course m) w

pub turn_is : {O : Type 0} {S : O → List Seen → O → Type 0} (k : Watch S) (m : ℕ) (s : Scene O) → Continues S s (turn m s.0) s (chain (sync_if_new m s.0) (rejoin_if_due m))
unfolding turn
turn_is k m s result s2 f = f

pub pass_is : {O : Type 0} {S : O → List Seen → O → Type 0} (k : Watch S) (s : Scene O) → Continues S s (pass s.0) s (for_each (members s.0.cluster.group) turn s.0)
unfolding pass
pass_is k s result s2 f = f

pub settled_and_synced_ends : {O : Type 0} {S : O → List Seen → O → Type 0} (k : Watch S) (n : ℕ) (s : Scene O) → is_settled_and_synced s.0.cluster.group ≡ true → Follow S s (passes n s.0) (Ok tt) s
unfolding passes
settled_and_synced_ends k zero s e = at_once k (is_settled_and_synced s.0.cluster.group) (answered_at_once (Err r.NotSettled) s.0) s e
settled_and_synced_ends k (suc n) s e = at_once k (is_settled_and_synced s.0.cluster.group) _ s e

pub passes_run_out : {O : Type 0} {S : O → List Seen → O → Type 0} (k : Watch S) (s : Scene O) → is_settled_and_synced s.0.cluster.group ≡ false → Follow S s (passes 0 s.0) (Err r.NotSettled) s
unfolding passes
passes_run_out k s e = other_chosen k (is_settled_and_synced s.0.cluster.group) (nothing s.0) (answered_at_once (Err r.NotSettled) s.0) s e (Err r.NotSettled) s (inl (refl, refl, k.none s.1))

pub one_more_pass : {O : Type 0} {S : O → List Seen → O → Type 0} (k : Watch S) (n : ℕ) (s : Scene O) → is_settled_and_synced s.0.cluster.group ≡ false → Continues S s (passes (suc n) s.0) s (chain (pass s.0) (passes n))
unfolding passes
one_more_pass k n s e = other_chosen k (is_settled_and_synced s.0.cluster.group) (nothing s.0) _ s e

pub somebody_settles : {O : Type 0} {S : O → List Seen → O → Type 0} (k : Watch S) (s : Scene O) → is_anybody s.0.cluster.group ≡ true → Continues S s (settling s.0) s (passes 4 s.0)
unfolding settling
somebody_settles k s e = chosen k (is_anybody s.0.cluster.group) (passes 4 s.0) _ s e

pub nobody_settles : {O : Type 0} {S : O → List Seen → O → Type 0} (k : Watch S) (s : Scene O) → is_anybody s.0.cluster.group ≡ false → Follow S s (settling s.0) (Err r.NobodyPresent) s
unfolding settling
nobody_settles k s e = other_chosen k (is_anybody s.0.cluster.group) (passes 4 s.0) (answered_at_once (Err r.NobodyPresent) s.0) s e (Err r.NobodyPresent) s (inl (refl, refl, k.none s.1))

pub read_on_is : {O : Type 0} {S : O → List Seen → O → Type 0} (k : Watch S) (batch m p : ℕ) (s : Scene O) → Continues S s (read_on batch m p s.0) s (chain (happens (event.Poll m p batch) s.0) (λ read. forgiven (commit_pending m p read)))
unfolding read_on
read_on_is k batch m p s result s2 f = f

pub read_up_ends : {O : Type 0} {S : O → List Seen → O → Type 0} (k : Watch S) (n batch m p : ℕ) (s : Scene O) → is_read_up s.0 m p ≡ true → Follow S s (read_up n batch m p s.0) (Ok tt) s
unfolding read_up
read_up_ends k zero batch m p s e = inl (refl, refl, k.none s.1)
read_up_ends k (suc n) batch m p s e = at_once k (is_read_up s.0 m p) _ s e

pub read_up_more : {O : Type 0} {S : O → List Seen → O → Type 0} (k : Watch S) (n batch m p : ℕ) (s : Scene O) → is_read_up s.0 m p ≡ false → Continues S s (read_up (suc n) batch m p s.0) s (chain (read_on batch m p s.0) (read_up n batch m p))
unfolding read_up
read_up_more k n batch m p s e = other_chosen k (is_read_up s.0 m p) (nothing s.0) _ s e

pub read_up_done : {O : Type 0} {S : O → List Seen → O → Type 0} (k : Watch S) (batch m p : ℕ) (s : Scene O) → Follow S s (read_up 0 batch m p s.0) (Ok tt) s
unfolding read_up
read_up_done k batch m p s = inl (refl, refl, k.none s.1)

pub drain_log_is : {O : Type 0} {S : O → List Seen → O → Type 0} (k : Watch S) (batch m p : ℕ) (s : Scene O) → Continues S s (drain_log batch m p s.0) s (read_up (length (log_at s.0.cluster.logs p)) batch m p s.0)
unfolding drain_log
drain_log_is k batch m p s result s2 f = f

pub drain_member_is : {O : Type 0} {S : O → List Seen → O → Type 0} (k : Watch S) (batch m : ℕ) (s : Scene O) → Continues S s (drain_member batch m s.0) s (for_each (elements (held_by s.0 m)) (drain_log batch m) s.0)
unfolding drain_member
drain_member_is k batch m s result s2 f = f

pub drain_members_is : {O : Type 0} {S : O → List Seen → O → Type 0} (k : Watch S) (batch : ℕ) (s : Scene O) → Continues S s (drain_members batch s.0) s (for_each (members s.0.cluster.group) (drain_member batch) s.0)
unfolding drain_members
drain_members_is k batch s result s2 f = f

pub draining_is : {O : Type 0} {S : O → List Seen → O → Type 0} (k : Watch S) (batch : ℕ) (s : Scene O) → Continues S s (draining batch s.0) s (chain (settling s.0) (drain_members batch))
unfolding draining
draining_is k batch s result s2 f = f
