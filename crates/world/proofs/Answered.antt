-- Events of a settling are never refused with `NotSettled`: that is the refusal of the call itself.
use Rattle.std.proofs.Common.{◌≡◌, ◌∙◌, ◌+◌, ℕ, zero, suc, Bool, true, false, List, [], ◌∷◌, Option, Some, None, Result, Ok, Err, cond, length, refl, sym, ap}
use Rattle.std.specs.Prelude.{nat_le, nat_lt, not, ◌==◌, ◌&&◌, is_none, if◌then◌else◌}
use Rattle.std.specs.Option.{option_map_or}
use Rattle.std.specs.Result.{result_and}
use Rattle.std.specs.Str.{bytes_eq}
use Rattle.lane_words.specs.declared.Refusal.{Refusal}
use Rattle.lane_words.specs.declared.Refusal.TheVariants as r
use Rattle.bit_planes.specs.PartitionSet.{PartitionSet, is_in, is_same}
use Rattle.commit_store.specs.Commits.{commit_answer, committed_at, log_at, records_between}
use Rattle.group_machine.specs.declared.group.Seat.{Seat}
use Rattle.group_machine.specs.State.{GroupState, granted_of, is_present, member_of}
use Rattle.group_machine.specs.Settled.{agrees, is_stable}
use Rattle.group_machine.specs.Steps.{rejoin_answer, rejoin_refusal, rejoining, sync_seat_answer, unless_over}
use Rattle.group_machine.specs.Completion.{is_over}
use Rattle.group_machine.specs.Cluster.{ClusterState, CommitTerms, LeaseTerms, cluster_commit_answer, cluster_sync_answer, lease_of}
use Rattle.consumer.specs.Consumer.{ConsumerState, base_of, is_held, poll_answer, polled_count, position_of, sendable_answer}
use Rattle.world.specs.declared.event.Event.{Event}
use Rattle.world.specs.declared.event.Event.TheVariants as event
use Rattle.world.specs.declared.event.Reply.TheVariants as reply
use Rattle.world.specs.declared.event.TheConstants.{MOST_COMMITS}
use Rattle.world.specs.Courses.{Course, answer_in, chain, for_each, goes_on, happens, nothing, outcome_of}
use Rattle.world.specs.Draining.{drain_log, drain_member, drain_members, read_on, read_up}
use Rattle.world.specs.Settling.{commit_pending, flush, forgiven, pass, rejoin_if_due, sync_if_new, turn, unless_mismatch}
use Rattle.world.specs.Steps.{Outcome, asked, delivered, delivery, mail_answer, poll_by_consumer, poll_outcome, refused, refused_by_cluster, rejoin_outcome, send_by_consumer, send_outcome, sync_outcome, replied}
use Rattle.world.specs.World.{WorldState, commit_at, consumer_of}
use Rattle.world.proofs.Preserved.{IsOfTurn}

abbrev pub IsNever : {A : Type 0} → Result A Refusal → Type 0
IsNever a = a ≡ Err r.NotSettled → ⊥

joined_answers : (b : Bool) (lease : LeaseTerms) → IsNever (result_and (let x : Result (Unit {0}) Refusal = if b then Err r.RebalanceInProgress else Ok tt in x) (Ok lease))
joined_answers true lease e = cc
joined_answers false lease e = cc

sync_answers : (o : Option Seat) (lease : LeaseTerms) → IsNever (result_and (sync_seat_answer o) (Ok lease))
sync_answers None lease e = cc
sync_answers (Some x) lease e = joined_answers x.joined lease e

rejoin_refused : (stale joined unsynced nothing differs over : Bool)
    → IsNever (option_map_or Err (if stale then Some r.StaleGeneration else if joined then Some r.AlreadyJoined else if unsynced then Some r.SyncFirst else if nothing then Some r.NothingToGive else if differs then Some r.ClaimDiffers else None) (let x : Result (Unit {0}) Refusal = if over then Err r.GenerationsOver else Ok tt in x))
rejoin_refused true joined unsynced nothing differs over e = cc
rejoin_refused false true unsynced nothing differs over e = cc
rejoin_refused false false true nothing differs over e = cc
rejoin_refused false false false true differs over e = cc
rejoin_refused false false false false true over e = cc
rejoin_refused false false false false false true e = cc
rejoin_refused false false false false false false e = cc

rejoin_answers : (g : GroupState) (m generation : ℕ) (claim : PartitionSet) → IsNever (rejoin_answer g m generation claim)
rejoin_answers g m generation claim e = go (member_of g m) e
  where
    go : (o : Option Seat) → option_map_or Err (rejoin_refusal g generation claim o) (unless_over {A = Unit {0}} (rejoining g m) tt) ≡ Err r.NotSettled → ⊥
    go None h = cc
    go (Some x) h = rejoin_refused (not (generation == g.generation)) x.joined (not x.synced) (is_stable g.phase && agrees x) (not (is_same claim x.assigned)) (is_over (rejoining g m)) h

hold_refused : {A : Type 0} (out unheld : Bool) (b : Result A Refusal) → IsNever b → IsNever (result_and (let x : Result (Unit {0}) Refusal = if out then Err r.OutOfGroup else if unheld then Err r.NotHeld else Ok tt in x) b)
hold_refused true unheld b h e = cc
hold_refused false true b h e = cc
hold_refused false false b h e = h e

if_err : (b : Bool) (why : Refusal) → (why ≡ r.NotSettled → ⊥) → IsNever (let x : Result (Unit {0}) Refusal = if b then Err why else Ok tt in x)
if_err true why h e = h (cc e)
if_err false why h e = cc

send_answers : (w : WorldState) (c : ConsumerState) (p : ℕ) → IsNever (mail_answer w c p)
send_answers w c p e = both (sendable_answer c p) (hold_refused (is_none c.member) (not (is_held c p)) _ (if_err (base_of c p == position_of c p) r.EmptyCommit (λ x. cc))) e
  where
    both : (a : Result (Unit {0}) Refusal) → IsNever a → result_and a (let x : Result (Unit {0}) Refusal = if nat_le MOST_COMMITS (length w.mail) then Err r.MailFull else Ok tt in x) ≡ Err r.NotSettled → ⊥
    both (Ok u) h e = if_err (nat_le MOST_COMMITS (length w.mail)) r.MailFull (λ x. cc) e
    both (Err why) h e = h (cc e)

poll_answers : (w : WorldState) (c : ConsumerState) (p n : ℕ) → IsNever (poll_answer c w.cluster.logs p n)
poll_answers w c p n = hold_refused (is_none c.member) (not (is_held c p)) (Ok (polled_count c w.cluster.logs p n)) (λ e. cc)

offset_refused : (committed end : ℕ) (none elsewhere past wrong : Bool)
    → IsNever (let x : Result ℕ Refusal = if none then Err r.EmptyCommit else if elsewhere then Err (r.OffsetMismatch committed) else if past then Err r.PastEnd else if wrong then Err r.WrongRecords else Ok end in x)
offset_refused committed end true elsewhere past wrong e = cc
offset_refused committed end false true past wrong e = cc
offset_refused committed end false false true wrong e = cc
offset_refused committed end false false false true e = cc
offset_refused committed end false false false false e = cc

fence_refused : (gone stale other : Bool) (b : Result ℕ Refusal) → IsNever b → IsNever (result_and (let x : Result (Unit {0}) Refusal = if gone then Err r.UnknownMember else if stale then Err r.StaleGeneration else if other then Err r.NotOwner else Ok tt in x) b)
fence_refused true stale other b h e = cc
fence_refused false true other b h e = cc
fence_refused false false true b h e = cc
fence_refused false false false b h e = h e

commit_answers : (s : ClusterState) (c : CommitTerms) → IsNever (cluster_commit_answer s c)
commit_answers s c =
    fence_refused (not (is_present s.group c.member)) (not (c.generation == s.group.generation)) (not (is_in (granted_of s.group c.member) c.partition)) (commit_answer s.store s.logs c.partition c.from c.ids)
    (offset_refused (committed_at s.store c.partition) (c.from + length c.ids) (length c.ids == 0) (not (c.from == committed_at s.store c.partition))
    (nat_lt (length (log_at s.logs c.partition)) (c.from + length c.ids)) (not (bytes_eq (records_between s.logs c.partition c.from (c.from + length c.ids)) c.ids)))

-- ---- events
pub refused_reply : (w : WorldState) (m : ℕ) (why : Refusal) → (refused_by_cluster w m why).reply ≡ reply.Refused why
refused_reply w m r.UnknownMember = refl
refused_reply w m why = refl

inside : (a why : Refusal) → ◌≡◌ {A = Result (Unit {0}) Refusal} (Err a) (Err why) → a ≡ why
inside a why e = cc

refused_never : (w : WorldState) (m : ℕ) (why : Refusal) → (why ≡ r.NotSettled → ⊥) → IsNever (answer_in (refused_by_cluster w m why).reply)
refused_never w m why h e = h (inside why r.NotSettled (sym (ap answer_in (refused_reply w m why)) ∙ e))

asked_never : (w : WorldState) (f : ConsumerState → Outcome) → ((c : ConsumerState) → IsNever (answer_in (f c).reply)) → (o : Option ConsumerState) → IsNever (answer_in (asked w o f).reply)
asked_never w f h None e = cc
asked_never w f h (Some c) e = go (is_none c.member) e
  where
    go : (b : Bool) → answer_in (cond b (refused w r.OutOfGroup) (f c)).reply ≡ Err r.NotSettled → ⊥
    go true e = cc
    go false e = h c e

sync_never : (w : WorldState) (m : ℕ) (a : Result LeaseTerms Refusal) → IsNever a → IsNever (answer_in (sync_outcome w m a).reply)
sync_never w m (Ok lease) h e = cc
sync_never w m (Err why) h e = refused_never w m why (λ x. h (ap Err x)) e

rejoin_never : (w : WorldState) (m : ℕ) (a : Result (Unit {0}) Refusal) → IsNever a → IsNever (answer_in (rejoin_outcome w m a).reply)
rejoin_never w m (Ok u) h e = cc
rejoin_never w m (Err why) h e = refused_never w m why (λ x. h (ap Err x)) e

poll_never : (w : WorldState) (m p n : ℕ) (o : Option ConsumerState) → IsNever (answer_in (poll_by_consumer w m p n o).reply)
poll_never w m p n None e = cc
poll_never w m p n (Some c) e = go (poll_answer c w.cluster.logs p n) (poll_answers w c p n) e
  where
    go : (a : Result ℕ Refusal) → IsNever a → answer_in (poll_outcome w m p n c a).reply ≡ Err r.NotSettled → ⊥
    go (Ok count) h e = cc
    go (Err why) h e = h (ap Err (inside why r.NotSettled e))

send_never : (w : WorldState) (p : ℕ) (o : Option ConsumerState) → IsNever (answer_in (send_by_consumer w p o).reply)
send_never w p None e = cc
send_never w p (Some c) e = go (mail_answer w c p) (send_answers w c p) e
  where
    go : (a : Result (Unit {0}) Refusal) → IsNever a → answer_in (send_outcome w p c a).reply ≡ Err r.NotSettled → ⊥
    go (Ok u) h e = cc
    go (Err why) h e = h e

deliver_never : (w : WorldState) (o : Option CommitTerms) → IsNever (answer_in (delivery w (delivered w) o).reply)
deliver_never w None e = cc
deliver_never w (Some c) e = go (cluster_commit_answer w.cluster c) (commit_answers w.cluster c) e
  where
    go : (a : Result ℕ Refusal) → IsNever a → answer_in (replied a) ≡ Err r.NotSettled → ⊥
    go (Ok end) h e = cc
    go (Err why) h e = h (ap Err (inside why r.NotSettled e))

pub event_never : (w : WorldState) (e : Event) → IsOfTurn e → IsNever (answer_in (outcome_of w e).reply)
event_never w (event.Sync m) h = asked_never w (λ c. sync_outcome w m (cluster_sync_answer w.cluster m)) (λ c. sync_never w m (cluster_sync_answer w.cluster m) (sync_answers (member_of w.cluster.group m) (lease_of w.cluster m))) (consumer_of w m)
event_never w (event.Rejoin m) h = asked_never w (λ c. rejoin_outcome w m (rejoin_answer w.cluster.group m c.generation c.assigned)) (λ c. rejoin_never w m (rejoin_answer w.cluster.group m c.generation c.assigned) (rejoin_answers w.cluster.group m c.generation c.assigned)) (consumer_of w m)
event_never w (event.Poll m p n) h = poll_never w m p n (consumer_of w m)
event_never w (event.Send m p) h = send_never w p (consumer_of w m)
event_never w (event.Deliver k) h = deliver_never w (commit_at w k)
event_never w (event.Append key) h = absurd h
event_never w (event.AppendIn topic key) h = absurd h
event_never w (event.Join name) h = absurd h
event_never w (event.JoinKept name) h = absurd h
event_never w (event.TakeOver name) h = absurd h
event_never w (event.Leave m) h = absurd h
event_never w (event.Lose m) h = absurd h
event_never w (event.DeliverUnanswered k) h = absurd h

-- ---- courses
happens_never : (e : Event) (w : WorldState) → IsOfTurn e → IsNever (happens e w).answer
unfolding happens
happens_never e w h = event_never w e h

goes_on_never : (first second : Course) (a : Result (Unit {0}) Refusal) → first.answer ≡ a → IsNever first.answer → IsNever second.answer → IsNever (goes_on first second a).answer
goes_on_never first second (Ok u) same h k e = k e
goes_on_never first second (Err why) same h k e = h e

pub chain_never : (first : Course) (next : WorldState → Course) → IsNever first.answer → ((x : WorldState) → IsNever (next x).answer) → IsNever (chain first next).answer
unfolding chain
chain_never first next h k = goes_on_never first (next first.after) first.answer refl h (k first.after)

pub each_never : (ns : List ℕ) (course : ℕ → WorldState → Course) → ((n : ℕ) (x : WorldState) → IsNever (course n x).answer) → (w : WorldState) → IsNever (for_each ns course w).answer
unfolding for_each
each_never [] course h w e = cc
each_never (n ∷ ns) course h w e = chain_never (course n w) (for_each ns course) (h n w) (each_never ns course h) e

if_never : (b : Bool) (c d : Course) → IsNever c.answer → IsNever d.answer → IsNever (cond b c d).answer
if_never true c d h k = h
if_never false c d h k = k

forgiven_never : (a : Result (Unit {0}) Refusal) → IsNever a → IsNever (unless_mismatch a)
forgiven_never (Ok u) h e = cc
forgiven_never (Err (r.OffsetMismatch k)) h e = cc
forgiven_never (Err why) h e = h e

commit_never : (m p : ℕ) (w : WorldState) → IsNever (commit_pending m p w).answer
unfolding commit_pending
commit_never m p w = if_never _ _ (nothing w)
    (chain_never (happens (event.Send m p) w) (λ sent. happens (event.Deliver (length sent.mail)) sent) (happens_never (event.Send m p) w tt) (λ x. happens_never (event.Deliver (length x.mail)) x tt)) (λ e. cc)

flush_never : (m p : ℕ) (w : WorldState) → IsNever (flush m p w).answer
unfolding flush
flush_never m p w = chain_never (forgiven (commit_pending m p w)) (commit_pending m p) (forgiven_never (commit_pending m p w).answer (commit_never m p w)) (commit_never m p)

syncs_never : (m : ℕ) (w : WorldState) → IsNever (sync_if_new m w).answer
unfolding sync_if_new
syncs_never m w = if_never _ (nothing w) (happens (event.Sync m) w) (λ e. cc) (happens_never (event.Sync m) w tt)

rejoins_never : (m : ℕ) (w : WorldState) → IsNever (rejoin_if_due m w).answer
unfolding rejoin_if_due
rejoins_never m w = if_never _ _ (nothing w) (chain_never _ (happens (event.Rejoin m)) (each_never _ (flush m) (flush_never m) w) (λ x. happens_never (event.Rejoin m) x tt)) (λ e. cc)

turn_never : (m : ℕ) (w : WorldState) → IsNever (turn m w).answer
unfolding turn
turn_never m w = chain_never (sync_if_new m w) (rejoin_if_due m) (syncs_never m w) (rejoins_never m)

pub pass_never : (w : WorldState) → IsNever (pass w).answer
unfolding pass
pass_never w = each_never _ turn turn_never w

read_on_never : (batch m p : ℕ) (w : WorldState) → IsNever (read_on batch m p w).answer
unfolding read_on
read_on_never batch m p w = chain_never (happens (event.Poll m p batch) w) (λ read. forgiven (commit_pending m p read)) (happens_never (event.Poll m p batch) w tt) (λ x. forgiven_never (commit_pending m p x).answer (commit_never m p x))

read_up_never : (n batch m p : ℕ) (w : WorldState) → IsNever (read_up n batch m p w).answer
unfolding read_up
read_up_never zero batch m p w e = cc
read_up_never (suc n) batch m p w e = if_never _ (nothing w) _ (λ x. cc) (chain_never (read_on batch m p w) (read_up n batch m p) (read_on_never batch m p w) (read_up_never n batch m p)) e

drain_log_never : (batch m p : ℕ) (w : WorldState) → IsNever (drain_log batch m p w).answer
unfolding drain_log
drain_log_never batch m p w = read_up_never _ batch m p w

drain_member_never : (batch m : ℕ) (w : WorldState) → IsNever (drain_member batch m w).answer
unfolding drain_member
drain_member_never batch m w = each_never _ (drain_log batch m) (drain_log_never batch m) w

pub drain_members_never : (batch : ℕ) (w : WorldState) → IsNever (drain_members batch w).answer
unfolding drain_members
drain_members_never batch w = each_never _ (drain_member batch) (drain_member_never batch) w
