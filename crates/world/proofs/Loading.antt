-- Loads: one more record is appended or refused, and what a run appends to the logs.
use Rattle.std.proofs.Common.{◌≡◌, ◌∙◌, ◌+◌, ◌<◌, ℕ, suc, true, List, [], ◌∷◌, ◌++◌, Result, Ok, Err, length, take, drop, map, get_or, refl, sym, ap, subst, inl, inr, arith}
use Rattle.std.specs.Prelude.{OnOk, nat_lt, if◌then◌else◌}
use Rattle.std.specs.Borrow.{Bor}
use Rattle.std.specs.List.{zip}
use Rattle.std.proofs.Math.Seq.{drop-cons}
use Rattle.std.proofs.lemmas.List.{get_or-map, length-map, take_more}
use Rattle.std.proofs.lemmas.Bool.Decides.{nat_tests}
use Rattle.std.proofs.lemmas.Slice.Zip.{get_or-zip, length-zip}
use Rattle.lane_words.specs.Answers.{Answers}
use Rattle.lane_words.specs.declared.Refusal.{Refusal}
use Rattle.lane_words.specs.declared.Refusal.TheVariants as r
use Rattle.partitioner.specs.Place.{AreTopics}
use Rattle.partition_log.specs.Appends.{lent}
use Rattle.partition_log.specs.Keys.{Key, Keyed, of_first}
use Rattle.partition_log.specs.Logs.{IsOfTopic, IsValidLogs, PartitionLogs, place_in, place_in_topic}
use Rattle.partition_log.proofs.Stored.{first-topic}
use Rattle.group_machine.specs.Cluster.{ClusterState, append_answer, appended_to}
use Rattle.world.specs.declared.event.Event.{Event}
use Rattle.world.specs.declared.event.Event.TheVariants as event
use Rattle.world.specs.declared.event.Reply.{Reply}
use Rattle.world.specs.declared.event.Reply.TheVariants as reply
use Rattle.world.specs.World.{WorldState, with_cluster}
use Rattle.world.specs.Steps.{MayCome, Outcome, Step, append_event, append_in_event, append_outcome, refused}
use Rattle.world.specs.Runs.{AppendsRecords, AreAppended, Appends, IsRefusedNext, Loads, Run, StopsLoad, appended_by, appends_in, appends_of}
use Rattle.world.specs.Private.Loading.{AreAppendsAt, IsAppendAt, IsAppendOf, event_at}
use Rattle.world.specs.Valid.{IsValidWorld}
use Rattle.world.proofs.Events.{valid_after}
use Rattle.world.proofs.Runs.{appends_both, history_after, nothing_more, run_push}

pub no_appends : (w : WorldState) → Appends w [] w
no_appends w = ([], refl, tt)

appended_last : (replies : List Reply) (p offset : ℕ) → AreAppended replies → AreAppended (replies ++ reply.Appended p offset ∷ [])
appended_last [] p offset h = tt
appended_last (reply.Appended q o ∷ replies) p offset h = appended_last replies p offset h
appended_last (replied ∷ replies) p offset h = absurd h

topic_is : (topic count : ℕ) → topic < count → nat_lt topic count ≡ true
topic_is topic count lt = grind (arith, nat_tests)

append_step : (w : WorldState) (e : Event) (keyed : Keyed) (replied : Reply) (w2 : WorldState) → IsAppendOf e keyed → IsOfTopic w.cluster.logs keyed → MayCome w (append_event w keyed) replied w2 → Step w e replied w2
append_step w (event.Append key) keyed replied w2 is topic comes = subst (λ (k : Keyed). MayCome w (append_event w k) replied w2) is comes
append_step w (event.AppendIn t key) keyed replied w2 is topic comes =
    let test : nat_lt keyed.0 (length w.cluster.logs.counts) ≡ true = topic_is keyed.0 (length w.cluster.logs.counts) topic in
    let goes = subst (λ b. MayCome w (if b then append_event w keyed else refused w (r.NoSuchTopic 0)) replied w2) (sym test) comes in
    subst (λ (k : Keyed). MayCome w (append_in_event w k) replied w2) is goes
append_step w e keyed replied w2 is topic comes = absurd is

pub append_more : (w w2 : WorldState) (events : List Event) (i : ℕ) (keyed : Keyed) (s : ClusterState) (at : ℕ × ℕ) → Appends w (take i events) w2 → i < length events → IsAppendOf (event_at events i) keyed → IsOfTopic w2.cluster.logs keyed
    → Answers (append_answer w2.cluster.logs keyed) (Ok at) → s ≡ appended_to w2.cluster keyed → Appends w (take (i + 1) events) (with_cluster w2 s)
append_more w w2 events i keyed s at before lt of topic (inr wrong) is = absurd (cc wrong)
append_more w w2 events i keyed s at before lt of topic (inl answer) is =
    let e = event_at events i in
    let comes : append_event w2 keyed ≡ append_outcome w2 keyed (Ok at) = ap (append_outcome w2 keyed) (sym answer) in
    let step : Step w2 e (reply.Appended at.0 at.1) (with_cluster w2 s) = append_step w2 e keyed (reply.Appended at.0 at.1) (with_cluster w2 s) of topic
    (inl (ap (λ (o : Outcome). o.reply) (sym comes), ap (with_cluster w2) is ∙ ap (λ (o : Outcome). o.after) (sym comes))) in (
      before.0 ++ reply.Appended at.0 at.1 ∷ [],
      subst (λ es. Run w es (before.0 ++ reply.Appended at.0 at.1 ∷ []) (with_cluster w2 s)) (sym (take_more events i (event.Sync 0) lt)) (run_push (take i events) before.0 w w2 (with_cluster w2 s) e (reply.Appended at.0 at.1) before.1 step),
      appended_last before.0 at.0 at.1 before.2,
    )

pub append_stops : (w : WorldState) (events : List Event) (i : ℕ) (keyed : Keyed) (why : Refusal) → i < length events → IsAppendOf (event_at events i) keyed → IsOfTopic w.cluster.logs keyed → Answers (append_answer w.cluster.logs keyed) (Err why)
    → StopsLoad w (drop i events) i why
append_stops w events i keyed why lt of topic answer =
    let rest : drop i events ≡ event_at events i ∷ drop (suc i) events = drop-cons events i (event.Sync 0) lt in
    inl (subst (λ es. IsRefusedNext w es why) (sym rest) (append_step w (event_at events i) keyed (reply.Refused why) w of topic (go answer)))
  where
    go : Answers (append_answer w.cluster.logs keyed) (Err why) → MayCome w (append_event w keyed) (reply.Refused why) w
    go (inl same) =
        let comes : append_event w keyed ≡ append_outcome w keyed (Err why) = ap (append_outcome w keyed) (sym same) in
        inl (ap (λ (o : Outcome). o.reply) (sym comes), ap (λ (o : Outcome). o.after) (sym comes))
    go (inr same) = inr (let e : why ≡ r.Memory = cc in ap (λ x. reply.Refused x) e, refl)

pub append_still : (l l2 : PartitionLogs) (e : Event) (place : ℕ) (key : Key) → l2.counts ≡ l.counts → IsAppendAt l e place key → IsAppendAt l2 e place key
append_still l l2 e place key same goes =
    subst (λ (counts : List ℕ). (topic : ℕ) × IsAppendOf e (topic, key) × (topic < length counts) × (place_in_topic counts topic key ≡ place)) (sym same) goes

-- the records that these events append if none is refused
abbrev pub records_of : List Event → List Keyed
records_of [] = []
records_of (e ∷ events) = appended_by e (reply.Appended 0 0) ++ records_of events

appended_anywhere : (e : Event) (p offset : ℕ) → appended_by e (reply.Appended 0 0) ≡ appended_by e (reply.Appended p offset)
appended_anywhere (event.Append key) p offset = refl
appended_anywhere (event.AppendIn topic key) p offset = refl
appended_anywhere e p offset = refl

run_history : (events : List Event) (replies : List Reply) (w w2 : WorldState) → IsValidWorld w → Run w events replies w2 → AreAppended replies → AppendsRecords (records_of events) w w2
run_history [] [] w w2 v run all = nothing_more w w2 (ap (λ (x : WorldState). x.cluster.logs) run)
run_history [] (replied ∷ replies) w w2 v run all = absurd run
run_history (e ∷ events) [] w w2 v run all = absurd run
run_history (e ∷ events) (reply.Appended p offset ∷ replies) w w2 v run all =
    let replied = reply.Appended p offset in
    let first : AppendsRecords (appended_by e (reply.Appended 0 0)) w run.0 = subst (λ ks. AppendsRecords ks w run.0) (sym (appended_anywhere e p offset)) (history_after w e replied run.0 v run.1) in
    appends_both (appended_by e (reply.Appended 0 0)) (records_of events) w run.0 w2 first (run_history events replies run.0 w2 (valid_after w e replied run.0 v run.1) run.2 all)
run_history (e ∷ events) (replied ∷ replies) w w2 v run all = absurd all

appends_history : (w : WorldState) (events : List Event) (records : List Keyed) (w2 : WorldState) → records_of events ≡ records → IsValidWorld w → Appends w events w2 → AppendsRecords records w w2
appends_history w events records w2 is v done = subst (λ ks. AppendsRecords ks w w2) is (run_history events done.0 w w2 v done.1 done.2)

pub records_first : (keys : List (Bor Key)) → records_of (appends_of keys) ≡ map (λ key. of_first key.now) keys
records_first [] = refl
records_first (key ∷ keys) = ap (λ (ks : List Keyed). of_first key.now ∷ ks) (records_first keys)

pub records_in : (topics : List ℕ) (keys : List (Bor Key)) → records_of (appends_in topics keys) ≡ zip topics (lent keys)
records_in [] keys = refl
records_in (t ∷ topics) [] = refl
records_in (t ∷ topics) (key ∷ keys) = ap (λ (ks : List Keyed). (t, key.now) ∷ ks) (records_in topics keys)

pub load_history : (w : WorldState) (events : List Event) (records : List Keyed) (result : Result (Unit {0}) (ℕ × Refusal)) (w2 : WorldState) → records_of events ≡ records → IsValidWorld w → Loads w events result w2
    → OnOk result (AppendsRecords records w w2)
load_history w events records (Ok u) w2 is v done = appends_history w events records w2 is v done
load_history w events records (Err stop) w2 is v done = tt

pub load_stops_first : (w : WorldState) (events : List Event) → Loads w events (Err (0, r.Memory)) w
load_stops_first w events = (omega arith, no_appends w, inr (refl, refl))

pub first_placed : (l : PartitionLogs) (places : List ℕ) (keys : List (Bor Key)) → IsValidLogs l → places ≡ map (λ key. place_in l (of_first key.now)) keys → AreAppendsAt l (appends_of keys) places keys
first_placed l places keys v is = record {
  events_each = length-map keys (λ (key : Bor Key). event.Append key);
  places_each = ap length is ∙ length-map keys (λ (key : Bor Key). place_in l (of_first key.now));
  each = λ i lt.
      let none : Bor Key = record { ref_ptr = (0, 0); now = [] } in
      let key = get_or keys i none in
      let e : get_or (appends_of keys) i (event.Sync 0) ≡ event.Append key = get_or-map (λ (k : Bor Key). event.Append k) keys i none (event.Sync 0) lt in
      let at : get_or places i 0 ≡ place_in l (of_first key.now) = ap (λ (ps : List ℕ). get_or ps i 0) is ∙ get_or-map (λ (k : Bor Key). place_in l (of_first k.now)) keys i none 0 lt in
      subst (λ (x : Event). IsAppendAt l x (get_or places i 0) key.now) (sym e) (0, refl, first-topic l key.now v, sym at);
}

pub topics_placed : (l : PartitionLogs) (places topics : List ℕ) (keys : List (Bor Key)) → AreTopics (length l.counts) (length keys) topics → places ≡ map (λ (keyed : ℕ × Bor Key). place_in l (keyed.0, keyed.1.now)) (zip topics keys)
    → AreAppendsAt l (appends_in topics keys) places keys
topics_placed l places topics keys h is =
    let long : length (zip topics keys) ≡ length keys = omega (arith, length-zip topics keys, h.as_many) in
    record {
      events_each = length-map (zip topics keys) (λ (x : ℕ × Bor Key). event.AppendIn x.0 x.1) ∙ long;
      places_each = ap length is ∙ length-map (zip topics keys) (λ (x : ℕ × Bor Key). place_in l (x.0, x.1.now)) ∙ long;
      each = λ i lt.
          let none : Bor Key = record { ref_ptr = (0, 0); now = [] } in
          let key = get_or keys i none in
          let topic = get_or topics i 0 in
          let among : i < length (zip topics keys) = omega (arith, lt, long) in
          let both : get_or (zip topics keys) i (0, none) ≡ (topic, key) = get_or-zip topics keys i (0, none) (omega (arith, lt, h.as_many)) lt in
          let e : get_or (appends_in topics keys) i (event.Sync 0) ≡ event.AppendIn topic key =
          get_or-map (λ (x : ℕ × Bor Key). event.AppendIn x.0 x.1) (zip topics keys) i (0, none) (event.Sync 0) among ∙ ap (λ (x : ℕ × Bor Key). event.AppendIn x.0 x.1) both in
          let at : get_or places i 0 ≡ place_in l (topic, key.now) =
          ap (λ (ps : List ℕ). get_or ps i 0) is ∙ get_or-map (λ (x : ℕ × Bor Key). place_in l (x.0, x.1.now)) (zip topics keys) i (0, none) 0 among ∙ ap (λ (x : ℕ × Bor Key). place_in l (x.0, x.1.now)) both in
          subst (λ (x : Event). IsAppendAt l x (get_or places i 0) key.now) (sym e) (topic, refl, h.among i 0 (omega (arith, lt, h.as_many)), sym at);
    }
