use Rattle.std.proofs.Common.{◌≡◌, ◌∙◌, ◌<◌, Ok, Err, [], ap, arith, drop, get_or, length, refl, subst, sym, take}
use Rattle.std.specs.Borrow.{Bor}
use Rattle.std.proofs.lemmas.List.{take_all}
use Rattle.lane_words.specs.Answers.{Answers}
use Rattle.partition_log.specs.Keys.{Key}
use Rattle.partition_log.specs.Logs.{answer_at}
use Rattle.group_machine.specs.Cluster.{ClusterState, appended_at}
use Rattle.world.specs.Runs.{Appends, StopsLoad}
use Rattle.world.specs.Valid.{IsValidWorld}
use Rattle.world.specs.World.{with_cluster}
use Rattle.world.specs.Private.Loading.{event_at}
use Rattle.world.specs.Private.View.{world_view}
use Rattle.world.proofs.Events.{appended_world}
use Rattle.world.proofs.Loading.{append_more, append_still, append_stops, no_appends}
use Rattle.world.proofs.parts.Parts.append_placed.Goals as goal

pub loop-i-init : goal.loop-i-init
loop-i-init c = record { so_far = λ events h. no_appends (world_view c.args.self.now); counts = refl; valid = c.requires.valid }

pub append_at-requires : goal.append_at-requires
append_at-requires c =
    let none : Bor Key = record { ref_ptr = (0, 0); now = [] } in
    let i = c.loop-i.i in
    let lt : i < length c.args.keys.now = omega (arith, c.loop-i-test.true) in
    let placed = c.requires.partitions in
    let here = append_still c.args.self.now.cluster.logs c.loop-i.self.cluster.logs (event_at placed.0 i) (get_or c.args.places.now i 0) (get_or c.args.keys.now i none).now c.loop-i.invariant.counts (placed.1.each i lt) in
    (here.0, here.2, here.3)

pub returns-in-Err-clause-step : goal.returns-in-Err-clause-step
returns-in-Err-clause-step c = λ events h.
    let none : Bor Key = record { ref_ptr = (0, 0); now = [] } in
    let w = world_view c.loop-i.self in
    let logs = c.loop-i.self.cluster.logs in
    let i = c.loop-i.i in
    let why = c.in-Err.why in
    let place = get_or c.args.places.now i 0 in
    let key = (get_or c.args.keys.now i none).now in
    let lt : i < length c.args.keys.now = omega (arith, c.loop-i-test.true) in
    let here = append_still c.args.self.now.cluster.logs logs (event_at events i) place key c.loop-i.invariant.counts (h.each i lt) in
    let same : w ≡ with_cluster w c.append_at.new.self = ap (with_cluster w) (sym c.in-Err.ensures.err) in (
      omega (arith, lt, h.events_each),
      subst (Appends (world_view c.args.self.now) (take i events)) same (c.loop-i.invariant.so_far events h),
      subst (λ x. StopsLoad x (drop i events) i why) same
          (append_stops w events i (here.0, key) why (omega (arith, lt, h.events_each)) here.1 here.2 (subst (λ p. Answers (answer_at logs p key) (Err why)) (sym here.3) c.in-Err.ensures.answer)),
    )

pub returns-in-Err-clause-valid : goal.returns-in-Err-clause-valid
returns-in-Err-clause-valid c =
    let w = world_view c.loop-i.self in
    subst IsValidWorld (ap (with_cluster w) (sym c.in-Err.ensures.err)) c.loop-i.invariant.valid

pub loop-i-preserved : goal.loop-i-preserved
loop-i-preserved c =
    let none : Bor Key = record { ref_ptr = (0, 0); now = [] } in
    let before = c.loop-i.invariant in
    let done = c.in_default.ensures in
    let replied = c.in_default.field-0 in
    let w = world_view c.loop-i.self in
    let old = c.args.self.now.cluster.logs in
    let logs = c.loop-i.self.cluster.logs in
    let i = c.loop-i.i in
    let place = get_or c.args.places.now i 0 in
    let key = (get_or c.args.keys.now i none).now in
    let lt : i < length c.args.keys.now = omega (arith, c.loop-i-test.true) in
    let placed = c.requires.partitions in
    let some = append_still old logs (event_at placed.0 i) place key before.counts (placed.1.each i lt) in
    record {
      so_far = λ events h.
          let here = append_still old logs (event_at events i) place key before.counts (h.each i lt) in
          append_more (world_view c.args.self.now) w events i (here.0, key) c.append_at.new.self replied (before.so_far events h) (omega (arith, lt, h.events_each)) here.1 here.2
          (subst (λ p. Answers (answer_at logs p key) (Ok replied)) (sym here.3) done.answer)
          (subst (λ p. c.append_at.new.self ≡ appended_at c.loop-i.self.cluster p key) (sym here.3) done.ok);
      counts = ap (λ (s : ClusterState). s.logs.counts) done.ok ∙ before.counts;
      valid = appended_world w (some.0, key) replied c.append_at.new.self before.valid some.2
          (subst (λ p. Answers (answer_at logs p key) (Ok replied)) (sym some.3) done.answer)
          (subst (λ p. c.append_at.new.self ≡ appended_at c.loop-i.self.cluster p key) (sym some.3) done.ok);
    }

pub returns-clause-step : goal.returns-clause-step
returns-clause-step c = λ events h.
    subst (λ es. Appends (world_view c.args.self.now) es (world_view c.loop-i.self)) (take_all c.loop-i.i events (omega (arith, h.events_each, c.loop-i-test.false))) (c.loop-i.invariant.so_far events h)
