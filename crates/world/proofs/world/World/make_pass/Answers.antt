use Rattle.std.proofs.Common.{rules, ◌≡◌, ◌∙◌, ◌+◌, ◌<◌, ◌≤◌, Ok, Err, true, false, length, refl, subst, sym}
use Rattle.group_machine.specs.State.{is_present}
use Rattle.world.specs.Courses.{for_each}
use Rattle.world.specs.Settling.{pass, turn}
use Rattle.world.proofs.Following.{Continues, Follow, each_done, each_on, each_stops, goes_further, pass_is, same_scene, scene, turn_course, unseen, watch}
use Rattle.world.proofs.Preserved.{IsOfTurn, SamePresent, preserved_following, preserves_present, turn_events}
use Rattle.world.proofs.Walks.{numbers_gone, numbers_here, numbers_left, numbers_past}
use Rattle.world.proofs.world.World.make_pass.Goals as goal
use Rattle.world.proofs.world.World.make_pass.Goals.{then-is_present+in_ok-take_turn, else-is_present}

pub loop-index-init : goal.loop-index-init
loop-index-init g c =
    let k = watch g.O.Observer.Sees g.met.O.Observer.sees_nothing g.met.O.Observer.sees_more in
    record { left = pass_is k (c.args.self.now, c.args.observer.now); present = λ n. refl }

pub returns-in_err-take_turn : goal.returns-in_err-take_turn
returns-in_err-take_turn g c =
    let k = watch g.O.Observer.Sees g.met.O.Observer.sees_nothing g.met.O.Observer.sees_more in
    let same : c.from_residual.result ≡ Err c.in_err-take_turn.field-0.0 = search rules in
    let w = c.args.self.now in
    let x = c.loop-index.self in
    let mid = scene x c.loop-index.observer in
    let far = scene c.take_turn.new.self c.take_turn.new.observer in
    let slots = w.cluster.group.slots in
    let i = c.loop-index.index in
    let lt : i < length slots = search rules in
    let now : is_present x.cluster.group (i + 1) ≡ true = search rules in
    let here = sym (c.loop-index.invariant.present (i + 1)) ∙ now in
    c.loop-index.invariant.left c.from_residual.result far
    (subst (λ ns. Follow g.O.Observer.Sees mid (for_each ns turn x) c.from_residual.result far) (sym (numbers_here slots i lt here))
    (each_stops k mid far (i + 1) (numbers_left slots (i + 1)) turn c.take_turn.result c.from_residual.result c.in_err-take_turn.field-0.0 (turn_course (i + 1) x) c.take_turn.ensures c.in_err-take_turn.was same))

pub loop-index-preserved : goal.loop-index-preserved
loop-index-preserved g c =
    let k = watch g.O.Observer.Sees g.met.O.Observer.sees_nothing g.met.O.Observer.sees_more in
    let w = c.args.self.now in
    let x = c.loop-index.self in
    let s = scene w c.args.observer.now in
    let mid = scene x c.loop-index.observer in
    let slots = w.cluster.group.slots in
    let i = c.loop-index.index in
    let lt : i < length slots = search rules in
    let rest = numbers_left slots (i + 1) in
    elim c.if-is_present.branch [
      | then-is_present+in_ok-take_turn b ↦
          let y = b.take_turn.new.self in
          let far = scene y b.take_turn.new.observer in
          let now : is_present x.cluster.group (i + 1) ≡ true = search rules in
          let here = sym (c.loop-index.invariant.present (i + 1)) ∙ now in
          let made = turn_course (i + 1) x in
          let follows = unseen k mid far (turn (i + 1) x) b.take_turn.result b.take_turn.ensures in
          record {
            left = same_scene g.O.Observer.Sees s (pass w) (for_each rest turn) b.self-is b.observer-is
                (goes_further k s mid far (pass w) (for_each (numbers_left slots i) turn x) (for_each rest turn y) c.loop-index.invariant.left
                (subst (λ ns. Continues g.O.Observer.Sees mid (for_each ns turn x) far (for_each rest turn y)) (sym (numbers_here slots i lt here))
                (each_on k mid far (i + 1) rest turn b.take_turn.result made b.take_turn.ensures b.in_ok-take_turn.was)));
            present = subst (SamePresent w) (sym b.self-is)
                (λ n. preserved_following IsOfTurn SamePresent preserves_present x y (turn (i + 1) x) b.take_turn.result made (turn_events (i + 1) x) follows n ∙ c.loop-index.invariant.present n);
          }
      | else-is_present b ↦
          let now : is_present x.cluster.group (i + 1) ≡ false = search rules in
          let gone = sym (c.loop-index.invariant.present (i + 1)) ∙ now in
          record {
            left = same_scene g.O.Observer.Sees s (pass w) (for_each rest turn) b.self-is b.observer-is
                (subst (λ ns. Continues g.O.Observer.Sees s (pass w) mid (for_each ns turn x)) (numbers_gone slots i lt gone) c.loop-index.invariant.left);
            present = subst (SamePresent w) (sym b.self-is) c.loop-index.invariant.present;
          }
    ]

pub returns : goal.returns
returns g c =
    let k = watch g.O.Observer.Sees g.met.O.Observer.sees_nothing g.met.O.Observer.sees_more in
    let x = c.loop-index.self in
    let mid = scene x c.loop-index.observer in
    let slots = c.args.self.now.cluster.group.slots in
    let past : length slots ≤ c.loop-index.index = search rules in
    c.loop-index.invariant.left (Ok tt) mid (subst (λ ns. Follow g.O.Observer.Sees mid (for_each ns turn x) (Ok tt) mid) (sym (numbers_past slots c.loop-index.index past)) (each_done k mid turn))
