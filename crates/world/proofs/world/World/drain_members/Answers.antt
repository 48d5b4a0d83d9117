use Rattle.std.proofs.Common.{rules, ◌≡◌, ◌∙◌, ◌+◌, ◌<◌, ◌≤◌, Ok, Err, true, false, length, refl, ap, subst, sym}
use Rattle.group_machine.specs.State.{is_present}
use Rattle.world.specs.Courses.{for_each}
use Rattle.world.specs.Draining.{drain_member, drain_members}
use Rattle.world.proofs.Following.{Continues, Follow, drain_member_course, drain_members_is, each_done, each_on, each_stops, goes_further, same_scene, scene, unseen, watch}
use Rattle.world.proofs.Preserved.{IsReading, LeavesGroup, SamePresent, drain_member_events, preserves_group, preserved_following, reading_open}
use Rattle.world.proofs.Walks.{numbers_gone, numbers_here, numbers_left, numbers_past}
use Rattle.world.proofs.world.World.drain_members.Goals as goal
use Rattle.world.proofs.world.World.drain_members.Goals.{then-is_present+in_ok-drain_member, else-is_present}

pub loop-index-init : goal.loop-index-init
loop-index-init g c =
    let k = watch g.O.Observer.Sees g.met.O.Observer.sees_nothing g.met.O.Observer.sees_more in
    record { left = drain_members_is k c.args.batch (c.args.self.now, c.args.observer.now); present = λ n. refl }

pub returns-in_err-drain_member : goal.returns-in_err-drain_member
returns-in_err-drain_member g c =
    let k = watch g.O.Observer.Sees g.met.O.Observer.sees_nothing g.met.O.Observer.sees_more in
    let same : c.from_residual.result ≡ Err c.in_err-drain_member.field-0.0 = search rules in
    let w = c.args.self.now in
    let x = c.loop-index.self in
    let mid = scene x c.loop-index.observer in
    let far = scene c.drain_member.new.self c.drain_member.new.observer in
    let slots = w.cluster.group.slots in
    let i = c.loop-index.index in
    let lt : i < length slots = search rules in
    let now : is_present x.cluster.group (i + 1) ≡ true = search rules in
    let here = sym (c.loop-index.invariant.present (i + 1)) ∙ now in
    c.loop-index.invariant.left c.from_residual.result far
    (subst (λ ns. Follow g.O.Observer.Sees mid (for_each ns (drain_member c.args.batch) x) c.from_residual.result far) (sym (numbers_here slots i lt here))
    (each_stops k mid far (i + 1) (numbers_left slots (i + 1)) (drain_member c.args.batch) c.drain_member.result c.from_residual.result c.in_err-drain_member.field-0.0 (drain_member_course c.args.batch (i + 1) x) c.drain_member.ensures c.in_err-drain_member.was same))

pub loop-index-preserved : goal.loop-index-preserved
loop-index-preserved g c =
    let k = watch g.O.Observer.Sees g.met.O.Observer.sees_nothing g.met.O.Observer.sees_more in
    let w = c.args.self.now in
    let x = c.loop-index.self in
    let s = scene w c.args.observer.now in
    let mid = scene x c.loop-index.observer in
    let slots = w.cluster.group.slots in
    let i = c.loop-index.index in
    let lt : i < length slots = search rules in
    let rest = numbers_left slots (i + 1) in
    elim c.if-is_present.branch [
      | then-is_present+in_ok-drain_member b ↦
          let y = b.drain_member.new.self in
          let far = scene y b.drain_member.new.observer in
          let now : is_present x.cluster.group (i + 1) ≡ true = search rules in
          let here = sym (c.loop-index.invariant.present (i + 1)) ∙ now in
          let made = drain_member_course c.args.batch (i + 1) x in
          let follows = unseen k mid far ((drain_member c.args.batch) (i + 1) x) b.drain_member.result b.drain_member.ensures in
          record {
            left = same_scene g.O.Observer.Sees s (drain_members c.args.batch w) (for_each rest (drain_member c.args.batch)) b.self-is b.observer-is
                (goes_further k s mid far (drain_members c.args.batch w) (for_each (numbers_left slots i) (drain_member c.args.batch) x) (for_each rest (drain_member c.args.batch) y) c.loop-index.invariant.left
                (subst (λ ns. Continues g.O.Observer.Sees mid (for_each ns (drain_member c.args.batch) x) far (for_each rest (drain_member c.args.batch) y)) (sym (numbers_here slots i lt here))
                (each_on k mid far (i + 1) rest (drain_member c.args.batch) b.drain_member.result made b.drain_member.ensures b.in_ok-drain_member.was)));
            present = subst (SamePresent w) (sym b.self-is)
                (λ n. ap (λ group. is_present group n) (preserved_following IsReading LeavesGroup preserves_group x y (drain_member c.args.batch (i + 1) x) b.drain_member.result made (drain_member_events IsReading reading_open c.args.batch (i + 1) x) follows).group ∙ c.loop-index.invariant.present n);
          }
      | else-is_present b ↦
          let now : is_present x.cluster.group (i + 1) ≡ false = search rules in
          let gone = sym (c.loop-index.invariant.present (i + 1)) ∙ now in
          record {
            left = same_scene g.O.Observer.Sees s (drain_members c.args.batch w) (for_each rest (drain_member c.args.batch)) b.self-is b.observer-is
                (subst (λ ns. Continues g.O.Observer.Sees s (drain_members c.args.batch w) mid (for_each ns (drain_member c.args.batch) x)) (numbers_gone slots i lt gone) c.loop-index.invariant.left);
            present = subst (SamePresent w) (sym b.self-is) c.loop-index.invariant.present;
          }
    ]

pub returns : goal.returns
returns g c =
    let k = watch g.O.Observer.Sees g.met.O.Observer.sees_nothing g.met.O.Observer.sees_more in
    let x = c.loop-index.self in
    let mid = scene x c.loop-index.observer in
    let slots = c.args.self.now.cluster.group.slots in
    let past : length slots ≤ c.loop-index.index = search rules in
    c.loop-index.invariant.left (Ok tt) mid (subst (λ ns. Follow g.O.Observer.Sees mid (for_each ns (drain_member c.args.batch) x) (Ok tt) mid) (sym (numbers_past slots c.loop-index.index past)) (each_done k mid (drain_member c.args.batch)))
