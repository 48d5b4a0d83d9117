use Rattle.std.proofs.Common.{arith}
use Rattle.bit_planes.proofs.Seen.{IsShown, below_is, same_shown, same_value}
use Rattle.bit_planes.proofs.plane.Plane.same.Goals as goal

pub returns-clause-iff : goal.returns-clause-iff
returns-clause-iff c =
    let n = c.words_for-used.result in
    let mine : IsShown c.self.inside.partitions n c.self.inside.words c.args.self.now = record { view = c.self.view_is; clear = c.self.invariant.clear; long = c.self.told; few = c.self.invariant.few; enough = c.words_for-used.ensures.capacity; used = c.words_for-used.ensures.bound } in
    let p = below_is _ _ _ c.self.view_is in
    let p2 = below_is _ _ _ c.other.view_is in
    let theirs : IsShown c.other.inside.partitions n c.other.inside.words c.args.other.now = record { view = c.other.view_is; clear = c.other.invariant.clear; long = c.other.told; few = c.other.invariant.few; enough = omega (arith, p, p2, c.requires, mine.enough); used = omega (arith, p, p2, c.requires, mine.used) } in
    same_shown _ n _ n _ _ c.args.self.now c.args.other.now c.are_equal.result mine theirs c.requires c.are_equal.ensures

pub returns-clause-value : goal.returns-clause-value
returns-clause-value c = same_value c.args.self.now c.args.other.now c.are_equal.result (returns-clause-iff c)
