use Rattle.std.proofs.Common.{◌∙◌, arith}
use Rattle.bit_planes.proofs.Seen.{IsShown, count_shown}
use Rattle.bit_planes.proofs.Sets.{size_most}
use Rattle.bit_planes.proofs.plane.Plane.count.Goals as goal

pub returns : goal.returns
returns c =
    let n = c.words_for.result in
    let mine : IsShown c.self.inside.partitions n c.self.inside.words c.args.self.now = record { view = c.self.view_is; clear = c.self.invariant.clear; long = c.self.told; few = c.self.invariant.few; enough = c.words_for.ensures.capacity; used = c.words_for.ensures.bound } in
    let e = c.count.ensures ∙ count_shown _ n _ c.args.self.now mine in
    record { value = e; bound = omega (arith, e, size_most c.args.self.now) }
