use Rattle.bit_planes.proofs.Seen.{IsShown, found_shown, found_below}
use Rattle.bit_planes.proofs.plane.Plane.lowest_from.Goals as goal

pub returns-clause-value : goal.returns-clause-value
returns-clause-value c =
    let n = c.words_for.result in
    let mine : IsShown c.self.inside.partitions n c.self.inside.words c.args.self.now = record { view = c.self.view_is; clear = c.self.invariant.clear; long = c.self.told; few = c.self.invariant.few; enough = c.words_for.ensures.capacity; used = c.words_for.ensures.bound } in
    found_shown _ n _ c.args.self.now c.args.from c.lowest_from.result mine c.lowest_from.ensures

pub returns-clause-bound : goal.returns-clause-bound
returns-clause-bound c =
    let n = c.words_for.result in
    let mine : IsShown c.self.inside.partitions n c.self.inside.words c.args.self.now = record { view = c.self.view_is; clear = c.self.invariant.clear; long = c.self.told; few = c.self.invariant.few; enough = c.words_for.ensures.capacity; used = c.words_for.ensures.bound } in
    found_below _ n _ c.args.self.now c.args.from c.lowest_from.result mine c.lowest_from.ensures
