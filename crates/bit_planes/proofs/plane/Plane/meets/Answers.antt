use Rattle.std.proofs.Common.{◌∙◌, ◌&&◌, refl, arith}
use Rattle.bit_planes.specs.PartitionSet.{is_in}
use Rattle.bit_planes.proofs.Seen.{IsShown, below_is, shown_front, some_shown, not_first}
use Rattle.bit_planes.proofs.Sets.{disjoint_elements, meets_of_any}
use Rattle.bit_planes.proofs.plane.Plane.meets.Goals as goal

pub returns-clause-value : goal.returns-clause-value
returns-clause-value c =
    let n = c.words_for-used.result in
    let mine : IsShown c.self.inside.partitions n c.self.inside.words c.args.self.now = record { view = c.self.view_is; clear = c.self.invariant.clear; long = c.self.told; few = c.self.invariant.few; enough = c.words_for-used.ensures.capacity; used = c.words_for-used.ensures.bound } in
    let p = below_is _ _ _ c.self.view_is in
    let p2 = below_is _ _ _ c.other.view_is in
    let theirs : IsShown c.other.inside.partitions n c.other.inside.words c.args.other.now = record { view = c.other.view_is; clear = c.other.invariant.clear; long = c.other.told; few = c.other.invariant.few; enough = omega (arith, p, p2, c.requires, mine.enough); used = omega (arith, p, p2, c.requires, mine.used) } in
    meets_of_any c.args.self.now c.args.other.now c.any_and.result (c.any_and.ensures ∙ some_shown _ n _ _ c.args.self.now _ (λ q. is_in c.args.self.now q && is_in c.args.other.now q) mine refl (λ q. rw (shown_front _ n _ _ mine q, shown_front _ n _ _ theirs q) refl) (λ q none. not_first (is_in c.args.self.now q) (is_in c.args.other.now q) none))

pub returns-clause-elements : goal.returns-clause-elements
returns-clause-elements c = disjoint_elements c.args.self.now c.args.other.now c.any_and.result (returns-clause-value c)
