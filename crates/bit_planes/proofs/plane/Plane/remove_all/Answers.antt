use Rattle.std.proofs.Common.{ℕ, ◌≡◌, ◌∙◌, ◌&&◌, not, ap, refl, arith}
use Rattle.bit_planes.specs.Private.Bits.{bit_of}
use Rattle.bit_planes.specs.PartitionSet.{partitions_of, is_in}
use Rattle.bit_planes.proofs.Seen.{IsShown, below_is, shown_front, seen_minus, part_clear}
use Rattle.bit_planes.proofs.Sets.{in_minus, partitions_minus}
use Rattle.bit_planes.proofs.plane.Plane.remove_all.Goals as goal

pub invariant_of-self : goal.invariant_of-self
invariant_of-self c =
    let n = c.words_for-used.result in
    let mine : IsShown c.self.inside.partitions n c.self.inside.words c.args.self.now = record { view = c.self.view_is; clear = c.self.invariant.clear; long = c.self.told; few = c.self.invariant.few; enough = c.words_for-used.ensures.capacity; used = c.words_for-used.ensures.bound } in
    let p = below_is _ _ _ c.self.view_is in
    let p2 = below_is _ _ _ c.other.view_is in
    let theirs : IsShown c.other.inside.partitions n c.other.inside.words c.args.other.now = record { view = c.other.view_is; clear = c.other.invariant.clear; long = c.other.told; few = c.other.invariant.few; enough = omega (arith, p, p2, c.requires, mine.enough); used = omega (arith, p, p2, c.requires, mine.used) } in
    let marks : (q : ℕ) → bit_of c.and_not_into.new.a q ≡ (is_in c.args.self.now q && not (is_in c.args.other.now q)) = λ q. c.and_not_into.ensures.bits q ∙ rw (shown_front _ n _ _ mine q, shown_front _ n _ _ theirs q) refl in
    record { some = c.self.invariant.some; few = c.self.invariant.few; clear = part_clear _ n _ c.args.self.now _ (λ q. not (is_in c.args.other.now q)) mine c.and_not_into.ensures.len marks }

pub returns : goal.returns
returns c =
    let n = c.words_for-used.result in
    let mine : IsShown c.self.inside.partitions n c.self.inside.words c.args.self.now = record { view = c.self.view_is; clear = c.self.invariant.clear; long = c.self.told; few = c.self.invariant.few; enough = c.words_for-used.ensures.capacity; used = c.words_for-used.ensures.bound } in
    let p = below_is _ _ _ c.self.view_is in
    let p2 = below_is _ _ _ c.other.view_is in
    let theirs : IsShown c.other.inside.partitions n c.other.inside.words c.args.other.now = record { view = c.other.view_is; clear = c.other.invariant.clear; long = c.other.told; few = c.other.invariant.few; enough = omega (arith, p, p2, c.requires, mine.enough); used = omega (arith, p, p2, c.requires, mine.used) } in
    let marks : (q : ℕ) → bit_of c.and_not_into.new.a q ≡ (is_in c.args.self.now q && not (is_in c.args.other.now q)) = λ q. c.and_not_into.ensures.bits q ∙ rw (shown_front _ n _ _ mine q, shown_front _ n _ _ theirs q) refl in
    let e = seen_minus _ n _ c.args.self.now c.args.other.now _ mine c.and_not_into.ensures.len marks in
    record {
      value = e;
      elements = λ q. ap (λ s. is_in s q) e ∙ in_minus c.args.self.now c.args.other.now q;
      partitions = ap partitions_of e ∙ partitions_minus c.args.self.now c.args.other.now;
    }
