use Rattle.std.proofs.Common.{ℕ, ◌≡◌, ◌∙◌, ◌&&◌, ap, refl}
use Rattle.std.specs.Prelude.{nat_lt}
use Rattle.bit_planes.specs.Private.Bits.{bit_of}
use Rattle.bit_planes.specs.PartitionSet.{partitions_of, is_in, rank, size}
use Rattle.bit_planes.proofs.Seen.{IsShown, shown_front, rank_shown, seen_lowest, part_clear}
use Rattle.bit_planes.proofs.Sets.{in_lowest, partitions_lowest, size_lowest}
use Rattle.bit_planes.proofs.plane.Plane.lowest.Goals as goal

pub invariant_of-result : goal.invariant_of-result
invariant_of-result c =
    let n = c.words_for.result in
    let mine : IsShown c.self.inside.partitions n c.self.inside.words c.args.self.now = record { view = c.self.view_is; clear = c.self.invariant.clear; long = c.self.told; few = c.self.invariant.few; enough = c.words_for.ensures.capacity; used = c.words_for.ensures.bound } in
    let marks : (q : ℕ) → bit_of c.retain_lowest.new.words q ≡ (is_in c.args.self.now q && nat_lt (rank c.args.self.now q) c.args.n) = λ q. c.retain_lowest.ensures.bits q ∙ rw (shown_front _ n _ _ mine q, rank_shown _ n _ _ mine q) refl in
    record { some = c.self.invariant.some; few = c.self.invariant.few; clear = part_clear _ n _ c.args.self.now _ (λ q. nat_lt (rank c.args.self.now q) c.args.n) mine c.retain_lowest.ensures.len marks }

pub returns : goal.returns
returns c =
    let n = c.words_for.result in
    let mine : IsShown c.self.inside.partitions n c.self.inside.words c.args.self.now = record { view = c.self.view_is; clear = c.self.invariant.clear; long = c.self.told; few = c.self.invariant.few; enough = c.words_for.ensures.capacity; used = c.words_for.ensures.bound } in
    let marks : (q : ℕ) → bit_of c.retain_lowest.new.words q ≡ (is_in c.args.self.now q && nat_lt (rank c.args.self.now q) c.args.n) = λ q. c.retain_lowest.ensures.bits q ∙ rw (shown_front _ n _ _ mine q, rank_shown _ n _ _ mine q) refl in
    let e = seen_lowest _ n c.args.n _ c.args.self.now _ mine c.retain_lowest.ensures.len marks in
    record {
      value = e;
      elements = λ q. ap (λ s. is_in s q) e ∙ in_lowest c.args.n c.args.self.now q;
      partitions = ap partitions_of e ∙ partitions_lowest c.args.n c.args.self.now;
      size = ap size e ∙ size_lowest c.args.n c.args.self.now;
    }
