use Rattle.std.proofs.Common.{ℕ, ◌∙◌, ◌+◌, ◌∷◌, drop, get_or, ap, sym}
use Rattle.std.proofs.lemmas.List.{get_or_default}
use Rattle.bit_planes.specs.PartitionSet.{size}
use Rattle.bit_planes.specs.SetRows.{sets_of}
use Rattle.sticky_assignor.specs.Private.Filling.{sizes}
use Rattle.sticky_assignor.proofs.Steps.{pushed_on, sizes_next}
use Rattle.sticky_assignor.proofs.counts_of.Goals as goal

pub loop-member-preserved : goal.loop-member-preserved
loop-member-preserved c =
    let owned = c.args.owned.now in
    let ms = c.args.members.now in
    let i = c.loop-member.member-index in
    let m : ℕ = get_or ms i 0 in
    let left = sizes (sets_of owned (drop i ms)) in
    let rest = sizes (sets_of owned (drop (i + 1) ms)) in
    let counted = c.count.ensures.value ∙ ap size c.row_of.ensures.value in
    let next = sizes_next owned ms i m c.loop-member-test.true (get_or_default ms i 0 m c.loop-member-test.true) ∙ ap (λ n. n ∷ rest) (sym counted) in
    pushed_on c.loop-member.counts.items c.push.new.self.items c.count.result rest left (sizes (sets_of owned ms)) c.in_ok-push.ensures.items next c.loop-member.invariant
