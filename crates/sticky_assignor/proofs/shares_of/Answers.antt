use Rattle.std.proofs.Common.{ℕ, ◌≡◌, ◌∙◌, ◌+◌, ◌-◌, ◌∷◌, ◌++◌, [], drop, get_or, ap, sym, arith}
use Rattle.std.proofs.lemmas.List.{get_or_default}
use Rattle.sticky_assignor.specs.Private.Filling.{shares_by}
use Rattle.sticky_assignor.proofs.Steps.{heavy_by, light_by, pushed_on}
use Rattle.sticky_assignor.proofs.shares_of.Goals as goal
use Rattle.sticky_assignor.proofs.shares_of.Goals.{then-share-count+in_ok-push, else-share-count+in_ok-push-2}

pub loop-count-preserved : goal.loop-count-preserved
loop-count-preserved c =
    let ns = c.args.counts.now in
    let i = c.loop-count.count-index in
    let n : ℕ = get_or ns i 0 in
    let at = get_or_default ns i 0 n c.loop-count-test.true in
    let share = c.args.share in
    let heavy = c.loop-count.heavy_left in
    let others = c.loop-count.others_left in
    let quotas = c.loop-count.quotas.items in
    let left = shares_by share heavy others (drop i ns) in
    let whole = shares_by share c.args.for_heavy c.args.for_others ns in
    elim c.if-share-count.branch [
      | then-share-count+in_ok-push w ↦
          let quota = share + w.one_of.result in
          let rest = shares_by share (heavy - 1) others (drop (i + 1) ns) in
          let pushed : c.if-share-count.quotas.items ≡ quotas ++ quota ∷ [] = rw w.quotas-is w.in_ok-push.ensures.items in
          let next = heavy_by share heavy others ns i n c.loop-count-test.true at w.if-share-count.true ∙ ap (λ one. (share + one) ∷ rest) (sym w.one_of.ensures.value) in
          let heavy_left : c.if-share-count.heavy_left ≡ heavy - 1 = omega arith in
          rw (heavy_left, w.others_left-is) (pushed_on quotas c.if-share-count.quotas.items quota rest left whole pushed next c.loop-count.invariant)
      | else-share-count+in_ok-push-2 w ↦
          let quota = share + w.one_of-else-share-count.result in
          let rest = shares_by share heavy (others - 1) (drop (i + 1) ns) in
          let pushed : c.if-share-count.quotas.items ≡ quotas ++ quota ∷ [] = rw w.quotas-is w.in_ok-push-2.ensures.items in
          let next = light_by share heavy others ns i n c.loop-count-test.true at w.if-share-count.false ∙ ap (λ one. (share + one) ∷ rest) (sym w.one_of-else-share-count.ensures.value) in
          let others_left : c.if-share-count.others_left ≡ others - 1 = omega arith in
          rw (w.heavy_left-is, others_left) (pushed_on quotas c.if-share-count.quotas.items quota rest left whole pushed next c.loop-count.invariant)
    ]
