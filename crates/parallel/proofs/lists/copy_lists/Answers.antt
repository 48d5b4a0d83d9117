use Rattle.std.proofs.Common.{◌≡◌, map, rules, vec_items}
use Rattle.parallel.proofs.Copies.{copies-same}
use Rattle.parallel.proofs.Placed.{both-give}
use Rattle.parallel.proofs.lists.copy_lists.Goals as goal

pub returns : goal.returns
returns g c =
    let lists = c.args.lists.now in
    both-give c.collect_each.result _ _ (λ copies. map vec_items copies.items ≡ map vec_items lists) (λ copies many each. copies-same lists copies.items many (λ i d lt. search rules)) c.collect_each.ensures.len
    c.collect_each.ensures.each
