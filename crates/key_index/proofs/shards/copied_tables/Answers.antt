use Rattle.std.proofs.Common.{◌≡◌, map, rules}
use Rattle.parallel.proofs.Placed.{both-give}
use Rattle.key_index.specs.Keys.{distinct}
use Rattle.key_index.proofs.Copied.{tables-copied}
use Rattle.key_index.proofs.shards.copied_tables.Goals as goal

pub returns : goal.returns
returns g c =
    let tables = c.args.tables.now in
    both-give c.collect_each.result _ _ (λ copies. copies.items ≡ map distinct tables) (λ copies many each. tables-copied tables copies.items many (λ s d lt. search rules)) c.collect_each.ensures.len
    c.collect_each.ensures.each
