use Rattle.std.proofs.Common.{◌≡◌, ◌∙◌, ◌++◌, ◌∷◌, [], ap, drop}
use Rattle.key_index.specs.Private.KeyHash.{hash_of}
use Rattle.key_counts.specs.Private.Filter.{cell_of, part_of}
use Rattle.key_counts.specs.Private.Hashes.{hash_at, placed_at}
use Rattle.key_counts.proofs.Placed.{placed-push}
use Rattle.key_counts.proofs.hashes.placed_entries.Goals as goal

pub loop-code-preserved : goal.loop-code-preserved
loop-code-preserved c =
    let place = c.args.place.now in
    let skip = c.args.skip in
    let entries = c.args.entries.now in
    let code = c.loop-code.code in
    let own = c.index_mut.result.now in
    let hash : c.hash_of-hash.result ≡ hash_at place.hasher skip entries code = c.hash_of-hash.ensures ∙ ap (hash_of place.hasher) (c.behind.ensures ∙ ap (drop skip) c.key.ensures) in
    let cell : c.cell_of-cell.result ≡ cell_of place (hash_at place.hasher skip entries code) = c.cell_of-cell.ensures ∙ ap (cell_of place) hash in
    let pushed : c.push.new.self.items ≡ own.items ++ placed_at place skip entries code ∷ [] =
    c.in_ok-push.ensures.items ∙ ap (λ n. own.items ++ (record { cell = n; code = code }) ∷ []) cell in
    placed-push place skip entries code c.part_of.result c.loop-code.lists.items own c.push.new.self (c.part_of.ensures ∙ ap part_of hash) c.index_mut.ensures.value pushed c.loop-code.invariant
