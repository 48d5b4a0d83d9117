use Rattle.std.proofs.Common.{rules}
use Rattle.std.proofs.lemmas.List.Sorted.{answers_always}
use Rattle.bit_planes.proofs.Indices.{search_indices}
use Rattle.bit_planes.proofs.rows.PlaneRows.search.Goals as goal

pub returns : goal.returns
returns c =
    let facts = c.binary_search_by_key.ensures in
    let by_key = facts.position (λ row. row.0) (answers_always _ _ _ (λ f a r g called. search rules)) in
    let indices = search_indices _ c.args.member c.binary_search_by_key.result c.self.invariant.rising (rw c.deref.ensures.value at by_key) in
    rw (← c.self.view_is) (record { found = indices.0; absent = indices.1 })
