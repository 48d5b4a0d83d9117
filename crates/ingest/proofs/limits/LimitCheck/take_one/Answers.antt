use Rattle.std.proofs.Common.{◌≡◌, ◌∙◌, ◌∷◌, [], ap, refl, subst, sym}
use Rattle.partition_log.specs.Keys.{Keyed}
use Rattle.ingest.specs.Limits.{GoesOn, Limits, record_taken}
use Rattle.ingest.proofs.GoingOn.{goes-appended, goes-nowhere, none-if, some-if}
use Rattle.ingest.proofs.limits.LimitCheck.take_one.Goals as goal

pub returns-then-is_none-clause-state : goal.returns-then-is_none-clause-state
returns-then-is_none-clause-state c item is lt =
    let old : Limits = record {
      counts = c.self.inside.partitions;
      has_topics = c.self.inside.has_topics;
      lens = c.self.inside.lens.items;
      fault = c.self.inside.fault;
    } in
    let new : Limits = record old { lens = c.append-self-inside.new.lens.items; fault = c.append-self-inside.result } in
    let keyed : Keyed = (c.args.topic, c.args.key.now) in
    let same : keyed ≡ record_taken old.has_topics item = sym is ∙ ap (λ (l : Limits). record_taken l.has_topics item) (sym c.self.view_is) in
    subst (λ before. GoesOn before (item ∷ []) new) c.self.view_is
    (goes-appended old new item keyed same (none-if old.fault c.is_none.result c.is_none.ensures c.if-is_none.true) refl refl c.append-self-inside.ensures.fault c.append-self-inside.ensures.none
    c.self.invariant c.append-self-inside.ensures.range)

pub returns-else-is_none-clause-state : goal.returns-else-is_none-clause-state
returns-else-is_none-clause-state c item is lt =
    let same : c.args.self.now.fault ≡ c.self.inside.fault = ap (λ (l : Limits). l.fault) (sym c.self.view_is) in
    goes-nowhere c.args.self.now (item ∷ []) (λ none. some-if c.self.inside.fault c.is_none.result c.is_none.ensures c.if-is_none.false (sym same ∙ none))
