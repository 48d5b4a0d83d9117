use Rattle.std.proofs.Common.{◌∙◌, ◌<◌, [], ◌∷◌, ◌++◌, Bor, List, ℕ, ap₂, arith, get_or, length}
use Rattle.std.proofs.lemmas.List.{get_or_default}
use Rattle.csv_ingest.specs.KeyFile.{topic_of}
use Rattle.csv_ingest.proofs.Topics.{taken-more}
use Rattle.partition_log.proofs.tables.topics_of.Goals as goal

pub loop-i-preserved : goal.loop-i-preserved
loop-i-preserved c =
    let keys = c.args.keys.now in
    let i = c.loop-i.i in
    let nothing : Bor (List ℕ) = record { ref_ptr = (0, 0); now = [] } in
    let key : Bor (List ℕ) = get_or keys i nothing in
    let within : i < length keys = omega (arith, c.loop-i-test.true) in
    c.in_ok-push.ensures.items
    ∙ ap₂ (λ (topics : List ℕ) (topic : ℕ). topics ++ topic ∷ []) c.loop-i.invariant c.topic_of.ensures
    ∙ taken-more topic_of keys i key within (get_or_default keys i nothing key within)
