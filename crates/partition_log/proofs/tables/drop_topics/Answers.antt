use Rattle.std.proofs.Common.{◌∙◌, ◌<◌, [], Bor, List, ℕ, ap, arith, get_or, length, map, sym}
use Rattle.std.proofs.Math.ListN.{set}
use Rattle.std.proofs.lemmas.List.{get_or-map, length-map, map-set}
use Rattle.std.proofs.lemmas.List.Edits.{map_over_more}
use Rattle.csv_ingest.specs.KeyFile.{key_behind}
use Rattle.partition_log.proofs.tables.drop_topics.Goals as goal

pub loop-i-preserved : goal.loop-i-preserved
loop-i-preserved c =
    let seen : Bor (List ℕ) → List ℕ = λ key. key.now in
    let nothing : Bor (List ℕ) = record { ref_ptr = (0, 0); now = [] } in
    let keys = c.loop-i.keys in
    let i = c.loop-i.i in
    let key : List ℕ = (get_or keys i nothing).now in
    let all = map seen c.args.keys.now in
    let within : i < length all = omega (arith, c.loop-i-test.true, length-map c.args.keys.now seen) in
    let there : i < length keys = omega (arith, c.loop-i-test.true, c.loop-i.auto.keys) in
    map-set seen keys i c.key_behind.result
    ∙ ap (set (map seen keys) i) c.key_behind.ensures
    ∙ map_over_more key_behind all (map seen keys) i key within c.loop-i.invariant (sym (get_or-map seen keys i nothing key there))
