use Rattle.std.proofs.Common.{◌<◌, ◌∙◌, [], ◌∷◌, ◌++◌, rules, length, map, vec_items, ap, sym}
use Rattle.std.specs.Prelude.{slice_set}
use Rattle.std.proofs.lemmas.List.{get_or-map, map-set}
use Rattle.std.proofs.lemmas.Result.{on_err_weaker, on_ok_weaker}
use Rattle.std.proofs.Math.Seq.{map-set_same}
use Rattle.partition_log.specs.Keys.{id_of}
use Rattle.partition_log.proofs.append_id.Goals as goal

pub returns-clause-logs : goal.returns-clause-logs
returns-clause-logs c =
    let logs = c.args.logs.now.items in
    let place = c.args.place in
    let lt : place < length logs = search rules in
    let old = get_or-map vec_items logs place c.index_mut-log.result.now [] lt ∙ ap vec_items (sym c.index_mut-log.ensures.value) in
    on_ok_weaker c.push_id.result
    (λ more. map-set vec_items logs place c.push_id.new.log
    ∙ ap (slice_set (map vec_items logs) place) (more ∙ ap (λ log. log ++ id_of c.args.keys.now c.args.key.now ∷ []) (sym old)))
    c.push_id.ensures.log

pub returns-clause-same_logs : goal.returns-clause-same_logs
returns-clause-same_logs c =
    let logs = c.args.logs.now.items in
    on_err_weaker c.push_id.result
    (λ same. map-set_same vec_items logs c.args.place c.push_id.new.log c.index_mut-log.result.now (same ∙ ap vec_items c.index_mut-log.ensures.value))
    c.push_id.ensures.same_log
