use Rattle.std.proofs.Common.{◌≡◌, ◌<◌, ◌∙◌, arith, length, map, vec_items, vec_len, ap, sym, get_or, [], rules}
use Rattle.std.proofs.lemmas.List.{get_or-map, length-map}
use Rattle.partition_log.proofs.LogsLogRead.len.Goals as goal

pub overflow_cast-result : goal.overflow_cast-result
overflow_cast-result c =
    let logs = c.self.inside.logs.items in
    let as_many = sym (length-map logs vec_items) ∙ c.self.invariant.a_log_each in
    let seen = ap (λ v. v.partitions) c.self.view_is in
    let within : c.args.p < length logs = omega (arith, as_many, seen, c.requires) in
    let log : length (get_or (map vec_items logs) c.args.p []) ≡ vec_len c.index.result.now =
    ap length (get_or-map vec_items logs c.args.p c.index.result.now [] within ∙ ap vec_items (sym c.index.ensures)) ∙ search rules in
    omega (arith, c.self.invariant.few_records c.args.p, log, c.len.ensures)
