use Rattle.std.proofs.Common.{◌≡◌, ◌≢◌, [], length, rules}
use Rattle.std.proofs.lemmas.List.{nil_from_length}
use Rattle.place_report.proofs.Headers.{column_with, column_without, key_header-is}
use Rattle.place_report.proofs.key_rows.write_header.Goals as goal

pub returns-then-is_empty : goal.returns-then-is_empty
returns-then-is_empty c =
    let zero : length c.args.topics.now ≡ 0 = search rules in
    rw (key_header-is c.args.topics.now _ (column_without c.args.topics.now (nil_from_length c.args.topics.now zero))) c.write_row.ensures

pub returns-else-is_empty : goal.returns-else-is_empty
returns-else-is_empty c =
    let some : c.args.topics.now ≢ [] = search rules in
    rw (key_header-is c.args.topics.now _ (column_with c.args.topics.now some)) c.write_row-else-is_empty.ensures
