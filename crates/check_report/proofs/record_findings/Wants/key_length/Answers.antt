use Rattle.std.proofs.Common.{◌≡◌, ◌≢◌, ◌-◌, [], Some, length, rules, true, false}
use Rattle.std.proofs.lemmas.List.{nil_from_length}
use Rattle.std.specs.List.{list_any}
use Rattle.std.specs.Str.{bytes_eq}
use Rattle.csv.specs.Records.{field_at, fields_of}
use Rattle.check_report.proofs.Fields.{taken-alone, taken-in_topic, taken-no_such}
use Rattle.check_report.proofs.record_findings.Wants.key_length.Goals as goal

pub returns-then-is_empty-clause-ok : goal.returns-then-is_empty-clause-ok
returns-then-is_empty-clause-ok c =
    let none : length c.args.self.now.topics ≡ 0 = search rules in
    let at : field_at (fields_of c.args.row.now) (c.args.self.now.column - 1) ≡ Some c.in-Some.key.now = search rules in
    taken-alone c.args.self.now (fields_of c.args.row.now) c.in-Some.key.now (nil_from_length c.args.self.now.topics none) at

pub returns-then-is_topic-clause-ok : goal.returns-then-is_topic-clause-ok
returns-then-is_topic-clause-ok c =
    let some : c.args.self.now.topics ≢ [] = search rules in
    let at : field_at (fields_of c.args.row.now) (c.args.self.now.column - 1) ≡ Some c.in-Some.key.now = search rules in
    let named : field_at (fields_of c.args.row.now) (c.args.self.now.topic_column - 1) ≡ Some c.in-Some-get.name.now = search rules in
    let known : list_any (λ t. bytes_eq c.in-Some-get.name.now t.name) c.args.self.now.topics ≡ true = search rules in
    taken-in_topic c.args.self.now (fields_of c.args.row.now) c.in-Some.key.now c.in-Some-get.name.now some at named known

pub returns-else-is_topic-clause-err : goal.returns-else-is_topic-clause-err
returns-else-is_topic-clause-err c =
    let some : c.args.self.now.topics ≢ [] = search rules in
    let at : field_at (fields_of c.args.row.now) (c.args.self.now.column - 1) ≡ Some c.in-Some.key.now = search rules in
    let named : field_at (fields_of c.args.row.now) (c.args.self.now.topic_column - 1) ≡ Some c.in-Some-get.name.now = search rules in
    let unknown : list_any (λ t. bytes_eq c.in-Some-get.name.now t.name) c.args.self.now.topics ≡ false = search rules in
    taken-no_such c.args.self.now (fields_of c.args.row.now) c.in-Some.key.now c.in-Some-get.name.now some at named unknown
