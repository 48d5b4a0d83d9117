use Rattle.std.proofs.Common.{◌≡◌, ◌∙◌, None, Some, sym, rules, codes}
use Rattle.clap.specs.Words.{found_of, rows_of, first_of, first_value}
use Rattle.clap.proofs.WalkLemmas.{first_value-rows}
use Rattle.command_line.proofs.Entered.{reports_bad_list}
use Rattle.command_line.proofs.words.topics_of.Goals as goal

pub returns-in_default-clause-topics : goal.returns-in_default-clause-topics
returns-in_default-clause-topics c =
    let found = found_of c.args.given.now in
    let missing : first_value found (codes "topics") ≡ None = search rules in
    let none : first_of (codes "topics") (rows_of found) ≡ None = sym (first_value-rows found (codes "topics")) ∙ missing in
    rw none c.new.ensures.items

pub returns-in-Ok-Some-clause-topics : goal.returns-in-Ok-Some-clause-topics
returns-in-Ok-Some-clause-topics c =
    let found = found_of c.args.given.now in
    let list : first_of (codes "topics") (rows_of found) ≡ Some c.in-Some.list.now = sym (first_value-rows found (codes "topics")) ∙ sym c.in-Some.ensures in
    let items_parse = rw c.in-Ok-Some.field-0-is at c.in-Ok-Some.ensures in
    rw list items_parse

pub returns-in-Ok-None-clause-fault : goal.returns-in-Ok-None-clause-fault
returns-in-Ok-None-clause-fault c =
    let found = found_of c.args.given.now in
    let list : first_of (codes "topics") (rows_of found) ≡ Some c.in-Some.list.now = sym (first_value-rows found (codes "topics")) ∙ sym c.in-Some.ensures in
    let items_parse = rw c.in-Ok-None.field-0-is at c.in-Ok-None.ensures in
    reports_bad_list (rows_of found) c.bad_topics_usage.result (rw list items_parse) c.bad_topics_usage.ensures
