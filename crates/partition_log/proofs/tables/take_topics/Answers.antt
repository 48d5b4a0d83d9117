use Rattle.std.proofs.Common.{◌≡◌, ◌∙◌, false, ap, map, replicate, rules, sym}
use Rattle.key_index.specs.Keys.{lent}
use Rattle.key_index.proofs.ShardRecords.{lent-long}
use Rattle.partition_log.specs.Private.Tables.{key_taken, topic_taken}
use Rattle.partition_log.proofs.EntryTables.{all-first, none-left}
use Rattle.partition_log.proofs.tables.take_topics.Goals as goal

pub returns-then-not-has_topics-clause-keys : goal.returns-then-not-has_topics-clause-keys
returns-then-not-has_topics-clause-keys c =
    let keys = lent c.args.keys.now in
    let no : c.args.has_topics ≡ false = search rules in
    sym (ap (λ b. map (key_taken b) keys) no ∙ none-left keys)

pub returns-then-not-has_topics-clause-topics : goal.returns-then-not-has_topics-clause-topics
returns-then-not-has_topics-clause-topics c =
    let keys = lent c.args.keys.now in
    let no : c.args.has_topics ≡ false = search rules in
    c.in_ok-vec.ensures.items_if_clones_equal (λ y e. e) ∙ ap (λ n. replicate n 0) (sym (lent-long c.args.keys.now)) ∙ all-first keys
    ∙ sym (ap (λ b. map (topic_taken b) keys) no)
