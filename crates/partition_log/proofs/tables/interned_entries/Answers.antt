use Rattle.std.proofs.Common.{◌≡◌, ◌∙◌, ap, length, map, rules, arith}
use Rattle.std.proofs.lemmas.Grind.{common_steps}
use Rattle.std.proofs.lemmas.List.{take_at}
use Rattle.key_index.specs.Keys.{lent}
use Rattle.partition_log.specs.Private.Tables.{entry_keys, key_taken, topic_taken}
use Rattle.partition_log.proofs.EntryTables.{entry-places, entry-topics}
use Rattle.partition_log.proofs.tables.interned_entries.Goals as goal

pub intern_and_place-requires-clause-topics : goal.intern_and_place-requires-clause-topics
intern_and_place-requires-clause-topics g c κs within =
    let taken = c.args.taken.now in
    let read : lent c.deref_mut.result.now ≡ entry_keys taken = ap lent c.deref_mut.ensures.value ∙ c.in_ok-keys.ensures in
    let long : length c.take_topics.new.keys ≡ c.in_ok-keys.keys.len = search rules in
    let here : c.deref-2.result.now ≡ c.take_topics.new.keys = c.deref-2.ensures.value ∙ take_at c.take_topics.new.keys _ c.in_ok-keys.keys.len long in
    let keys : lent c.deref-2.result.now ≡ map (key_taken taken.has_topics) (entry_keys taken) = ap lent here ∙ c.in_ok-topics.ensures.keys ∙ ap (map (key_taken taken.has_topics)) read in
    let topics : c.deref.result.now ≡ map (topic_taken taken.has_topics) (entry_keys taken) = c.deref.ensures.value ∙ c.in_ok-topics.ensures.topics ∙ ap (map (topic_taken taken.has_topics)) read in
    entry-topics c.args.logs.now taken c.deref-2.result.now c.deref.result.now c.requires.taken c.requires.topics keys topics

pub returns-clause-places : goal.returns-clause-places
returns-clause-places g c =
    let taken = c.args.taken.now in
    let read : lent c.deref_mut.result.now ≡ entry_keys taken = ap lent c.deref_mut.ensures.value ∙ c.in_ok-keys.ensures in
    let long : length c.take_topics.new.keys ≡ c.in_ok-keys.keys.len = search rules in
    let here : c.deref-2.result.now ≡ c.take_topics.new.keys = c.deref-2.ensures.value ∙ take_at c.take_topics.new.keys _ c.in_ok-keys.keys.len long in
    let keys : lent c.deref-2.result.now ≡ map (key_taken taken.has_topics) (entry_keys taken) = ap lent here ∙ c.in_ok-topics.ensures.keys ∙ ap (map (key_taken taken.has_topics)) read in
    let topics : c.deref.result.now ≡ map (topic_taken taken.has_topics) (entry_keys taken) = c.deref.ensures.value ∙ c.in_ok-topics.ensures.topics ∙ ap (map (topic_taken taken.has_topics)) read in
    (rw c.in_ok-places.was at c.in_ok-interned.ensures.places) ∙ entry-places c.args.logs.now taken.has_topics c.deref-2.result.now c.deref.result.now (entry_keys taken) keys topics

pub intern_and_place-requires-clause-bound : goal.intern_and_place-requires-clause-bound
intern_and_place-requires-clause-bound g c κs within = grind (arith, common_steps)

pub returns-clause-keys : goal.returns-clause-keys
returns-clause-keys g c = grind (arith, common_steps)
