use Rattle.std.proofs.Common.{◌≡◌, ◌∙◌, ◌++◌, ◌∷◌, [], refl, ℕ, List, Bor, Some, map, length, lit<, sym, ap, arith, true, false, true≢false}
use Rattle.std.proofs.lemmas.Iterator.Consumers.{YieldsList-end, YieldsList-so_far, YieldsList-turn}
use Rattle.std.proofs.lemmas.Iterator.Splits.{YieldsList-from_str_split}
use Rattle.std.specs.List.{slice_split}
use Rattle.std.proofs.lemmas.List.{map_push}
use Rattle.partitioner.specs.declared.topic.Topic.{Topic}
use Rattle.command_line.specs.Topics.{is_comma, topic_of}
use Rattle.command_line.proofs.TopicLists.{valid_with_next, misfit_item_rejects, invalid_item_rejects, has_a_topic, split_there, parsed_topic_fits}
use Rattle.command_line.proofs.topics.parse_topics.Goals as goal

pub returns-in_default : goal.returns-in_default
returns-in_default c =
    let road = YieldsList-from_str_split 44 c.args.list.now (lit< tt) (cc) (cc) (cc) in
    let items = slice_split is_comma c.args.list.now in
    let before = map (λ (item : Bor (List ℕ)). item.now) c.loop-item.yielded in
    let so_far = YieldsList-so_far road c.loop-item.yielded _ c.loop-item.yielded_by in
    let turn = YieldsList-turn road c.loop-item.yielded _ c.loop-item.yielded_by _ _ c.in-Some.item c.in-Some.is c.next.ensures.steps in
    let there = split_there items before (length c.loop-item.yielded) c.in-Some.item.now so_far turn in
    invalid_item_rejects c.args.list.now before c.in-Some.item.now _ c.loop-item.topics.items there c.loop-item.invariant.parsed (sym c.in_default.ensures)

pub may_follow-requires-clause-bound : goal.may_follow-requires-clause-bound
may_follow-requires-clause-bound c = (parsed_topic_fits c.in-Some.item.now c.in-Some-topic_of.topic (sym c.in-Some-topic_of.ensures)).2

pub returns-then-not-may_follow : goal.returns-then-not-may_follow
returns-then-not-may_follow c =
    let refused : c.may_follow.result ≡ false = grind arith in
    let road = YieldsList-from_str_split 44 c.args.list.now (lit< tt) (cc) (cc) (cc) in
    let items = slice_split is_comma c.args.list.now in
    let before = map (λ (item : Bor (List ℕ)). item.now) c.loop-item.yielded in
    let so_far = YieldsList-so_far road c.loop-item.yielded _ c.loop-item.yielded_by in
    let turn = YieldsList-turn road c.loop-item.yielded _ c.loop-item.yielded_by _ _ c.in-Some.item c.in-Some.is c.next.ensures.steps in
    let there = split_there items before (length c.loop-item.yielded) c.in-Some.item.now so_far turn in
    misfit_item_rejects c.args.list.now before c.in-Some.item.now _ c.loop-item.topics.items c.in-Some-topic_of.topic there c.loop-item.invariant.parsed (sym c.in-Some-topic_of.ensures)
    (λ may. true≢false (sym (c.may_follow.ensures.1 (rw c.as_slice.ensures.value may)) ∙ refused))

pub loop-item-preserved : goal.loop-item-preserved
loop-item-preserved c =
    let pushed : c.push.new.self.items ≡ c.loop-item.topics.items ++ c.in-Some-topic_of.topic ∷ [] = c.in_ok-push.ensures.items in
    let items_parse = parsed_topic_fits c.in-Some.item.now c.in-Some-topic_of.topic (sym c.in-Some-topic_of.ensures) in
    let reported : c.may_follow.result ≡ true = grind arith in
    let may = rw c.as_slice.ensures.value at c.may_follow.ensures.0 reported in
    record {
      parsed = rw (pushed, map_push (λ (item : Bor (List ℕ)). item.now) c.loop-item.yielded c.in-Some.item, map_push topic_of (map (λ (item : Bor (List ℕ)). item.now) c.loop-item.yielded) c.in-Some.item.now, map_push (λ (t : Topic). Some t) c.loop-item.topics.items c.in-Some-topic_of.topic, c.loop-item.invariant.parsed, ← c.in-Some-topic_of.ensures) refl;
      valid = rw pushed (valid_with_next c.loop-item.topics.items c.in-Some-topic_of.topic c.loop-item.invariant.valid may items_parse.0 items_parse.1);
    }

pub returns : goal.returns
returns c =
    let road = YieldsList-from_str_split 44 c.args.list.now (lit< tt) (cc) (cc) (cc) in
    let end = YieldsList-end road c.loop-item.yielded _ c.loop-item.yielded_by _ _ c.in-None.is c.next.ensures.steps in
    let items_parse = ap (λ items. map topic_of items) (sym end.0) ∙ c.loop-item.invariant.parsed in
    record {
      items = items_parse;
      rules = record { some = has_a_topic c.args.list.now c.loop-item.topics.items items_parse; valid = c.loop-item.invariant.valid };
    }
