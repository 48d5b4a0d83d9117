-- Lists of topics, parsed item by item.
use Rattle.std.proofs.Common.{rules, ◌≡◌, ◌∙◌, ◌≢◌, ◌+◌, ◌<◌, ◌≤◌, refl, sym, ap, subst, ℕ, Bool, true, false, cond, ◌&&◌, Option, Some, None, Err, List, [], ◌∷◌, ◌++◌, map, length, take, drop, get_or, arith, length-append, take-append-drop}
use Rattle.std.proofs.lemmas.Bool.Decides.{nat_tests}
use Rattle.std.proofs.lemmas.List.{get_or_append_left, get_or_at, drop_more, length-map, length_push}
use Rattle.std.proofs.lemmas.List.Elements.{All-push}
use Rattle.std.proofs.lemmas.List.Quantifiers.{all_pairs_push}
use Rattle.std.proofs.lemmas.List.Splits.{length-slice_split}
use Rattle.std.proofs.lemmas.List.Sums.{sum_by-append, sum_by-cons, sum_by_push}
use Rattle.std.proofs.lemmas.Str.Parse.{IsNumeralModel, numerals_by_value, parse_digits}
use Rattle.std.specs.Char.{is_ascii_digit}
use Rattle.std.specs.List.{after_first, list_all, before_first, slice_split}
use Rattle.std.specs.Str.Parse.{ParsesUnsigned, digits_value}
use Rattle.partitioner.specs.Name.{is_name}
use Rattle.partitioner.specs.Topic.{MayBeTopics}
use Rattle.partitioner.specs.declared.topic.Topic.{Topic}
use Rattle.command_line.specs.Private.Topics.{MayFollow, count_of}
use Rattle.command_line.specs.Topics.{AreTopicsOf, IsBadList, is_colon, is_comma, is_count, topic_of}

digits_model : IsNumeralModel (λ word. list_all is_ascii_digit word ≡ true) (digits_value 10)
digits_model = numerals_by_value _ (search rules)

pub no_topics : MayBeTopics []
no_topics = record {
  few = omega arith;
  named = λ k d below. absurd (omega arith);
  distinct = λ i j d order below. absurd (omega arith);
  each = λ k d below. absurd (omega arith);
  within = omega arith;
}

pub valid_with_next : (topics : List Topic) (topic : Topic) → MayBeTopics topics → MayFollow topics topic
    → is_name topic.name ≡ true → 1 ≤ topic.partitions → MayBeTopics (topics ++ topic ∷ [])
valid_with_next topics topic valid follows named some = record {
  few = let e = length_push topics topic in let capacity = follows.capacity in omega (arith, e, capacity);
  named = All-push (λ (t : Topic). is_name t.name ≡ true) topics topic valid.named named;
  distinct = all_pairs_push (λ (t u : Topic). t.name ≢ u.name) topics topic valid.distinct (λ k d below. follows.named k d below);
  each = All-push (λ (t : Topic). 1 ≤ t.partitions) topics topic valid.each some;
  within = rw (sum_by_push (λ (t : Topic). t.partitions) topics topic) follows.within;
}

pub has_followed : (before : List Topic) (topic : Topic) (more : List Topic) → MayBeTopics (before ++ topic ∷ more)
    → MayFollow before topic
has_followed before topic more valid =
    let sizes = length-append before (topic ∷ more) in
    record {
      capacity = let few = valid.few in omega (arith, sizes, few);
      named = λ k d below same.
          let first : get_or (before ++ topic ∷ more) k d ≡ get_or before k d = get_or_append_left before (topic ∷ more) d k below in
          let second : get_or (before ++ topic ∷ more) (length before) d ≡ topic = get_or_at before topic more d (length before) refl in
          valid.distinct k (length before) d below (omega (arith, sizes))
          (ap (λ (t : Topic). t.name) first ∙ same ∙ sym (ap (λ (t : Topic). t.name) second));
      within =
          let sums = sum_by-append (λ (t : Topic). t.partitions) before (topic ∷ more) in
          let rest = sum_by-cons (λ (t : Topic). t.partitions) topic more in
          let all = valid.within in
          omega (arith, sums, rest, all);
    }

pub next_parsed : {A B : Type 0} (f : A → Option B) (items : List A) (item : A) (rest : List A) (parsed all : List B)
    → map f items ≡ map Some parsed → map f (items ++ item ∷ rest) ≡ map Some all
    → (next : B) × (more : List B) × (f item ≡ Some next) × (all ≡ parsed ++ next ∷ more)
next_parsed f [] item rest [] [] e h = let no : ⊥ = cc in absurd no
next_parsed f [] item rest [] (b ∷ bs) e h =
    let parsed : f item ≡ Some b = cc in
    (b, bs, parsed, refl)
next_parsed f [] item rest (s ∷ ss) all e h = let no : ⊥ = cc in absurd no
next_parsed f (a ∷ others) item rest [] all e h = let no : ⊥ = cc in absurd no
next_parsed f (a ∷ others) item rest (s ∷ ss) [] e h = let no : ⊥ = cc in absurd no
next_parsed f (a ∷ others) item rest (s ∷ ss) (b ∷ bs) e h =
    let so_far : map f others ≡ map Some ss = cc in
    let in_all : map f (others ++ item ∷ rest) ≡ map Some bs = cc in
    let next = next_parsed f others item rest ss bs so_far in_all in
    let same : s ≡ b = cc in
    let more : bs ≡ ss ++ next.0 ∷ next.1 = next.3 in
    (next.0, next.1, next.2, cc)

pub split_there : {X : Type 0} (all before : List X) (n : ℕ) (item : X) → before ≡ take n all
    → (n < length all) × (item ≡ get_or all n item) → all ≡ before ++ item ∷ drop (n + 1) all
split_there all before n item so_far turn =
    sym (take-append-drop n all)
    ∙ ap (λ front. front ++ drop n all) (sym so_far)
    ∙ ap (λ back. before ++ back) (drop_more all n item turn.0)
    ∙ ap (λ x. before ++ x ∷ drop (n + 1) all) (sym turn.1)

-- a list with an item that does not parse is not valid
pub invalid_item_rejects : (list : List ℕ) (before : List (List ℕ)) (item : List ℕ) (rest : List (List ℕ)) (parsed : List Topic)
    → slice_split is_comma list ≡ before ++ item ∷ rest → map topic_of before ≡ map Some parsed → topic_of item ≡ None
    → IsBadList (Some list)
invalid_item_rejects list before item rest parsed there so_far none topics items_parse =
    let next = next_parsed topic_of before item rest parsed topics so_far (ap (λ items. map topic_of items) (sym there) ∙ items_parse.items) in
    let parsed : topic_of item ≡ Some next.0 = next.2 in
    let no : ⊥ = cc in
    no

-- nor is one with an item whose topic may not follow those before it
pub misfit_item_rejects : (list : List ℕ) (before : List (List ℕ)) (item : List ℕ) (rest : List (List ℕ)) (parsed : List Topic) (topic : Topic)
    → slice_split is_comma list ≡ before ++ item ∷ rest → map topic_of before ≡ map Some parsed → topic_of item ≡ Some topic
    → (MayFollow parsed topic → ⊥) → IsBadList (Some list)
misfit_item_rejects list before item rest parsed topic there so_far is never topics items_parse =
    let next = next_parsed topic_of before item rest parsed topics so_far (ap (λ items. map topic_of items) (sym there) ∙ items_parse.items) in
    let parsed_item : topic_of item ≡ Some next.0 = next.2 in
    let same : next.0 ≡ topic = cc in
    never (subst (λ t. MayFollow parsed t) same (has_followed parsed next.0 next.1 (subst MayBeTopics next.3 items_parse.rules.valid)))

pub has_a_topic : (list : List ℕ) (topics : List Topic) → map topic_of (slice_split is_comma list) ≡ map Some topics
    → 1 ≤ length topics
has_a_topic list topics items_parse =
    let items = slice_split is_comma list in
    let sizes : length (map topic_of items) ≡ length (map Some topics) = ap length items_parse in
    let parsed = length-map items topic_of in
    let reported = length-map topics Some in
    let some = length-slice_split is_comma list in
    omega (arith, sizes, parsed, reported, some)

-- ---- one item

pub parsed_topic_fits : (item : List ℕ) (topic : Topic) → topic_of item ≡ Some topic
    → (is_name topic.name ≡ true) × (1 ≤ topic.partitions) × (topic.partitions ≤ 4096)
unfolding topic_of
parsed_topic_fits item topic e =
    at (is_name (before_first is_colon item)) (is_count (after_first is_colon item)) refl refl e
  where
    at : (named counts : Bool) → is_name (before_first is_colon item) ≡ named → is_count (after_first is_colon item) ≡ counts
        → cond (named && counts) (Some (record { name = before_first is_colon item; partitions = digits_value 10 (after_first is_colon item) })) None ≡ Some topic
        → (is_name topic.name ≡ true) × (1 ≤ topic.partitions) × (topic.partitions ≤ 4096)
    at true true named counts e =
        let some : 1 ≤ digits_value 10 (after_first is_colon item) = grind (arith, nat_tests) in
        let few : digits_value 10 (after_first is_colon item) ≤ 4096 = grind (arith, nat_tests) in
        let parsed : Topic = record { name = before_first is_colon item; partitions = digits_value 10 (after_first is_colon item) } in
        let same : parsed ≡ topic = cc in
        subst (λ (t : Topic). (is_name t.name ≡ true) × (1 ≤ t.partitions) × (t.partitions ≤ 4096)) same (named, some, few)
    at true false named counts e = let no : ⊥ = cc in absurd no
    at false counted named counts e = let no : ⊥ = cc in absurd no

pub may_be_topics : (list : Option (List ℕ)) (topics : List Topic) → AreTopicsOf list topics → MayBeTopics topics
may_be_topics None topics none = rw none no_topics
may_be_topics (Some list) topics items_parse = items_parse.rules.valid

refused : (b : Bool) (n : ℕ) → (b ≡ true → ⊥) → cond b (Some n) None ≡ None
refused true n never = absurd (never refl)
refused false n never = refl

pub no_count : {E : Type 0} (digits : List ℕ) (e : E) → ParsesUnsigned 32 10 digits (Err e)
    → list_all is_ascii_digit digits ≡ true → count_of digits ≡ None
no_count {E} digits e parses all =
    refused (is_count digits) (digits_value 10 digits)
    (λ counts.
    let some : 0 < length digits = grind (arith, nat_tests) in
    let few : digits_value 10 digits ≤ 4096 = grind (arith, nat_tests) in
    parse_digits digits_model {E = E} 32 digits (Err e) parses all (some, omega (arith, few)))
