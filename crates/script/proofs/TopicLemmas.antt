-- The topic of a name, and the text after the name.
use Rattle.std.proofs.Common.{◌≡◌, refl, sym, ap, ◌∙◌, ℕ, Bool, true, false, cond, option_and_then, subst, List, [], ◌∷◌, ◌++◌, length, get_or, arith, Option, Some, None}
use Rattle.std.specs.Prelude.{◌==◌}
use Rattle.std.specs.List.{slice_get}
use Rattle.std.specs.Str.{bytes_eq}
use Rattle.std.proofs.lemmas.List.Quantifiers.{position-Some}
use Rattle.std.proofs.lemmas.List.Sums.{position_or_len_is}
use Rattle.std.proofs.lemmas.Option.{get_or_from_slice_get, slice_get-get_or, slice_get_within}
use Rattle.std.proofs.lemmas.Slice.Eq.{bytes_eq-Decides}
use Rattle.partitioner.specs.Name.{is_name}
use Rattle.script.proofs.Parts.{split-parts, split-there}
use Rattle.script.proofs.WordLemmas.{name-word}
use Rattle.script.specs.Forms.{IsInTopic, IsTextIn}
use Rattle.script.specs.Grammar.{split_word, topic_before, parse_topic}
use Rattle.partitioner.specs.Topic.{MayBeTopics}
use Rattle.script.specs.Topics.{topic_named}
use Rattle.partitioner.specs.declared.topic.Topic.{Topic}
use borrow.Author.Tests.{eqb-true, lt-ltb}

no_topic : Topic
no_topic = record { name = []; partitions = 0 }

pub named-topic : (topics : List Topic) (name : List ℕ) (i : ℕ) → topic_named topics name ≡ Some i
    → (topic : Topic) × (slice_get topics i ≡ Some topic) × (topic.name ≡ name)
unfolding topic_named
named-topic topics name i e =
    let found = position-Some (λ topic. bytes_eq topic.name name) topics i no_topic e in
    let topic = get_or topics i no_topic in
    (topic, slice_get-get_or topics i no_topic found.0, (bytes_eq-Decides topic.name name).0 found.1)

untrue : (b : Bool) → (b ≡ true → ⊥) → b ≡ false
untrue true h = absurd (h refl)
untrue false h = refl

pub topic-named : (topics : List Topic) (i : ℕ) (topic : Topic) → MayBeTopics topics
    → slice_get topics i ≡ Some topic → topic_named topics topic.name ≡ Some i
unfolding topic_named
topic-named topics i topic valid e =
    let within = slice_get_within topics i topic e in
    let is = get_or_from_slice_get topics i topic no_topic e in
    let at =
    position_or_len_is (λ other. bytes_eq other.name topic.name) topics i no_topic (omega arith)
    (λ k below.
    untrue (bytes_eq (get_or topics k no_topic).name topic.name)
    (λ same.
    valid.distinct k i no_topic below within
    ((bytes_eq-Decides (get_or topics k no_topic).name topic.name).0 same ∙ ap (λ t. t.name) (sym is))))
    (λ below.
    (bytes_eq-Decides (get_or topics i no_topic).name topic.name).1 (ap (λ t. t.name) is)) in
    rw (at, lt-ltb _ _ within) refl

named-before : (first : Topic) (more : List Topic) (text : List ℕ)
    → parse_topic (first ∷ more) text ≡ topic_before (first ∷ more) text
unfolding parse_topic
named-before first more text = at (length (first ∷ more) == 0) refl
  where
    at : (none : Bool) → (length (first ∷ more) == 0) ≡ none
        → cond none (Some (None, text)) (topic_before (first ∷ more) text)
        ≡ topic_before (first ∷ more) text
    at true e = let none = eqb-true (length (first ∷ more)) 0 e in absurd (omega arith)
    at false e = refl

before-in : (topics : List Topic) (i : ℕ) (parsed text : List ℕ) → MayBeTopics topics
    → IsInTopic topics i parsed text → topic_before topics text ≡ Some (Some i, parsed)
unfolding topic_before
before-in topics i parsed text valid h =
    let name = valid.named i h.topic (slice_get_within topics i h.topic h.at) in
    let same = get_or_from_slice_get topics i h.topic h.topic h.at in
    let named : is_name h.topic.name ≡ true = sym (ap (λ t. is_name t.name) same) ∙ name in
    rw (
      h.text_is,
      split-there h.topic.name parsed (name-word h.topic.name named),
      topic-named topics i h.topic valid h.at,
    ) refl

pub parsed-in : (topics : List Topic) (topic : Option ℕ) (parsed text : List ℕ) → MayBeTopics topics
    → IsTextIn topics topic parsed text → parse_topic topics text ≡ Some (topic, parsed)
unfolding parse_topic
parsed-in topics None parsed text valid h = rw (h.0, h.1) refl
parsed-in [] (Some i) parsed text valid h = absurd (cc h.at)
parsed-in (first ∷ more) (Some i) parsed text valid h =
    named-before first more text ∙ before-in (first ∷ more) i parsed text valid h

in-before : (topics : List Topic) (text : List ℕ) (o : Option ℕ × List ℕ)
    → topic_before topics text ≡ Some o → IsTextIn topics o.0 o.1 text
unfolding topic_before
in-before topics text o e = go (split_word text) refl e
  where
    named : (parts : List ℕ × List ℕ) → split_word text ≡ Some parts
        → (i : Option ℕ) → topic_named topics parts.0 ≡ i
        → option_and_then (λ topic. Some (Some topic, parts.1)) i ≡ Some o
        → IsTextIn topics o.0 o.1 text
    named parts cut None is e = absurd cc
    named parts cut (Some i) is e =
        let topic = named-topic topics parts.0 i is in
        let that : (Some i, parts.1) ≡ o = cc in
        let written : IsInTopic topics i parts.1 text =
        record {
          topic = topic.0;
          at = topic.1;
          text_is =
              split-parts text parts cut ∙ ap (λ name. name ++ 32 ∷ parts.1) (sym topic.2);
        } in
        subst (λ o. IsTextIn topics o.0 o.1 text) that written

    go : (parts : Option (List ℕ × List ℕ)) → split_word text ≡ parts
        → option_and_then
        (λ parts. option_and_then (λ topic. Some (Some topic, parts.1)) (topic_named topics parts.0))
        parts ≡ Some o
        → IsTextIn topics o.0 o.1 text
    go None cut e = absurd cc
    go (Some parts) cut e = named parts cut (topic_named topics parts.0) refl e

pub in-parsed : (topics : List Topic) (text : List ℕ) (o : Option ℕ × List ℕ)
    → parse_topic topics text ≡ Some o → IsTextIn topics o.0 o.1 text
unfolding parse_topic
in-parsed [] text o e =
    let that : (None, text) ≡ o = cc in
    subst (λ o. IsTextIn [] o.0 o.1 text) that (refl, refl)
in-parsed (first ∷ more) text o e =
    in-before (first ∷ more) text o (sym (named-before first more text) ∙ e)
