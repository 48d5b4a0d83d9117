use Rattle.std.proofs.Common.{◌≡◌, ◌∙◌, ◌∷◌, [], ap, subst, sym}
use Rattle.csv_ingest.specs.Sinks.{item}
use Rattle.ingest.specs.Limits.{ChecksKeys, Limits, record_taken}
use Rattle.ingest.proofs.GoingOn.{checks-one, pair-is, taken-with}
use Rattle.ingest.proofs.limits.LimitCheckKeySink.take.Goals as goal

pub returns-in_default : goal.returns-in_default
returns-in_default c =
    let old = c.args.self.now in
    let new = c.take_one.new.self in
    let key = c.args.key.now in
    let found = c.record_of-topic.result in
    let same : c.self.inside.has_topics ≡ old.has_topics = ap (λ (l : Limits). l.has_topics) c.self.view_is in
    let here : item c.args.topic key ≡ key = ap (λ topic. item topic key) c.in_default.is in
    subst (λ k. ChecksKeys old (k ∷ []) new) (sym here)
    (checks-one old new key found.0 found.1.now
    (sym (pair-is found.0 found.1.now (record_taken old.has_topics key) (rw same at c.record_of-topic.ensures.topic) (rw same at c.record_of-topic.ensures.key)))
    c.take_one.ensures.same_counts c.take_one.ensures.same_topics c.take_one.ensures.state)

pub returns : goal.returns
returns c =
    let old = c.args.self.now in
    let new = c.take_one-2.new.self in
    let key = c.args.key.now in
    let index = c.in-Some.index in
    let same : c.self-2.inside.has_topics ≡ old.has_topics = ap (λ (l : Limits). l.has_topics) c.self-2.view_is in
    let here : item c.args.topic key ≡ index ∷ key = ap (λ topic. item topic key) c.in-Some.is in
    subst (λ k. ChecksKeys old (k ∷ []) new) (sym here)
    (checks-one old new (index ∷ key) index key (taken-with old.has_topics index key (sym same ∙ c.if-not-self.false))
    c.take_one-2.ensures.same_counts c.take_one-2.ensures.same_topics c.take_one-2.ensures.state)
