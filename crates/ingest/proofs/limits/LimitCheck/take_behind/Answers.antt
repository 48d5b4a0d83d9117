use Rattle.std.proofs.Common.{rules, ◌≡◌, ◌∙◌, ◌∷◌, ap, sym}
use Rattle.partition_log.specs.Keys.{Key, Keyed}
use Rattle.ingest.proofs.GoingOn.{checks-one, taken-without}
use Rattle.ingest.proofs.limits.LimitCheck.take_behind.Goals as goal

pub returns : goal.returns
returns c =
    let item = c.args.index ∷ c.args.key.now in
    let is : c.as_slice.result.now ≡ item = search rules in
    checks-one c.args.self.now c.take_one.new.self item 0 c.as_slice.result.now
    (taken-without c.args.self.now.has_topics item c.requires ∙ ap (λ (k : Key). let one : Keyed = (0, k) in one) (sym is))
    c.take_one.ensures.same_counts c.take_one.ensures.same_topics c.take_one.ensures.state
