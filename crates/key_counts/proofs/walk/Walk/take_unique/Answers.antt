use Rattle.std.proofs.Common.{◌∙◌, ◌∷◌, [], Bor, ap, refl}
use Rattle.std.proofs.lemmas.List.{map-append}
use Rattle.key_index.specs.Keys.{Key, lent}
use Rattle.key_counts.proofs.Walks.{walked-unique}
use Rattle.key_counts.proofs.walk.Walk.take_unique.Goals as goal

pub returns : goal.returns
returns c = λ classes class all counts from k none so at was.
    let old = c.args.self.now in
    let now : Bor Key → Key = λ key. key.now in
    walked-unique class all counts from k c.args.key.now c.args.count classes old (record { keys = c.push.new.self; counts = c.push-2.new.self; positions = old.positions }) none so at was
    (ap lent c.in_ok-push.ensures.items ∙ map-append now old.keys.items (c.args.key ∷ [])) c.in_ok-push-2.ensures.items refl
