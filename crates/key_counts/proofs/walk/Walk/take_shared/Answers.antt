use Rattle.std.proofs.Common.{◌∙◌, ◌∷◌, [], Bor, ap, refl}
use Rattle.std.specs.Prelude.{slice_set}
use Rattle.std.proofs.lemmas.List.{map-append}
use Rattle.key_index.specs.Keys.{Key, lent}
use Rattle.key_counts.specs.Private.Walks.{is_of}
use Rattle.key_counts.proofs.Walks.{of-own, one-passed, walked-new, walked-old}
use Rattle.key_counts.proofs.walk.Walk.take_shared.Goals as goal

pub returns-in_ok-push-2 : goal.returns-in_ok-push-2
returns-in_ok-push-2 c = λ n class all counts from k own so at was.
    let old = c.args.self.now in
    let of = c.args.class in
    let key = c.args.key.now in
    let now : Bor Key → Key = λ key. key.now in
    let its = so.each of c.index-classes-class.result c.requires.class in
    let passed = c.in-Some.ensures (is_of class of) all counts k key n (of-own class of key own) its at (was.here.each of _ c.requires.class) in
    let here = one-passed class all k key old.positions of c.pass-found.new.self own at.within at.same c.requires.class was.here passed.0 in
    walked-new class all counts from k key c.in-Some.total old (record { keys = c.push.new.self; counts = c.push-in-Some.new.self; positions = slice_set old.positions of c.pass-found.new.self })
    at.within at.same passed.1.0 passed.1.1 was (ap lent c.in_ok-push.ensures.items ∙ map-append now old.keys.items (c.args.key ∷ [])) c.in_ok-push-2.ensures.items here

pub returns-in_default : goal.returns-in_default
returns-in_default c = λ n class all counts from k own so at was.
    let old = c.args.self.now in
    let of = c.args.class in
    let key = c.args.key.now in
    let its = so.each of c.index-classes-class.result c.requires.class in
    let passed = c.in_default.ensures (is_of class of) all counts k key n (of-own class of key own) its at (was.here.each of _ c.requires.class) in
    let here = one-passed class all k key old.positions of c.pass-found.new.self own at.within at.same c.requires.class was.here passed.0 in
    walked-old class all counts from k key old (record { keys = old.keys; counts = old.counts; positions = slice_set old.positions of c.pass-found.new.self }) at.within at.same passed.1 was refl refl here
