use Rattle.std.proofs.Common.{◌≡◌, ◌∙◌, ap, arith, get_or, length, subst, sym}
use Rattle.partitioner.specs.Place.{AreCounts}
use Rattle.std.proofs.lemmas.List.{get_or-take}
use Rattle.partitioner.proofs.Counts.{place_within}
use Rattle.partitioner.proofs.Partitions.place_of_hash.Goals as goal

pub returns-clause-bound : goal.returns-clause-bound
returns-clause-bound c =
    let here = c.self.inside in
    let counts = subst AreCounts c.self.view_is c.self.invariant.1 in
    let long = ap length c.self.view_is in
    let many = c.self.invariant.0.many in
    let same : get_or here.counts c.args.topic 0 ≡ get_or c.args.self.now c.args.topic 0 =
    sym (get_or-take here.topics here.counts c.args.topic 0 (omega (arith, c.requires, long, many)))
    ∙ ap (λ xs. get_or xs c.args.topic 0) c.self.view_is in
    rw (c.before-2.ensures, same) (place_within c.args.self.now c.args.topic c.args.hash counts c.requires)
