use Rattle.std.proofs.Common.{refl}
use Rattle.key_stream.proofs.Started.{starts}
use Rattle.key_stream.proofs.counting.Counting.new.Goals as goal

pub returns-clause-state : goal.returns-clause-state
returns-clause-state c = λ delimiter wanted header.
    starts delimiter wanted header c.args.coded c.args.workers _ _ _ _ _ _ _ c.in_ok-idle_workers.ensures c.new.ensures.items (c.in_ok-vec.ensures.items_if_clones_equal (λ y e. e)) c.new-2.ensures.items
    (c.in_ok-vec-2.ensures.items_if_clones_equal (λ y e. e)) refl refl refl
