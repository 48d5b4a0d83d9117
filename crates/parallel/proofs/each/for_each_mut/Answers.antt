use Rattle.std.proofs.Common.{refl}
use Rattle.std.specs.Fork.{ChangesAt}
use Rattle.parallel.proofs.Slices.{from-zero}
use Rattle.parallel.proofs.each.for_each_mut.Goals as goal

pub returns-then-threads-lt2 : goal.returns-then-threads-lt2
returns-then-threads-lt2 g c i d lt = (refl, from-zero (ChangesAt g.F.Fn c.args.f.now) c.args.items.now c.call_each.new.items c.call_each.ensures i d lt)

pub returns : goal.returns
returns g c i d lt = (refl, from-zero (ChangesAt g.F.Fn c.args.f.now) c.args.items.now c.call_slices.new.items c.call_slices.ensures i d lt)
