use Rattle.std.proofs.Common.{◌≡◌, List, take}
use Rattle.world.specs.declared.event.Event.{Event}
use Rattle.world.specs.Runs.{Appends}
use Rattle.world.specs.Valid.{IsValidWorld}
use Rattle.world.specs.Private.Loading.{AreAppendsAt}
use Rattle.world.specs.Private.View.{world_view}
use Rattle.world.proofs.parts.Parts.append_placed.Given as goal

abbrev pub invariant-loop-i : goal.invariant-loop-i
invariant-loop-i l = record {
  so_far : (events : List Event) → AreAppendsAt l.fn.self.cluster.logs events l.places l.keys → Appends (world_view l.fn.self) (take l.i events) (world_view l.self);
  counts : l.self.cluster.logs.counts ≡ l.fn.self.cluster.logs.counts;
  valid : IsValidWorld (world_view l.self);
}
