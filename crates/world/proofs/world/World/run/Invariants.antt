use Rattle.std.proofs.Common.{◌≡◌, ◌≤◌, take, length, vec_len}
use Rattle.std.specs.Vec.{vec_capacity}
use Rattle.world.specs.Runs.{AppendsRecords, Run, appended_in}
use Rattle.world.specs.Valid.{IsValidWorld}
use Rattle.world.proofs.world.World.run.Given as goal

abbrev pub invariant-loop-event : goal.invariant-loop-event
invariant-loop-event l = record {
  counted : vec_len l.replies ≡ l.event-index;
  capacity : length l.events ≤ vec_capacity l.replies;
  so_far : Run l.fn.self (take l.event-index l.events) l.replies.items l.self;
  history : AppendsRecords (appended_in (take l.event-index l.events) l.replies.items) l.fn.self l.self;
  valid : IsValidWorld l.self;
}
