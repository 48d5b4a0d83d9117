use Rattle.std.proofs.Common.{◌≡◌, ◌≤◌, ◌-◌, length, take}
use Rattle.std.specs.Io.KnownBytes.{Appends}
use Rattle.byte_io.proofs.device.write_all.Given as goal

abbrev pub invariant-loop-taken : goal.invariant-loop-taken
invariant-loop-taken g l = record {
  counted : g.K.Sink.failures l.sink ≡ g.K.Sink.failures l.fn.sink;
  within : l.taken ≤ length l.bytes;
  wrote : Appends (g.K.Sink.written l.fn.sink) (g.K.Sink.written l.sink) (take l.taken l.bytes);
}

abbrev pub decreases-loop-taken : goal.decreases-loop-taken
decreases-loop-taken g l = length l.bytes - l.taken
