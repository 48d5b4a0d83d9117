use Rattle.std.proofs.Common.{◌≡◌, flat_map, take, vec_items}
use Rattle.std.specs.Io.KnownBytes.{Appends}
use Rattle.byte_io.proofs.device.write_texts.Given as goal

abbrev pub invariant-loop-i : goal.invariant-loop-i
invariant-loop-i g l = record {
  counted : g.K.Sink.failures l.sink ≡ g.K.Sink.failures l.fn.sink;
  wrote : Appends (g.K.Sink.written l.fn.sink) (g.K.Sink.written l.sink) (flat_map vec_items (take l.i l.texts));
}
