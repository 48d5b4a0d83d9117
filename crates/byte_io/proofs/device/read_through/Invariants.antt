use Rattle.std.proofs.Common.{◌≡◌, ◌≤◌, length}
use Rattle.std.specs.Io.KnownBytes.{Consumes}
use Rattle.byte_io.proofs.device.read_through.Given as goal

abbrev pub invariant-loop : goal.invariant-loop
invariant-loop g l = record {
  counted : g.S.Source.failures l.source ≡ g.S.Source.failures l.fn.source;
  turns : l.counter ≤ length l.all.items;
  read : Consumes (g.S.Source.left l.fn.source) (g.S.Source.left l.source) l.all.items;
}
