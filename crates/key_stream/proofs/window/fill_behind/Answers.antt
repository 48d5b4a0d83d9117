use Rattle.key_stream.proofs.Filled.{filled-behind}
use Rattle.key_stream.proofs.window.fill_behind.Goals as goal

pub returns-clause-bytes : goal.returns-clause-bytes
returns-clause-bytes g c = filled-behind c.fill.result _ _ c.args.filled _ c.args.buffer.now c.fill.new.buffer c.requires.filled c.fill.ensures.range c.fill.ensures.bytes
