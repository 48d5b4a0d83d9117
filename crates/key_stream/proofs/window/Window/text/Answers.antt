use Rattle.std.proofs.Common.{rules}
use Rattle.key_stream.proofs.window.Window.text.Goals as goal

pub returns : goal.returns
returns c = search rules
