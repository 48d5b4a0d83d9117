use Rattle.std.proofs.Common.{rules}
use Rattle.script.proofs.forms.Form.parts.Goals as goal

pub returns-in-Leave : goal.returns-in-Leave
returns-in-Leave c = search rules
