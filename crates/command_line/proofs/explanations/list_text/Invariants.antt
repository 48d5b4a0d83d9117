use Rattle.std.proofs.Common.{◌≡◌, ◌++◌, codes, flat_map, take}
use Rattle.command_line.specs.Explanations.{line_of}
use Rattle.command_line.specs.declared.explanations.TheConstants.{REFUSALS}
use Rattle.command_line.proofs.explanations.list_text.Given as goal

abbrev pub invariant-loop-refusal : goal.invariant-loop-refusal
invariant-loop-refusal l = l.list.items ≡ flat_map (λ refusal. line_of refusal ++ codes "\n") (take l.refusal-index REFUSALS)
