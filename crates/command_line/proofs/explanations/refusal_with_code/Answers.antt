use Rattle.std.proofs.Common.{◌≡◌, ◌∙◌, Some, sym}
use Rattle.std.specs.List.{position}
use Rattle.command_line.specs.Private.Codes.{has_code}
use Rattle.command_line.specs.declared.explanations.TheConstants.{REFUSALS}
use Rattle.command_line.proofs.Codes.{code_found, no_code}
use Rattle.command_line.proofs.explanations.refusal_with_code.Goals as goal

pub returns-in_err-i-clause-absent : goal.returns-in_err-i-clause-absent
returns-in_err-i-clause-absent c none = no_code c.args.code (sym c.code_index.ensures ∙ c.in_err-i.was)

pub returns-clause-found : goal.returns-clause-found
returns-clause-found c =
    let at : position (has_code c.args.code) REFUSALS ≡ Some c.in_ok-i.i = sym c.code_index.ensures ∙ c.in_ok-i.was in
    (code_found c.args.code c.in_ok-i.i at).1
