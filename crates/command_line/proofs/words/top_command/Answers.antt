use Rattle.std.proofs.Common.{◌≡◌, ◌∙◌, ap}
use Rattle.std.proofs.lemmas.Result.{IfOk-weaker}
use Rattle.clap.specs.Simple.{app_of, app_of_fields}
use Rattle.command_line.specs.CommandLine.{keycount_top}
use Rattle.command_line.proofs.Entered.{top_settings}
use Rattle.command_line.proofs.words.top_command.Goals as goal

pub returns : goal.returns
returns c =
    let set : app_of c.version.result ≡ keycount_top = top_settings _ _ _ _ _ c.new_command.ensures.read_as c.no_binary_name.ensures c.subcommand_required.ensures c.version.ensures in
    IfOk-weaker c.bin_name.result _ _ (λ r h. ap app_of_fields h.0 ∙ set) c.bin_name.ensures
