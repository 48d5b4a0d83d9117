use Rattle.std.proofs.Common.{◌∙◌, ap}
use Rattle.clap.specs.Simple.{app_of_fields}
use Rattle.clap.specs.declared.builder.command.Command.{Command}
use Rattle.clap.specs.declared.builder.command.Command.TheOpen.{Command-F}
use Rattle.command_line.proofs.Entered.{described}
use Rattle.command_line.proofs.words.new_command.Goals as goal

pub returns : goal.returns
returns c =
    let texts = described c.new.result c.about.result c.after_help.result _ _ c.about.ensures c.after_help.ensures in
    record {
      read_as = ap app_of_fields texts ∙ c.new.ensures.app;
      local = ap (λ (f : Command-F Command). f.has_globals) texts ∙ c.new.ensures.local;
    }
