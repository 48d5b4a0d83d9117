-- The inputs of a job.
use Rattle.report_cli.specs.declared.opened.Input.{Input}
use Rattle.report_cli.specs.declared.opened.Input.TheVariants as from

-- what is said of a file, or of standard input
abbrev pub of_input : {F I T : Type 0} → (F → T) → (I → T) → Input F I → T
of_input of_file of_stdin (from.File file) = of_file file
of_input of_file of_stdin (from.Stdin input) = of_stdin input
