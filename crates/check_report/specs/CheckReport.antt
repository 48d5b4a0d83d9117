-- The report of a check.
use Rattle.std.specs.Prelude.{◌≡◌, ℕ, Bool, List, [], ◌++◌, Option, None, Some, Result, Ok, IfOk, IfSome, take}
use Rattle.lane_words.specs.declared.Refusal.{Refusal}
use Rattle.command_line.specs.declared.options.CheckOptions.{CheckOptions}
use Rattle.command_line.specs.declared.options.Options.{Options}
use Rattle.ingest.specs.Reports.{WritesIfKnown, written}
use Rattle.check_report.specs.Findings.{Finding, finding_table, has_fault}
use Rattle.check_report.specs.RecordFindings.{findings_of_file}
use Rattle.check_report.specs.ScriptFindings.{findings_of_script}
use Rattle.check_report.specs.Warnings.{warnings_of}

-- the first findings of a script; none without one
abbrev pub script_findings : Options → CheckOptions → Option (List ℕ) → List Finding
script_findings options check None = []
script_findings options check (Some script) =
    take check.most (findings_of_script options.topics.items check.plan script)

-- what is found in a file, and in a script if there is one: the first faults of each, and then the
-- warnings about the file
unfoldable pub findings_of : Options → CheckOptions → List ℕ → Option (List ℕ) → List Finding
findings_of options check file script =
    take check.most (findings_of_file options file) ++ script_findings options check script
    ++ warnings_of options.delimiter file

-- what is written
abbrev pub report_of_check : Options → CheckOptions → List ℕ → Option (List ℕ)
    → Result (List ℕ) Refusal
report_of_check options check file script =
    Ok (finding_table (findings_of options check file script))

-- ---- a check of a file
-- if its bytes are known, the answer is whether there is a fault
abbrev pub TellsFaultOfFile : Options → CheckOptions → Option (List ℕ) → Result Bool Refusal
    → Type 0
TellsFaultOfFile options check file answer =
    IfOk answer (λ faulty.
    IfSome file (λ bytes. faulty ≡ has_fault (findings_of options check bytes None)))

-- ---- a check of a file and a script
-- if the bytes of both are known, the report is written
abbrev pub WritesCheckOfBoth : Options → CheckOptions → Option (List ℕ) → Option (List ℕ)
    → Option (List ℕ) → Option (List ℕ) → Result Bool Refusal → Type 0
WritesCheckOfBoth options check file script old new answer =
    WritesIfKnown (λ bytes lines. report_of_check options check bytes (Some lines))
    file script old new (written answer)

-- if the bytes of both are known, the answer is whether there is a fault
abbrev pub TellsFaultOfBoth : Options → CheckOptions → Option (List ℕ) → Option (List ℕ)
    → Result Bool Refusal → Type 0
TellsFaultOfBoth options check file script answer =
    IfOk answer (λ faulty. IfSome file (λ bytes. IfSome script (λ lines.
    faulty ≡ has_fault (findings_of options check bytes (Some lines)))))
