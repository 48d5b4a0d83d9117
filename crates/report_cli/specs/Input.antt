-- Jobs that would read standard input twice, ask for two tables, or explain no refusal.
use Rattle.std.specs.Prelude.{◌≡◌, true, IsSome, Some, None, codes}
use Rattle.command_line.specs.Explanations.{IsNoCode}
use Rattle.command_line.specs.declared.words.Job.{Job}
use Rattle.command_line.specs.declared.words.Job.TheVariants.{Count, Place, Check, Replay, Trace, Draw, Run, Explain}

-- both files of a job are standard input, whose path is `-`
abbrev pub ReadsInputTwice : Job → Type 0
ReadsInputTwice (Count file options) = ⊥
ReadsInputTwice (Place file options place) = ⊥
ReadsInputTwice (Check file None options check) = ⊥
ReadsInputTwice (Check file (Some script) options check) =
    (file.now ≡ codes "-") × (script.now ≡ codes "-")
ReadsInputTwice (Replay file script options) = (file.now ≡ codes "-") × (script.now ≡ codes "-")
ReadsInputTwice (Trace file script options) = (file.now ≡ codes "-") × (script.now ≡ codes "-")
ReadsInputTwice (Draw file script options) = (file.now ≡ codes "-") × (script.now ≡ codes "-")
ReadsInputTwice (Run file script options) = (file.now ≡ codes "-") × (script.now ≡ codes "-")
ReadsInputTwice (Explain code) = ⊥

-- the job is a place with both `--keys` and `--given`
abbrev pub AsksForTwoTables : Job → Type 0
AsksForTwoTables (Place file options place) = (place.keys ≡ true) × IsSome place.given
AsksForTwoTables job = ⊥

-- the job is to explain a number that no refusal has
abbrev pub HasNoCode : Job → Type 0
HasNoCode (Explain (Some code)) = IsNoCode code
HasNoCode job = ⊥
