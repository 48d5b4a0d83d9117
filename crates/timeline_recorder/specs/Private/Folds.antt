-- What a recorder has recorded, step after step.
use Rattle.std.specs.Prelude.{◌≡◌, ◌++◌, List, fold}
use Rattle.std.proofs.Common.{◌∙◌, ap, sym}
use Rattle.std.proofs.lemmas.List.Sums.{fold-append}
use Rattle.replay_steps.specs.Steps.{StepTaken}
use Rattle.timeline_recorder.specs.Recording.{Recording, recorded}

-- it recorded some steps and then others, so it recorded them all
pub recorded_all : (a b c : Recording) (first second : List StepTaken) → b ≡ fold recorded a first
    → c ≡ fold recorded b second → c ≡ fold recorded a (first ++ second)
recorded_all a b c first second x y =
    y ∙ ap (λ r. fold recorded r second) x ∙ sym (fold-append recorded a first second)
