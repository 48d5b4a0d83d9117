use Rattle.std.proofs.Common.{◌≡◌, Err, Option, Some, Result, List, ℕ, ap, inl, inr, rules}
use Rattle.std.specs.Prelude.{◌⊎◌}
use Rattle.std.specs.Option.{option_map_or}
use Rattle.lane_words.specs.declared.Refusal.{Refusal}
use Rattle.lane_words.specs.declared.Refusal.TheVariants as r
use Rattle.ingest.specs.Records.{records_in}
use Rattle.ingest.proofs.ReadFaults.{as_answer}
use Rattle.draw_report.specs.DrawReport.{picture_of_records}
use Rattle.draw_report.proofs.draw.picture_of_records.Goals as goal

ended : (fault : Option Refusal) (text : Result (List ℕ) Refusal) (e : Refusal) → (e ≡ r.Memory) ⊎ (fault ≡ Some e) → (e ≡ r.Memory) ⊎ (option_map_or Err fault text ≡ Err e)
ended fault text e (inl m) = inl m
ended fault text e (inr h) = inr (ap (λ f. option_map_or Err f text) h)

pub returns-in_err-world-clause-answer : goal.returns-in_err-world-clause-answer
unfolding picture_of_records
returns-in_err-world-clause-answer g c =
    let fault = c.in_err-world.field-0.0 in
    let same : c.from_residual.result ≡ Err fault = search rules in
    rw same (as_answer (picture_of_records c.args.options.now c.args.script.now (records_in c.args.records) c.args.lines.now) fault (ended _ _ fault c.in_err-world.ensures.answer.1))

pub returns-clause-answer : goal.returns-clause-answer
unfolding picture_of_records
returns-clause-answer g c = search rules
