use Rattle.std.proofs.Common.{◌∙◌, arith, ◌≡◌, ◌≢◌, ◌+◌, All, drop, length, ap, sym, subst, get_or}
use Rattle.std.proofs.lemmas.Bool.{eqb-true}
use Rattle.std.proofs.lemmas.List.{length-drop}
use Rattle.csv.proofs.WriteFacts.{slice-end}
use Rattle.csv_ingest.specs.Stand.{stand_after, stand_next}
use Rattle.csv_ingest.proofs.Cutting.{lacks, stand-run, take_all}
use Rattle.csv_ingest.proofs.stand.stand_behind.Goals as goal

pub plain_behind-there-requires-clause-unquoted : goal.plain_behind-there-requires-clause-unquoted
plain_behind-there-requires-clause-unquoted c = lacks c.runs.rest.now c.in-Some.at (omega (arith, c.in-Some.ensures.0.high)) c.in-Some.ensures.0.before

pub runs-preserved : goal.runs-preserved
runs-preserved c =
    let rest = c.runs.rest.now in
    let at = c.in-Some.at in
    let quote : get_or rest at 0 ≡ 34 = eqb-true (get_or rest at 0) 34 c.in-Some.ensures.1 in
    let size = length-drop (at + 1) rest in
    let old = c.runs.invariant.within in
    rw (slice-end rest (at + 1))
    record {
      within = omega arith;
      same = c.runs.invariant.same ∙ stand-run c.args.delimiter c.runs.stand rest at c.in-Some.ensures.0.high quote
          ∙ ap (λ s. stand_after c.args.delimiter (stand_next c.args.delimiter s 34) (drop (at + 1) rest)) (sym c.plain_behind-there.ensures)
          ∙ ap (λ s. stand_after c.args.delimiter s (drop (at + 1) rest)) (sym c.next-stand.ensures);
    }

pub plain_behind-requires-2-clause-unquoted : goal.plain_behind-requires-2-clause-unquoted
plain_behind-requires-2-clause-unquoted c =
    subst (All (λ b. b ≢ 34)) (take_all c.runs.rest.now) (lacks c.runs.rest.now (length c.runs.rest.now) (omega arith) c.in_default.ensures)
