use Rattle.std.proofs.Common.{◌≡◌, ◌∙◌, Err, Some, List, map, ap, ap₂, sym, subst, true}
use Rattle.std.specs.Borrow.{Bor}
use Rattle.std.proofs.lemmas.Result.{IfErr-weaker, IfOk-weaker}
use Rattle.clap.specs.Simple.{app_of}
use Rattle.clap.specs.Faults.{fault_of, is_simple_and_free}
use Rattle.clap.specs.Words.{found_of, rows_of}
use Rattle.clap.specs.Walk.{Row, Text}
use Rattle.command_line.specs.CommandLine.{keycount_app}
use Rattle.command_line.specs.Private.CommandLine.{AreRowsOf, ReportsBadOption}
use Rattle.command_line.proofs.Entered.{bad_list_reported, keycount_free, bad_option_is_refusal, matches_are, none_entered, reported, entered_rows}
use Rattle.command_line.proofs.words.read_words.Goals as goal

pub returns-in-Err-clause-usage : goal.returns-in-Err-clause-usage
returns-in-Err-clause-usage c =
    let words = map (λ (w : Bor Text). w.now) c.args.words.now in
    let app : app_of c.in-Ok.command ≡ keycount_app = c.in-Ok.ensures in
    let free : is_simple_and_free (app_of c.in-Ok.command) ≡ true = ap is_simple_and_free app ∙ keycount_free in
    reported words _ c.in-Err.error _ (ap (λ a. fault_of a words) app) c.usage_of.ensures (c.in-Err.ensures.kinds free)

pub returns-in-Err-clause-topics : goal.returns-in-Err-clause-topics
returns-in-Err-clause-topics c =
    bad_list_reported (map (λ (w : Bor Text). w.now) c.args.words.now) (Err c.usage_of.result) tt (returns-in-Err-clause-usage c)

pub unreachable-requires : goal.unreachable-requires
unreachable-requires c =
    let words = map (λ (w : Bor Text). w.now) c.args.words.now in
    let found = c.in-Ok-try_get_matches_from.ensures in
    let job = matches_are c.in-Ok.command words _ c.in-Ok.ensures found.matches found.kinds in
    none_entered _ _ _ job.entered c.in_default-subcommand.ensures.rows

pub job_of-requires : goal.job_of-requires
job_of-requires c =
    let words = map (λ (w : Bor Text). w.now) c.args.words.now in
    let found = c.in-Ok-try_get_matches_from.ensures in
    let job = matches_are c.in-Ok.command words _ c.in-Ok.ensures found.matches found.kinds in
    let entered = entered_rows _ _ _ _ _ job.entered c.in-Some.ensures.name c.in-Some.ensures.rows in
    subst (AreRowsOf c.in-Some.name.now) entered.1 (subst (λ name. AreRowsOf name job.rows) entered.0 job.tested)

pub returns-clause-job : goal.returns-clause-job
returns-clause-job c =
    let words = map (λ (w : Bor Text). w.now) c.args.words.now in
    let found = c.in-Ok-try_get_matches_from.ensures in
    let job = matches_are c.in-Ok.command words _ c.in-Ok.ensures found.matches found.kinds in
    let entered = entered_rows _ _ _ _ _ job.entered c.in-Some.ensures.name c.in-Some.ensures.rows in
    IfOk-weaker c.job_of.result _ _
    (λ r is. record {
      rows = rows_of (found_of c.in-Some.given.now);
      taken = job.taken;
      subcommand = job.subcommand ∙ ap₂ (λ (n : Text) (xs : List Row). Some (n, xs)) (entered.0 ∙ sym is.0) entered.1;
      found = is.1;
    })
    c.job_of.ensures.job

pub returns-clause-usage : goal.returns-clause-usage
returns-clause-usage c =
    let words = map (λ (w : Bor Text). w.now) c.args.words.now in
    let found = c.in-Ok-try_get_matches_from.ensures in
    let job = matches_are c.in-Ok.command words _ c.in-Ok.ensures found.matches found.kinds in
    let entered = entered_rows _ _ _ _ _ job.entered c.in-Some.ensures.name c.in-Some.ensures.rows in
    IfErr-weaker c.job_of.result _ _
    (λ usage reports. bad_option_is_refusal words job.name job.rows usage job.taken job.subcommand (subst (λ rows. ReportsBadOption rows usage) (sym entered.1) reports))
    c.job_of.ensures.fault

pub returns-clause-topics : goal.returns-clause-topics
returns-clause-topics c =
    bad_list_reported (map (λ (w : Bor Text). w.now) c.args.words.now) c.job_of.result (returns-clause-job c) (returns-clause-usage c)
