use Rattle.std.proofs.Common.{inl, inr}
use Rattle.clap.specs.Words.{found_of, rows_of}
use Rattle.command_line.proofs.Entered.{takes_check, takes_count, takes_explain, takes_none, takes_place, takes_script}
use Rattle.command_line.proofs.words.job_of.Goals as goal

pub count_job-requires : goal.count_job-requires
count_job-requires c = takes_count c.args.name.now (rows_of (found_of c.args.given.now)) c.requires c.in-count.is

pub place_job-requires : goal.place_job-requires
place_job-requires c = takes_place c.args.name.now (rows_of (found_of c.args.given.now)) c.requires c.in-place.is

pub check_job-requires : goal.check_job-requires
check_job-requires c = takes_check c.args.name.now (rows_of (found_of c.args.given.now)) c.requires c.in-check.is

pub replay_job-requires : goal.replay_job-requires
replay_job-requires c = takes_script c.args.name.now (rows_of (found_of c.args.given.now)) c.requires (inl c.in-replay.is)

pub trace_job-requires : goal.trace_job-requires
trace_job-requires c = takes_script c.args.name.now (rows_of (found_of c.args.given.now)) c.requires (inr (inl c.in-trace.is))

pub draw_job-requires : goal.draw_job-requires
draw_job-requires c = takes_script c.args.name.now (rows_of (found_of c.args.given.now)) c.requires (inr (inr (inl c.in-draw.is)))

pub run_job-requires : goal.run_job-requires
run_job-requires c = takes_script c.args.name.now (rows_of (found_of c.args.given.now)) c.requires (inr (inr (inr c.in-run.is)))

pub explain_job-requires : goal.explain_job-requires
explain_job-requires c = takes_explain c.args.name.now (rows_of (found_of c.args.given.now)) c.requires c.in-explain.is

pub unreachable-requires : goal.unreachable-requires
unreachable-requires c = takes_none c.args.name.now (rows_of (found_of c.args.given.now)) c.requires c.in_default.not-count c.in_default.not-place c.in_default.not-check c.in_default.not-replay c.in_default.not-trace c.in_default.not-draw c.in_default.not-run c.in_default.not-explain
