use Rattle.std.proofs.Common.{◌∙◌, [], ℕ, List, Option, ap, arith, inl, inr, length, refl, subst, sym, true}
use Rattle.csv_ingest.specs.Private.Wanted.{taking}
use Rattle.ingest.specs.Private.Counted.{IsChecking}
use Rattle.ingest.proofs.Checking.{checking-begins, checking-counts, checking-ends, checking-fails, checking-refills, checking-starts, ended-reads, entries-topics}
use Rattle.ingest.proofs.Failures.{file-count, file-reads, read-count, read-device, read-reads, window-kind}
use Rattle.ingest.proofs.counted.count_windows.Goals as goal

pub loop-init : goal.loop-init
loop-init g c = record {
  failures = c.in-Ok.ensures.no_failures;
  coded = refl;
  checking = checking-refills _ _ _ _ _ _ _ _ _ _ _ _ _ _ _ _ (checking-starts _ _ _ _ _ _ _ _ _ _ c.requires.check c.requires.end c.requires.start) c.in-Ok.ensures.window;
}

pub begin_check-requires-clause-topics : goal.begin_check-requires-clause-topics
begin_check-requires-clause-topics g c = entries-topics _ _ _ _ _ _ c.loop.counting c.requires.topics c.loop.invariant.checking.counted

pub returns-in-Err-clause-kind : goal.returns-in-Err-clause-kind
returns-in-Err-clause-kind g c = read-count _ _ c.in-Err.fault c.in-Err.ensures.failures

pub returns-in-Ok-true-clause-ok : goal.returns-in-Ok-true-clause-ok
returns-in-Ok-true-clause-ok g c =
    let layout = c.args.plan.now.layout in
    let round = c.in-Ok-true.ensures.ok in
    let ready = checking-begins _ _ _ _ _ _ _ _ _ _ _ _ c.loop.check c.begin_check.new.check (length c.text-more.result.now) c.loop.invariant.checking (ap length c.text-more.ensures) c.in-Ok-begin_check.ensures in
    let all = round.checks.counts.all c.in-Ok-true.field-0-test in
    let left = ended-reads _ c.count_window.new.windows.at_end _ _ _ _ all.0 round.reads in
    subst (λ (left2 : Option (List ℕ)). IsChecking layout.delimiter (taking layout.wanted.now) layout.header c.args.plan.now.counts.now c.args.plan.now.has_topics true c.args.windows.now.window c.args.windows.now.at_end (g.S.Source.left c.args.source.now) left2 [] c.count_window.new.counting c.count_window.new.check) (sym left)
    (checking-ends _ _ _ _ _ _ _ _ _ _ _ _ _ _ _ _ _ c.requires.topics ready round.checks c.in-Ok-true.field-0-test)

pub loop-preserved : goal.loop-preserved
loop-preserved g c =
    let round = c.in-Ok-false.ensures.ok in
    let ready = checking-begins _ _ _ _ _ _ _ _ _ _ _ _ c.loop.check c.begin_check.new.check (length c.text-more.result.now) c.loop.invariant.checking (ap length c.text-more.ensures) c.in-Ok-begin_check.ensures in
    record {
      failures = c.in-Ok-false.ensures.no_failures ∙ c.loop.invariant.failures;
      coded = c.count_window.ensures.coded ∙ c.loop.invariant.coded;
      checking = checking-refills _ _ _ _ _ _ _ _ _ _ _ _ _ _ _ _ (checking-counts _ _ _ _ _ _ _ _ _ _ _ _ _ _ _ _ _ c.requires.topics ready round.checks) round.reads;
    }

pub returns-in-Err-count_window-clause-err : goal.returns-in-Err-count_window-clause-err
returns-in-Err-count_window-clause-err g c =
    let ready = checking-begins _ _ _ _ _ _ _ _ _ _ _ _ c.loop.check c.begin_check.new.check (length c.text-more.result.now) c.loop.invariant.checking (ap length c.text-more.ensures) c.in-Ok-begin_check.ensures in
    elim c.in-Err-count_window.ensures.err [
      | inl read ↦
          elim (read-device _ _ c.in-Err-count_window.fault read) [
            | inl memory ↦ inl memory
            | inr failed ↦ inr (inl failed)
          ]
      | inr fault ↦
          elim fault.1 [
            | inl memory ↦ inl memory
            | inr bad ↦ inr (inr (checking-fails _ _ _ _ _ _ _ _ _ _ _ _ _ _ ready.checking bad))
          ]
    ]

pub returns-in-Err-count_window-clause-reads : goal.returns-in-Err-count_window-clause-reads
returns-in-Err-count_window-clause-reads g c =
    let before = c.loop.invariant.failures in
    elim c.in-Err-count_window.ensures.err [
      | inl read ↦ let one = read-reads _ _ c.in-Err-count_window.fault read in omega (arith, before, one)
      | inr fault ↦
          let none = file-reads c.in-Err-count_window.fault (window-kind _ _ _ _ _ _ _ _ _ _ _ _ _ c.in-Err-count_window.fault c.loop.invariant.checking fault.1) in
          let same = fault.0 in
          omega (arith, before, same, none)
    ]

pub returns-in-Err-count_window-clause-kind : goal.returns-in-Err-count_window-clause-kind
returns-in-Err-count_window-clause-kind g c =
    elim c.in-Err-count_window.ensures.err [
      | inl read ↦ read-count _ _ c.in-Err-count_window.fault read
      | inr fault ↦ file-count c.in-Err-count_window.fault (window-kind _ _ _ _ _ _ _ _ _ _ _ _ _ c.in-Err-count_window.fault c.loop.invariant.checking fault.1)
    ]
