use Rattle.std.proofs.Common.{arith, subst}
use Rattle.ingest.specs.Counted.{CountsFile}
use Rattle.count_report.proofs.Reported.{refused-fault, refused-kind, refused-reads, reported-source}
use Rattle.count_report.proofs.count.file_report.Goals as goal

pub returns-in_ok-counted_report-in-Ok-None-clause-report : goal.returns-in_ok-counted_report-in-Ok-None-clause-report
returns-in_ok-counted_report-in-Ok-None-clause-report g c =
    let file = subst (CountsFile c.args.options.now _ _ _) c.in-Ok-None.field-0-is c.in-Ok-None.ensures.ok in
    reported-source c.args.options.now _ _ _ file _ (c.in_ok-counted_report-in-Ok-None.ensures _ _ file)

pub returns-in-Ok-Some-clause-fault : goal.returns-in-Ok-Some-clause-fault
returns-in-Ok-Some-clause-fault g c = refused-fault c.args.options.now _ _ _ c.in-Ok-Some.refusal (subst (CountsFile c.args.options.now _ _ _) c.in-Ok-Some.field-0-is c.in-Ok-Some.ensures.ok)

pub returns-in-Ok-Some-clause-kind : goal.returns-in-Ok-Some-clause-kind
returns-in-Ok-Some-clause-kind g c = refused-kind c.args.options.now _ _ _ c.in-Ok-Some.refusal (subst (CountsFile c.args.options.now _ _ _) c.in-Ok-Some.field-0-is c.in-Ok-Some.ensures.ok)

pub returns-in-Ok-Some-clause-reads : goal.returns-in-Ok-Some-clause-reads
returns-in-Ok-Some-clause-reads g c =
    let none = refused-reads c.args.options.now _ _ _ c.in-Ok-Some.refusal (subst (CountsFile c.args.options.now _ _ _) c.in-Ok-Some.field-0-is c.in-Ok-Some.ensures.ok) in
    let reads = c.in-Ok-Some.ensures.reads in
    omega (arith, none, reads)
