use Rattle.std.proofs.Common.{rules, ◌≡◌, ◌∙◌, Err, length, sym, ap, inr}
use Rattle.csv.specs.Records.{fields_of}
use Rattle.csv_ingest.proofs.Keys.{keys_from-lacks, keys_from-other}
use Rattle.csv_ingest.specs.Private.Wanted.{taking}
use Rattle.csv_ingest.proofs.whole.take_record.Goals as goal

pub returns-then-len-width-clause-fault : goal.returns-then-len-width-clause-fault
returns-then-len-width-clause-fault g c = inr (λ rest. keys_from-other (taking c.args.wanted.now) c.args.width c.args.nth _ rest (search rules))

pub returns-in-Err-clause-fault : goal.returns-in-Err-clause-fault
returns-in-Err-clause-fault g c =
    let same : length (fields_of c.args.row.now) ≡ c.args.width = search rules in
    let there : taking c.args.wanted.now (fields_of c.args.row.now) ≡ Err c.in-Err.lack = search rules in
    inr (λ rest. keys_from-lacks (taking c.args.wanted.now) c.args.width c.args.nth _ rest c.in-Err.lack same there ∙ ap Err (sym c.lack_at.ensures))
