use Rattle.coop_rebalance.proofs.Final.{equal_iff}
use Rattle.coop_rebalance.proofs.withholding.is_final.Goals as goal

pub returns-then-has_rows_of-clause-iff : goal.returns-then-has_rows_of-clause-iff
returns-then-has_rows_of-clause-iff c =
    equal_iff c.args.granted.now c.args.assigned.now c.has_rows_of-then-has_rows_of.result c.has_rows_of-then-has_rows_of.ensures.valid c.has_rows_of.ensures.valid c.requires (c.has_rows_of.ensures.rows.0 c.if-has_rows_of.true) c.has_rows_of-then-has_rows_of.ensures.rows
