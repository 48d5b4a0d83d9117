use Rattle.std.proofs.Common.{rules, ◌∷◌, [], Ok, arith}
use Rattle.csv_ingest.proofs.Keys.{first_keys, first_keys_fault}
use Rattle.csv_ingest.specs.Private.Wanted.{taking}
use Rattle.csv_ingest.proofs.whole.take_all.Goals as goal

pub returns-in_err-rest-clause-keys : goal.returns-in_err-rest-clause-keys
returns-in_err-rest-clause-keys g c =
    let next = rw c.if-not-found.false at c.in-Ok.ensures.reads in
    let taken = c.in_ok-take_record.ensures.ok in
    let fault = first_keys_fault (taking c.args.wanted.now) c.args.header _ _ _ _ taken.key c.in_err-rest.field-0.0 c.if-header.false next.1 taken.long taken.taken c.in_err-rest.ensures.keys in
    search rules

pub returns-clause-keys : goal.returns-clause-keys
returns-clause-keys g c =
    let next = rw c.if-not-found.false at c.in-Ok.ensures.reads in
    let taken = c.in_ok-take_record.ensures.ok in
    let rest = c.in_ok-rest.ensures.keys in (
      taken.key ∷ rest.0,
      first_keys (taking c.args.wanted.now) c.args.header _ _ _ _ taken.key (Ok rest.0) c.if-header.false next.1 taken.long taken.taken rest.1,
      omega (arith, rest.2),
      g.met.K.KeySink.takes_more c.args.keys.now c.take_record.new.keys c.take_rest-2.new.keys (taken.key ∷ []) rest.0 taken.took rest.3,
    )
