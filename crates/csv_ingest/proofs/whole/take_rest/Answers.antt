use Rattle.std.proofs.Common.{rules, ◌∙◌, ◌++◌, ◌∷◌, [], arith, length-append}
use Rattle.csv_ingest.proofs.Keys.{after_keys-ok, fault_after, key_behind_keys, keys_from-nil}
use Rattle.csv_ingest.specs.Private.Wanted.{taking}
use Rattle.csv_ingest.proofs.whole.take_rest.Goals as goal

pub returns-then-not-found-clause-keys : goal.returns-then-not-found-clause-keys
returns-then-not-found-clause-keys g c =
    let none = rw c.if-not-found.true at c.in-Ok.ensures.reads in
    let so = c.loop-nth.invariant.left in
    (so.0, so.3 ∙ rw (none, keys_from-nil) (after_keys-ok so.0), omega (arith, so.1), so.2)

pub returns-in_err-take_record-clause-keys : goal.returns-in_err-take_record-clause-keys
returns-in_err-take_record-clause-keys g c =
    let next = rw c.if-not-found.false at c.in-Ok.ensures.reads in
    let so = c.loop-nth.invariant.left in
    let fault = fault_after so.0 _ _ (taking c.args.wanted.now) c.args.width c.loop-nth.nth _ _ c.in_err-take_record.field-0.0 so.3 next.1 c.in_err-take_record.ensures.fault in
    search rules

pub loop-nth-preserved : goal.loop-nth-preserved
loop-nth-preserved g c =
    let next = rw c.if-not-found.false at c.in-Ok.ensures.reads in
    let so = c.loop-nth.invariant.left in
    let taken = c.in_ok-take_record.ensures.ok in
    let key = taken.key in
    record {
      reads = next.0;
      left = (
        so.0 ++ key ∷ [],
        omega (arith, so.1, length-append so.0 (key ∷ [])),
        g.met.K.KeySink.takes_more c.args.keys.now c.loop-nth.keys c.take_record.new.keys so.0 (key ∷ []) so.2 taken.took,
        key_behind_keys so.0 _ _ (taking c.args.wanted.now) c.args.width c.loop-nth.nth _ _ key so.3 next.1 taken.long taken.taken,
      );
    }
