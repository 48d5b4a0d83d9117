use Rattle.std.proofs.Common.{◌≡◌, ◌∙◌, ◌<◌, ap, arith, false, get_or, length, sym, take, true}
use Rattle.std.specs.Prelude.{◌||◌, if◌then◌else◌, None, Some}
use Rattle.std.specs.List.{list_any}
use Rattle.std.proofs.lemmas.List.{get_or-map, length-map}
use Rattle.std.proofs.lemmas.List.Folds.{list_any_at, list_any_more}
use Rattle.key_counts.specs.Counts.{Entries}
use Rattle.key_stream.proofs.Turns.{counts_of}
use Rattle.key_stream.specs.Rounds.{entries_in}
use Rattle.lane_words.specs.declared.Refusal.TheVariants as r
use Rattle.ingest.specs.Private.Limits.{have_long_keys}
use Rattle.ingest.proofs.limits.long_fault.Goals as goal

pub returns-then-have_long_keys : goal.returns-then-have_long_keys
returns-then-have_long_keys c =
    let workers = c.args.workers.now in
    let test = λ (w : Entries). have_long_keys c.args.has_topics w.keys in
    let i = c.loop-worker.worker-index in
    let worker = c.worker-item.result in
    let entries = worker.counter.entries in
    let lt : i < length workers = omega arith in
    let is : entries ≡ get_or (entries_in workers) i entries = ap counts_of c.worker-item.is ∙ sym (get_or-map counts_of workers i worker entries lt) in
    let long : test entries ≡ true = ap test (sym c.counts.ensures) ∙ sym c.have_long_keys.ensures ∙ c.if-have_long_keys.true in
    let any : list_any test (entries_in workers) ≡ true = list_any_at test (entries_in workers) i entries (omega (arith, lt, length-map workers counts_of)) (ap test (sym is) ∙ long) in
    sym (ap (λ b. if b then Some r.KeyTooLong else None) any)

pub loop-worker-preserved : goal.loop-worker-preserved
loop-worker-preserved c =
    let workers = c.args.workers.now in
    let test = λ (w : Entries). have_long_keys c.args.has_topics w.keys in
    let i = c.loop-worker.worker-index in
    let worker = c.worker-item.result in
    let entries = worker.counter.entries in
    let lt : i < length workers = omega arith in
    let is : entries ≡ get_or (entries_in workers) i entries = ap counts_of c.worker-item.is ∙ sym (get_or-map counts_of workers i worker entries lt) in
    let short : test entries ≡ false = ap test (sym c.counts.ensures) ∙ sym c.have_long_keys.ensures ∙ c.if-have_long_keys.false in
    list_any_more test (entries_in workers) i entries (omega (arith, lt, length-map workers counts_of)) ∙ ap (λ w. list_any test (take i (entries_in workers)) || test w) (sym is)
    ∙ ap (λ b. b || test entries) c.loop-worker.invariant ∙ short
