use Rattle.std.proofs.Common.{◌≡◌, ◌∙◌, ◌<◌, List, ap, arith, get_or, length, subst, sym, take}
use Rattle.std.proofs.lemmas.List.{get_or-map, length-map, take_all}
use Rattle.std.specs.List.{list_any, sum_by}
use Rattle.key_counts.specs.Counts.{Entries, total_of}
use Rattle.key_stream.proofs.Turns.{counts_of}
use Rattle.key_stream.specs.Rounds.{entries_in}
use Rattle.ingest.specs.Limits.{records_taken}
use Rattle.ingest.specs.Records.{AreOfTopics}
use Rattle.ingest.specs.Private.Limits.{Adds, have_long_keys, no_records}
use Rattle.ingest.proofs.EntryLimits.{adds-worker, begun}
use Rattle.ingest.proofs.limits.LimitCheck.of.Goals as goal

pub add_entries-requires : goal.add_entries-requires
add_entries-requires c =
    let workers = c.args.workers.now in
    let i = c.loop-worker.worker-index in
    let worker = c.worker-item.result in
    let lt : i < length workers = omega arith in
    let is : worker.counter.entries ≡ get_or (entries_in workers) i worker.counter.entries =
    ap counts_of c.worker-item.is ∙ sym (get_or-map counts_of workers i worker worker.counter.entries lt) in
    rw (c.counts.ensures, c.loop-worker.invariant.same_counts, c.loop-worker.invariant.same_topics)
    (subst (λ (e : Entries). AreOfTopics c.args.counts.now (records_taken c.args.has_topics e.keys)) (sym is)
    (c.requires.topics i worker.counter.entries (omega (arith, lt, length-map workers counts_of))))

pub loop-worker-preserved : goal.loop-worker-preserved
loop-worker-preserved c =
    let workers = c.args.workers.now in
    let i = c.loop-worker.worker-index in
    let worker = c.worker-item.result in
    let lt : i < length workers = omega arith in
    let is : worker.counter.entries ≡ get_or (entries_in workers) i worker.counter.entries =
    ap counts_of c.worker-item.is ∙ sym (get_or-map counts_of workers i worker worker.counter.entries lt) in
    adds-worker (no_records c.args.counts.now c.args.has_topics) c.loop-worker.check c.add_entries.new.self (entries_in workers) i worker.counter.entries (omega (arith, lt, length-map workers counts_of))
    is c.loop-worker.invariant (rw c.counts.ensures at c.add_entries.ensures)

pub returns-clause-state : goal.returns-clause-state
returns-clause-state c =
    let workers = entries_in c.args.workers.now in
    let all : take c.loop-worker.worker-index workers ≡ workers = take_all c.loop-worker.worker-index workers (omega (arith, length-map c.args.workers.now counts_of)) in
    λ taken order so few.
    begun c.args.counts.now c.args.has_topics taken order workers c.loop-worker.check
    (subst (λ (ws : List Entries). Adds (no_records c.args.counts.now c.args.has_topics) (λ f. sum_by (total_of f) ws) (list_any (λ w. have_long_keys c.args.has_topics w.keys) ws) c.loop-worker.check) all c.loop-worker.invariant)
    so few
