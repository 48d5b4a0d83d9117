use Rattle.std.proofs.Common.{◌≡◌, ◌∙◌, ap, rules, arith, subst, sym}
use Rattle.std.specs.Vec.{with_item}
use Rattle.keyed_table.specs.Counts.{HaveCounters}
use Rattle.commit_store.specs.Commits.{IsValidStore, Commits, IsExact, committed_at, offset_answer, with_commit}
use Rattle.commit_store.specs.View.{store_view}
use Rattle.commit_store.proofs.Answered.{accepted}
use Rattle.commit_store.proofs.Exact.{commit-exact, have-counters}
use Rattle.commit_store.proofs.Totals.{stays-commits, sums-fit}
use Rattle.commit_store.proofs.store.Store.commit.Goals as goal

pub merge-requires-clause-numbers : goal.merge-requires-clause-numbers
merge-requires-clause-numbers g c =
    let l = g.L.LogRead.contents c.args.logs.now in
    let old = c.args.self.now in
    let ids = c.args.partial.now in
    let answer = c.in_ok-end.ensures.answer ∙ ap (λ m. offset_answer l c.args.p m c.args.from c.ids.result.now) c.committed.ensures ∙ ap (offset_answer l c.args.p (committed_at old c.args.p) c.args.from) c.ids.ensures in
    let taken = accepted old l c.args.p c.args.from c.in_ok-end.end ids answer in
    let logs = c.in_ok-end.ensures.valid in
    let have = have-counters old l c.args.p c.args.from ids logs taken.0 c.requires.counters in
    subst (λ (s : Commits). HaveCounters s.counts ids) (sym c.self.view_is) have

pub merge-requires-clause-sums : goal.merge-requires-clause-sums
merge-requires-clause-sums g c =
    let l = g.L.LogRead.contents c.args.logs.now in
    let old = c.args.self.now in
    let ids = c.args.partial.now in
    let answer = c.in_ok-end.ensures.answer ∙ ap (λ m. offset_answer l c.args.p m c.args.from c.ids.result.now) c.committed.ensures ∙ ap (offset_answer l c.args.p (committed_at old c.args.p) c.args.from) c.ids.ensures in
    let taken = accepted old l c.args.p c.args.from c.in_ok-end.end ids answer in
    let logs = c.in_ok-end.ensures.valid in
    sums-fit (store_view c.self.inside) ids c.self.invariant (omega (arith, taken.0.within, logs.few_records c.args.p))

pub invariant_of-self : goal.invariant_of-self
invariant_of-self g c =
    let l = g.L.LogRead.contents c.args.logs.now in
    let old = c.args.self.now in
    let ids = c.args.partial.now in
    let answer = c.in_ok-end.ensures.answer ∙ ap (λ m. offset_answer l c.args.p m c.args.from c.ids.result.now) c.committed.ensures ∙ ap (offset_answer l c.args.p (committed_at old c.args.p) c.args.from) c.ids.ensures in
    let taken = accepted old l c.args.p c.args.from c.in_ok-end.end ids answer in
    let logs = c.in_ok-end.ensures.valid in
    let have = have-counters old l c.args.p c.args.from ids logs taken.0 c.requires.counters in
    let new : store_view (record { committed = with_item c.self.inside.committed c.args.p c.in_ok-end.end; counts = c.merge.new.self }) ≡ with_commit old c.args.p ids = search rules in
    let valid = subst IsValidStore c.self.view_is c.self.invariant in
    subst IsValidStore (sym new) (stays-commits old c.args.p ids valid c.requires.partition.0 have (omega (arith, taken.0.next, taken.0.within, logs.few_records c.args.p)))

pub returns-clause-valid : goal.returns-clause-valid
returns-clause-valid g c exact =
    let l = g.L.LogRead.contents c.args.logs.now in
    let old = c.args.self.now in
    let ids = c.args.partial.now in
    let answer = c.in_ok-end.ensures.answer ∙ ap (λ m. offset_answer l c.args.p m c.args.from c.ids.result.now) c.committed.ensures ∙ ap (offset_answer l c.args.p (committed_at old c.args.p) c.args.from) c.ids.ensures in
    let taken = accepted old l c.args.p c.args.from c.in_ok-end.end ids answer in
    let logs = c.in_ok-end.ensures.valid in
    let new : store_view (record { committed = with_item c.self.inside.committed c.args.p c.in_ok-end.end; counts = c.merge.new.self }) ≡ with_commit old c.args.p ids = search rules in
    subst (λ (s : Commits). IsExact s l) (sym new) (commit-exact old l c.args.p c.args.from ids logs c.requires.partition.1 c.requires.partition.0 c.requires.counters taken.0 exact)
