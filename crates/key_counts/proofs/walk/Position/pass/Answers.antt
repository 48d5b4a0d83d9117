use Rattle.std.proofs.Common.{◌≡◌, ◌<◌, ◌∙◌, ◌+◌, arith, get_or, length, refl, rules}
use Rattle.std.proofs.lemmas.List.{get_or_default}
use Rattle.key_counts.proofs.Walks.{new-below, number-at, passed-new, passed-old}
use Rattle.key_counts.proofs.walk.Position.pass.Goals as goal
use Rattle.key_counts.proofs.walk.Position.pass.Goals.{then-id-self-via-then-id-self, then-id-self-via-else-id-self+then-id-len}

pub returns-then-self-len : goal.returns-then-self-len
returns-then-self-len c = λ p all counts k key n passes so at was.
    let t = c.args.shared.now in
    let long : c.len.result ≡ length t.ids.items = search rules in
    let there = (number-at p all counts k key n t c.args.self.now passes so at was).0 in
    absurd (omega (arith, long, there, c.if-self-len.true))

pub returns-then-id-self : goal.returns-then-id-self
returns-then-id-self c = λ p all counts k key n passes so at was.
    let t = c.args.shared.now in
    let old = c.args.self.now in
    let id = c.index.result.now in
    let there = (number-at p all counts k key n t old passes so at was).0 in
    let read : id ≡ get_or t.ids.items old.at id = search rules in
    let number : id ≡ get_or t.ids.items old.at 0 = read ∙ get_or_default t.ids.items old.at id 0 there in
    elim c.then-id-self.branch [
      | then-id-self-via-then-id-self w ↦
          passed-old p all counts k key n id t old (record { at = old.at + 1; next = old.next }) passes so at was number w.if-id-self.true refl refl
      | then-id-self-via-else-id-self+then-id-len w ↦
          let long : w.len-else-id-self.result ≡ length t.totals.items = search rules in
          absurd (omega (arith, long, w.if-id-len.true, new-below p all counts k key n id t old passes so at was number))
    ]

pub returns : goal.returns
returns c = λ p all counts k key n passes so at was.
    let t = c.args.shared.now in
    let old = c.args.self.now in
    let id = c.index.result.now in
    let there = (number-at p all counts k key n t old passes so at was).0 in
    let read : id ≡ get_or t.ids.items old.at id = search rules in
    let number : id ≡ get_or t.ids.items old.at 0 = read ∙ get_or_default t.ids.items old.at id 0 there in
    let below : id < length t.totals.items = new-below p all counts k key n id t old passes so at was number in
    let total = c.index-2.result.now in
    let read_total : total ≡ get_or t.totals.items id total = search rules in
    passed-new p all counts k key n id total t old (record { at = old.at + 1; next = old.next + 1 }) passes so at was number c.if-id-self.false
    (read_total ∙ get_or_default t.totals.items id total 0 below) refl refl
