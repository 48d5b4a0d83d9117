use Rattle.std.proofs.Common.{rules, suc, ◌<◌, ◌≡◌, ◌∙◌, ℕ, [], length, ap, sym, arith}
use Rattle.bit_planes.proofs.Listed.{elements-next, elements-over}
use Rattle.bit_planes.proofs.elements.ElementsIterator.next.Goals as goal

gone : {m n : ℕ} → m ≡ suc n → n < m
gone e = omega (arith, e)

pub overflow_add-self : goal.overflow_add-self
overflow_add-self c = record { fits = omega (arith, c.in_ok-q.ensures.bound) }

pub returns-in_err-q-clause-steps : goal.returns-in_err-q-clause-steps
returns-in_err-q-clause-steps c =
    let over : c.args.self.now ≡ [] = sym c.self.view_is ∙ elements-over c.self.inside.plane.now c.self.inside.from c.in_err-q.ensures.value in
    rw c.from_residual.ensures (over, over)

pub returns-clause-steps : goal.returns-clause-steps
returns-clause-steps c = sym c.self.view_is ∙ elements-next _ c.self.inside.from c.in_ok-q.q c.in_ok-q.ensures.value

pub returns-clause-goes : goal.returns-clause-goes
returns-clause-goes c =
    let steps = returns-clause-steps c in
    let shorter = gone (ap length steps) in
    search rules
