use Rattle.std.proofs.Common.{◌+◌, ◌-◌, ◌*◌, ◌/◌, ◌%◌, ◌^◌, ◌∙◌, ap₂, arith, length}
use Rattle.key_index.proofs.Halves.{halves}
use Rattle.key_index.proofs.key_words.word_of_most.Goals as goal

pub returns : goal.returns
returns c =
    let size = length c.args.rest.now in
    let sum = ap₂ (λ first last. first + last / 2 ^ (8 * (8 - size)) * 2 ^ 32 % 2 ^ 64) (c.from-first.ensures ∙ c.half_word_at.ensures) (c.from-last.ensures ∙ c.half_word_at-2.ensures) in
    halves c.args.rest.now _ c.requires.least c.requires.most (λ i. omega (arith, c.type_inv.rest i)) sum
