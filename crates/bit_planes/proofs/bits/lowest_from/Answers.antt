use Rattle.std.proofs.Common.{refl, arith}
use Rattle.bit_planes.proofs.Words.{clear_past, found_first, first_clear, found_in, clear_more, clear_all}
use Rattle.bit_planes.proofs.bits.lowest_from.Goals as goal

pub returns-then-index-words : goal.returns-then-index-words
returns-then-index-words c = clear_past c.args.words.now c.args.from c.if-index-words.true

pub returns-then-rest-ne0 : goal.returns-then-rest-ne0
returns-then-rest-ne0 c = found_first c.args.words.now c.args.from _ c.if-index-words.false refl (c.type_inv.words _).fits (omega arith)

pub loop-i-init : goal.loop-i-init
loop-i-init c = record { not_below = omega arith; before = first_clear c.args.words.now c.args.from _ refl c.if-rest-ne0.false }

pub returns-then-words-i-ne0 : goal.returns-then-words-i-ne0
returns-then-words-i-ne0 c = found_in c.args.words.now c.args.from c.loop-i.i _ (omega arith) refl (omega arith) (c.type_inv.words _).fits c.loop-i.invariant.not_below c.loop-i.invariant.before

pub loop-i-preserved : goal.loop-i-preserved
loop-i-preserved c = record { not_below = omega arith; before = clear_more c.args.words.now c.args.from c.loop-i.i (omega arith) c.loop-i.invariant.before }

pub returns : goal.returns
returns c = clear_all c.args.words.now c.args.from c.loop-i.i (omega arith) c.loop-i.invariant.before
