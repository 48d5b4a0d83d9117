use Rattle.std.proofs.Common.{arith}
use Rattle.key_index.proofs.Padded.{key-of, one-word, padded, three-words, two-words}
use Rattle.key_index.proofs.key_words.KeyWords.of.Goals as goal

pub invariant_of-result : goal.invariant_of-result
invariant_of-result c = padded c.args.key.now _ c.requires (one-word c.args.key.now _ c.if-key-lt8.true c.word_of.ensures)

pub returns-then-key-lt8 : goal.returns-then-key-lt8
returns-then-key-lt8 c = key-of c.args.key.now _ (one-word c.args.key.now _ c.if-key-lt8.true c.word_of.ensures)

pub invariant_of-result-then-key-lt16 : goal.invariant_of-result-then-key-lt16
invariant_of-result-then-key-lt16 c =
    padded c.args.key.now _ c.requires
    (two-words c.args.key.now _ _ c.if-key-lt8.false c.if-key-lt16.true c.word_at-first.ensures c.word_of-then-key-lt16.ensures)

pub returns-then-key-lt16 : goal.returns-then-key-lt16
returns-then-key-lt16 c =
    key-of c.args.key.now _
    (two-words c.args.key.now _ _ c.if-key-lt8.false c.if-key-lt16.true c.word_at-first.ensures c.word_of-then-key-lt16.ensures)

pub invariant_of-result-2 : goal.invariant_of-result-2
invariant_of-result-2 c =
    padded c.args.key.now _ c.requires
    (three-words c.args.key.now _ _ _ c.if-key-lt16.false (omega (arith, c.requires)) c.word_at-first.ensures c.word_at.ensures c.word_of-2.ensures)

pub returns : goal.returns
returns c =
    key-of c.args.key.now _
    (three-words c.args.key.now _ _ _ c.if-key-lt16.false (omega (arith, c.requires)) c.word_at-first.ensures c.word_at.ensures c.word_of-2.ensures)
