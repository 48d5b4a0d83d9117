use Rattle.std.proofs.Common.{◌+◌, refl, sym}
use Rattle.std.proofs.lemmas.List.{take_rest}
use Rattle.script.specs.Grammar.{split_word}
use Rattle.script.proofs.words.split_word.Goals as goal

pub returns-in-Some-clause-found : goal.returns-in-Some-clause-found
unfolding split_word
returns-in-Some-clause-found c = rw (sym c.in-Some.ensures, take_rest c.args.text.now (c.in-Some.end + 1)) refl

pub returns-in-None-clause-none : goal.returns-in-None-clause-none
unfolding split_word
returns-in-None-clause-none c = rw (sym c.in-None.ensures) refl
