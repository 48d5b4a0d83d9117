use Rattle.std.proofs.Common.{rules, arith}
use Rattle.std.proofs.lemmas.Grind.{common_steps}
use Rattle.key_stream.proofs.settling.next_turn.Goals as goal

pub returns-then-turn-chunk : goal.returns-then-turn-chunk
returns-then-turn-chunk c = grind (arith, common_steps)

pub returns : goal.returns
returns c = search rules
