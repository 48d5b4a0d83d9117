use Rattle.group_laws.proofs.TakeOverLemmas.{take_over_hands}
use Rattle.group_laws.proofs.laws.take_over_moves_the_seat.Goals as goal

pub returns : goal.returns
returns c g name a = take_over_hands g name a.member a.number a.from a.accepted
