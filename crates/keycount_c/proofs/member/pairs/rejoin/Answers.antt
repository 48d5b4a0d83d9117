use Rattle.std.proofs.Common.{ℕ, Option, refl, subst}
use Rattle.std.specs.Prelude.{Ok, Err}
use Rattle.lane_words.specs.Answers.{Answers}
use Rattle.bit_planes.specs.PartitionSet.{PartitionSet}
use Rattle.group_machine.specs.Steps.{rejoin_answer}
use Rattle.keycount_c.specs.Members.{AsMember, RejoinsAs}
use Rattle.keycount_c.proofs.member.pairs.rejoin.Goals as goal

pub returns-in-Ok : goal.returns-in-Ok
returns-in-Ok c = subst (λ (m : Option ℕ). AsMember RejoinsAs m c.args.consumer.now c.args.cluster.now 0 c.give_up.new.self c.rejoin.new.self) c.in-Some.ensures (record {
  answer = Ok tt;
  answers = subst (λ (a : PartitionSet). Answers (rejoin_answer c.args.cluster.now.group c.in-Some.member c.args.consumer.now.generation a) (Ok tt)) c.claim.ensures.value
      (subst (λ (g : ℕ). Answers (rejoin_answer c.args.cluster.now.group c.in-Some.member g c.claim.result) (Ok tt)) c.generation.ensures c.in-Ok.ensures.answer);
  number = refl;
  given_up = c.give_up.ensures;
  rejoined = c.in-Ok.ensures.ok;
  same = tt;
  same_cluster = tt;
})

pub returns-in-Err : goal.returns-in-Err
returns-in-Err c = rw (← c.in-Some.ensures) (record {
  answer = Err c.in-Err.refusal;
  answers = rw (← c.claim.ensures.value, ← c.generation.ensures) c.in-Err.ensures.answer;
  number = c.number_of-in-Err.ensures;
  given_up = tt;
  rejoined = tt;
  same = refl;
  same_cluster = c.in-Err.ensures.err;
})
