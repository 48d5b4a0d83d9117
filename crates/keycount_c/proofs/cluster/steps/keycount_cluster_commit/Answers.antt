use Rattle.std.proofs.Common.{inr, refl}
use Rattle.std.specs.Prelude.{Err}
use Rattle.lane_words.specs.declared.Refusal.TheVariants.{Memory}
use Rattle.keycount_c.proofs.cluster.steps.keycount_cluster_commit.Goals as goal

pub returns-in_default-partial_of : goal.returns-in_default-partial_of
returns-in_default-partial_of c =
    rw (c.in-Some.ensures.value, c.put.ensures) (record {
      answer = Err Memory;
      state = c.in-Some.held.value;
      step = record { answers = inr refl; ok = tt; err = refl };
      number = refl;
      output = refl;
      kept = refl;
    })
