use Rattle.std.proofs.Common.{◌∙◌, refl, inl, subst}
use Rattle.std.specs.Prelude.{Err}
use Rattle.lane_words.specs.Answers.{Answers}
use Rattle.group_machine.specs.Steps.{join_answer}
use Rattle.group_machine.specs.Cluster.{ClusterState}
use Rattle.keycount_c.proofs.Leased.{named}
use Rattle.keycount_c.proofs.cluster.steps.keycount_cluster_join_kept.Goals as goal

pub returns-in-Err : goal.returns-in-Err
returns-in-Err c =
    let is = named c.args.name.now c.in-Some-new.name c.in-Some-new.ensures in
    rw (c.in-Some.ensures.value, c.put-2.ensures) (inl (
      is.0,
      record {
        answer = Err c.in-Err.refusal;
        state = c.join_kept-answer.new.self;
        step = rw (← is.1) (record {
          answers = subst (λ (s : ClusterState). Answers (join_answer s.group c.in-Some-new.name) (Err c.in-Err.refusal)) c.deref_mut.ensures.value c.in-Err.ensures.answer;
          ok = tt;
          err = c.in-Err.ensures.err ∙ c.deref_mut.ensures.value;
        });
        number = c.number_of.ensures;
        output = refl;
        kept = refl;
      },
    ))
