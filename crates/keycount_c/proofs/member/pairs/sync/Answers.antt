use Rattle.std.proofs.Common.{◌≡◌, ℕ, Option, arith, inl, refl, subst}
use Rattle.std.specs.Prelude.{Ok, Err}
use Rattle.keycount_c.specs.Members.{AsMember, SyncsAs}
use Rattle.keycount_c.proofs.member.pairs.sync.Goals as goal

pub returns-in-Ok : goal.returns-in-Ok
returns-in-Ok c =
    let same : c.args.consumer.now.partitions ≡ c.args.cluster.now.group.partitions = omega (arith, c.partitions.ensures.value, c.partitions-2.ensures.count, c.if-partitions.false) in
    inl (
      same,
      subst (λ (m : Option ℕ). AsMember SyncsAs m c.args.consumer.now c.args.cluster.now 0 c.take_lease.new.self c.sync.new.self) c.in-Some.ensures (record {
        answer = Ok c.in-Ok.lease;
        answers = c.in-Ok.ensures.answer;
        number = refl;
        leased = c.take_lease.ensures;
        synced = c.in-Ok.ensures.ok;
        same = tt;
        same_cluster = tt;
      }),
    )

pub returns-in-Err : goal.returns-in-Err
returns-in-Err c =
    let same : c.args.consumer.now.partitions ≡ c.args.cluster.now.group.partitions = omega (arith, c.partitions.ensures.value, c.partitions-2.ensures.count, c.if-partitions.false) in
    inl (
      same,
      rw (← c.in-Some.ensures) (record {
        answer = Err c.in-Err.refusal;
        answers = c.in-Err.ensures.answer;
        number = c.number_of-in-Err.ensures;
        leased = tt;
        synced = tt;
        same = refl;
        same_cluster = c.in-Err.ensures.err;
      }),
    )
