-- A world stays valid through every event.
use Rattle.std.proofs.Common.{◌≡◌, ◌⊎◌, ◌∙◌, ◌+◌, ◌-◌, ◌≤◌, ℕ, zero, suc, true, false, List, ◌++◌, Option, Some, None, length, take, drop, refl, sym, ap, subst, inl, inr, arith, length-append, length-drop}
use Rattle.std.specs.Prelude.{slice_get, slice_range}
use Rattle.std.proofs.Math.ListN.{length-set}
use Rattle.std.proofs.lemmas.List.{take-append-le, drop-append-le}
use Rattle.partition_log.specs.Logs.{log_at}
use Rattle.group_machine.specs.State.{is_present}
use Rattle.group_machine.specs.Cluster.{ClusterState, CommitTerms}
use Rattle.consumer.specs.Consumer.{ConsumerState, out_of_group}
use Rattle.consumer.proofs.Changed.{base_out, out_valid, position_out}
use Rattle.world.specs.World.{WorldState, changed, consumer_of, on_consumer, with_cluster}
use Rattle.world.specs.Valid.{IsConsumerOf, IsInStep, IsSent, IsValidWorld}
use Rattle.world.proofs.Clusters.{Leaves}
use Rattle.world.proofs.Groups.{in_step_left}
use Rattle.world.proofs.Lookups.{consumer_put}

range_grown : (xs more : List ℕ) (a b : ℕ) → a ≤ b → b ≤ length xs → slice_range (xs ++ more) a b ≡ slice_range xs a b
range_grown xs more a b le within =
    ap (take (b - a)) (drop-append-le a xs more (omega arith)) ∙ take-append-le (b - a) (drop a xs) more (omega (arith, length-drop a xs))

sent_stays : (s new : ClusterState) (about : ℕ) (c : CommitTerms) → Leaves s new about → IsSent s.logs c → IsSent new.logs c
sent_stays s new about c leaves sent =
    let more = leaves.logs c.partition in
    record {
      some = sent.some;
      within = omega (arith, sent.within, ap length more.1, length-append (log_at s.logs c.partition) more.0);
      same = ap (λ xs. slice_range xs c.from (c.from + length c.ids)) more.1
          ∙ range_grown (log_at s.logs c.partition) more.0 c.from (c.from + length c.ids) (omega arith) sent.within ∙ sent.same;
    }

pub consumer_stays : (s new : ClusterState) (about n : ℕ) (c : ConsumerState) → Leaves s new about → IsConsumerOf s n c → IsConsumerOf new n c
consumer_stays s new about n c leaves was = record {
  valid = was.valid;
  partitions = was.partitions ∙ sym leaves.partitions;
  number = was.number;
  committed = λ p. omega (arith, was.committed p, leaves.committed p);
  within = λ p. let more = leaves.logs p in omega (arith, was.within p, ap length more.1, length-append (log_at s.logs p) more.0);
}

-- what is required of a consumer of a world
pub record IsSoundConsumer (s : ClusterState) (m : ℕ) (c : ConsumerState) : Type 0 where
  pub is_consumer : IsConsumerOf s m c
  pub step : is_present s.group m ≡ true → IsInStep s.group m c

-- a consumer after a step: that of the member which made the step, or another one from before
abbrev pub IsFrom : WorldState → ClusterState → ℕ → ℕ → ConsumerState → Type 0
IsFrom w new m n c = ((n ≡ m) × IsSoundConsumer new m c) ⊎ ((n ≡ m → ⊥) × (consumer_of w n ≡ Some c))

pub stays : (w w2 : WorldState) (m : ℕ) → IsValidWorld w → Leaves w.cluster w2.cluster m → w2.mail ≡ w.mail → length w2.consumers ≡ length w2.cluster.group.slots
    → ((n : ℕ) (c : ConsumerState) → consumer_of w2 n ≡ Some c → IsFrom w w2.cluster m n c) → IsValidWorld w2
stays w w2 m v leaves mail each from = record {
  cluster = leaves.valid;
  a_consumer_each = each;
  consumers = λ n c e. elim (from n c e) [
    | inl about ↦ subst (λ k. IsConsumerOf w2.cluster k c) (sym about.0) about.1.is_consumer
    | inr other ↦ consumer_stays w.cluster w2.cluster m n c leaves (v.consumers n c other.1)
  ];
  present = λ n c here e. elim (from n c e) [
    | inl about ↦ subst (λ k. IsInStep w2.cluster.group k c) (sym about.0) (about.1.step (ap (is_present w2.cluster.group) (sym about.0) ∙ here))
    | inr other ↦
        let left = leaves.others n other.0 here in
        in_step_left w.cluster.group w2.cluster.group n c left (v.present n c (sym left.present ∙ here) other.1)
  ];
  mail = λ i c e. sent_stays w.cluster w2.cluster m c leaves (v.mail i c (ap (λ (xs : List CommitTerms). slice_get xs i) (sym mail) ∙ e));
  few_commits = omega (arith, v.few_commits, ap length mail);
}

on_lookup : (w : WorldState) (m n : ℕ) (f : ConsumerState → ConsumerState) (o : Option ConsumerState) → consumer_of w m ≡ o → (c : ConsumerState) → consumer_of (changed w m f o) n ≡ Some c
    → ((n ≡ m) × (old : ConsumerState) × (consumer_of w m ≡ Some old) × (c ≡ f old)) ⊎ ((n ≡ m → ⊥) × (consumer_of w n ≡ Some c))
on_lookup w m n f None is_consumer c e = inr ((λ same. let none = ap (consumer_of w) same ∙ is_consumer in cc), e)
on_lookup w zero n f (Some old) is_consumer c e = absurd (cc is_consumer)
on_lookup w (suc i) n f (Some old) is_consumer c e =
    elim (consumer_put w i n (f old) c e) [
      | inl at ↦ inl (at.0, old, is_consumer, at.1)
      | inr other ↦ inr other
    ]

on_long : (w : WorldState) (m : ℕ) (f : ConsumerState → ConsumerState) (o : Option ConsumerState) → length (changed w m f o).consumers ≡ length w.consumers
on_long w m f None = refl
on_long w zero f (Some c) = refl
on_long w (suc i) f (Some c) = length-set w.consumers i (f c)

on_mail : (w : WorldState) (m : ℕ) (f : ConsumerState → ConsumerState) (o : Option ConsumerState) → (changed w m f o).mail ≡ w.mail
on_mail w m f None = refl
on_mail w zero f (Some c) = refl
on_mail w (suc i) f (Some c) = refl

pub on_cluster : (w : WorldState) (m : ℕ) (f : ConsumerState → ConsumerState) (o : Option ConsumerState) → (changed w m f o).cluster ≡ w.cluster
on_cluster w m f None = refl
on_cluster w zero f (Some c) = refl
on_cluster w (suc i) f (Some c) = refl

pub both_stay : (w : WorldState) (new : ClusterState) (m : ℕ) (f : ConsumerState → ConsumerState) → IsValidWorld w → Leaves w.cluster new m → length new.group.slots ≡ length w.cluster.group.slots
    → ((c : ConsumerState) → consumer_of w m ≡ Some c → IsSoundConsumer new m (f c)) → IsValidWorld (on_consumer (with_cluster w new) m f)
both_stay w new m f v leaves slots sound =
    let w1 = with_cluster w new in
    let o = consumer_of w1 m in
    let cluster : (changed w1 m f o).cluster ≡ new = on_cluster w1 m f o in
    stays w (changed w1 m f o) m v (subst (λ s. Leaves w.cluster s m) (sym cluster) leaves) (on_mail w1 m f o)
    (on_long w1 m f o ∙ v.a_consumer_each ∙ sym (ap (λ (s : ClusterState). length s.group.slots) cluster ∙ slots))
    (λ n c e. elim (on_lookup w1 m n f o refl c e) [
      | inl at ↦ inl (at.0, subst (λ s. IsSoundConsumer s m c) (sym cluster) (subst (IsSoundConsumer new m) (sym at.3) (sound at.1 (same_lookup m at.1 at.2))))
      | inr other ↦ inr (other.0, same_lookup n c other.1)
    ])
  where
    same_lookup : (k : ℕ) (c : ConsumerState) → consumer_of (with_cluster w new) k ≡ Some c → consumer_of w k ≡ Some c
    same_lookup zero c e = e
    same_lookup (suc i) c e = e

pub out_sound : (s : ClusterState) (m : ℕ) (c : ConsumerState) → IsConsumerOf s m c → is_present s.group m ≡ false → IsSoundConsumer s m (out_of_group c.partitions)
out_sound s m c was gone = record {
  is_consumer = record {
    valid = out_valid c.partitions was.valid.some_partitions was.valid.few_partitions;
    partitions = was.partitions;
    number = λ n none. absurd (cc none);
    committed = λ p. omega (arith, base_out c.partitions p);
    within = λ p. omega (arith, position_out c.partitions p);
  };
  step = λ here. absurd (cc (here, gone));
}
