-- The consumers of a world with one replaced, or one added.
use Rattle.std.proofs.Common.{◌≡◌, ◌⊎◌, ◌+◌, ℕ, zero, suc, [], ◌∷◌, ◌++◌, Some, length, ap, inl, inr, arith}
use Rattle.consumer.specs.Consumer.{ConsumerState}
use Rattle.world.specs.World.{WorldState, consumer_of}
use Rattle.world.proofs.Lists.{get_push, get_set}
use Rattle.world.proofs.Outcomes.{put}

pub consumer_put : (w : WorldState) (i n : ℕ) (new c : ConsumerState) → consumer_of (put w i new) n ≡ Some c → ((n ≡ suc i) × (c ≡ new)) ⊎ ((n ≡ suc i → ⊥) × (consumer_of w n ≡ Some c))
consumer_put w i zero new c e = absurd (cc e)
consumer_put w i (suc j) new c e =
    elim (get_set w.consumers i j new c e) [
      | inl at ↦ inl (ap suc at.0, at.1)
      | inr other ↦ inr ((λ s. other.0 (omega arith)), other.1)
    ]

pub consumer_more : (w : WorldState) (n : ℕ) (new c : ConsumerState) → consumer_of (record w { consumers = w.consumers ++ new ∷ [] }) n ≡ Some c → ((n ≡ length w.consumers + 1) × (c ≡ new)) ⊎ (consumer_of w n ≡ Some c)
consumer_more w zero new c e = absurd (cc e)
consumer_more w (suc j) new c e =
    elim (get_push w.consumers new c j e) [
      | inl at ↦ inl (omega (arith, at.0), at.1)
      | inr old ↦ inr old
    ]
