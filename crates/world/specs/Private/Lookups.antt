-- Lookups by a number that counts from 1.
use Rattle.std.specs.Prelude.{◌≡◌, ◌⊎◌, ℕ, suc, ◌<◌, Option, Some, None, length, slice_get, MatchOption, is_none, false}
use Rattle.lane_words.specs.declared.Refusal.{Refusal}
use Rattle.lane_words.specs.declared.Refusal.TheVariants as r
use Rattle.consumer.specs.Consumer.{ConsumerState}
use Rattle.world.specs.World.{WorldState, consumer_of}

-- the index of item number n of `count` items, if there is one
abbrev pub IsIndexOf : ℕ → ℕ → Option ℕ → Type 0
IsIndexOf n count index = MatchOption index ((n ≡ 0) ⊎ (count < n)) (λ i. (n ≡ suc i) × (i < count))

-- a consumer that can make requests, by its index
pub record IsAsking (w : WorldState) (m i : ℕ) : Type 0 where
  pub number : m ≡ suc i
  pub below : i < length w.consumers
  pub present : (c : ConsumerState) → slice_get w.consumers i ≡ Some c → is_none c.member ≡ false

abbrev pub is_refusal_of : Option ConsumerState → Refusal
is_refusal_of None = r.UnknownMember
is_refusal_of (Some c) = r.OutOfGroup

-- why a consumer cannot make requests: there is none for the number, or it is out
pub record IsNotAsking (w : WorldState) (m : ℕ) (why : Refusal) : Type 0 where
  pub replied : why ≡ is_refusal_of (consumer_of w m)
  pub out : (c : ConsumerState) → consumer_of w m ≡ Some c → c.member ≡ None
