-- A world: a cluster, the consumers of all members that ever joined, and the sent commits.
use Rattle.std.specs.Prelude.{ℕ, zero, suc, List, Option, Some, None, slice_get, slice_set}
use Rattle.consumer.specs.Consumer.{ConsumerState}
use Rattle.group_machine.specs.Cluster.{ClusterState, CommitTerms}

-- The consumer of member m stands at index m - 1, and commit k of the mail at index k - 1. The mail
-- only grows: a commit that was delivered may be delivered again
pub record WorldState : Type 0 where
  pub cluster : ClusterState
  pub consumers : List ConsumerState
  pub mail : List CommitTerms

-- the consumer of a member that ever joined
abbrev pub consumer_of : WorldState → ℕ → Option ConsumerState
consumer_of w zero = None
consumer_of w (suc i) = slice_get w.consumers i

-- a commit of the mail
abbrev pub commit_at : WorldState → ℕ → Option CommitTerms
commit_at w zero = None
commit_at w (suc i) = slice_get w.mail i

abbrev pub with_cluster : WorldState → ClusterState → WorldState
with_cluster w cluster = record w { cluster = cluster }

-- the world with this consumer for a member that ever joined
abbrev pub with_consumer : WorldState → ℕ → ConsumerState → WorldState
with_consumer w zero c = w
with_consumer w (suc i) c = record w { consumers = slice_set w.consumers i c }

abbrev pub changed : WorldState → ℕ → (ConsumerState → ConsumerState) → Option ConsumerState
    → WorldState
changed w member f None = w
changed w member f (Some c) = with_consumer w member (f c)

-- the world with a member's consumer changed, if it has one
abbrev pub on_consumer : WorldState → ℕ → (ConsumerState → ConsumerState) → WorldState
on_consumer w member f = changed w member f (consumer_of w member)
