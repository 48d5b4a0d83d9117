-- The forms of a call of the consumer behind one handle on the cluster behind another.
use Rattle.std.specs.Prelude.{◌≡◌, ℕ, ◌<◌, ◌≤◌, ◌⊎◌, Option, None, Some, Result, length, IfOk, OnOk, OnErr}
use Rattle.lane_words.specs.Answers.{Answers}
use Rattle.lane_words.specs.Refusal.{code_of}
use Rattle.lane_words.specs.declared.Refusal.{Refusal}
use Rattle.lane_words.specs.declared.Refusal.TheVariants as r
use Rattle.partition_log.specs.Logs.{log_at}
use Rattle.group_machine.specs.Steps.{rejoin_answer, rejoined_by, synced_by}
use Rattle.group_machine.specs.Cluster.{ClusterState, LeaseTerms, cluster_sync_answer, with_group}
use Rattle.consumer.specs.Consumer.{ConsumerState, given_up, leased, poll_answer, polled, position_of}
use Rattle.keycount_c.specs.Answers.{number_of, value_of}
use Rattle.keycount_c.specs.declared.answers.TheConstants.{BAD_ARGUMENT, NO_VALUE}

-- what a call does to both: what it returns, and both afterwards
abbrev pub OnBoth : Type 1
OnBoth = ConsumerState → ClusterState → ℕ → ConsumerState → ClusterState → Type 0

-- such a call, if there are both
abbrev pub IfBoth : OnBoth → Option ConsumerState → Option ClusterState → ℕ → Option ConsumerState
    → Option ClusterState → Type 0
IfBoth does (Some c) (Some s) number after_c after_s =
    (c' : ConsumerState) × (s' : ClusterState) × does c s number c' s'
    × (after_c ≡ Some c') × (after_s ≡ Some s')
IfBoth does None s number after_c after_s = (number ≡ NO_VALUE) × (after_c ≡ None) × (after_s ≡ s)
IfBoth does (Some c) None number after_c after_s =
    (number ≡ NO_VALUE) × (after_c ≡ Some c) × (after_s ≡ None)

-- a call that returns this number, and changes neither
abbrev pub Neither : ℕ → OnBoth
Neither why c s number c' s' = (number ≡ why) × (c' ≡ c) × (s' ≡ s)

-- a call as a member, unless the consumer is out of the group
abbrev pub AsMember : (ℕ → OnBoth) → Option ℕ → OnBoth
AsMember does None = Neither (code_of r.OutOfGroup)
AsMember does (Some member) = does member

-- the member takes its lease
pub record SyncsAs (member : ℕ) (c : ConsumerState) (s : ClusterState) (code : ℕ)
    (c' : ConsumerState) (s' : ClusterState) : Type 0 where
  pub answer : Result LeaseTerms Refusal
  pub answers : Answers (cluster_sync_answer s member) answer
  pub number : code ≡ number_of answer
  pub leased : IfOk answer (λ lease. c' ≡ leased c lease)
  pub synced : OnOk answer (s' ≡ with_group s (synced_by s.group member))
  pub same : OnErr answer (c' ≡ c)
  pub same_cluster : OnErr answer (s' ≡ s)

-- the consumer is over the cluster's partitions
abbrev pub IsOf : ConsumerState → ClusterState → Type 0
IsOf c s = c.partitions ≡ s.group.partitions

abbrev pub Syncs : OnBoth
Syncs c s number c' s' =
    (IsOf c s × AsMember SyncsAs c.member c s number c' s')
    ⊎ ((IsOf c s → ⊥) × Neither BAD_ARGUMENT c s number c' s')

-- the member claims the partitions of its lease, and gives up all others
pub record RejoinsAs (member : ℕ) (c : ConsumerState) (s : ClusterState) (code : ℕ)
    (c' : ConsumerState) (s' : ClusterState) : Type 0 where
  pub answer : Result (Unit {0}) Refusal
  pub answers : Answers (rejoin_answer s.group member c.generation c.assigned) answer
  pub number : code ≡ number_of answer
  pub given_up : OnOk answer (c' ≡ given_up c)
  pub rejoined : OnOk answer (s' ≡ with_group s (rejoined_by s.group member))
  pub same : OnErr answer (c' ≡ c)
  pub same_cluster : OnErr answer (s' ≡ s)

abbrev pub Rejoins : OnBoth
Rejoins c s number c' s' = AsMember RejoinsAs c.member c s number c' s'

-- the same, and it has read no further than the logs go
pub record IsAtWork (c : ConsumerState) (s : ClusterState) : Type 0 where
  pub partitions : IsOf c s
  pub within : (p : ℕ) → p < s.group.partitions → position_of c p ≤ length (log_at s.logs p)

-- it reads some records of a partition: from where, and how many
pub record PollsOf (p n : ℕ) (c : ConsumerState) (s : ClusterState) (out : ℕ × ℕ) (code : ℕ)
    (out' : ℕ × ℕ) (c' : ConsumerState) : Type 0 where
  pub number : code ≡ number_of (poll_answer c s.logs p n)
  pub count : out'.1 ≡ value_of (poll_answer c s.logs p n) out.1
  pub from : OnOk (poll_answer c s.logs p n) (out'.0 ≡ position_of c p)
  pub same_from : OnErr (poll_answer c s.logs p n) (out'.0 ≡ out.0)
  pub polled : OnOk (poll_answer c s.logs p n) (c' ≡ polled c s.logs p n)
  pub same : OnErr (poll_answer c s.logs p n) (c' ≡ c)

abbrev pub PollsOn : ℕ → ℕ → ConsumerState → ClusterState → ℕ × ℕ → ℕ → ℕ × ℕ → ConsumerState
    → Type 0
PollsOn p n c s out number out' c' =
    (IsAtWork c s × PollsOf p n c s out number out' c')
    ⊎ ((IsAtWork c s → ⊥) × (number ≡ BAD_ARGUMENT) × (out' ≡ out) × (c' ≡ c))

-- a poll, if there are both
abbrev pub Polls : ℕ → ℕ → Option ConsumerState → Option ClusterState → ℕ × ℕ → ℕ → ℕ × ℕ
    → Option ConsumerState → Type 0
Polls p n (Some c) (Some s) out number out' after =
    (c' : ConsumerState) × PollsOn p n c s out number out' c' × (after ≡ Some c')
Polls p n None s out number out' after = (number ≡ NO_VALUE) × (out' ≡ out) × (after ≡ None)
Polls p n (Some c) None out number out' after =
    (number ≡ NO_VALUE) × (out' ≡ out) × (after ≡ Some c)
