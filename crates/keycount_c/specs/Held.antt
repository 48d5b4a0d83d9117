-- What a handle is seen as.
use Rattle.std.specs.Prelude.{Option, Some, None, if◌then◌else◌}
use Rattle.group_machine.specs.Cluster.{ClusterState}
use Rattle.consumer.specs.Consumer.{ConsumerState}
use Rattle.keycount_c.specs.declared.cluster.handle.ClusterHandle.{ClusterHandle}
use Rattle.keycount_c.specs.declared.member.handle.ConsumerHandle.{ConsumerHandle}
use Rattle.raw_box.specs.Owned.{is_none_at}

-- the cluster behind a handle, if there is one
abbrev pub cluster_in : ClusterHandle → Option ClusterState
cluster_in h = if is_none_at h.at then None else Some h.state

-- the consumer behind a handle, if there is one
abbrev pub consumer_in : ConsumerHandle → Option ConsumerState
consumer_in h = if is_none_at h.at then None else Some h.state
