-- The view of a cluster's fields.
use Rattle.group_machine.specs.Cluster.{ClusterState, IsValidCluster, without_capacity}
use Rattle.group_machine.specs.Private.GroupView.{group_view}
use Rattle.group_machine.specs.declared.cluster.Cluster.TheInside.{Inside}

abbrev pub cluster_view : Inside → ClusterState
cluster_view a =
    record { group = group_view a.group; logs = a.logs; store = without_capacity a.store }

abbrev pub IsValidClusterInside : Inside → Type 0
IsValidClusterInside a = IsValidCluster (cluster_view a)
