use Rattle.std.proofs.Common.{◌∙◌, ap, map, subst, vec_items}
use Rattle.std.specs.List.{sum}
use Rattle.partition_log.specs.Logs.{IsValidLogs, PartitionLogs}
use Rattle.partition_log.proofs.EntryTables.{are-tables, filled-taken}
use Rattle.partition_log.proofs.Logs.fill.Goals as goal

pub logs_of_chunks-requires-clause-tables : goal.logs_of_chunks-requires-clause-tables
logs_of_chunks-requires-clause-tables g c κs within =
    let counted = c.count-partitions.ensures.count ∙ ap (λ (l : PartitionLogs). l.partitions) c.self.view_is in
    are-tables c.args.self.now c.args.taken.now c.in_ok-keys.tables c.count-partitions.result (subst IsValidLogs c.self.view_is c.self.invariant) counted c.requires.taken c.requires.topics
    c.in_ok-keys.ensures.places c.in_ok-keys.ensures.numbers

pub invariant_of-self : goal.invariant_of-self
invariant_of-self g c =
    let before : PartitionLogs = record { counts = c.self.inside.partitions; partitions = sum c.self.inside.partitions; keys = c.self.inside.keys; logs = map vec_items c.self.inside.logs.items } in
    let counted = c.count-partitions.ensures.count ∙ ap (λ (l : PartitionLogs). l.partitions) c.self.view_is in
    let valid = subst IsValidLogs c.self.view_is c.self.invariant in
    let done = filled-taken c.args.self.now before c.args.taken.now c.in_ok-keys.tables c.count-partitions.result c.begin_with.new.self (map vec_items c.in_ok-logs.logs.items) c.self.view_is valid c.requires.empty counted
    c.requires.taken c.are_within.ensures c.in_ok-keys.ensures.places c.in_ok-keys.ensures.numbers (c.begin_with.ensures ∙ c.in_ok-keys.ensures.keys) c.in_ok-logs.ensures c.requires.topics c.requires.accepted in
    done.valid

pub returns-clause-ok : goal.returns-clause-ok
returns-clause-ok g c =
    let before : PartitionLogs = record { counts = c.self.inside.partitions; partitions = sum c.self.inside.partitions; keys = c.self.inside.keys; logs = map vec_items c.self.inside.logs.items } in
    let counted = c.count-partitions.ensures.count ∙ ap (λ (l : PartitionLogs). l.partitions) c.self.view_is in
    let valid = subst IsValidLogs c.self.view_is c.self.invariant in
    let done = filled-taken c.args.self.now before c.args.taken.now c.in_ok-keys.tables c.count-partitions.result c.begin_with.new.self (map vec_items c.in_ok-logs.logs.items) c.self.view_is valid c.requires.empty counted
    c.requires.taken c.are_within.ensures c.in_ok-keys.ensures.places c.in_ok-keys.ensures.numbers (c.begin_with.ensures ∙ c.in_ok-keys.ensures.keys) c.in_ok-logs.ensures c.requires.topics c.requires.accepted in
    done.appended

pub returns-clause-history : goal.returns-clause-history
returns-clause-history g c =
    let before : PartitionLogs = record { counts = c.self.inside.partitions; partitions = sum c.self.inside.partitions; keys = c.self.inside.keys; logs = map vec_items c.self.inside.logs.items } in
    let counted = c.count-partitions.ensures.count ∙ ap (λ (l : PartitionLogs). l.partitions) c.self.view_is in
    let valid = subst IsValidLogs c.self.view_is c.self.invariant in
    let done = filled-taken c.args.self.now before c.args.taken.now c.in_ok-keys.tables c.count-partitions.result c.begin_with.new.self (map vec_items c.in_ok-logs.logs.items) c.self.view_is valid c.requires.empty counted
    c.requires.taken c.are_within.ensures c.in_ok-keys.ensures.places c.in_ok-keys.ensures.numbers (c.begin_with.ensures ∙ c.in_ok-keys.ensures.keys) c.in_ok-logs.ensures c.requires.topics c.requires.accepted in
    done.history

pub returns-clause-valid : goal.returns-clause-valid
returns-clause-valid g c =
    let before : PartitionLogs = record { counts = c.self.inside.partitions; partitions = sum c.self.inside.partitions; keys = c.self.inside.keys; logs = map vec_items c.self.inside.logs.items } in
    let counted = c.count-partitions.ensures.count ∙ ap (λ (l : PartitionLogs). l.partitions) c.self.view_is in
    let valid = subst IsValidLogs c.self.view_is c.self.invariant in
    let done = filled-taken c.args.self.now before c.args.taken.now c.in_ok-keys.tables c.count-partitions.result c.begin_with.new.self (map vec_items c.in_ok-logs.logs.items) c.self.view_is valid c.requires.empty counted
    c.requires.taken c.are_within.ensures c.in_ok-keys.ensures.places c.in_ok-keys.ensures.numbers (c.begin_with.ensures ∙ c.in_ok-keys.ensures.keys) c.in_ok-logs.ensures c.requires.topics c.requires.accepted in
    done.valid
