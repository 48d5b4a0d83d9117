use Rattle.std.proofs.Common.{◌≡◌, ◌∙◌, ◌<◌, [], ◌∷◌, ◌++◌, map, arith, rules, sym, subst, length, vec_items}
use Rattle.std.specs.List.{sum}
use Rattle.std.proofs.lemmas.List.{length-map}
use Rattle.partition_log.specs.Logs.{AreLogsOf, IsOfTopic, IsPlaceOf, PartitionLogs, place_in}
use Rattle.partition_log.proofs.History.{history-at}
use Rattle.partition_log.proofs.Valid.{goes-below, grown}
use Rattle.partition_log.proofs.Logs.append_at.Goals as goal

pub append_id-requires : goal.append_id-requires
append_id-requires c =
    let before : PartitionLogs = record { counts = c.self.inside.partitions; partitions = sum c.self.inside.partitions; keys = c.self.inside.keys; logs = map vec_items c.self.inside.logs.items } in
    let goes = subst (λ (l : PartitionLogs). IsPlaceOf l c.args.key.now c.args.place) (sym c.self.view_is) c.requires in
    let below = goes-below before c.args.key.now c.args.place c.self.invariant goes in
    let as_many = sym (length-map c.self.inside.logs.items vec_items) ∙ c.self.invariant.a_log_each in
    let within : c.args.place < length c.self.inside.logs.items = omega (arith, below, as_many) in
    search rules

pub invariant_of-self-2 : goal.invariant_of-self-2
invariant_of-self-2 c =
    let before : PartitionLogs = record { counts = c.self.inside.partitions; partitions = sum c.self.inside.partitions; keys = c.self.inside.keys; logs = map vec_items c.self.inside.logs.items } in
    let goes = subst (λ (l : PartitionLogs). IsPlaceOf l c.args.key.now c.args.place) (sym c.self.view_is) c.requires in
    (grown before c.args.key.now c.args.place c.in_ok-offset.offset _ _ c.self.invariant goes c.if-key-gt-LONGEST_KEY.false c.in_ok-offset.ensures.keys c.in_ok-offset.ensures.logs
    c.in_ok-offset.ensures.answer).1

pub returns-clause-valid : goal.returns-clause-valid
returns-clause-valid c =
    let before : PartitionLogs = record { counts = c.self.inside.partitions; partitions = sum c.self.inside.partitions; keys = c.self.inside.keys; logs = map vec_items c.self.inside.logs.items } in
    let goes = subst (λ (l : PartitionLogs). IsPlaceOf l c.args.key.now c.args.place) (sym c.self.view_is) c.requires in
    (grown before c.args.key.now c.args.place c.in_ok-offset.offset _ _ c.self.invariant goes c.if-key-gt-LONGEST_KEY.false c.in_ok-offset.ensures.keys c.in_ok-offset.ensures.logs
    c.in_ok-offset.ensures.answer).1

pub returns-clause-history : goal.returns-clause-history
returns-clause-history c topic is_of there appended h =
    let before : PartitionLogs = record { counts = c.self.inside.partitions; partitions = sum c.self.inside.partitions; keys = c.self.inside.keys; logs = map vec_items c.self.inside.logs.items } in
    let key = c.args.key.now in
    let goes = subst (λ (l : PartitionLogs). IsPlaceOf l key c.args.place) (sym c.self.view_is) c.requires in
    let same = (grown before key c.args.place c.in_ok-offset.offset _ _ c.self.invariant goes c.if-key-gt-LONGEST_KEY.false c.in_ok-offset.ensures.keys c.in_ok-offset.ensures.logs
    c.in_ok-offset.ensures.answer).0 in
    let those = subst (λ (l : PartitionLogs). AreLogsOf appended l) (sym c.self.view_is) h in
    subst (λ (l : PartitionLogs). AreLogsOf (appended ++ (topic, key) ∷ []) l) (sym same)
    (history-at before c.args.place topic key appended c.self.invariant those (subst (λ (l : PartitionLogs). IsOfTopic l (topic, key)) (sym c.self.view_is) is_of)
    (subst (λ (l : PartitionLogs). place_in l (topic, key) ≡ c.args.place) (sym c.self.view_is) there))

pub returns-clause-answer : goal.returns-clause-answer
returns-clause-answer c = search rules
