use Rattle.std.proofs.Common.{◌≡◌, [], length, rules}
use Rattle.std.proofs.lemmas.List.{nil_from_length}
use Rattle.trace_report.proofs.SetTexts.{all_within}
use Rattle.trace_report.proofs.sets.push_set.Goals as goal

pub returns-then-is_empty : goal.returns-then-is_empty
returns-then-is_empty c =
    let zero : length c.args.topics.now ≡ 0 = search rules in
    let none = nil_from_length c.args.topics.now zero in
    rw none (rw (c.partitions.ensures.value, all_within c.args.set.now) at c.push_within.ensures)
