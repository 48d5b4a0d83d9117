use Rattle.std.proofs.Common.{◌∙◌, sym, ap, subst, length}
use Rattle.std.proofs.lemmas.List.{with_items_is}
use Rattle.std.specs.Option.{option_map}
use Rattle.group_machine.specs.Slots.{one_changed, only_of}
use Rattle.group_machine.specs.Steps.{synced_seat}
use Rattle.group_machine.specs.Valid.{IsValidGroup}
use Rattle.group_machine.specs.Private.GroupView.{group_view}
use Rattle.group_machine.proofs.PresentLemmas.{length_reseated}
use Rattle.group_machine.proofs.StepLemmas.{sync_valid, with_slots}
use Rattle.group_machine.proofs.group.Group.mark_synced.Goals as goal

pub returns-clause-valid : goal.returns-clause-valid
returns-clause-valid c =
    let g = group_view c.args.self.now in
    let long = ap length c.mark_synced.ensures ∙ length_reseated (only_of c.args.member (option_map synced_seat)) c.deref_mut.result.now ∙ c.deref_mut.ensures.len in
    let slots = with_items_is c.args.self.now.slots c.mark_synced.new.slots long ∙ c.mark_synced.ensures ∙ ap (λ s. one_changed synced_seat s c.args.member) c.deref_mut.ensures.value in
    subst IsValidGroup (sym (ap (with_slots g) slots)) (sync_valid g c.args.member c.requires.valid)
