use Rattle.std.proofs.Common.{true, ◌∙◌, ◌&&◌, List, ap, sym, subst}
use Rattle.std.specs.List.{list_all}
use Rattle.std.specs.Option.{option_map_or}
use Rattle.group_machine.specs.declared.group.Slot.{Slot}
use Rattle.group_machine.specs.Settled.{agrees, all_agree}
use Rattle.group_machine.specs.Private.Walks.{AreSeatsOver}
use Rattle.group_machine.specs.Private.GroupView.{group_view}
use Rattle.group_machine.proofs.TableLemmas.{seats_over, all_present}
use Rattle.group_machine.proofs.group.Group.is_settled.Goals as goal

pub all_agree-requires : goal.all_agree-requires
all_agree-requires c = (c.args.self.now.partitions, subst (λ (slots : List Slot). AreSeatsOver c.args.self.now.partitions slots) (sym c.deref.ensures.value) (seats_over (group_view c.args.self.now) c.requires.consistent))

pub returns-then-is_stable : goal.returns-then-is_stable
returns-then-is_stable c =
    c.all_agree.ensures ∙ ap (λ slots. list_all (λ s. option_map_or agrees s.seat true) slots) c.deref.ensures.value ∙ all_present agrees c.args.self.now.slots.items
    ∙ ap (λ b. b && all_agree (group_view c.args.self.now)) (sym c.if-is_stable.true ∙ c.is_stable.ensures)
