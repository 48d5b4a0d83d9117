use Rattle.std.proofs.Common.{subst}
use Rattle.world.specs.Runs.{AppendsRecords, appended_by}
use Rattle.world.specs.Steps.{NeverFaults}
use Rattle.world.specs.Private.View.{world_view}
use Rattle.world.proofs.Events.{never_faults, valid_after}
use Rattle.world.proofs.Runs.{history_after}
use Rattle.world.proofs.world.World.step.Goals as goal

pub invariant_of-self : goal.invariant_of-self
invariant_of-self c =
    valid_after (world_view c.self.inside.parts) c.args.event c.step.result (world_view c.step.new.self) c.self.invariant c.step.ensures

pub returns-clause-kind : goal.returns-clause-kind
returns-clause-kind c = subst (λ w. NeverFaults w c.args.event) c.self.view_is (never_faults (world_view c.self.inside.parts) c.args.event c.self.invariant)

pub returns-clause-history : goal.returns-clause-history
returns-clause-history c =
    subst (λ w. AppendsRecords (appended_by c.args.event c.step.result) w (world_view c.step.new.self)) c.self.view_is
    (history_after (world_view c.self.inside.parts) c.args.event c.step.result (world_view c.step.new.self) c.self.invariant c.step.ensures)

pub returns-clause-valid : goal.returns-clause-valid
returns-clause-valid c = invariant_of-self c
