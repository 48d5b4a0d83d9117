use Rattle.std.proofs.Common.{ap}
use Rattle.bit_planes.specs.SetRows.{SetRows}
use Rattle.bit_planes.proofs.Indices.{puts_there, puts_between, puts_last}
use Rattle.bit_planes.proofs.rows.PlaneRows.put.Goals as goal

pub invariant_of-self-in-Ok : goal.invariant_of-self-in-Ok
invariant_of-self-in-Ok c = (puts_there _ c.args.self.now c.args.member c.in-Ok.index c.args.plane c.self.view_is c.self.invariant c.requires c.in-Ok.ensures.found).valid

pub returns-in-Ok : goal.returns-in-Ok
returns-in-Ok c =
    let put = puts_there _ c.args.self.now c.args.member c.in-Ok.index c.args.plane c.self.view_is c.self.invariant c.requires c.in-Ok.ensures.found in
    record { value = put.value; row = put.this; others = put.others; err = tt; partitions = ap (λ (r : SetRows). r.partitions) put.value; valid = put.valid }

pub invariant_of-self-in-Err : goal.invariant_of-self-in-Err
invariant_of-self-in-Err c = (puts_between _ c.args.self.now c.insert.new.self.items c.args.member c.in-Err.index c.args.plane c.self.view_is c.self.invariant c.requires c.in-Err.ensures.absent c.in_ok-insert-in-Err.ensures.items).valid

pub returns-in_ok-insert-in-Err : goal.returns-in_ok-insert-in-Err
returns-in_ok-insert-in-Err c =
    let put = puts_between _ c.args.self.now c.insert.new.self.items c.args.member c.in-Err.index c.args.plane c.self.view_is c.self.invariant c.requires c.in-Err.ensures.absent c.in_ok-insert-in-Err.ensures.items in
    record { value = put.value; row = put.this; others = put.others; err = tt; partitions = ap (λ (r : SetRows). r.partitions) put.value; valid = put.valid }

pub invariant_of-self-then-is_above_all : goal.invariant_of-self-then-is_above_all
invariant_of-self-then-is_above_all c = (puts_last _ c.args.self.now c.push.new.self.items c.args.member c.args.plane c.self.view_is c.self.invariant c.requires (c.is_above_all.ensures c.if-is_above_all.true) c.in_ok-push.ensures.items).valid

pub returns-then-is_above_all : goal.returns-then-is_above_all
returns-then-is_above_all c =
    let put = puts_last _ c.args.self.now c.push.new.self.items c.args.member c.args.plane c.self.view_is c.self.invariant c.requires (c.is_above_all.ensures c.if-is_above_all.true) c.in_ok-push.ensures.items in
    record { value = put.value; row = put.this; others = put.others; err = tt; partitions = ap (λ (r : SetRows). r.partitions) put.value; valid = put.valid }
