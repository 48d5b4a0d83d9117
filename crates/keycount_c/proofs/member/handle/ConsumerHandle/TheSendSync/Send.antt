-- A handle goes to another thread as the group behind it does, and its block may be freed there.
use denote.Struct.Struct.{exits_of}
use denote.Struct.Owning.{shape, fields, to}
use denote.Param.Send.{IsSend, AllSend, owning_send, struct_send, sendable}
use Rattle.std.proofs.alloc.Global.TheSendSync as heap
use Rattle.consumer.specs.contracts.Consumer.{the_row as R}
use Rattle.consumer.proofs.Consumer.TheSendSync.{the_send as group}
use Rattle.raw_box.proofs.Sent.{owned_keyless, quiet}
use Rattle.keycount_c.specs.contracts.member.handle.ConsumerHandle.{the_row, the_type}

pub send : IsSend the_row
send =
    let all : AllSend (fields the_type) = (search sendable, (heap.the_field_send, tt)) in
    owning_send the_type all (λ d. owned_keyless R group d.alloc d.at d.state) (λ k. quiet (to the_type) (exits_of k (fields the_type)) ((struct_send (shape the_type) all).leaving k))
