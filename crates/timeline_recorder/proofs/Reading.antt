-- Whoever holds a partition reads it.
use Rattle.std.proofs.Common.{◌≡◌, ◌∙◌, ◌+◌, ℕ, zero, suc, Bool, true, false, Option, Some, None, refl, sym, ap, arith}
use Rattle.std.specs.Prelude.{slice_get}
use Rattle.std.specs.Option.{option_map_or}
use Rattle.bit_planes.specs.PartitionSet.{is_in}
use Rattle.consumer.specs.Consumer.{ConsumerState, is_held}
use Rattle.group_machine.specs.State.{GroupState, granted_of, is_present, owner_of}
use Rattle.group_machine.specs.Slots.{seat_in}
use Rattle.group_machine.specs.Valid.{IsDisjoint}
use Rattle.group_machine.specs.declared.group.Seat.{Seat}
use Rattle.timeline.specs.declared.parts.Holder.{Holder}
use Rattle.timeline.specs.declared.parts.Holder.TheVariants as holder
use Rattle.timeline_recorder.specs.Courses.{granted_or_read, holder_in, is_held_by}
use Rattle.timeline_recorder.proofs.Owners.{owner_from}
use Rattle.world.specs.Valid.{IsValidWorld}
use Rattle.world.specs.World.{WorldState, consumer_of}

owner_seated : (g : GroupState) (k p : ℕ) (seat : Option Seat) → seat_in (slice_get g.slots k) ≡ seat → IsDisjoint g → is_present g (suc k) ≡ true → is_in (granted_of g (suc k)) p ≡ true → owner_of g p ≡ Some (suc k)
owner_seated g k p None is alone present given = absurd (cc)
owner_seated g k p (Some seat) is alone present given =
    let here : is_in seat.granted p ≡ true = rw is at given in
    owner_from 1 g.slots p k seat is here (λ i other e h.
    let there : is_in (granted_of g (suc i)) p ≡ true = rw e h in
    let same : suc i ≡ suc k = alone (suc i) (suc k) p there given in
    omega arith)
    ∙ ap (λ (n : ℕ). let o : Option ℕ = Some n in o) (omega arith)

owner_is : (g : GroupState) (m p : ℕ) → IsDisjoint g → is_present g m ≡ true → is_in (granted_of g m) p ≡ true → owner_of g p ≡ Some m
owner_is g zero p alone present given = absurd (cc)
owner_is g (suc k) p alone present given = owner_seated g k p (seat_in (slice_get g.slots k)) refl alone present given

held_granted : (w : WorldState) (m p : ℕ) (c : Option ConsumerState) → consumer_of w m ≡ c → IsValidWorld w → is_present w.cluster.group m ≡ true → option_map_or (λ x. is_held x p) c false ≡ true → is_in (granted_of w.cluster.group m) p ≡ true
held_granted w m p None is v present held = absurd (cc)
held_granted w m p (Some c) is v present held = (v.present m c present is).granted p held

pub reads_it : (w : WorldState) (m p : ℕ) → IsValidWorld w → is_present w.cluster.group m ≡ true → is_held_by w m p ≡ true → holder_in w p ≡ holder.Reading m
unfolding holder_in
reads_it w m p v present held =
    let given = held_granted w m p (consumer_of w m) refl v present held in
    let owned = owner_is w.cluster.group m p v.cluster.group.disjoint present given in
    let read : granted_or_read w p (Some m) ≡ holder.Reading m = rw held refl in
    ap (granted_or_read w p) owned ∙ read
