-- What is read while chunks are taken.
use Rattle.std.specs.Prelude.{◌≡◌, ℕ, List, Option, IfErr, IfOk, OnOk}
use Rattle.byte_io.specs.Devices.{IsReadFault}
use Rattle.key_stream.specs.Counting.{Refills}
use Rattle.key_stream.specs.declared.ahead.Ahead.{Ahead}

-- the window was filled from its source, which counted no failure, or this is the read's fault; the
-- source and the window are the same ones
abbrev pub HasReadAhead : {S : Type 0} → (S → Option (List ℕ)) → (S → ℕ) → Ahead S → Ahead S
    → Type 0
HasReadAhead left failures old new =
    IfOk new.read (λ end. Refills old.at_end end (left old.source.now) (left new.source.now)
    old.window.now new.window.now)
    × OnOk new.read (failures new.source.now ≡ failures old.source.now)
    × IfErr new.read (IsReadFault (failures old.source.now) (failures new.source.now))
    × (new.source.ghost_name ≡ old.source.ghost_name)
    × (new.window.ghost_name ≡ old.window.ghost_name)
