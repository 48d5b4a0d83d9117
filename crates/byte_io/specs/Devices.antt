-- What reads and writes do to a device.
use Rattle.std.specs.Prelude.{◌≡◌, ◌≤◌, ◌<◌, ◌+◌, ◌-◌, ◌^◌, ℕ, List, length, Option, take}
use Rattle.std.specs.Io.KnownBytes.{Appends}
use Rattle.lane_words.specs.declared.Refusal.{Refusal}
use Rattle.lane_words.specs.declared.Refusal.TheVariants as r

-- the counter of a device's failures has room for one more
abbrev pub CanStillFail : ℕ → Type 0
CanStillFail failures = failures < 2 ^ 64 - 1

-- the known bytes grew by a prefix of these
abbrev pub AppendsPrefix : Option (List ℕ) → Option (List ℕ) → List ℕ → Type 0
AppendsPrefix old new bytes = (n : ℕ) × (n ≤ length bytes) × Appends old new (take n bytes)

-- the fault of a whole read: a read failed, and the device counted it, or an allocation failed, and
-- no read did
abbrev pub IsReadFault : ℕ → ℕ → Refusal → Type 0
IsReadFault before after r.ReadFailed = after ≡ before + 1
IsReadFault before after r.Memory = after ≡ before
IsReadFault before after _ = ⊥
