-- How an explanation can fail.
use Rattle.std.specs.Prelude.{⊤}
use Rattle.lane_words.specs.declared.Refusal.{Refusal}
use Rattle.lane_words.specs.declared.Refusal.TheVariants as r

-- a failed write, or out of memory
abbrev pub IsWriteOrMemory : Refusal → Type 0
IsWriteOrMemory r.WriteFailed = ⊤
IsWriteOrMemory r.Memory = ⊤
IsWriteOrMemory fault = ⊥
