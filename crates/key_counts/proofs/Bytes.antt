-- Bytes that have the marks of four cells each.
use Rattle.std.proofs.Common.{◌≡◌, ◌≢◌, ◌<◌, ◌+◌, ◌*◌, ◌^◌, ℕ, zero, suc, arith, refl}
use Rattle.std.specs.Prelude.{◌/◌, ◌%◌}
use Rattle.key_counts.specs.declared.filter.TheConstants.{ALL_SEVERAL}

abbrev mark_at : ℕ → ℕ → ℕ
mark_at byte s = byte / 2 ^ (2 * s) % 4

-- a mark is raised: no other changes
first : (byte t : ℕ) → t < 4 → t ≢ 0 → byte / 1 % 4 < 2 → mark_at (byte + 1) t ≡ mark_at byte t
first byte zero lt ne few = absurd (ne refl)
first byte (suc zero) lt ne few = omega arith
first byte (suc (suc zero)) lt ne few = omega arith
first byte (suc (suc (suc zero))) lt ne few = omega arith
first byte (suc (suc (suc (suc t)))) lt ne few = absurd (omega (arith, lt))

second : (byte t : ℕ) → t < 4 → t ≢ 1 → byte / 4 % 4 < 2 → mark_at (byte + 4) t ≡ mark_at byte t
second byte zero lt ne few = omega arith
second byte (suc zero) lt ne few = absurd (ne refl)
second byte (suc (suc zero)) lt ne few = omega arith
second byte (suc (suc (suc zero))) lt ne few = omega arith
second byte (suc (suc (suc (suc t)))) lt ne few = absurd (omega (arith, lt))

third : (byte t : ℕ) → t < 4 → t ≢ 2 → byte / 16 % 4 < 2 → mark_at (byte + 16) t ≡ mark_at byte t
third byte zero lt ne few = omega arith
third byte (suc zero) lt ne few = omega arith
third byte (suc (suc zero)) lt ne few = absurd (ne refl)
third byte (suc (suc (suc zero))) lt ne few = omega arith
third byte (suc (suc (suc (suc t)))) lt ne few = absurd (omega (arith, lt))

fourth : (byte t : ℕ) → t < 4 → t ≢ 3 → mark_at (byte + 64) t ≡ mark_at byte t
fourth byte zero lt ne = omega arith
fourth byte (suc zero) lt ne = omega arith
fourth byte (suc (suc zero)) lt ne = omega arith
fourth byte (suc (suc (suc zero))) lt ne = absurd (ne refl)
fourth byte (suc (suc (suc (suc t)))) lt ne = absurd (omega (arith, lt))

pub others : (byte s t : ℕ) → s < 4 → t < 4 → t ≢ s → mark_at byte s < 2 → mark_at (byte + 1 * 2 ^ (2 * s) % 256) t ≡ mark_at byte t
others byte zero t low lt ne few = first byte t lt ne few
others byte (suc zero) t low lt ne few = second byte t lt ne few
others byte (suc (suc zero)) t low lt ne few = third byte t lt ne few
others byte (suc (suc (suc zero))) t low lt ne few = fourth byte t lt ne
others byte (suc (suc (suc (suc s)))) t low lt ne few = absurd (omega (arith, low))

pub fits : (byte s : ℕ) → s < 4 → byte < 256 → mark_at byte s < 2 → byte + 1 * 2 ^ (2 * s) % 256 < 256
fits byte zero low small few = omega arith
fits byte (suc zero) low small few = omega arith
fits byte (suc (suc zero)) low small few = omega arith
fits byte (suc (suc (suc zero))) low small few = omega arith
fits byte (suc (suc (suc (suc s)))) low small few = absurd (omega (arith, low))

-- a byte with all marks
pub all-several : (s : ℕ) → s < 4 → mark_at ALL_SEVERAL s ≡ 2
all-several zero lt = refl
all-several (suc zero) lt = refl
all-several (suc (suc zero)) lt = refl
all-several (suc (suc (suc zero))) lt = refl
all-several (suc (suc (suc (suc s)))) lt = absurd (omega (arith, lt))
