-- What an accepted commit implies.
use Rattle.std.proofs.Common.{◌≡◌, ◌+◌, ◌<◌, ◌≤◌, ℕ, Bool, true, false, List, Ok, Err, length, refl, arith, inl, inr}
use Rattle.std.specs.Prelude.{◌==◌, nat_lt, not, if◌then◌else◌}
use Rattle.std.specs.Str.{bytes_eq}
use Rattle.std.proofs.lemmas.Bool.{cases_lt, lt-ltb}
use Rattle.std.proofs.lemmas.Bool.Decides.{eqb_tells}
use Rattle.std.proofs.lemmas.Slice.Eq.{bytes_eq-Decides}
use Rattle.lane_words.specs.declared.Refusal.TheVariants as r
use Rattle.commit_store.specs.Commits.{Commits, Fits, PartitionLogs, commit_answer, committed_at, log_at, records_between}

-- the four tests of a commit that is accepted
pub record Passes (none next past same : Bool) (offset end : ℕ) : Type 0 where
  pub some : none ≡ false
  pub from_there : next ≡ true
  pub inside : past ≡ false
  pub as_logged : same ≡ true
  pub answer : end ≡ offset

passes : (none next past same : Bool) (committed offset end : ℕ)
    → Ok end ≡ (if none then Err r.EmptyCommit else if not next then Err (r.OffsetMismatch committed) else if past then Err r.PastEnd else if not same then Err r.WrongRecords else Ok offset)
    → Passes none next past same offset end
passes true next past same committed offset end e = absurd (cc e)
passes false false past same committed offset end e = absurd (cc e)
passes false true true same committed offset end e = absurd (cc e)
passes false true false false committed offset end e = absurd (cc e)
passes false true false true committed offset end e = record { some = refl; from_there = refl; inside = refl; as_logged = refl; answer = cc e }

not_none : (n : ℕ) → (n == 0) ≡ false → 0 < n
not_none n e =
    elim (cases_lt 0 n) [
      | inl lt ↦ lt
      | inr le ↦ elim (eqb_tells n 0) [
        | inl t ↦ absurd (cc (t.0, e))
        | inr f ↦ absurd (f.1 (omega (arith, le)))
      ]
    ]

is_next : (m n : ℕ) → (m == n) ≡ true → m ≡ n
is_next m n e =
    elim (eqb_tells m n) [
      | inl t ↦ t.1
      | inr f ↦ absurd (cc (f.0, e))
    ]

not_past : (m n : ℕ) → nat_lt m n ≡ false → n ≤ m
not_past m n e =
    elim (cases_lt m n) [
      | inl lt ↦ absurd (let t = lt-ltb m n lt in cc (t, e))
      | inr le ↦ le
    ]

-- an accepted commit fits, and answers the offset past its records
pub accepted : (s : Commits) (l : PartitionLogs) (p from end : ℕ) (ids : List ℕ) → Ok end ≡ commit_answer s l p from ids → Fits s l p from ids × (end ≡ from + length ids)
accepted s l p from end ids e =
    let tests = passes (length ids == 0) (from == committed_at s p) (nat_lt (length (log_at l p)) (from + length ids)) (bytes_eq (records_between l p from (from + length ids)) ids) (committed_at s p) (from + length ids) end e in (
      record {
        some = not_none (length ids) tests.some;
        next = is_next from (committed_at s p) tests.from_there;
        within = not_past (length (log_at l p)) (from + length ids) tests.inside;
        same = (bytes_eq-Decides (records_between l p from (from + length ids)) ids).0 tests.as_logged;
      },
      tests.answer,
    )
