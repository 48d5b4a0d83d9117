use Rattle.std.proofs.Common.{arith, rules, w64, ◌-◌, ◌/◌, ◌^◌, inl, inr}
use Rattle.std.proofs.lemmas.Nat.{shr_le}
use Rattle.std.proofs.lemmas.Nat.Bits.{bit_at-trailing_zeros}
use Rattle.csv_ingest.proofs.Marks.{first-known}
use Rattle.csv_ingest.proofs.field_ends.FieldEnds.first_from.Goals as goal

pub returns-then-later-ne0-clause-first : goal.returns-then-later-ne0-clause-first
returns-then-later-ne0-clause-first c =
    let ends = c.args.self.now in
    let by = c.args.at - ends.from in
    let small = shr_le ends.marks by in
    let first = bit_at-trailing_zeros w64 (ends.marks / 2 ^ by) (omega (arith, c.if-later-ne0.true)) (search rules) in
    elim c.requires.ends [
      | inl none ↦ absurd (omega (arith, none, small, c.if-later-ne0.true))
      | inr known ↦ first-known 64 c.args.delimiter 13 10 c.args.text.now ends.from c.args.at ends.marks _ known.0 c.if-self-at.true known.1 first.1 first.2
    ]

pub returns-then-later-ne0-clause-ends : goal.returns-then-later-ne0-clause-ends
returns-then-later-ne0-clause-ends c = c.requires.ends
