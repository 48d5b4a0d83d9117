use Rattle.std.proofs.Common.{rules, ◌≡◌, ◌∙◌, ◌+◌, Bor, List, ℕ, ap, arith, get_or, inl, inr, length, refl}
use Rattle.std.proofs.lemmas.List.{get_or_read, length-map}
use Rattle.lane_words.specs.declared.Refusal.TheVariants as refusal
use Rattle.csv_ingest.specs.Private.Pieces.{lent}
use Rattle.csv_ingest.specs.Private.Wanted.{taking}
use Rattle.key_stream.proofs.Settled.{settled-all, settling-more, turn-fails, no-memory}
use Rattle.key_stream.proofs.counting.Counting.settle.Goals as goal

pub returns-in-Err-clause-err : goal.returns-in-Err-clause-err
returns-in-Err-clause-err c =
    let layout = c.args.layout.now in
    let many = length-map c.args.chunks.texts.now (λ (t : Bor (List ℕ)). t.now) in
    elim (c.in-Err.ensures.err) [
      | inl memory ↦ no-memory layout.delimiter (taking layout.wanted.now) layout.header c.args.chunks.widths.now (lent c.args.chunks.texts.now) c.args.self.now c.in-Err.fault memory
      | inr f ↦
          turn-fails layout.delimiter (taking layout.wanted.now) layout.header c.args.chunks.widths.now (lent c.args.chunks.texts.now) c.args.self.now c.loop-chunk.chunk c.in-Some.worker c.in-Some.turn c.loop-chunk.settled.items c.loop-chunk.self c.in-Err.fault
          (omega (arith, c.loop-chunk-test.true, many)) (rw (← c.as_slice.ensures.value, ← c.as_slice-in-loop-chunk.ensures.value) c.in-Some.ensures) (rw (← c.width-before.ensures) f) c.loop-chunk.invariant
    ]

pub loop-chunk-preserved : goal.loop-chunk-preserved
loop-chunk-preserved c =
    let layout = c.args.layout.now in
    let many = length-map c.args.chunks.texts.now (λ (t : Bor (List ℕ)). t.now) in
    let settled = c.loop-chunk.settled.items in
    let w = c.in-Some.worker in
    let turns : c.in-Some-checked_add.turns ≡ get_or settled w 0 + 1 =
    c.in-Some-checked_add.ensures.1 ∙ ap (λ n. n + 1) (get_or_read settled w c.index.result.now (omega (arith, c.in-Some.ensures.place, ap length c.as_slice-in-loop-chunk.ensures.value)) c.index.ensures 0) in
    rw turns (settling-more layout.delimiter (taking layout.wanted.now) layout.header c.args.chunks.widths.now (lent c.args.chunks.texts.now) c.args.self.now c.loop-chunk.chunk w c.in-Some.turn settled c.loop-chunk.self c.settle_turn.new.self
    (omega (arith, c.loop-chunk-test.true, many)) (rw (← c.as_slice.ensures.value, ← c.as_slice-in-loop-chunk.ensures.value) c.in-Some.ensures) (rw (← c.width-behind.ensures) c.in-Ok-settle_turn.ensures.ok) c.settle_turn.ensures.workers c.settle_turn.ensures.coded (search rules) c.loop-chunk.invariant)

pub returns-clause-ok : goal.returns-clause-ok
returns-clause-ok c =
    let layout = c.args.layout.now in
    let many = length-map c.args.chunks.texts.now (λ (t : Bor (List ℕ)). t.now) in
    settled-all layout.delimiter (taking layout.wanted.now) layout.header c.args.chunks.widths.now (lent c.args.chunks.texts.now) c.args.self.now c.loop-chunk.chunk c.loop-chunk.settled.items c.loop-chunk.self
    (omega (arith, c.loop-chunk-test.false, c.loop-chunk.auto.chunk-end, many)) (rw (c.as_slice-2.ensures.value, c.as_slice-3.ensures.value) at c.are_settled.ensures c.if-not-are_settled.false) c.loop-chunk.invariant

pub returns-in_default-next-clause-err : goal.returns-in_default-next-clause-err
returns-in_default-next-clause-err c = no-memory c.args.layout.now.delimiter (taking c.args.layout.now.wanted.now) c.args.layout.now.header c.args.chunks.widths.now (lent c.args.chunks.texts.now) c.args.self.now refusal.Memory refl

pub returns-in_default-clause-err : goal.returns-in_default-clause-err
returns-in_default-clause-err c = no-memory c.args.layout.now.delimiter (taking c.args.layout.now.wanted.now) c.args.layout.now.header c.args.chunks.widths.now (lent c.args.chunks.texts.now) c.args.self.now refusal.Memory refl

pub returns-in_default-checked_add-clause-err : goal.returns-in_default-checked_add-clause-err
returns-in_default-checked_add-clause-err c = no-memory c.args.layout.now.delimiter (taking c.args.layout.now.wanted.now) c.args.layout.now.header c.args.chunks.widths.now (lent c.args.chunks.texts.now) c.args.self.now refusal.Memory refl

pub returns-then-not-are_settled-clause-err : goal.returns-then-not-are_settled-clause-err
returns-then-not-are_settled-clause-err c = no-memory c.args.layout.now.delimiter (taking c.args.layout.now.wanted.now) c.args.layout.now.header c.args.chunks.widths.now (lent c.args.chunks.texts.now) c.args.self.now refusal.Memory refl
