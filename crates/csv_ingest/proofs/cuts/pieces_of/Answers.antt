use Rattle.std.proofs.Common.{◌+◌, ◌≢◌, arith, length-drop}
use Rattle.std.proofs.lemmas.List.Elements.{All-drop, All-take}
use Rattle.csv.proofs.WriteFacts.{slice-end}
use Rattle.csv_ingest.specs.Private.Pieces.{lent}
use Rattle.csv_ingest.proofs.Parts.{lent-more, next-cut, one-piece}
use Rattle.csv_ingest.proofs.cuts.pieces_of.Goals as goal

pub loop-piece-init : goal.loop-piece-init
loop-piece-init c = record {
  within = omega arith;
  plain = c.requires.plain;
  pieces = rw c.new-found.ensures.items (one-piece c.args.delimiter c.args.file.now);
}

pub cut_behind-requires-clause-plain : goal.cut_behind-requires-clause-plain
cut_behind-requires-clause-plain c plain = All-take (λ b. b ≢ 34) c.min-aim.result c.loop-piece.rest.now (c.loop-piece.invariant.plain plain)

pub overflow_add-cut : goal.overflow_add-cut
overflow_add-cut c =
    let rest = c.loop-piece.rest.now in
    let inside = rw (slice-end rest c.min-aim.result) at c.in-Some.ensures.range in
    omega (arith, inside, c.loop-piece.invariant.within, length-drop c.min-aim.result rest)

pub loop-piece-preserved : goal.loop-piece-preserved
loop-piece-preserved c =
    let rest = c.loop-piece.rest.now in
    let aim = c.min-aim.result in
    let cut = aim + c.in-Some.more in
    let next = slice-end rest aim in
    let behind = rw next at c.in-Some.ensures.cut in
    let old = c.loop-piece.invariant.within in
    let old-plain = c.loop-piece.invariant.plain in
    record {
      within = rw (slice-end rest cut) (omega (arith, old, length-drop cut rest));
      plain = λ plain. rw (slice-end rest cut) (All-drop (λ b. b ≢ 34) cut rest (old-plain plain));
      pieces = rw (c.in_ok-push.ensures.items, lent-more c.loop-piece.found.items _, slice-end rest cut)
          (next-cut c.args.delimiter (lent c.loop-piece.found.items) rest c.args.file.now aim c.in-Some.more c.loop-piece.invariant.pieces (rw next at c.in-Some.ensures.range) behind.0 behind.1);
    }

pub returns : goal.returns
returns c = rw (c.in_ok-push-2.ensures.items, lent-more c.loop-piece.found.items _) c.loop-piece.invariant.pieces
