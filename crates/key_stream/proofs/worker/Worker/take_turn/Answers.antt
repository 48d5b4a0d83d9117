use Rattle.std.proofs.Common.{rules, ◌≡◌, ◌∙◌, ◌++◌, ◌∷◌, [], None, ap, ap₂, length, refl, slice_index_or, slice_set, subst}
use Rattle.std.specs.Vec.{with_item}
use Rattle.std.proofs.Math.Seq.{set-append_seam}
use Rattle.csv_ingest.specs.Private.Pieces.{lent}
use Rattle.csv_ingest.specs.Private.Wanted.{taking}
use Rattle.key_counts.specs.Counts.{Entries}
use Rattle.key_stream.specs.Chunks.{TakesChunk}
use Rattle.key_stream.specs.declared.worker.Turn.{Turn}
use Rattle.key_stream.specs.declared.worker.Worker.{Worker}
use Rattle.key_stream.proofs.Turns.{no-turn, one-turn}
use Rattle.key_stream.proofs.worker.Worker.take_turn.Goals as goal

pub returns-in_err-push : goal.returns-in_err-push
returns-in_err-push c = no-turn c.args.layout.now c.args.chunks c.args.self.now _ (search rules) refl

pub returns : goal.returns
returns c =
    let layout = c.args.layout.now in
    let chunks = c.args.chunks in
    let old = c.args.self.now in
    let turn : Turn = record { chunk = c.args.chunk; found = c.count_chunk-found.result; entries = c.len.result; records = length c.codes.result.now } in
    let new : Worker = record { counter = c.count_chunk-found.new.counter; turns = with_item c.push.new.self c.len-at.result turn } in
    let taken : TakesChunk layout.delimiter (taking layout.wanted.now) layout.header (slice_index_or chunks.widths.now c.args.chunk None) (slice_index_or (lent chunks.texts.now) c.args.chunk []) old.counter.entries new.counter.entries turn.found =
    subst (λ t. TakesChunk layout.delimiter (taking layout.wanted.now) layout.header (slice_index_or chunks.widths.now c.args.chunk None) t old.counter.entries new.counter.entries turn.found) c.text-text.ensures
    (subst (λ w. TakesChunk layout.delimiter (taking layout.wanted.now) layout.header w c.text-text.result.now old.counter.entries new.counter.entries turn.found) c.width-width.ensures c.count_chunk-found.ensures) in
    let grown : new.turns.items ≡ old.turns.items ++ turn ∷ [] =
    ap₂ (λ ts i. slice_set ts i turn) c.in_ok-push.ensures.items (search rules) ∙ set-append_seam old.turns.items _ [] turn in
    one-turn layout chunks old new turn grown (taken, c.len.ensures, ap length c.codes.ensures.value ∙ ap (λ (e : Entries). length e.codes) c.counts.ensures)
