use Rattle.std.proofs.Common.{ap, slice_range, sym}
use Rattle.std.specs.Prelude.{if◌then◌else◌}
use Rattle.csv_ingest.proofs.Fields.{key-without}
use Rattle.csv_ingest.specs.Private.Fields.{key_of}
use Rattle.csv_ingest.proofs.scan.Row.read_without.Goals as goal

pub returns-then-wanted-clause-key : goal.returns-then-wanted-clause-key
returns-then-wanted-clause-key c =
    let text = c.args.text.now in
    let end = c.bare_end-end.result in
    let old = c.args.self.now in
    key-without c.args.delimiter text c.args.at end c.args.wanted old _ c.requires.at.0 c.requires.at.1 c.bare_end-end.ensures.field
    (sym (ap (λ b. if b then slice_range text c.args.at end else key_of old) c.if-wanted.true))

pub returns-else-wanted-clause-key : goal.returns-else-wanted-clause-key
returns-else-wanted-clause-key c =
    let text = c.args.text.now in
    let end = c.bare_end-end.result in
    let old = c.args.self.now in
    key-without c.args.delimiter text c.args.at end c.args.wanted old old c.requires.at.0 c.requires.at.1 c.bare_end-end.ensures.field
    (sym (ap (λ b. if b then slice_range text c.args.at end else key_of old) c.if-wanted.false))
