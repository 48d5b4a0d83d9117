use Rattle.std.proofs.Common.{refl, rules}
use Rattle.csv_ingest.proofs.Fields.{key-in-quotes, ok-then, other-in-quotes}
use Rattle.csv_ingest.proofs.scan.Row.read_in_quotes.Goals as goal

pub returns-then-wanted-clause-key : goal.returns-then-wanted-clause-key
returns-then-wanted-clause-key c =
    ok-then c.read_quoted.result _ _
    (λ end reads.
    key-in-quotes c.args.delimiter c.args.text.now c.args.at end c.args.wanted _ c.read_quoted.new.key.items c.args.self.now _ c.requires.at.0 c.requires.at.1
    c.if-wanted.true (search rules) reads refl)
    c.read_quoted.ensures.field

pub returns-clause-key : goal.returns-clause-key
returns-clause-key c =
    ok-then c.read_quoted-2.result _ _
    (λ end reads.
    other-in-quotes c.args.delimiter c.args.text.now c.args.at end c.args.wanted c.read_quoted-2.new.key.items c.args.self.now _ c.requires.at.0 c.requires.at.1
    c.if-wanted.false reads refl)
    c.read_quoted-2.ensures.field
