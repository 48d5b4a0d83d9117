use Rattle.std.proofs.Common.{rules, ◌∙◌, ◌≡◌, ◌<◌, false, true, length, sym}
use Rattle.csv_ingest.specs.Stand.{in_quotes}
use Rattle.csv_ingest.specs.declared.stand.Stand.{Stand}
use Rattle.csv_ingest.specs.declared.stand.Stand.TheVariants as k
use Rattle.csv_ingest.proofs.Cutting.{plain-last, plain-none, plain-quoted}
use Rattle.csv_ingest.proofs.stand.plain_behind.Goals as goal
use Rattle.csv_ingest.proofs.stand.plain_behind.Goals.{then-is_quoted-via-then-is_quoted, then-is_quoted-via-else-is_quoted+then-is_empty}

quoted_is : (s : Stand) → in_quotes s ≡ true → s ≡ k.Quoted
quoted_is k.Record e = cc e
quoted_is k.Fresh e = cc e
quoted_is k.Bare e = cc e
quoted_is k.Quoted e = cc

pub returns-then-is_quoted : goal.returns-then-is_quoted
returns-then-is_quoted c =
    elim c.then-is_quoted.branch [
      | then-is_quoted-via-then-is_quoted w ↦
          let there = quoted_is c.args.from (sym c.is_quoted.ensures ∙ w.if-is_quoted.true) in
          rw there (sym (plain-quoted c.args.delimiter c.args.bytes.now c.requires.unquoted))
      | then-is_quoted-via-else-is_quoted+then-is_empty w ↦
          let none : length c.args.bytes.now ≡ 0 = search rules in
          sym (plain-none c.args.delimiter c.args.bytes.now c.args.from none)
    ]

pub returns : goal.returns
returns c =
    let some : 0 < length c.args.bytes.now = search rules in
    let outside : in_quotes c.args.from ≡ false = sym c.is_quoted.ensures ∙ c.if-is_quoted.false in
    c.after_unquoted.ensures ∙ sym (plain-last c.args.delimiter c.args.bytes.now c.args.from c.requires.delimiter c.requires.unquoted outside some)
