use Rattle.std.proofs.Common.{◌≡◌, codes, rules}
use Rattle.check_report.specs.Places.{line_at, places}
use Rattle.check_report.specs.Warnings.{last_number}
use Rattle.check_report.proofs.Quotes.{quote-is}
use Rattle.check_report.proofs.warnings.add_quote_warning.Goals as goal

pub returns-in_ok-push : goal.returns-in_ok-push
returns-in_ok-push c =
    let found = rw c.in-Some.is at c.open_quote.ensures.found in
    let said : c.in_ok-words.words.items ≡ codes "the quotes that open here are never closed" = search rules in
    let last : c.last_number.result ≡ last_number (places c.args.delimiter c.args.file.now) = search rules in
    let on : c.line_of.result ≡ line_at c.args.file.now c.in-Some.byte = search rules in
    rw (quote-is c.args.delimiter c.args.file.now c.in-Some.byte c.last_number.result c.line_of.result c.in_ok-words.words.items found.1 found.0 last on said) (search rules)
