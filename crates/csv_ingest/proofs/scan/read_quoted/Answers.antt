use Rattle.std.proofs.Common.{rules, arith, ◌+◌, length, slice_range}
use Rattle.csv.proofs.WriteFacts.{slice-end}
use Rattle.csv_ingest.proofs.Fields.{inside-text, none-before, none-left, ok-then, quote-there, quoted-end, quoted-on, quotes-closed, quotes-on, quotes-open}
use Rattle.csv_ingest.proofs.scan.read_quoted.Goals as goal

pub returns-then-not-is_at-clause-field : goal.returns-then-not-is_at-clause-field
returns-then-not-is_at-clause-field c =
    let text = c.args.text.now in
    let at = c.quotes.at in
    let n = c.in-Some.more in
    let found = c.in-Some.ensures in
    let xs = slice_range text at (length text) in
    let plain = none-before text xs at n (slice-end text at) (omega (arith, found.0.high)) found.0.before in
    let lt = inside-text text xs at n (slice-end text at) found.0.high in
    let first = quote-there text xs at n (slice-end text at) found.1 in
    let goes = quoted-end c.args.delimiter text at n lt plain first (c.is_at.ensures.if_false (search rules)) in
    ok-then c.read_bare.result _ _
    (λ end reads.
    quotes-closed c.args.delimiter text c.args.start at (at + n + 1) end c.args.wanted c.args.key.now.items c.quotes.key.items c.keep.new.key.items c.read_bare.new.key.items (slice_range text at (at + n))
    c.quotes.invariant.low (omega arith) c.quotes.invariant.reads goes c.in_ok-keep.ensures reads)
    c.read_bare.ensures.field

pub quotes-preserved : goal.quotes-preserved
quotes-preserved c =
    let text = c.args.text.now in
    let at = c.quotes.at in
    let n = c.in-Some.more in
    let found = c.in-Some.ensures in
    let xs = slice_range text at (length text) in
    let plain = none-before text xs at n (slice-end text at) (omega (arith, found.0.high)) found.0.before in
    let first = quote-there text xs at n (slice-end text at) found.1 in
    let second = c.is_at.ensures.if_true (search rules) in
    record {
      low = omega (arith, c.quotes.invariant.low);
      within = omega (arith, second.0);
      ends = c.quotes.invariant.ends;
      reads = quotes-on c.args.delimiter text c.args.start at (at + n + 2) c.args.wanted c.args.key.now.items c.quotes.key.items c.keep-in-Some.new.key.items (slice_range text at (at + n + 1))
          c.quotes.invariant.reads (quoted-on c.args.delimiter text at n second.0 plain first second.1) c.in_ok-keep-2.ensures;
    }

pub returns-clause-field : goal.returns-clause-field
returns-clause-field c =
    let text = c.args.text.now in
    let at = c.quotes.at in
    let plain = none-left text (slice_range text at (length text)) at (slice-end text at) c.in_default.ensures in
    quotes-open c.args.delimiter text c.args.start at c.args.wanted c.args.key.now.items c.quotes.key.items c.keep-2.new.key.items c.quotes.invariant.low c.quotes.invariant.within c.quotes.invariant.reads plain
    c.in_ok-keep-3.ensures
