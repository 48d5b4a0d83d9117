use Rattle.std.proofs.Common.{◌∙◌, arith, ◌≡◌, ◌<◌, ℕ, List, ap, get_or, sym, length, take}
use Rattle.csv_ingest.specs.Stand.{EndsRecord, stand_after, stand_next}
use Rattle.csv_ingest.specs.declared.stand.Stand.{Stand}
use Rattle.csv_ingest.specs.declared.stand.Stand.TheVariants as k
use Rattle.csv_ingest.proofs.Cutting.{ends_all, stand-more, stand-nil}
use Rattle.csv_ingest.proofs.cuts.synced_cut.Goals as goal

pub loop-i-init : goal.loop-i-init
loop-i-init c = record {
  fresh = sym (stand-nil c.args.delimiter k.Record);
  bare = sym (stand-nil c.args.delimiter k.Bare);
  quoted = sym (stand-nil c.args.delimiter k.Quoted);
}

pub loop-i-preserved : goal.loop-i-preserved
loop-i-preserved c =
    let bytes = c.args.bytes.now in
    let within : c.loop-i.i < length bytes = omega arith in
    let inv = c.loop-i.invariant in
    record {
      fresh = c.next-fresh.ensures ∙ stand-more c.args.delimiter k.Record c.loop-i.fresh bytes c.loop-i.i within inv.fresh;
      bare = c.next-bare.ensures ∙ stand-more c.args.delimiter k.Bare c.loop-i.bare bytes c.loop-i.i within inv.bare;
      quoted = c.next-quoted.ensures ∙ stand-more c.args.delimiter k.Quoted c.loop-i.quoted bytes c.loop-i.i within inv.quoted;
    }

ends : (delimiter byte : ℕ) (s next : Stand) (before : List ℕ) (start : Stand) → byte ≡ 10 → s ≡ stand_after delimiter start before → next ≡ stand_next delimiter s byte → next ≡ k.Record
    → EndsRecord delimiter start before
ends delimiter byte s next before start feed was is starts =
    ap (λ t. stand_next delimiter t 10) (sym was) ∙ ap (stand_next delimiter s) (sym feed) ∙ sym is ∙ starts

pub returns-then-is_record-3-clause-cut : goal.returns-then-is_record-3-clause-cut
returns-then-is_record-3-clause-cut c =
    let inv = c.loop-i.invariant in
    let feed = c.if-byte-eq10.true in
    let delimiter = c.args.delimiter in
    let byte = get_or c.args.bytes.now c.loop-i.i 0 in
    let before = take c.loop-i.i c.args.bytes.now in
    let quoted = ends delimiter byte c.loop-i.quoted c.next-quoted.result before k.Quoted feed inv.quoted c.next-quoted.ensures (c.is_record.ensures.if_true c.if-is_record.true) in
    let fresh = ends delimiter byte c.loop-i.fresh c.next-fresh.result before k.Record feed inv.fresh c.next-fresh.ensures (c.is_record-then-is_record.ensures.if_true c.if-is_record-2.true) in
    let bare = ends delimiter byte c.loop-i.bare c.next-bare.result before k.Bare feed inv.bare c.next-bare.ensures (c.is_record-then-is_record-2.ensures.if_true c.if-is_record-3.true) in
    (feed, ends_all delimiter before c.requires.delimiter fresh bare quoted)
