use Rattle.std.proofs.Common.{rules, refl, sym, take}
use Rattle.csv_ingest.specs.Private.Pieces.{lent}
use Rattle.csv_ingest.specs.Private.Wanted.{taking}
use Rattle.key_stream.proofs.Splits.{have-worked-in, pieces-failed, pieces-taken, split-fails, split-takes}
use Rattle.key_stream.proofs.counting.Counting.take.Goals as goal

pub returns-clause-ok : goal.returns-clause-ok
returns-clause-ok g c =
    let layout = c.args.layout.now in
    let split = c.args.split.now in
    let texts = take split.count c.deref.result.now in
    let worked = have-worked-in layout.delimiter (taking layout.wanted.now) layout.header c.as_slice.result.now c.deref.result.now split.pieces.items split.count c.args.self.now.workers.len c.work_all.new.workers c.args.self.now _
    c.deref.ensures.value (search rules) (rw (sym c.as_slice.ensures.value) at c.in-Ok.ensures.widths) refl (search rules) (search rules) (rw c.as_mut_slice-workers.ensures.value at c.work_all.ensures.worked) (λ read so. so) in
    split-takes layout.delimiter (taking layout.wanted.now) layout.header split c.args.self.now c.settle.new.self c.settle.result c.if-split-eq0.false
    (pieces-taken layout.delimiter (taking layout.wanted.now) layout.header c.as_slice.result.now (lent texts) (lent split.pieces.items) split.count c.args.self.now _ c.settle.new.self c.settle.result worked c.settle.ensures.ok)

pub returns-clause-err : goal.returns-clause-err
returns-clause-err g c =
    let layout = c.args.layout.now in
    let split = c.args.split.now in
    let texts = take split.count c.deref.result.now in
    let worked = have-worked-in layout.delimiter (taking layout.wanted.now) layout.header c.as_slice.result.now c.deref.result.now split.pieces.items split.count c.args.self.now.workers.len c.work_all.new.workers c.args.self.now _
    c.deref.ensures.value (search rules) (rw (sym c.as_slice.ensures.value) at c.in-Ok.ensures.widths) refl (search rules) (search rules) (rw c.as_mut_slice-workers.ensures.value at c.work_all.ensures.worked) (λ read so. so) in
    split-fails layout.delimiter (taking layout.wanted.now) layout.header split c.args.self.now c.settle.result c.if-split-eq0.false
    (pieces-failed layout.delimiter (taking layout.wanted.now) layout.header c.as_slice.result.now (lent texts) (lent split.pieces.items) split.count c.args.self.now _ c.settle.result worked c.settle.ensures.err)
