use Rattle.std.proofs.Common.{◌≡◌, ◌∙◌, Global, List, Vec, ap, arith, false, length, subst, sym}
use Rattle.std.specs.Prelude.{IfOk}
use Rattle.std.proofs.lemmas.List.{get_or_read}
use Rattle.key_counts.specs.Counts.{Entries, no_entries}
use Rattle.key_counts.specs.Private.Hashes.{AreBelow}
use Rattle.key_counts.specs.Private.Results.{list_of}
use Rattle.key_counts.specs.Private.Twins.{AreClassesBy}
use Rattle.key_counts.specs.Segments.{entries_of}
use Rattle.key_counts.specs.declared.hashes.Placed.{Placed}
use Rattle.key_counts.proofs.Placed.{list-read}
use Rattle.key_counts.proofs.twins.classes_of_worker.Goals as goal

pub classes_of-requires : goal.classes_of-requires
classes_of-requires c =
    let workers = c.args.workers.now in
    let placed = c.args.placed.now in
    let w = c.args.w in
    let none : Entries = no_entries false in
    let lists : c.as_slice.result.now ≡ list_of placed w = c.as_slice.ensures.value ∙ list-read placed w c.index-placed-w.result (omega (arith, c.requires.worker, c.requires.within.len)) c.index-placed-w.is in
    let entries : c.len.result ≡ length (entries_of workers w).keys =
    c.len.ensures.keys ∙ ap (λ (its : Entries). length its.keys) (get_or_read workers w c.index-workers-w.result c.requires.worker c.index-workers-w.is none) in
    subst (λ (ls : List (Vec Placed Global)). AreBelow c.len.result ls) (sym lists) (subst (λ n. AreBelow n (list_of placed w)) (sym entries) (c.requires.within.below w c.requires.worker))

pub returns : goal.returns
returns c =
    let filter = c.args.filter.now in
    let workers = c.args.workers.now in
    let placed = c.args.placed.now in
    let w = c.args.w in
    let none : Entries = no_entries false in
    let lists : c.as_slice.result.now ≡ list_of placed w = c.as_slice.ensures.value ∙ list-read placed w c.index-placed-w.result (omega (arith, c.requires.worker, c.requires.within.len)) c.index-placed-w.is in
    let entries : c.len.result ≡ length (entries_of workers w).keys =
    c.len.ensures.keys ∙ ap (λ (its : Entries). length its.keys) (get_or_read workers w c.index-workers-w.result c.requires.worker c.index-workers-w.is none) in
    subst (λ n. IfOk c.classes_of.result (λ classes. AreClassesBy filter (list_of placed w) n classes.items)) entries
    (subst (λ (ls : List (Vec Placed Global)). IfOk c.classes_of.result (λ classes. AreClassesBy filter ls c.len.result classes.items)) lists c.classes_of.ensures)
