use Rattle.std.proofs.Common.{Global, List, Vec, length, subst, sym}
use Rattle.key_counts.specs.Private.Filter.{IsFilterOf}
use Rattle.key_counts.specs.Private.Hashes.{ArePlaced}
use Rattle.key_counts.specs.Private.Results.{AreMade}
use Rattle.key_counts.specs.Private.Twins.{AreClassesIn, AreWithin, IsOnce, class_of}
use Rattle.key_counts.specs.Segments.{keys_behind}
use Rattle.key_counts.specs.declared.filter.Filter.{Filter}
use Rattle.key_counts.specs.declared.hashes.Placed.{Placed}
use Rattle.key_counts.specs.declared.twins.Twins.{Twins}
use Rattle.key_counts.proofs.KeyClasses.{are-within, class-bound, has-classes}
use Rattle.key_counts.proofs.Once.{once}
use Rattle.key_counts.proofs.twins.Twins.of.Goals as goal

pub classed-requires-after_bounds : goal.classed-requires-after_bounds
classed-requires-after_bounds g c κs within =
    let workers = c.args.workers.now in
    subst (λ (ls : List (Vec (Vec Placed Global) Global)). AreWithin workers ls) (sym c.as_slice-2.ensures.value)
    (are-within c.args.place c.args.skip workers c.in_ok-placed.placed.items c.in_ok-placed.ensures)

pub returns : goal.returns
returns g c =
    let place = c.args.place in
    let skip = c.args.skip in
    let workers = c.args.workers.now in
    let segments = c.args.segments.now in
    let filter = c.in_ok-filter.filter in
    let placed = c.in_ok-placed.placed.items in
    let so : ArePlaced place skip workers placed = c.in_ok-placed.ensures in
    let its : IsFilterOf place placed filter = subst (λ (ls : List (Vec (Vec Placed Global) Global)). IsFilterOf place ls filter) c.as_slice.ensures.value c.in_ok-filter.ensures in
    let classed : AreMade (length workers) (AreClassesIn filter workers placed) c.in_ok-classes.classes.items =
    subst (λ (ls : List (Vec (Vec Placed Global) Global)). AreMade (length workers) (AreClassesIn filter workers ls) c.in_ok-classes.classes.items) c.as_slice-2.ensures.value c.in_ok-classes.ensures in
    let twins : Twins = record { filter = c.of-2.result; classes = c.in_ok-classes.classes } in
    record {
      once = subst (λ (f : Filter). IsOnce (class_of f) (keys_behind skip workers segments)) (sym c.of-2.ensures) (once filter place skip workers segments placed c.requires.segments c.requires.all so its);
      classes = has-classes twins filter place skip workers placed c.of-2.ensures its.placed so classed;
      bound = class-bound c.of-2.result.value;
    }
