use Rattle.std.proofs.Common.{◌≡◌, ◌∙◌, List, arith, subst, take}
use Rattle.std.proofs.lemmas.List.{take_all}
use Rattle.key_counts.specs.Private.Twins.{AreWritten}
use Rattle.key_counts.specs.declared.hashes.Placed.{Placed}
use Rattle.key_counts.proofs.KeyClasses.{written-more}
use Rattle.key_counts.proofs.twins.write_classes.Goals as goal

pub loop-i-preserved : goal.loop-i-preserved
loop-i-preserved c = λ right are.
    let list = c.args.list.now in
    let i = c.loop-i.i in
    let none : Placed = record { cell = 0; code = 0 } in
    let below = c.requires i none c.loop-i-test.true in
    written-more right list c.args.classes.now c.loop-i.classes i c.class_at.result none c.loop-i-test.true (omega (arith, below)) (c.class_at.ensures ∙ are i none c.loop-i-test.true) (c.loop-i.invariant right are)

pub returns : goal.returns
returns c = λ right are.
    let list = c.args.list.now in
    let all : take c.loop-i.i list ≡ list = take_all c.loop-i.i list (omega arith) in
    subst (λ (es : List Placed). AreWritten right es c.args.classes.now c.loop-i.classes) all (c.loop-i.invariant right are)
