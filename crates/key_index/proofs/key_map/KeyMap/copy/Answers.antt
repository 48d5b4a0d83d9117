use Rattle.std.proofs.Common.{◌∙◌, ap, arith, length, sym, take}
use Rattle.std.proofs.lemmas.List.{length-take}
use Rattle.key_index.specs.Keys.{distinct, with_key}
use Rattle.key_index.proofs.Copied.{distinct-next, no-keys}
use Rattle.key_index.proofs.ShardRecords.{few-distinct}
use Rattle.key_index.proofs.key_map.KeyMap.copy.Goals as goal

pub loop-number-init : goal.loop-number-init
loop-number-init c = c.in_ok-copy.ensures ∙ sym no-keys

pub intern-requires : goal.intern-requires
intern-requires c =
    let before = take c.loop-number.number c.args.self.now in
    omega (arith, ap length c.loop-number.invariant, few-distinct before, length-take c.loop-number.number c.args.self.now, c.loop-number-test.true, c.count-number-end.type_inv)

pub loop-number-preserved : goal.loop-number-preserved
loop-number-preserved c =
    let keys = c.args.self.now in
    let n = c.loop-number.number in
    c.in_ok-intern.ensures.ok.1 ∙ ap (λ old. with_key old c.key.result.now) c.loop-number.invariant ∙ ap (with_key (distinct (take n keys))) c.key.ensures
    ∙ distinct-next keys n (omega (arith, c.loop-number-test.true, c.count-number-end.ensures))
