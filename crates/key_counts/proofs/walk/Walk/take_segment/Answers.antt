use Rattle.std.proofs.Common.{◌≡◌, ◌+◌, ◌-◌, ◌<◌, ◌∙◌, ap, arith, drop, get_or, length, subst, sym}
use Rattle.key_index.specs.Keys.{key_at}
use Rattle.key_counts.specs.Private.Twins.{class_in}
use Rattle.key_counts.specs.Private.Walks.{IsNext, IsWalked}
use Rattle.key_counts.proofs.KeyClasses.{class-at}
use Rattle.key_counts.proofs.walk.Walk.take_segment.Goals as goal
use Rattle.key_counts.proofs.walk.Walk.take_segment.Goals.{then-class-eq0+in_ok-take_unique, else-class-eq0+in_ok-take_shared}

pub loop-code-preserved : goal.loop-code-preserved
loop-code-preserved c =
    let inv = c.loop-code.invariant in
    let class = class_in c.args.twins.now in
    let keys = c.args.entries.now.keys in
    let first = c.args.segment.from in
    let code = c.loop-code.code in
    let key : drop c.args.skip (key_at keys code) ≡ c.behind-key.result.now = sym (c.behind-key.ensures ∙ ap (drop c.args.skip) c.key.ensures) in
    let in_keys : code < length keys = omega (arith, c.requires.part.within) in
    let own = class-at class c.args.skip c.args.entries.now _ c.classes_in-own.result.now code c.requires.own.classes c.classes_in-own.ensures in_keys in
    let is : class c.behind-key.result.now ≡ c.from-class.result = ap class (sym key) ∙ sym own ∙ sym c.from-class.ensures in
    let up : first + (code - first) ≡ code = omega (arith, inv.within) in
    let below : code - first < c.args.segment.to - first = omega (arith, inv.within) in
    record {
      within = omega (arith, inv.within);
      walked = λ all counts from k so next was.
          let here = k + (code - first) in
          let n = get_or c.args.entries.now.counts code 0 in
          let more : here + 1 ≡ k + (code + 1 - first) = omega (arith, inv.within) in
          let at : IsNext all counts here (drop c.args.skip (key_at keys code)) n = rw up at (next.each (code - first) below) in
          let at_key : IsNext all counts here c.behind-key.result.now n = subst (λ x. IsNext all counts here x n) key at in
          let before = inv.walked all counts from k so next was in
          elim c.if-class-eq0.branch [
            | then-class-eq0+in_ok-take_unique w ↦
                let at_count : IsNext all counts here c.behind-key.result.now w.count.result = subst (IsNext all counts here c.behind-key.result.now) (sym w.count.ensures) at_key in
                let after = w.in_ok-take_unique.ensures c.args.classes.now class all counts from here (is ∙ w.if-class-eq0.true) so at_count before in
                subst (λ m. IsWalked class all counts from m c.if-class-eq0.self) more (subst (IsWalked class all counts from (here + 1)) (sym w.self-is) after)
            | else-class-eq0+in_ok-take_shared w ↦
                let of : class c.behind-key.result.now ≡ c.from-class.result - 1 + 1 = omega (arith, is, w.if-class-eq0.false) in
                let after = w.in_ok-take_shared.ensures n class all counts from here of so at_key before in
                subst (λ m. IsWalked class all counts from m c.if-class-eq0.self) more (subst (IsWalked class all counts from (here + 1)) (sym w.self-is) after)
          ];
    }

pub take_shared-requires-clause-class : goal.take_shared-requires-clause-class
take_shared-requires-clause-class c =
    let class = class_in c.args.twins.now in
    let keys = c.args.entries.now.keys in
    let code = c.loop-code.code in
    let in_keys : code < length keys = omega (arith, c.requires.part.within) in
    let own = class-at class c.args.skip c.args.entries.now _ c.classes_in-own.result.now code c.requires.own.classes c.classes_in-own.ensures in_keys in
    omega (arith, c.from-class.ensures, own, c.requires.bound (drop c.args.skip (key_at keys code)), c.if-class-eq0.false)

pub returns : goal.returns
returns c = λ all counts from k so next was.
    let class = class_in c.args.twins.now in
    let end : c.loop-code.code - c.args.segment.from ≡ c.args.segment.to - c.args.segment.from = omega arith in
    subst (λ n. IsWalked class all counts from (k + n) c.loop-code.self) end (c.loop-code.invariant.walked all counts from k so next was)
