use Rattle.std.proofs.Common.{◌≡◌, ◌+◌, ◌-◌, ◌<◌, ◌∙◌, ap, arith, drop, get_or, length, subst, sym, true}
use Rattle.key_index.specs.Keys.{key_at}
use Rattle.key_counts.specs.Private.Classes.{AreMembers}
use Rattle.key_counts.specs.Private.Twins.{class_in}
use Rattle.key_counts.specs.Private.Walks.{IsNext, is_of}
use Rattle.key_counts.proofs.Members.{member-more, member-other}
use Rattle.key_counts.proofs.KeyClasses.{class-at}
use Rattle.key_counts.proofs.Walks.{of-other, of-own}
use Rattle.key_counts.proofs.classes.Members.take_segment.Goals as goal
use Rattle.key_counts.proofs.classes.Members.take_segment.Goals.{then-from-class+in_ok-take, else-from-class}

pub loop-code-preserved : goal.loop-code-preserved
loop-code-preserved c =
    let inv = c.loop-code.invariant in
    let class = class_in c.args.twins.now in
    let keys = c.args.entries.now.keys in
    let first = c.args.segment.from in
    let code = c.loop-code.code in
    let in_keys : code < length keys = omega (arith, c.requires.part.within) in
    let own = class-at class c.args.skip c.args.entries.now _ c.classes_in-classes.result.now code c.requires.classes.classes c.classes_in-classes.ensures in_keys in
    let is : class (drop c.args.skip (key_at keys code)) ≡ c.from.result = sym (c.from.ensures ∙ own) in
    let up : first + (code - first) ≡ code = omega (arith, inv.within) in
    let below : code - first < c.args.segment.to - first = omega (arith, inv.within) in
    record {
      within = omega (arith, inv.within);
      starts = elim c.if-from-class.branch [
        | then-from-class+in_ok-take w ↦ ap (λ m. m.starts) w.self-is ∙ w.in_ok-take.ensures.starts ∙ inv.starts
        | else-from-class w ↦ ap (λ m. m.starts) w.self-is ∙ inv.starts
      ];
      members = λ all counts k len next was.
          let p = is_of class c.args.class in
          let x = drop c.args.skip (key_at keys code) in
          let n = get_or c.args.entries.now.counts code 0 in
          let here = k + (code - first) in
          let more : here + 1 ≡ k + (code + 1 - first) = omega (arith, inv.within) in
          let at : IsNext all counts here x n = rw up at (next.each (code - first) below) in
          let before = inv.members all counts k len next was in
          elim c.if-from-class.branch [
            | then-from-class+in_ok-take w ↦
                let key : w.behind-key.result.now ≡ x = w.behind-key.ensures ∙ ap (drop c.args.skip) w.key.ensures in
                let at_count : IsNext all counts here x w.count.result = subst (IsNext all counts here x) (sym w.count.ensures) at in
                let at_key : IsNext all counts here w.behind-key.result.now w.count.result = subst (λ y. IsNext all counts here y w.count.result) (sym key) at_count in
                let passes : p w.behind-key.result.now ≡ true = of-own class c.args.class w.behind-key.result.now (ap class key ∙ is ∙ w.if-from-class.true) in
                let after = member-more p all counts here w.behind-key.result.now w.count.result c.loop-code.self _ passes len at_key before w.in_ok-take.ensures in
                subst (λ m. AreMembers p all counts m c.if-from-class.self) more (subst (AreMembers p all counts (here + 1)) (sym w.self-is) after)
            | else-from-class w ↦
                let fails = of-other class c.args.class x (λ e. w.if-from-class.false (sym is ∙ e)) in
                let after = member-other p all counts here x n c.loop-code.self fails len at before in
                subst (λ m. AreMembers p all counts m c.if-from-class.self) more (subst (AreMembers p all counts (here + 1)) (sym w.self-is) after)
          ];
    }

pub returns-clause-members : goal.returns-clause-members
returns-clause-members c = λ all counts k len next was.
    let p = is_of (class_in c.args.twins.now) c.args.class in
    let end : c.loop-code.code - c.args.segment.from ≡ c.args.segment.to - c.args.segment.from = omega arith in
    subst (λ n. AreMembers p all counts (k + n) c.loop-code.self) end (c.loop-code.invariant.members all counts k len next was)
