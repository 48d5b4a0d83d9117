use Rattle.std.proofs.Common.{◌≡◌, ◌∙◌, ◌≤◌, List, ℕ, ap, arith, length, subst, sym, take}
use Rattle.std.specs.Prelude.{All}
use Rattle.std.proofs.lemmas.List.{length-take, take-map}
use Rattle.std.proofs.lemmas.List.Elements.{All-take}
use Rattle.key_counts.specs.Counts.{Entries}
use Rattle.key_counts.specs.Private.Entry.{stored_counts, stored_keys}
use Rattle.key_counts.specs.declared.entry.Entry.{Entry}
use Rattle.key_counts.proofs.counts.KeyCounts.truncate.Goals as goal

pub invariant_of-self : goal.invariant_of-self
invariant_of-self c =
    let old = c.self.inside.entries.items in
    let new = c.shrink_to_fit.new.self.items in
    let is : new ≡ take c.args.len old = c.shrink_to_fit.ensures.items ∙ c.truncate.ensures.items in
    let few = length-take c.args.len old in
    let keys : stored_keys new ≡ take c.args.len (stored_keys old) = ap stored_keys is ∙ sym (take-map (λ (e : Entry). e.key) c.args.len old) in (
      λ k d lt. absurd (omega (arith, lt, ap length c.clear.ensures.items)),
      omega (arith, ap length is, few, c.self.invariant.1),
      subst (All (λ (key : List ℕ). length key ≤ c.self.inside.longest)) (sym keys) (All-take (λ (key : List ℕ). length key ≤ c.self.inside.longest) c.args.len (stored_keys old) c.self.invariant.2),
    )

pub returns-clause-keys : goal.returns-clause-keys
returns-clause-keys c =
    ap stored_keys (c.shrink_to_fit.ensures.items ∙ c.truncate.ensures.items) ∙ sym (take-map (λ (e : Entry). e.key) c.args.len c.self.inside.entries.items) ∙ ap (λ (v : Entries). take c.args.len v.keys) c.self.view_is

pub returns-clause-counts : goal.returns-clause-counts
returns-clause-counts c =
    ap stored_counts (c.shrink_to_fit.ensures.items ∙ c.truncate.ensures.items) ∙ sym (take-map (λ (e : Entry). e.count) c.args.len c.self.inside.entries.items) ∙ ap (λ (v : Entries). take c.args.len v.counts) c.self.view_is
