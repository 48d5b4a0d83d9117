-- Workers that have only the first of their entries left.
use Rattle.std.proofs.Common.{◌≡◌, ◌∙◌, ◌+◌, ◌<◌, ◌≤◌, ℕ, List, [], length, drop, get_or, sym, ap, arith, get_or-take}
use Rattle.std.proofs.lemmas.List.{length-take, take_all}
use Rattle.key_index.specs.Keys.{Key, key_at}
use Rattle.key_counts.specs.Counts.{Entries}
use Rattle.key_counts.specs.Partition.{HasCounts}
use Rattle.key_counts.specs.Private.Prepared.{AreFirstOf}
use Rattle.key_counts.specs.Private.Twins.{AreClassesOf}
use Rattle.key_counts.specs.Private.Walks.{AreNext}
use Rattle.key_counts.specs.declared.merging.Segment.{Segment}

pub first-all : (entries : Entries) → HasCounts entries → AreFirstOf entries entries
first-all entries counted = record {
  keys = sym (take_all (length entries.keys) entries.keys (omega arith));
  counts = sym (take_all (length entries.keys) entries.counts (omega (arith, counted)));
}

first-fewer : (whole now : Entries) → AreFirstOf whole now → length now.keys ≤ length whole.keys
first-fewer whole now so = let few = length-take (length now.keys) whole.keys in omega (arith, ap length so.keys, few)

key-first : (whole now : Entries) (code : ℕ) → AreFirstOf whole now → code < length now.keys → key_at now.keys code ≡ key_at whole.keys code
key-first whole now code so lt = ap (λ ks. key_at ks code) so.keys ∙ get_or-take (length now.keys) whole.keys code [] lt

count-first : (whole now : Entries) (code : ℕ) → AreFirstOf whole now → code < length now.keys → get_or now.counts code 0 ≡ get_or whole.counts code 0
count-first whole now code so lt = ap (λ ns. get_or ns code 0) so.counts ∙ get_or-take (length now.keys) whole.counts code 0 lt

pub classes-first : (class : Key → ℕ) (skip : ℕ) (whole now : Entries) (classes : List ℕ) → AreClassesOf class skip whole classes → AreFirstOf whole now → AreClassesOf class skip now classes
classes-first class skip whole now classes own so =
    let fewer = first-fewer whole now so in
    record {
      len = omega (arith, own.len, fewer);
      each = λ code lt. own.each code (omega (arith, lt, fewer)) ∙ ap (λ x. class (drop skip x)) (sym (key-first whole now code so lt));
    }

pub next-first : (skip : ℕ) (whole now : Entries) (s : Segment) (all : List Key) (counts : List ℕ) (k : ℕ) → AreNext skip whole s all counts k → AreFirstOf whole now → s.to ≤ length now.keys
    → AreNext skip now s all counts k
next-first skip whole now s all counts k next so within = record {
  within = next.within;
  each = λ j lt.
      let here = s.from + j in
      let in_now : here < length now.keys = omega (arith, lt, within) in
      let at = next.each j lt in
      record {
        within = at.within;
        same = ap (drop skip) (key-first whole now here so in_now) ∙ at.same;
        count = count-first whole now here so in_now ∙ at.count;
      };
}
