-- The entries of a class, one by one.
use Rattle.std.proofs.Common.{◌≡◌, ◌∙◌, ◌+◌, ℕ, Bool, true, false, List, [], ◌∷◌, ◌++◌, length, map, take, get_or, sym, subst, ap, ap₂, arith, inl, inr, length-append}
use Rattle.std.specs.Prelude.{filter}
use Rattle.std.proofs.lemmas.Bool.{cases_lt}
use Rattle.std.proofs.lemmas.List.{append-nil, get_or_append_left, length-map, length-take, map-append, take_more}
use Rattle.std.proofs.Math.Seq.{get_or-append_seam}
use Rattle.key_index.specs.Keys.{Key, distinct, id_of, with_key}
use Rattle.key_counts.specs.Counts.{Entries}
use Rattle.key_counts.specs.Private.Classes.{AreMembers, AreStarts, IsNoMember, TakesMember, len_before}
use Rattle.key_counts.specs.Private.Walks.{IsAt, IsNext, kept}
use Rattle.key_counts.specs.Segments.{keys_behind}
use Rattle.key_counts.specs.declared.classes.Members.{Members}
use Rattle.key_counts.specs.declared.merging.Segment.{Segment}
use Rattle.key_counts.specs.declared.walk.Position.{Position}
use Rattle.key_counts.proofs.Walks.{distinct-push, filter-more, filter-no, kept-no, kept-yes, numbered, taken-more}

pub members-none : (p : Key → Bool) (all : List Key) (counts : List ℕ) (m : Members) → IsNoMember m → AreMembers p all counts 0 m
unfolding distinct kept
members-none p all counts m none = record { keys = none.keys; ids = none.ids; took = none.counts }

pub members-same : (p : Key → Bool) (all : List Key) (counts : List ℕ) (k : ℕ) (old new : Members) → AreMembers p all counts k old → new.keys ≡ old.keys → new.ids ≡ old.ids → new.counts ≡ old.counts
    → AreMembers p all counts k new
members-same p all counts k old new was keys ids totals = record {
  keys = keys ∙ was.keys;
  ids = ap (λ is. is.items) ids ∙ was.ids;
  took = ap (λ ns. ns.items) totals ∙ was.took;
}

taken-lens : (all : List Key) (counts : List ℕ) (k : ℕ) → length counts ≡ length all → length (take k counts) ≡ length (take k all)
taken-lens all counts k len = omega (arith, len, length-take k counts, length-take k all)

taken-counts : (all : List Key) (counts : List ℕ) (k : ℕ) (x : Key) (n : ℕ) → length counts ≡ length all → IsNext all counts k x n → take (k + 1) counts ≡ take k counts ++ n ∷ []
taken-counts all counts k x n len at = take_more counts k 0 (omega (arith, len, at.within)) ∙ ap (λ m. take k counts ++ m ∷ []) (sym at.count)

-- the entry has a key that passes
pub member-more : (p : Key → Bool) (all : List Key) (counts : List ℕ) (k : ℕ) (x : Key) (n : ℕ) (old new : Members) → p x ≡ true → length counts ≡ length all → IsNext all counts k x n
    → AreMembers p all counts k old → TakesMember x n old new → AreMembers p all counts (k + 1) new
member-more p all counts k x n old new passes len at was takes =
    let done = filter p (take k all) in
    let f = id_of (distinct (filter p all)) in
    let num = numbered p all k x at.within at.same passes in
    let more = filter-more p all k x at.within at.same passes in
    record {
      keys = takes.keys ∙ ap (λ ks. with_key ks x) was.keys ∙ sym (distinct-push done x) ∙ ap distinct (sym more);
      ids = takes.ids ∙ ap₂ (λ is i. is ++ i ∷ []) was.ids (ap (λ ks. id_of ks x) was.keys ∙ sym num.same) ∙ sym (map-append f done (x ∷ [])) ∙ ap (map f) (sym more);
      took = takes.counts ∙ ap (λ ns. ns ++ n ∷ []) was.took ∙ sym (kept-yes p (take k all) (take k counts) x n (taken-lens all counts k len) passes)
          ∙ ap₂ (kept p) (sym (taken-more all k x at.within at.same)) (sym (taken-counts all counts k x n len at));
    }

-- the entry has another key
pub member-other : (p : Key → Bool) (all : List Key) (counts : List ℕ) (k : ℕ) (x : Key) (n : ℕ) (m : Members) → p x ≡ false → length counts ≡ length all → IsNext all counts k x n
    → AreMembers p all counts k m → AreMembers p all counts (k + 1) m
member-other p all counts k x n m fails len at was =
    let done = filter p (take k all) in
    let rest : filter p (take (k + 1) all) ≡ done = ap (filter p) (taken-more all k x at.within at.same) ∙ filter-no p (take k all) x fails ∙ append-nil done in
    record {
      keys = was.keys ∙ ap distinct (sym rest);
      ids = was.ids ∙ ap (map (id_of (distinct (filter p all)))) (sym rest);
      took = was.took ∙ sym (append-nil (kept p (take k all) (take k counts))) ∙ sym (kept-no p (take k all) (take k counts) x n (taken-lens all counts k len) fails)
          ∙ ap₂ (kept p) (sym (taken-more all k x at.within at.same)) (sym (taken-counts all counts k x n len at));
    }

-- ---- how far they are before each segment
pub members-at : (p : Key → Bool) (all : List Key) (counts : List ℕ) (k : ℕ) (m : Members) → AreMembers p all counts k m → IsAt p all k (record { at = length m.ids.items; next = length m.keys })
members-at p all counts k m was = record {
  at = ap length was.ids ∙ length-map (filter p (take k all)) (id_of (distinct (filter p all)));
  next = ap length was.keys;
}

pub starts-none : (p : Key → Bool) (skip : ℕ) (workers : List Entries) (segments : List Segment) → AreStarts p skip workers segments 0 []
starts-none p skip workers segments = record {
  len = omega arith;
  each = λ i d lt. absurd (omega (arith, lt));
}

pub starts-push : (p : Key → Bool) (skip : ℕ) (workers : List Entries) (segments : List Segment) (i : ℕ) (starts : List Position) (here : Position) → AreStarts p skip workers segments i starts
    → IsAt p (keys_behind skip workers segments) (len_before workers segments i) here → AreStarts p skip workers segments (i + 1) (starts ++ here ∷ [])
starts-push p skip workers segments i starts here so at =
    let len = length-append starts (here ∷ []) in
    let all = keys_behind skip workers segments in
    record {
      len = omega (arith, len, so.len);
      each = λ k d lt.
          elim (cases_lt k i) [
            | inl less ↦
                let left = get_or_append_left starts (here ∷ []) d k (omega (arith, less, so.len)) in
                subst (IsAt p all (len_before workers segments k)) (sym left) (so.each k d less)
            | inr ge ↦
                let end : k ≡ length starts = omega (arith, ge, lt, so.len) in
                let own : k ≡ i = omega (arith, ge, lt) in
                let last : get_or (starts ++ here ∷ []) k d ≡ here = ap (λ n. get_or (starts ++ here ∷ []) n d) end ∙ get_or-append_seam starts here [] d in
                subst (λ (q : Position). IsAt p all (len_before workers segments k) q) (sym last) (subst (λ n. IsAt p all (len_before workers segments n) here) (sym own) at)
          ];
    }
