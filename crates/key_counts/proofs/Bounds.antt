-- Where the parts of a walk begin.
use Rattle.std.proofs.Common.{◌≡◌, ◌∙◌, ◌+◌, ◌<◌, ◌≤◌, ℕ, zero, suc, List, [], ◌∷◌, ◌++◌, length, get_or, sym, subst, ap, refl, arith, inl, inr, length-append}
use Rattle.std.specs.Prelude.{All}
use Rattle.std.proofs.lemmas.Bool.{cases_eq, cases_lt}
use Rattle.std.proofs.lemmas.List.{get_or_append_left, nil_from_length}
use Rattle.std.proofs.lemmas.List.Elements.{All-append}
use Rattle.std.proofs.Math.Seq.{get_or-append_seam}
use Rattle.key_counts.specs.Private.Prepared.{AreBounds, AreStartsOf, HasLeft, IsBound}
use Rattle.key_counts.specs.declared.merging.Prepared.{Prepared}
use Rattle.key_counts.specs.declared.merging.Start.{Start}

pub starts-none : (m : Prepared) → AreStartsOf m 0 []
starts-none m = record {
  each = λ k d lt. absurd (omega (arith, lt));
  below = λ k d lt. absurd (omega (arith, lt));
  rise = λ i d lt. absurd (omega (arith, lt));
  first = λ d lt. absurd (omega (arith, lt));
  none = λ e. refl;
}

one : (P : Start → Type 0) (here : Start) → P here → All P (here ∷ [])
one P here so = λ k d lt. let none : k ≡ 0 = omega (arith, lt) in subst (λ n. P (get_or (here ∷ []) n d)) (sym none) so

pub starts-push : (m : Prepared) (i : ℕ) (starts : List Start) (here : Start) → AreStartsOf m i starts → IsBound m here → here.segment ≡ i → AreStartsOf m i (starts ++ here ∷ [])
starts-push m i starts here so bound at =
    let len = length-append starts (here ∷ []) in
    record {
      each = All-append (IsBound m) starts (here ∷ []) so.each (one (IsBound m) here bound);
      below = All-append (λ start. start.segment ≤ i) starts (here ∷ []) so.below (one (λ start. start.segment ≤ i) here (omega (arith, at)));
      rise = λ k d lt.
          let left = get_or_append_left starts (here ∷ []) d k (omega (arith, lt, len)) in
          elim (cases_lt (k + 1) (length starts)) [
            | inl less ↦
                omega (arith, so.rise k d less, ap (λ (s : Start). s.segment) left, ap (λ (s : Start). s.segment) (get_or_append_left starts (here ∷ []) d (k + 1) less))
            | inr ge ↦
                let end : k + 1 ≡ length starts = omega (arith, ge, lt, len) in
                let last : get_or (starts ++ here ∷ []) (k + 1) d ≡ here = ap (λ n. get_or (starts ++ here ∷ []) n d) end ∙ get_or-append_seam starts here [] d in
                omega (arith, so.below k d (omega (arith, end)), ap (λ (s : Start). s.segment) left, ap (λ (s : Start). s.segment) last, at)
          ];
      first = λ d lt.
          elim (cases_eq (length starts) 0) [
            | inl e ↦
                let alone : get_or (starts ++ here ∷ []) 0 d ≡ here = ap (λ ss. get_or (ss ++ here ∷ []) 0 d) (nil_from_length starts e) in
                ap (λ (s : Start). s.segment) alone ∙ at ∙ so.none e
            | inr ne ↦
                ap (λ (s : Start). s.segment) (get_or_append_left starts (here ∷ []) d 0 (omega (arith, ne))) ∙ so.first d (omega (arith, ne))
          ];
      none = λ e. absurd (omega (arith, e, len));
    }

pub starts-later : (m : Prepared) (i : ℕ) (starts : List Start) → AreStartsOf m i starts → 0 < length starts → AreStartsOf m (i + 1) starts
starts-later m i starts so some = record {
  each = so.each;
  below = λ k d lt. omega (arith, so.below k d lt);
  rise = so.rise;
  first = so.first;
  none = λ e. absurd (omega (arith, e, some));
}

-- the last bound is the end of all segments
pub bounds-end : (m : Prepared) (starts : List Start) (here : Start) → AreStartsOf m (length m.segments.items) starts → IsBound m here → here.segment ≡ length m.segments.items → AreBounds m (starts ++ here ∷ [])
bounds-end m starts here so bound at =
    let len = length-append starts (here ∷ []) in
    record {
      starts = starts-push m (length m.segments.items) starts here so bound at;
      some = omega (arith, len);
      last = λ i d e.
          let end : i ≡ length starts = omega (arith, e, len) in
          ap (λ n. (get_or (starts ++ here ∷ []) n d).segment) end ∙ ap (λ (s : Start). s.segment) (get_or-append_seam starts here [] d) ∙ at;
    }

-- starts rise
pub starts-rise : (m : Prepared) (to : ℕ) (starts : List Start) (i j : ℕ) (d : Start) → AreStartsOf m to starts → i ≤ j → j < length starts → (get_or starts i d).segment ≤ (get_or starts j d).segment
starts-rise m to starts i zero d so le lt = let none : i ≡ 0 = omega (arith, le) in rw none (omega arith)
starts-rise m to starts i (suc j) d so le lt =
    elim (cases_lt i (suc j)) [
      | inl less ↦
          let before = starts-rise m to starts i j d so (omega (arith, less)) (omega (arith, lt)) in
          let next = so.rise j d (omega (arith, lt)) in
          let up : j + 1 ≡ suc j = omega arith in
          omega (arith, before, rw up at next)
      | inr ge ↦ let end : i ≡ suc j = omega (arith, le, ge) in rw end (omega arith)
    ]

-- the entries of fewer segments are left, too
pub left-less : (m : Prepared) (count fewer : ℕ) → HasLeft m count → fewer ≤ count → HasLeft m fewer
left-less m count fewer so le = record {
  len = so.len;
  first = so.first;
  within = λ i d lt in_all. so.within i d (omega (arith, lt, le)) in_all;
}
