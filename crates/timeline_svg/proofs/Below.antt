-- Texts of numbers, one after the other.
use Rattle.std.proofs.Common.{◌≡◌, ◌∙◌, ◌+◌, ◌++◌, ℕ, List, [], ◌∷◌, cond, suc, ap, sym, append_assoc, add-one}
use Rattle.partitioner.specs.declared.topic.Topic.{Topic}
use Rattle.timeline.specs.declared.parts.Span.{Span}
use Rattle.timeline_svg.specs.Markup.{texts_below}
use Rattle.timeline_svg.specs.Places.{begins_lane, starts_below}

pub below_more : (before : List ℕ) (i : ℕ) (text : ℕ → List ℕ) → (before ++ texts_below i text) ++ text i ≡ before ++ texts_below (i + 1) text
below_more before i text = append_assoc before _ _ ∙ ap (λ k. before ++ texts_below k text) (sym (add-one i))

pub starts_more : (topics : List Topic) (lanes : List (List Span)) (p : ℕ)
    → starts_below topics lanes (p + 1) ≡ starts_below topics lanes p ++ cond (begins_lane topics lanes p) (p ∷ []) []
starts_more topics lanes p = ap (starts_below topics lanes) (add-one p)
