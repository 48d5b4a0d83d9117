-- Holders and spans that are the same.
use Rattle.std.specs.Prelude.{ℕ, ◌==◌, ◌&&◌, Bool, true, false, List, [], ◌∷◌}
use Rattle.timeline.specs.declared.parts.Holder.{Holder}
use Rattle.timeline.specs.declared.parts.Holder.TheVariants as holder
use Rattle.timeline.specs.declared.parts.Span.{Span}

-- nobody reads a partition, unless its consumer does
abbrev pub is_read : Holder → Bool
is_read (holder.Reading m) = true
is_read other = false

abbrev pub is_same_holder : Holder → Holder → Bool
is_same_holder holder.Nobody holder.Nobody = true
is_same_holder (holder.Granted m) (holder.Granted n) = m == n
is_same_holder (holder.Reading m) (holder.Reading n) = m == n
is_same_holder a b = false

abbrev pub is_same_span : Span → Span → Bool
is_same_span a b = (a.from == b.from) && is_same_holder a.holder b.holder

abbrev pub are_same_spans : List Span → List Span → Bool
are_same_spans [] [] = true
are_same_spans [] (b ∷ bs) = false
are_same_spans (a ∷ as_) [] = false
are_same_spans (a ∷ as_) (b ∷ bs) = is_same_span a b && are_same_spans as_ bs
