-- Logs filled record by record.
use Rattle.std.proofs.Common.{◌≡◌, ◌∙◌, ◌+◌, ◌<◌, ℕ, List, [], ◌∷◌, ◌++◌, length, drop, get_or, ap}
use Rattle.std.specs.Prelude.{slice_set}
use Rattle.std.proofs.lemmas.List.{drop_more}
use Rattle.partition_log.specs.Private.Filled.{filled}

pub filled-step : (logs : List (List ℕ)) (places ids : List ℕ) (i : ℕ) → i < length places → i < length ids
    → filled logs (drop i places) (drop i ids) ≡ filled (slice_set logs (get_or places i 0) (get_or logs (get_or places i 0) [] ++ get_or ids i 0 ∷ [])) (drop (i + 1) places) (drop (i + 1) ids)
filled-step logs places ids i lt lt_ids =
    ap (λ ps. filled logs ps (drop i ids)) (drop_more places i 0 lt) ∙ ap (λ ns. filled logs (get_or places i 0 ∷ drop (i + 1) places) ns) (drop_more ids i 0 lt_ids)
