-- Hashes that are replaced by partitions, one after another.
use Rattle.std.proofs.Common.{ℕ, ◌≡◌, ◌∙◌, ◌+◌, ◌-◌, ◌<◌, ◌≤◌, List, [], ◌∷◌, arith, ap, drop, get_or, inl, inr, length, refl, slice_set, suc, sym, take}
use Rattle.std.proofs.Common.{get_or-set_same, get_or-set_other}
use Rattle.std.proofs.Math.ListN.{length-set}
use Rattle.std.proofs.lemmas.Bool.{cases_eq}
use Rattle.std.proofs.Common.{Bor, map}
use Rattle.std.proofs.lemmas.List.{get_or-drop, get_or-map, get_or-take, length-drop, length-map, length-take-le}
use Rattle.partitioner.specs.Place.{place_in_topic, place_of, positive_hash}
use Rattle.partitioner.specs.Private.Counts.{ArePlaces, place_of_hash}
use Rattle.partitioner.specs.Private.Groups.{ArePlacedFrom}

-- the first hashes are replaced by partitions
pub record ArePlacedBelow (counts : List ℕ) (topic : ℕ → ℕ) (n : ℕ) (hashes places : List ℕ) : Type 0 where
  pub as_many : length places ≡ length hashes
  pub each : (i : ℕ) → i < n → get_or places i 0 ≡ place_of_hash counts (topic i) (get_or hashes i 0)
  pub rest : (i : ℕ) → n ≤ i → get_or places i 0 ≡ get_or hashes i 0

pub none_placed : (counts : List ℕ) (topic : ℕ → ℕ) (hashes : List ℕ) → ArePlacedBelow counts topic 0 hashes hashes
none_placed counts topic hashes = record { as_many = refl; each = λ i lt. absurd (omega arith); rest = λ i le. refl }

pub one_placed : (counts : List ℕ) (topic : ℕ → ℕ) (n : ℕ) (hashes places : List ℕ) (place : ℕ) → n < length hashes → ArePlacedBelow counts topic n hashes places
    → place ≡ place_of_hash counts (topic n) (get_or places n 0) → ArePlacedBelow counts topic (n + 1) hashes (slice_set places n place)
one_placed counts topic n hashes places place lt p is =
    let now : place ≡ place_of_hash counts (topic n) (get_or hashes n 0) = is ∙ ap (place_of_hash counts (topic n)) (p.rest n (omega arith)) in
    record {
      as_many = length-set {A = ℕ} places n place ∙ p.as_many;
      each = λ i below. elim (cases_eq i n) [
        | inl same ↦ ap (λ j. get_or (slice_set places n place) j 0) same ∙ get_or-set_same places n place 0 (omega (arith, lt, p.as_many)) ∙ now ∙ ap (λ j. place_of_hash counts (topic j) (get_or hashes j 0)) (sym same)
        | inr other ↦ get_or-set_other places n i place 0 other ∙ p.each i (omega (arith, below, other))
      ];
      rest = λ i le. get_or-set_other places n i place 0 (λ same. absurd (omega (arith, le, same))) ∙ p.rest i (omega (arith, le));
    }

pub all_placed : (counts : List ℕ) (topic : ℕ → ℕ) (n : ℕ) (hashes places : List ℕ) → length hashes ≤ n → ArePlacedBelow counts topic n hashes places → ArePlaces counts topic hashes places
all_placed counts topic n hashes places le p = record { as_many = p.as_many; each = λ i lt. p.each i (omega (arith, lt, le)) }

places_of_keys : (counts : List ℕ) (topic : ℕ → ℕ) (keys : List (Bor (List ℕ))) (hashes places : List ℕ) → hashes ≡ map (λ key. positive_hash key.now) keys → ArePlaces counts topic hashes places
    → (k : ℕ) (d : Bor (List ℕ)) → k < length keys → get_or places k 0 ≡ place_in_topic counts (topic k) (get_or keys k d).now
unfolding place_of
places_of_keys counts topic keys hashes places is p k d lt =
    p.each k (omega (arith, lt, ap length is, length-map keys (λ (key : Bor (List ℕ)). positive_hash key.now)))
    ∙ ap (place_of_hash counts (topic k)) (ap (λ hs. get_or hs k 0) is ∙ get_or-map (λ (key : Bor (List ℕ)). positive_hash key.now) keys k d 0 lt)

pub batch_placed : (counts : List ℕ) (topic local : ℕ → ℕ) (keys : List (Bor (List ℕ))) (from n : ℕ) (hashes places : List ℕ) → from + n ≤ length keys
    → hashes ≡ map (λ key. positive_hash key.now) (take (from + n - from) (drop from keys)) → ArePlaces counts local hashes places → ((k : ℕ) → k < n → local k ≡ topic (from + k))
    → ArePlacedFrom counts topic keys from n places
batch_placed counts topic local keys from n hashes places fits is p topics_are k d lt =
    let batch = take (from + n - from) (drop from keys) in
    let long : length batch ≡ n = length-take-le (from + n - from) (drop from keys) (omega (arith, fits, length-drop from keys)) ∙ omega arith in
    places_of_keys counts local batch hashes places is p k d (omega (arith, long, lt))
    ∙ ap (λ t. place_in_topic counts t (get_or batch k d).now) (topics_are k lt)
    ∙ ap (λ (key : Bor (List ℕ)). place_in_topic counts (topic (from + k)) key.now) (get_or-take (from + n - from) (drop from keys) k d (omega (arith, lt)) ∙ get_or-drop from keys k d)

pub batch_topic : (topics : List ℕ) (from n k : ℕ) → k < n → get_or (take (from + n - from) (drop from topics)) k 0 ≡ get_or topics (from + k) 0
batch_topic topics from n k lt = get_or-take (from + n - from) (drop from topics) k 0 (omega (arith, lt)) ∙ get_or-drop from topics k 0

pub by_index : {X : Type 0} (f : X → ℕ) (xs : List X) (d : X) (ys : List ℕ) → length ys ≡ length xs → ((i : ℕ) → i < length xs → get_or ys i 0 ≡ f (get_or xs i d)) → ys ≡ map f xs
by_index f [] d [] e each = refl
by_index f [] d (y ∷ ys) e each = absurd (omega arith)
by_index f (x ∷ xs) d [] e each = absurd (omega arith)
by_index f (x ∷ xs) d (y ∷ ys) e each = rw (each 0 (omega arith), by_index f xs d ys (omega arith) (λ i lt. each (suc i) (omega arith))) refl
