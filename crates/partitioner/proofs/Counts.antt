-- Numbers of partitions in an array of eight, and sums of them.
use Rattle.std.proofs.Common.{ℕ, ◌≡◌, ◌-◌, ◌%◌, ◌<◌, ◌≤◌, List, ◌++◌, ap, arith, drop, get_or, length, refl, replicate, zero, suc}
use Rattle.std.specs.List.{sum}
use Rattle.std.proofs.Math.Seq.{take-append_seam}
use Rattle.std.proofs.lemmas.List.Sums.{sum_by_more_le}
use Rattle.partitioner.specs.Place.{AreCounts, place_in_topic, place_of, positive_hash}
use Rattle.partitioner.specs.Private.Counts.{IsPadded, place_of_hash}

pub list_padded : (counts : List ℕ) → IsPadded (counts ++ replicate (8 - length counts) 0) (length counts)
list_padded counts =
    let seam = take-append_seam counts (replicate (8 - length counts) 0) in
    record { many = ap length seam; padded = ap (λ xs. xs ++ replicate (8 - length xs) 0) seam }

pub count_some : (counts : List ℕ) (topic : ℕ) → AreCounts counts → topic < length counts → 1 ≤ get_or counts topic 0
count_some counts topic a lt = a.each topic 0 lt

pub place_within : (counts : List ℕ) (topic hash : ℕ) → AreCounts counts → topic < length counts → place_of_hash counts topic hash < sum counts
place_within counts topic hash a lt =
    let some = count_some counts topic a lt in
    let below : hash % get_or counts topic 0 < get_or counts topic 0 = omega (arith, some) in
    let le = sum_by_more_le (λ (x : ℕ). x) counts topic 0 lt in
    omega (arith, below, le)

pub place_in_topic-below : (counts : List ℕ) (topic : ℕ) (key : List ℕ) → AreCounts counts → topic < length counts → place_in_topic counts topic key < sum counts
unfolding place_of
place_in_topic-below counts topic key a lt = place_within counts topic (positive_hash key) a lt

pub some_partitions : (counts : List ℕ) → AreCounts counts → 1 ≤ sum counts
some_partitions counts a = let within = place_within counts 0 0 a (omega (arith, a.some)) in omega (arith, within)

pub zeros_left : (n : ℕ) → n ≤ 8 → drop n (replicate {A = ℕ} 8 0) ≡ replicate (8 - n) 0
zeros_left zero le = refl
zeros_left (suc zero) le = refl
zeros_left (suc (suc zero)) le = refl
zeros_left (suc (suc (suc zero))) le = refl
zeros_left (suc (suc (suc (suc zero)))) le = refl
zeros_left (suc (suc (suc (suc (suc zero))))) le = refl
zeros_left (suc (suc (suc (suc (suc (suc zero)))))) le = refl
zeros_left (suc (suc (suc (suc (suc (suc (suc zero))))))) le = refl
zeros_left (suc (suc (suc (suc (suc (suc (suc (suc zero)))))))) le = refl
zeros_left (suc (suc (suc (suc (suc (suc (suc (suc (suc n))))))))) le = absurd (omega arith)
