-- The target as the code makes it is the target by counts and ranks.
use Rattle.std.proofs.Common.{ℕ, zero, suc, ◌≡◌, ◌+◌, ◌-◌, ◌/◌, ◌%◌, ◌<◌, ◌≤◌, Bool, true, false, ◌||◌, ◌&&◌, not, List, [], ◌∷◌, length, take, get_or, min, refl, ap, sym, ◌∙◌, arith, cond}
use Rattle.std.proofs.lemmas.Bool.{lt-ltb}
use Rattle.std.proofs.lemmas.Bool.Decides.{nat_tests}
use Rattle.std.specs.Prelude.{nat_lt, nat_le}
use Rattle.bit_planes.specs.PartitionSet.{PartitionSet, partitions_of, is_in, one, any_below, rank, size, union, minus, lowest}
use Rattle.bit_planes.proofs.Sets.{same_set, partitions_where, in_where, in_full, in_minus, in_lowest, partitions_lowest, partitions_minus, rank_is, rank_next, rank_lowest, lowest_splits}
use Rattle.sticky_assignor.specs.Private.Filling.{one_of, shares, quotas, retaining, free_of, gaps, filled, filling}
use Rattle.sticky_assignor.specs.Target.{is_heavy, heavies, row_at, sum_below, quota_of, retained_row, free_set, gap_of, covers, taken_row, rows_by, target}
use Rattle.sticky_assignor.proofs.Balance.{total, heavies_cons, length_shares, partitions_free, length_gaps, retaining_fits}

-- ---- quotas by index
one_of_lt : (n : ℕ) → one_of n ≡ one (nat_lt 0 n)
one_of_lt zero = refl
one_of_lt (suc n) = rw (lt-ltb 0 (suc n) (omega arith)) refl

lt_one_less : (a h : ℕ) → nat_lt a (h - 1) ≡ nat_lt (1 + a) h
lt_one_less a h = grind (arith, nat_tests)

heavy_step : (share h o i a n : ℕ) (c : Bool) → n ≡ 1 + a → share + one (cond c (nat_lt a (h - 1)) (nat_lt (i - a) o)) ≡ share + one (cond c (nat_lt n h) (nat_lt (suc i - n) o))
heavy_step share h o i a n true e = ap (λ b. share + one b) (lt_one_less a h ∙ ap (λ m. nat_lt m h) (sym e))
heavy_step share h o i a n false e = let d : i - a ≡ suc i - n = omega arith in ap (λ m. share + one (nat_lt m o)) d

light_step : (share h o i a n : ℕ) (c : Bool) → a ≤ i → n ≡ 0 + a → share + one (cond c (nat_lt a h) (nat_lt (i - a) (o - 1))) ≡ share + one (cond c (nat_lt n h) (nat_lt (suc i - n) o))
light_step share h o i a n true le e = let d : a ≡ n = omega arith in ap (λ m. share + one (nat_lt m h)) d
light_step share h o i a n false le e = let d : 1 + (i - a) ≡ suc i - n = omega arith in ap (λ b. share + one b) (lt_one_less (i - a) o ∙ ap (λ m. nat_lt m o) d)

heavies_before : (share : ℕ) (rows : List PartitionSet) (i : ℕ) → heavies share (take i rows) ≤ i
heavies_before share rows zero = omega arith
heavies_before share [] (suc i) = omega arith
heavies_before share (row ∷ rows) (suc i) = grind (arith, heavies_cons share row (take i rows), heavies_before share rows i)

share_at : (share h o : ℕ) (rows : List PartitionSet) (i : ℕ) → i < length rows
    → get_or (shares share h o rows) i 0 ≡ share + one (cond (is_heavy share (row_at rows i)) (nat_lt (heavies share (take i rows)) h) (nat_lt (i - heavies share (take i rows)) o))
share_at share h o [] i lt = absurd (omega arith)
share_at share h o (row ∷ rows) zero lt =
    elim (is_heavy share row) as (λ b. get_or (cond b ((share + one_of h) ∷ shares share (h - 1) o rows) ((share + one_of o) ∷ shares share h (o - 1) rows)) 0 0 ≡ share + one (cond b (nat_lt 0 h) (nat_lt 0 o))) [
      | true ↦ ap (λ n. share + n) (one_of_lt h)
      | false ↦ ap (λ n. share + n) (one_of_lt o)
    ]
share_at share h o (row ∷ rows) (suc i) lt =
    let a : ℕ = heavies share (take i rows) in
    let n : ℕ = heavies share (row ∷ take i rows) in
    let c : Bool = is_heavy share (row_at rows i) in
    elim (is_heavy share row) as (λ b. n ≡ cond b 1 0 + a → get_or (cond b ((share + one_of h) ∷ shares share (h - 1) o rows) ((share + one_of o) ∷ shares share h (o - 1) rows)) (suc i) 0 ≡ share + one (cond c (nat_lt n h) (nat_lt (suc i - n) o))) [
      | true ↦ λ e. share_at share (h - 1) o rows i (omega arith) ∙ heavy_step share h o i a n c e
      | false ↦ λ e. share_at share h (o - 1) rows i (omega arith) ∙ light_step share h o i a n c (heavies_before share rows i) e
    ] (heavies_cons share row (take i rows))

-- ---- what is beyond the lowest, by rank
rank_parts : (n : ℕ) (s : PartitionSet) (q : ℕ) → rank (minus s (lowest n s)) q + rank (lowest n s) q ≡ rank s q
rank_parts n s zero = omega (arith, rank_is s 0, rank_is (lowest n s) 0, rank_is (minus s (lowest n s)) 0)
rank_parts n s (suc q) =
    omega (arith, rank_parts n s q, rank_next s q, rank_next (lowest n s) q, rank_next (minus s (lowest n s)) q, lowest_splits n s q)

rank_beyond : (n : ℕ) (s : PartitionSet) (q : ℕ) → rank (minus s (lowest n s)) q ≡ rank s q - n
rank_beyond n s q = omega (arith, rank_parts n s q, rank_lowest n s q)

-- ---- what the member at index i is given
abbrev given : PartitionSet → List ℕ → ℕ → PartitionSet
given free [] i = free
given free (g ∷ gs) zero = lowest g free
given free (g ∷ gs) (suc i) = given (minus free (lowest g free)) gs i

partitions_given : (free : PartitionSet) (gs : List ℕ) (i : ℕ) → partitions_of (given free gs i) ≡ partitions_of free
partitions_given free [] i = refl
partitions_given free (g ∷ gs) zero = partitions_lowest g free
partitions_given free (g ∷ gs) (suc i) = partitions_given (minus free (lowest g free)) gs i ∙ partitions_minus free (lowest g free)

-- whether the gap at i covers r
abbrev covered : List ℕ → ℕ → ℕ → Bool
covered gs i r = nat_le (total (take i gs)) r && nat_lt r (total (take (suc i) gs))

covered_rest : (x y : Bool) (g a b r : ℕ) → a ≤ b → y ≡ (x && not (x && nat_lt r g)) → (y && (nat_le a (r - g) && nat_lt (r - g) b)) ≡ (x && (nat_le (g + a) r && nat_lt r (g + b)))
covered_rest false y g a b r le e = rw e refl
covered_rest true y g a b r le e = rw e (grind (arith, nat_tests))

given_at : (free : PartitionSet) (gs : List ℕ) (i q : ℕ) → i < length gs → is_in (given free gs i) q ≡ (is_in free q && covered gs i (rank free q))
given_at free [] i q lt = absurd (omega arith)
given_at free (g ∷ gs) zero q lt = in_lowest g free q ∙ ap (λ b. is_in free q && b) (covers_first (rank free q))
  where
    covers_first : (r : ℕ) → nat_lt r g ≡ (nat_le 0 r && nat_lt r (g + 0))
    covers_first r = grind (arith, nat_tests)
given_at free (g ∷ gs) (suc i) q lt =
    let rest : PartitionSet = minus free (lowest g free) in
    let ih : is_in (given rest gs i) q ≡ (is_in rest q && covered gs i (rank rest q)) = given_at rest gs i q (omega arith) in
    let e : is_in rest q ≡ (is_in free q && not (is_in free q && nat_lt (rank free q) g)) = in_minus free (lowest g free) q ∙ ap (λ b. is_in free q && not b) (in_lowest g free q) in
    ih ∙ rw (rank_beyond g free q) (covered_rest (is_in free q) (is_in rest q) g (total (take i gs)) (total (take (suc i) gs)) (rank free q) (total_more i gs) e)
  where
    total_more : (i : ℕ) (gs : List ℕ) → total (take i gs) ≤ total (take (suc i) gs)
    total_more zero gs = omega arith
    total_more (suc i) [] = omega arith
    total_more (suc i) (g ∷ gs) = omega (arith, total_more i gs)

filled_at : (free : PartitionSet) (gs : List ℕ) (ks : List PartitionSet) (i : ℕ) → i < length gs → i < length ks → row_at (filled free gs ks) i ≡ union (row_at ks i) (given free gs i)
filled_at free [] ks i lg lk = absurd (omega arith)
filled_at free (g ∷ gs) [] i lg lk = absurd (omega arith)
filled_at free (g ∷ gs) (k ∷ ks) zero lg lk = refl
filled_at free (g ∷ gs) (k ∷ ks) (suc i) lg lk = filled_at (minus free (lowest g free)) gs ks i (omega arith) (omega arith)

rows_same : (rows : List PartitionSet) (f : ℕ → PartitionSet) → ((i : ℕ) → i < length rows → f i ≡ row_at rows i) → rows_by (length rows) f ≡ rows
rows_same [] f same = refl
rows_same (row ∷ rows) f same =
    rw (same 0 (omega arith)) (ap (λ rs. row ∷ rs) (rows_same rows (λ i. f (suc i)) (λ i lt. same (suc i) (omega arith))))

-- ---- what is kept, and what is free
quota_at : (p : ℕ) (owned : List PartitionSet) (i : ℕ) → i < length owned → get_or (quotas p owned) i 0 ≡ quota_of p owned i
quota_at p owned i lt =
    let share : ℕ = p / length owned in
    let h : ℕ = min (p % length owned) (heavies share owned) in
    share_at share h (p % length owned - h) owned i lt

retaining_at : (qs : List ℕ) (owned : List PartitionSet) (i : ℕ) → i < length qs → i < length owned → row_at (retaining qs owned) i ≡ lowest (get_or qs i 0) (row_at owned i)
retaining_at [] owned i lq lo = absurd (omega arith)
retaining_at (n ∷ qs) [] i lq lo = absurd (omega arith)
retaining_at (n ∷ qs) (own ∷ owned) zero lq lo = refl
retaining_at (n ∷ qs) (own ∷ owned) (suc i) lq lo = retaining_at qs owned i (omega arith) (omega arith)

gaps_at : (qs : List ℕ) (ks : List PartitionSet) (i : ℕ) → i < length qs → i < length ks → get_or (gaps qs ks) i 0 ≡ get_or qs i 0 - size (row_at ks i)
gaps_at [] ks i lq lk = absurd (omega arith)
gaps_at (n ∷ qs) [] i lq lk = absurd (omega arith)
gaps_at (n ∷ qs) (k ∷ ks) zero lq lk = refl
gaps_at (n ∷ qs) (k ∷ ks) (suc i) lq lk = gaps_at qs ks i (omega arith) (omega arith)

abbrev any_row : List PartitionSet → ℕ → Bool
any_row [] q = false
any_row (row ∷ rows) q = is_in row q || any_row rows q

any_first : (n : ℕ) (f : ℕ → Bool) → any_below (suc n) f ≡ (f 0 || any_below n (λ i. f (suc i)))
any_first zero f = or_none (f 0)
  where
    or_none : (x : Bool) → (false || x) ≡ (x || false)
    or_none true = refl
    or_none false = refl
any_first (suc n) f = ap (λ b. b || f (suc n)) (any_first n f) ∙ or_or (f 0) (any_below n (λ i. f (suc i))) (f (suc n))
  where
    or_or : (x y z : Bool) → ((x || y) || z) ≡ (x || (y || z))
    or_or true y z = refl
    or_or false y z = refl

any_same : (rows : List PartitionSet) (f : ℕ → Bool) (q : ℕ) → ((i : ℕ) → i < length rows → f i ≡ is_in (row_at rows i) q) → any_below (length rows) f ≡ any_row rows q
any_same [] f q same = refl
any_same (row ∷ rows) f q same =
    any_first (length rows) f ∙ rw (same 0 (omega arith)) (ap (λ b. is_in row q || b) (any_same rows (λ i. f (suc i)) q (λ i lt. same (suc i) (omega arith))))

in_free : (p : ℕ) (rows : List PartitionSet) (q : ℕ) → q < p → is_in (free_of p rows) q ≡ not (any_row rows q)
in_free p [] q lt = in_full p q lt
in_free p (row ∷ rows) q lt =
    in_minus (free_of p rows) row q ∙ ap (λ b. b && not (is_in row q)) (in_free p rows q lt) ∙ and_nor (any_row rows q) (is_in row q)
  where
    and_nor : (y z : Bool) → (not y && not z) ≡ not (z || y)
    and_nor true true = refl
    and_nor true false = refl
    and_nor false true = refl
    and_nor false false = refl

pub length_retaining : (qs : List ℕ) (owned : List PartitionSet) → length qs ≡ length owned → length (retaining qs owned) ≡ length owned
length_retaining [] [] len = refl
length_retaining [] (own ∷ owned) len = absurd (omega arith)
length_retaining (q ∷ qs) [] len = absurd (omega arith)
length_retaining (q ∷ qs) (own ∷ owned) len = ap (λ n. suc n) (length_retaining qs owned (omega arith))

pub length_quotas : (p : ℕ) (owned : List PartitionSet) → length (quotas p owned) ≡ length owned
length_quotas p owned =
    let share : ℕ = p / length owned in
    let h : ℕ = min (p % length owned) (heavies share owned) in
    length_shares share h (p % length owned - h) owned

retained_at : (p : ℕ) (owned : List PartitionSet) (i : ℕ) → i < length owned → retained_row p owned i ≡ row_at (retaining (quotas p owned) owned) i
retained_at p owned i lt =
    let lq = length_quotas p owned in
    sym (retaining_at (quotas p owned) owned i (omega arith) lt ∙ ap (λ n. lowest n (row_at owned i)) (quota_at p owned i lt))

free_same : (p : ℕ) (owned : List PartitionSet) → free_set p owned ≡ free_of p (retaining (quotas p owned) owned)
free_same p owned =
    let retained : List PartitionSet = retaining (quotas p owned) owned in
    let lk : length retained ≡ length owned = length_retaining (quotas p owned) owned (length_quotas p owned) in
    let f : ℕ → ℕ → Bool = λ q i. is_in (retained_row p owned i) q in
    let ps : partitions_of (free_set p owned) ≡ p = partitions_where p (λ q. not (any_below (length owned) (f q))) in
    same_set (free_set p owned) (free_of p retained) (ps ∙ sym (partitions_free p retained)) (λ q lt.
    let any : any_below (length owned) (f q) ≡ any_row retained q = ap (λ n. any_below n (f q)) (sym lk) ∙ any_same retained (f q) q (λ i l. ap (λ s. is_in s q) (retained_at p owned i (omega arith))) in
    in_where p (λ q. not (any_below (length owned) (f q))) q (omega arith) ∙ ap not any ∙ sym (in_free p retained q (omega arith)))

-- ---- gaps laid end to end
total_next : (gs : List ℕ) (i : ℕ) → total (take (suc i) gs) ≡ total (take i gs) + get_or gs i 0
total_next [] zero = refl
total_next [] (suc i) = refl
total_next (g ∷ gs) zero = omega arith
total_next (g ∷ gs) (suc i) = omega (arith, total_next gs i)

gaps_before : (gs : List ℕ) (f : ℕ → ℕ) (i : ℕ) → i ≤ length gs → ((j : ℕ) → j < length gs → get_or gs j 0 ≡ f j) → sum_below i f ≡ total (take i gs)
gaps_before gs f zero le same = refl
gaps_before gs f (suc i) le same = let e = same i (omega arith) in omega (arith, gaps_before gs f i (omega arith) same, total_next gs i)

pub length_filled : (free : PartitionSet) (gs : List ℕ) (ks : List PartitionSet) → length gs ≡ length ks → length (filled free gs ks) ≡ length ks
length_filled free [] [] len = refl
length_filled free [] (k ∷ ks) len = absurd (omega arith)
length_filled free (g ∷ gs) [] len = absurd (omega arith)
length_filled free (g ∷ gs) (k ∷ ks) len = ap (λ n. suc n) (length_filled (minus free (lowest g free)) gs ks (omega arith))

pub filling_is_target : (p : ℕ) (owned : List PartitionSet) → filling p owned ≡ target p owned
unfolding target
filling_is_target p owned =
    let qs : List ℕ = quotas p owned in
    let retained : List PartitionSet = retaining qs owned in
    let free : PartitionSet = free_of p retained in
    let gs : List ℕ = gaps qs retained in
    let lq : length qs ≡ length owned = length_quotas p owned in
    let lk : length retained ≡ length owned = length_retaining qs owned lq in
    let lg : length gs ≡ length retained = length_gaps qs retained (retaining_fits qs owned lq) in
    let lt : length (filling p owned) ≡ length owned = length_filled free gs retained lg ∙ lk in
    let fr : free_set p owned ≡ free = free_same p owned in
    let row : ℕ → PartitionSet = λ i. union (retained_row p owned i) (taken_row p owned i) in
    let gap : (j : ℕ) → j < length gs → get_or gs j 0 ≡ gap_of p owned j = λ j l.
    let lj : j < length owned = omega arith in
    gaps_at qs retained j (omega arith) (omega arith) ∙ ap (λ m. m - size (row_at retained j)) (quota_at p owned j lj) ∙ ap (λ s. quota_of p owned j - size s) (sym (retained_at p owned j lj)) in
    let before : (i : ℕ) → i ≤ length gs → sum_below i (gap_of p owned) ≡ total (take i gs) = λ i le. gaps_before gs (gap_of p owned) i le gap in
    let taken : (i : ℕ) → i < length owned → taken_row p owned i ≡ given free gs i = λ i l.
    let f : ℕ → Bool = λ q. is_in (free_set p owned) q && covers p owned i (rank (free_set p owned) q) in
    same_set (taken_row p owned i) (given free gs i) (partitions_where p f ∙ sym (partitions_given free gs i ∙ partitions_free p retained)) (λ q few.
    let e = partitions_where p f in
    in_where p f q (omega arith) ∙ rw (fr, before (suc i) (omega arith), before i (omega arith)) (sym (given_at free gs i q (omega arith)))) in
    sym (ap (λ m. rows_by m row) (sym lt) ∙ rows_same (filling p owned) row (λ i l.
    let li : i < length owned = omega arith in
    ap (λ s. union s (taken_row p owned i)) (retained_at p owned i li) ∙ ap (λ s. union (row_at retained i) s) (taken i li) ∙ sym (filled_at free gs retained i (omega arith) (omega arith))))
