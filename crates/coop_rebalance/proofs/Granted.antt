-- What others are granted, by how often each partition is.
use Rattle.std.proofs.Common.{ℕ, suc, ◌≡◌, ◌≢◌, ◌+◌, ◌<◌, ◌==◌, Bool, true, false, ◌||◌, ◌&&◌, not, List, [], ◌∷◌, ◌++◌, length, map, take, get_or, Some, None, cond, refl, ap, sym, subst, ◌∙◌, arith}
use Rattle.std.proofs.lemmas.List.{take_all}
use Rattle.std.specs.Prelude.{nat_lt}
use Rattle.std.specs.List.Sorted.{IsStrictlyIncreasing}
use Rattle.std.proofs.lemmas.Bool.Decides.{nat_tests}
use Rattle.bit_planes.specs.PartitionSet.{PartitionSet, partitions_of, is_in, one, union, minus}
use Rattle.bit_planes.specs.SetRows.{SetRows, IsValidRows, find_row, set_or_empty}
use Rattle.bit_planes.proofs.Sets.{in_empty, in_minus, in_union, partitions_minus, partitions_union}
use Rattle.bit_planes.proofs.RowLaws.{rising_first, rising_rest}
use Rattle.coop_rebalance.specs.Private.Grants.{times_granted, AreGrants}
use Rattle.coop_rebalance.specs.Withheld.{granted_to_other}

abbrev Rows : Type 0
Rows = List (ℕ × PartitionSet)

eq_self : (n : ℕ) → (n == n) ≡ true
eq_self n = grind (arith, nat_tests)

eq_other : (m n : ℕ) → m ≢ n → (m == n) ≡ false
eq_other m n ne = grind (arith, nat_tests)

eq_says : (m n : ℕ) → (m == n) ≡ true → m ≡ n
eq_says m n e = grind (arith, nat_tests)

times_to_others : Rows → ℕ → ℕ → ℕ
times_to_others [] m q = 0
times_to_others (row ∷ rows) m q = one (not (row.0 == m) && is_in row.1 q) + times_to_others rows m q

some_time : (x : Bool) (n : ℕ) → (x || nat_lt 0 n) ≡ nat_lt 0 (one x + n)
some_time true n = grind (arith, nat_tests)
some_time false n = let z : 0 + n ≡ n = omega arith in rw z refl

to_other-counts : (rows : Rows) (m q : ℕ) → granted_to_other rows m q ≡ nat_lt 0 (times_to_others rows m q)
unfolding times_to_others
to_other-counts [] m q = grind (arith, nat_tests)
to_other-counts (row ∷ rows) m q =
    let mine : Bool = not (row.0 == m) && is_in row.1 q in
    ap (λ b. mine || b) (to_other-counts rows m q) ∙ some_time mine (times_to_others rows m q)

above_are_others : (rows : Rows) (m q : ℕ) → ((i : ℕ) → i < length (map (λ row. row.0) rows) → m < get_or (map (λ row. row.0) rows) i 0) → times_to_others rows m q ≡ times_granted rows q
unfolding times_to_others
above_are_others [] m q above = refl
above_are_others (row ∷ rows) m q above =
    let first = above 0 (omega arith) in
    let other = eq_other row.0 m (omega (arith, first)) in
    rw (other, above_are_others rows m q (λ i lt. above (suc i) (omega arith))) refl

own_or_not : (rows : Rows) (p m q : ℕ) → IsStrictlyIncreasing (map (λ row. row.0) rows) → times_granted rows q ≡ times_to_others rows m q + one (is_in (set_or_empty p (find_row rows m)) q)
unfolding times_to_others
own_or_not [] p m q rising = rw (in_empty p q) refl
own_or_not (row ∷ rows) p m q rising =
    let names : List ℕ = map (λ row. row.0) rows in
    elim (row.0 == m) as (λ b. (row.0 == m) ≡ b → one (is_in row.1 q) + times_granted rows q ≡ (one (not b && is_in row.1 q) + times_to_others rows m q) + one (is_in (set_or_empty p (cond b (Some row.1) (find_row rows m))) q)) [
      | true ↦ λ e.
          let here = eq_says row.0 m e in
          let rest = above_are_others rows m q (λ i lt. let above = rising_first row.0 names rising i lt in omega (arith, here, above)) in
          omega (arith, rest)
      | false ↦ λ e. omega (arith, own_or_not rows p m q (rising_rest row.0 names rising))
    ] refl

counts_others : (o : ℕ) (x : Bool) → ((nat_lt 0 (o + one x) && not x) || nat_lt 1 (o + one x)) ≡ nat_lt 0 o
counts_others o true = grind (arith, nat_tests)
counts_others o false = grind (arith, nat_tests)

pub others_granted : (some several own : PartitionSet) (r : SetRows) (m q : ℕ) → IsValidRows r → AreGrants some several r → find_row r.rows m ≡ Some own → ((is_in some q && not (is_in own q)) || is_in several q) ≡ granted_to_other r.rows m q
others_granted some several own r m q valid grants found =
    let own_is : one (is_in (set_or_empty r.partitions (find_row r.rows m)) q) ≡ one (is_in own q) = ap (λ o. one (is_in (set_or_empty r.partitions o) q)) found in
    let times : times_granted r.rows q ≡ times_to_others r.rows m q + one (is_in own q) = own_or_not r.rows r.partitions m q valid.rising ∙ ap (λ n. times_to_others r.rows m q + n) own_is in
    rw (grants.to_several q, grants.to_some q, times, to_other-counts r.rows m q) (counts_others (times_to_others r.rows m q) (is_in own q))

pub others_alone : (some several : PartitionSet) (r : SetRows) (m q : ℕ) → IsValidRows r → AreGrants some several r → find_row r.rows m ≡ None → is_in some q ≡ granted_to_other r.rows m q
others_alone some several r m q valid grants found =
    let own_is : one (is_in (set_or_empty r.partitions (find_row r.rows m)) q) ≡ 0 = ap (λ o. one (is_in (set_or_empty r.partitions o) q)) found ∙ ap one (in_empty r.partitions q) in
    let times : times_granted r.rows q ≡ times_to_others r.rows m q = omega (arith, own_or_not r.rows r.partitions m q valid.rising, own_is) in
    rw (grants.to_some q, times, to_other-counts r.rows m q) refl

times-last : (rows : Rows) (row : ℕ × PartitionSet) (q : ℕ) → times_granted (rows ++ row ∷ []) q ≡ times_granted rows q + one (is_in row.1 q)
times-last [] row q = omega arith
times-last (r ∷ rows) row q = omega (arith, times-last rows row q)

more_some : (t : ℕ) (x : Bool) → (nat_lt 0 t || (x && not (nat_lt 0 t))) ≡ nat_lt 0 (t + one x)
more_some t true = grind (arith, nat_tests)
more_some t false = grind (arith, nat_tests)

more_several : (t : ℕ) (x : Bool) → (nat_lt 1 t || (x && not (x && not (nat_lt 0 t)))) ≡ nat_lt 1 (t + one x)
more_several t true = grind (arith, nat_tests)
more_several t false = grind (arith, nat_tests)

pub grants_more : (p : ℕ) (rows : Rows) (row : ℕ × PartitionSet) (some several : PartitionSet) → partitions_of row.1 ≡ p → AreGrants some several (record { partitions = p; rows = rows })
    → AreGrants (union some (minus row.1 some)) (union several (minus row.1 (minus row.1 some))) (record { partitions = p; rows = rows ++ row ∷ [] })
grants_more p rows row some several below g =
    let fresh : PartitionSet = minus row.1 some in
    let some_len : partitions_of some ≡ partitions_of fresh = g.some_below ∙ sym (partitions_minus row.1 some ∙ below) in
    let several_len : partitions_of several ≡ partitions_of (minus row.1 fresh) = g.several_below ∙ sym (partitions_minus row.1 fresh ∙ below) in
    record {
      some_below = partitions_union some fresh ∙ g.some_below;
      several_below = partitions_union several (minus row.1 fresh) ∙ g.several_below;
      to_some = λ q. rw (in_union some fresh q some_len, in_minus row.1 some q, g.to_some q, times-last rows row q) (more_some (times_granted rows q) (is_in row.1 q));
      to_several = λ q. rw (in_union several (minus row.1 fresh) q several_len, in_minus row.1 fresh q, in_minus row.1 some q, g.to_several q, g.to_some q, times-last rows row q) (more_several (times_granted rows q) (is_in row.1 q));
    }

more_some_all : (t : ℕ) (x : Bool) → (nat_lt 0 t || x) ≡ nat_lt 0 (t + one x)
more_some_all t true = grind (arith, nat_tests)
more_some_all t false = grind (arith, nat_tests)

fresh_several : (t : ℕ) (x : Bool) → (x && nat_lt 0 t) ≡ false → nat_lt 1 t ≡ nat_lt 1 (t + one x)
fresh_several t true e = grind (arith, nat_tests)
fresh_several t false e = grind (arith, nat_tests)

pub grants_again : (p : ℕ) (rows : Rows) (row : ℕ × PartitionSet) (some several : PartitionSet) → partitions_of row.1 ≡ p → AreGrants some several (record { partitions = p; rows = rows })
    → AreGrants (union some row.1) (union several (minus row.1 (minus row.1 some))) (record { partitions = p; rows = rows ++ row ∷ [] })
grants_again p rows row some several below g =
    let fresh : PartitionSet = minus row.1 some in
    let several_len : partitions_of several ≡ partitions_of (minus row.1 fresh) = g.several_below ∙ sym (partitions_minus row.1 fresh ∙ below) in
    record {
      some_below = partitions_union some row.1 ∙ g.some_below;
      several_below = partitions_union several (minus row.1 fresh) ∙ g.several_below;
      to_some = λ q. rw (in_union some row.1 q (g.some_below ∙ sym below), g.to_some q, times-last rows row q) (more_some_all (times_granted rows q) (is_in row.1 q));
      to_several = λ q. rw (in_union several (minus row.1 fresh) q several_len, in_minus row.1 fresh q, in_minus row.1 some q, g.to_several q, g.to_some q, times-last rows row q) (more_several (times_granted rows q) (is_in row.1 q));
    }

pub grants_fresh : (p : ℕ) (rows : Rows) (row : ℕ × PartitionSet) (some several : PartitionSet) → partitions_of row.1 ≡ p → ((q : ℕ) → (is_in row.1 q && is_in some q) ≡ false) → AreGrants some several (record { partitions = p; rows = rows })
    → AreGrants (union some row.1) several (record { partitions = p; rows = rows ++ row ∷ [] })
grants_fresh p rows row some several below disjoint g = record {
  some_below = partitions_union some row.1 ∙ g.some_below;
  several_below = g.several_below;
  to_some = λ q. rw (in_union some row.1 q (g.some_below ∙ sym below), g.to_some q, times-last rows row q) (more_some_all (times_granted rows q) (is_in row.1 q));
  to_several = λ q. g.to_several q ∙ (fresh_several (times_granted rows q) (is_in row.1 q) (ap (λ b. is_in row.1 q && b) (sym (g.to_some q)) ∙ disjoint q) ∙ ap (λ n. nat_lt 1 n) (sym (times-last rows row q)));
}

pub grants_all : (r : SetRows) (some several : PartitionSet) (i : ℕ) → i ≡ length r.rows → AreGrants some several (record { partitions = r.partitions; rows = take i r.rows }) → AreGrants some several r
grants_all r some several i e g = subst (λ (rows : Rows). AreGrants some several (record { partitions = r.partitions; rows = rows })) (take_all i r.rows (omega arith)) g
