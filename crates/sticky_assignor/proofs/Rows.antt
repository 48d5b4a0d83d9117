-- Sets and rows of sets, in words that the other proofs share.
use Rattle.std.proofs.Common.{ℕ, zero, suc, ◌≡◌, ◌+◌, ◌<◌, ◌≤◌, ◌==◌, Bool, true, false, List, [], ◌∷◌, refl, ap, sym, arith}
use Rattle.std.proofs.lemmas.Bool.Decides.{nat_tests}
use Rattle.bit_planes.specs.PartitionSet.{PartitionSet, partitions_of, is_in, one, how_many, size, minus, lowest}
use Rattle.bit_planes.proofs.Sets.{past, none_of_no_size, lowest_within, partitions_lowest, size_minus}
use Rattle.sticky_assignor.specs.Balanced.{holders, AreBelow}

pub one_past : (s : PartitionSet) (q : ℕ) → partitions_of s ≤ q → one (is_in s q) ≡ 0
one_past s q le = ap one (past s q le)

pub one_none : (s : PartitionSet) (q : ℕ) → size s ≡ 0 → one (is_in s q) ≡ 0
one_none s q e = ap one (none_of_no_size s q e)

pub is_false : (x : Bool) → one x ≡ 0 → x ≡ false
is_false true e = absurd (omega arith)
is_false false e = refl

pub size_beyond : (n : ℕ) (s : PartitionSet) → size (minus s (lowest n s)) + size (lowest n s) ≡ size s
size_beyond n s = size_minus s (lowest n s) (sym (partitions_lowest n s)) (lowest_within n s)

pub none_past : (p : ℕ) (rows : List PartitionSet) (q : ℕ) → AreBelow p rows → p ≤ q → holders rows q ≡ 0
none_past p [] q over le = refl
none_past p (row ∷ rows) q over le = let l = over.0 in omega (arith, one_past row q (omega arith), none_past p rows q over.1 le)

pub how_many-most : (n : ℕ) (f g : ℕ → Bool) → ((q : ℕ) → one (f q) ≤ one (g q)) → how_many n f ≤ how_many n g
how_many-most zero f g le = omega arith
how_many-most (suc n) f g le = omega (arith, le n, how_many-most n f g le)

pub eq_self : (n : ℕ) → (n == n) ≡ true
eq_self n = grind (arith, nat_tests)

pub not_eq : (m n : ℕ) → m < n → (m == n) ≡ false
not_eq m n lt = grind (arith, nat_tests)

pub not_eq_back : (m n : ℕ) → m < n → (n == m) ≡ false
not_eq_back m n lt = grind (arith, nat_tests)
