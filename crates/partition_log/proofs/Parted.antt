-- Each record of a list is in exactly one log.
use Rattle.std.proofs.Common.{◌≡◌, ◌∙◌, ◌+◌, ◌<◌, ◌≤◌, ℕ, zero, suc, Bool, true, false, List, [], ◌∷◌, cond, get_or, map, sym, ap, refl, arith, inl, inr}
use Rattle.std.specs.Prelude.{◌==◌, All, filter}
use Rattle.std.specs.Str.{bytes_eq}
use Rattle.std.proofs.lemmas.Bool.Decides.{eqb_tells}
use Rattle.std.proofs.lemmas.List.Sums.{sum_by-cons}
use Rattle.std.proofs.lemmas.List.Elements.{All-head, All-tail}
use Rattle.partition_log.specs.Keys.{Key, Keyed, keys_in, plain}
use Rattle.partition_log.specs.Logs.{IsValidLogs, AreLogsOf, PartitionLogs, keys_of_log, place_in, sum_below}
use Rattle.partition_log.proofs.Valid.{place-below}

pub sum-same : (n : ℕ) (f g : ℕ → ℕ) → ((p : ℕ) → p < n → f p ≡ g p) → sum_below n f ≡ sum_below n g
sum-same zero f g h = refl
sum-same (suc n) f g h = omega (arith, sum-same n f g (λ p lt. h p (omega (arith, lt))), h n (omega arith))

pub sum-plus : (n : ℕ) (f g : ℕ → ℕ) → sum_below n (λ p. f p + g p) ≡ sum_below n f + sum_below n g
sum-plus zero f g = refl
sum-plus (suc n) f g = omega (arith, sum-plus n f g)

pub sum-zero : (n : ℕ) → sum_below n (λ p. 0) ≡ 0
sum-zero zero = refl
sum-zero (suc n) = omega (arith, sum-zero n)

-- a sum with one term that counts
at_place : ℕ → ℕ → ℕ → ℕ
at_place place m p = cond (place == p) m 0

not_there : (place n m : ℕ) → n ≤ place → sum_below n (at_place place m) ≡ 0
unfolding at_place
not_there place zero m le = refl
not_there place (suc n) m le =
    let none : (place == n) ≡ false = elim (eqb_tells place n) [
      | inl t ↦ absurd (omega (arith, t.1, le))
      | inr f ↦ f.0
    ] in
    rw none (omega (arith, not_there place n m (omega (arith, le))))

there : (place n m : ℕ) → place < n → sum_below n (at_place place m) ≡ m
unfolding at_place
there place zero m lt = absurd (omega (arith, lt))
there place (suc n) m lt =
    elim (eqb_tells place n) [
      | inl t ↦ rw t.0 (omega (arith, not_there place n m (omega (arith, t.1))))
      | inr f ↦ rw f.0 (omega (arith, there place n m (omega (arith, lt, f.1))))
    ]

abbrev key_of : Keyed → Key
key_of keyed = keyed.1

one_key : (b : Bool) (k : Keyed) (x : Key) (ks : List Keyed) → plain (map key_of (cond b (k ∷ ks) ks)) x ≡ cond b (cond (bytes_eq x k.1) 1 0) 0 + plain (map key_of ks) x
one_key true k x ks = sum_by-cons (λ y. cond (bytes_eq x y) 1 0) k.1 (map key_of ks)
one_key false k x ks = omega arith

-- the records of all partitions, counted partition by partition
pub parted : (n : ℕ) (place : Keyed → ℕ) (ks : List Keyed) (x : Key) → All (λ k. place k < n) ks → sum_below n (λ p. plain (map key_of (filter (λ k. place k == p) ks)) x) ≡ plain (map key_of ks) x
unfolding at_place
parted n place [] x below = sum-zero n
parted n place (k ∷ ks) x below =
    let one = cond (bytes_eq x k.1) 1 0 in
    sum-same n (λ p. plain (map key_of (filter (λ y. place y == p) (k ∷ ks))) x) (λ p. at_place (place k) one p + plain (map key_of (filter (λ y. place y == p) ks)) x)
    (λ p lt. one_key (place k == p) k x (filter (λ y. place y == p) ks))
    ∙ sum-plus n (at_place (place k) one) (λ p. plain (map key_of (filter (λ y. place y == p) ks)) x)
    ∙ ap (λ m. m + sum_below n (λ p. plain (map key_of (filter (λ y. place y == p) ks)) x)) (there (place k) n one (All-head (λ y. place y < n) k ks below))
    ∙ ap (λ m. one + m) (parted n place ks x (All-tail (λ y. place y < n) k ks below))
    ∙ sym (sum_by-cons (λ y. cond (bytes_eq x y) 1 0) k.1 (map key_of ks))

-- in the logs of a list of records each key occurs as often as in the list
pub in_one_log : (appended : List Keyed) (l : PartitionLogs) (x : Key) → IsValidLogs l → AreLogsOf appended l → sum_below l.partitions (λ p. plain (keys_of_log l p) x) ≡ plain (keys_in appended) x
in_one_log appended l x a h =
    sum-same l.partitions (λ p. plain (keys_of_log l p) x) (λ p. plain (keys_in (filter (λ k. place_in l k == p) appended)) x) (λ p lt. ap (λ ks. plain ks x) (h.records p lt))
    ∙ parted l.partitions (place_in l) appended x (λ i d lt. place-below l (get_or appended i d) a (h.topics i d lt))
