-- Counters that are raised entry by entry, as the plain program raises them.
use Rattle.std.proofs.Common.{◌≡◌, ◌∙◌, ◌+◌, ◌<◌, ◌^◌, ℕ, zero, suc, Bool, true, false, List, [], ◌∷◌, length, cond, get_or, set, sym, ap, refl, arith, inl, inr, get_or-set_same, get_or-set_other}
use Rattle.std.specs.Prelude.{◌==◌}
use Rattle.std.proofs.lemmas.Bool.Decides.{eqb_tells, nat_tests}
use Rattle.std.proofs.lemmas.List.{ext_get_or}
use Rattle.std.proofs.Math.ListN.{length-set}
use Rattle.std.proofs.Common.{Some, Less}
use Rattle.std.specs.BTreeMap.{BTreeMap, IsOrdered}
use Rattle.std.specs.List.{AllByRecursion, slice_get}
use Rattle.std.proofs.lemmas.Cmp.{nat_cmp_total}
use Rattle.std.proofs.lemmas.Map.Entries.{btree_map_get_place}
use Rattle.std.specs.List.Sorted.{IsStrictlySortedBy}
use Rattle.std.specs.Map.{keys_of, lookup}
use Rattle.std.specs.Option.{unwrap_or}
use Rattle.std.specs.Ordering.{is_eq, nat_cmp}
use Rattle.std.proofs.lemmas.Map.Keys.{sorted_head, sorted_tail}
use Rattle.cluster_tests.specs.ReferencePartial.{HasCountsOf, counted}
use Rattle.keyed_table.specs.Counts.{HaveCounters, SumsFit, plain, raised, raised_from}
use Rattle.cluster_tests.proofs.reference_partial.Listed.{count-of-counted, of-counted}
use Rattle.keyed_table.proofs.Raised.{counter-raised, length-raised}

-- what entries say of a number, all together
abbrev pub total : List (ℕ × ℕ) → ℕ → ℕ
total [] x = 0
total (e ∷ es) x = cond (x == e.0) e.1 0 + total es x

abbrev pub with_entry : List ℕ → ℕ × ℕ → List ℕ
with_entry counts e = set counts e.0 (get_or counts e.0 0 + e.1)

abbrev pub with_entries : List ℕ → List (ℕ × ℕ) → List ℕ
with_entries counts [] = counts
with_entries counts (e ∷ es) = with_entries (with_entry counts e) es

-- each entry has a counter, which has room for it when its turn comes
abbrev pub CanTake : List ℕ → List (ℕ × ℕ) → Type 0
CanTake counts [] = Unit {0}
CanTake counts (e ∷ es) = (e.0 < length counts) × (get_or counts e.0 0 + e.1 < 2 ^ 64) × CanTake (with_entry counts e) es

abbrev pub AllSome : List (ℕ × ℕ) → Type 0
AllSome [] = Unit {0}
AllSome (e ∷ es) = (0 < e.1) × AllSome es

counter-after : (counts : List ℕ) (e : ℕ × ℕ) (x : ℕ) → e.0 < length counts → get_or (with_entry counts e) x 0 ≡ get_or counts x 0 + cond (x == e.0) e.1 0
counter-after counts e x lt =
    elim (eqb_tells x e.0) [
      | inl t ↦ rw t.0 (ap (λ y. get_or (with_entry counts e) y 0) t.1 ∙ get_or-set_same counts e.0 _ 0 lt ∙ ap (λ y. get_or counts y 0 + e.1) (sym t.1))
      | inr f ↦ rw f.0 (get_or-set_other counts e.0 x _ 0 f.1 ∙ omega arith)
    ]

pub counter-after-all : (counts : List ℕ) (es : List (ℕ × ℕ)) (x : ℕ) → CanTake counts es → get_or (with_entries counts es) x 0 ≡ get_or counts x 0 + total es x
counter-after-all counts [] x can = omega arith
counter-after-all counts (e ∷ es) x can = omega (arith, counter-after-all (with_entry counts e) es x can.2, counter-after counts e x can.0)

pub length-after : (counts : List ℕ) (es : List (ℕ × ℕ)) → length (with_entries counts es) ≡ length counts
length-after counts [] = refl
length-after counts (e ∷ es) = length-after (with_entry counts e) es ∙ length-set counts e.0 _

pub can-take : (counts : List ℕ) (es : List (ℕ × ℕ)) → ((x : ℕ) → 0 < total es x → x < length counts) → AllSome es → ((x : ℕ) → get_or counts x 0 + total es x < 2 ^ 64) → CanTake counts es
can-take counts [] within some fit = tt
can-take counts (e ∷ es) within some fit =
    let own : (e.0 == e.0) ≡ true = elim (eqb_tells e.0 e.0) [
      | inl t ↦ t.0
      | inr f ↦ absurd (f.1 refl)
    ] in
    let here : total (e ∷ es) e.0 ≡ e.1 + total es e.0 = ap (λ b. cond b e.1 0 + total es e.0) own in
    let lt : e.0 < length counts = within e.0 (omega (arith, here, some.0)) in
    let whole : (x : ℕ) → get_or (with_entry counts e) x 0 + total es x ≡ get_or counts x 0 + total (e ∷ es) x = λ x. omega (arith, counter-after counts e x lt) in (
      lt,
      omega (arith, here, fit e.0),
      can-take (with_entry counts e) es
          (λ x more. rw (length-set counts e.0 (get_or counts e.0 0 + e.1)) (within x (omega (arith, more))))
          some.1
          (λ x. omega (arith, whole x, fit x)),
    )

-- counters raised by entries that say what a list says
pub raised-is : (counts : List ℕ) (es : List (ℕ × ℕ)) (ids : List ℕ) → CanTake counts es → ((x : ℕ) → total es x ≡ plain ids x) → with_entries counts es ≡ raised counts ids
unfolding raised
raised-is counts es ids can say =
    ext_get_or 0 (with_entries counts es) (raised_from 0 counts ids) (length-after counts es ∙ sym (length-raised 0 counts ids))
    (λ x lt.
    let within : x < length counts = omega (arith, lt, length-after counts es) in
    let zero_on : 0 + x ≡ x = omega arith in
    counter-after-all counts es x can ∙ ap (λ n. get_or counts x 0 + n) (say x) ∙ sym (counter-raised 0 counts ids x within ∙ ap (λ y. get_or counts x 0 + plain ids y) zero_on))

less_is_other : (x y : ℕ) → nat_cmp x y ≡ Less → (x == y) ≡ false
less_is_other x y h = grind (arith, nat_tests)

equal_test : (x y : ℕ) → is_eq (nat_cmp x y) ≡ (x == y)
equal_test x y = grind (arith, nat_tests)

none-below : (es : List (ℕ × ℕ)) (x : ℕ) → AllByRecursion (λ y. nat_cmp x y ≡ Less) (keys_of es) → total es x ≡ 0
none-below [] x h = refl
none-below (e ∷ es) x h = let other = less_is_other x e.0 h.0 in rw other (omega (arith, none-below es x h.1))

looked-up : (b : Bool) (e : ℕ × ℕ) (es : List (ℕ × ℕ)) (x : ℕ) → (x == e.0) ≡ b → IsStrictlySortedBy nat_cmp (keys_of (e ∷ es)) → total es x ≡ unwrap_or (lookup (λ k. is_eq (nat_cmp x k)) es) 0
    → cond b e.1 0 + total es x ≡ unwrap_or (cond b (Some e.1) (lookup (λ k. is_eq (nat_cmp x k)) es)) 0
looked-up true e es x same sorted rest =
    let is : x ≡ e.0 = grind (arith, nat_tests) in
    let none : total es x ≡ 0 = ap (total es) is ∙ none-below es e.0 (sorted_head nat_cmp e.0 (keys_of es) sorted) in
    rw none (omega arith)
looked-up false e es x other sorted rest = rw rest (omega arith)

pub total-is : (es : List (ℕ × ℕ)) (x : ℕ) → IsStrictlySortedBy nat_cmp (keys_of es) → total es x ≡ unwrap_or (lookup (λ k. is_eq (nat_cmp x k)) es) 0
total-is [] x sorted = refl
total-is (e ∷ es) x sorted =
    let test = equal_test x e.0 in
    rw test (looked-up (x == e.0) e es x refl sorted (total-is es x (sorted_tail nat_cmp e.0 (keys_of es) sorted)))

all-some : (es : List (ℕ × ℕ)) → ((i x n : ℕ) → slice_get es i ≡ Some (x, n) → 0 < n) → AllSome es
all-some [] h = tt
all-some (e ∷ es) h = (h 0 e.0 e.1 refl, all-some es (λ i x n s. h (suc i) x n s))

pub says-counts : (m : BTreeMap ℕ ℕ) (ids : List ℕ) (x : ℕ) → IsOrdered nat_cmp m → HasCountsOf ids m → total m.entries x ≡ plain ids x
says-counts m ids x sorted has = total-is m.entries x sorted ∙ ap (λ o. unwrap_or o 0) (has x) ∙ count-of-counted (plain ids x)

some-counted : (n m : ℕ) → Some m ≡ counted n → 0 < m
some-counted zero m e = absurd (cc e)
some-counted (suc n) m e = let same = of-counted (suc n) m e in omega (arith, same)

pub takes-counts : (m : BTreeMap ℕ ℕ) (counts ids : List ℕ) → IsOrdered nat_cmp m → HasCountsOf ids m → HaveCounters counts ids → SumsFit counts ids → CanTake counts m.entries
takes-counts m counts ids sorted has within fit =
    can-take counts m.entries
    (λ x more. within x (omega (arith, says-counts m ids x sorted has, more)))
    (all-some m.entries (λ i x n s. some-counted (plain ids x) n (sym (btree_map_get_place nat_cmp_total m i x n sorted s) ∙ has x)))
    (λ x. omega (arith, says-counts m ids x sorted has, fit x))
