-- Entries merged in their order.
use Rattle.std.proofs.Common.{◌≡◌, ◌≢◌, ◌∙◌, ◌+◌, ◌*◌, ◌<◌, ◌≤◌, ℕ, zero, suc, Bool, true, false, Some, None, List, [], ◌∷◌, ◌++◌, length, map, take, drop, cond, get_or, sym, subst, ap, refl, arith, inl, inr, append_assoc, length-append, get_or-set_same, get_or-set_other, length-set}
use Rattle.std.specs.Prelude.{count_by, filter, if◌then◌else◌, slice_set, sum_by}
use Rattle.std.specs.List.{fold}
use Rattle.std.specs.Str.{bytes_eq}
use Rattle.std.proofs.lemmas.Bool.{both_ways, cases_Bool, cases_eq, eq-eqb, ne_eqb}
use Rattle.std.proofs.lemmas.List.{append-nil, drop_more, get_or-map, length-map, map-append, take-append-drop, take_more}
use Rattle.std.proofs.lemmas.List.Elements.{filter-append}
use Rattle.std.proofs.lemmas.List.Sums.{fold_push, sum_by-append, sum_by-cons}
use Rattle.std.proofs.lemmas.Slice.Eq.{bytes_eq-Decides}
use Rattle.std.proofs.Math.Seq.{get_or-append_seam}
use Rattle.key_index.proofs.Filtered.{filter-distinct, interned-filter}
use Rattle.key_index.proofs.Firsts.{interned-there, new_is_next, number-there}
use Rattle.key_index.proofs.Growth.{interned}
use Rattle.key_index.specs.Keys.{Key, distinct, id_of, is_interned, key_at, lent, with_key}
use Rattle.key_counts.specs.Counts.{total}
use Rattle.key_counts.specs.Private.Twins.{IsOnce}
use Rattle.key_counts.specs.Private.Walks.{AreAt, AreClasses, AreTotalled, IsAt, IsNewTotal, IsNext, IsStart, IsWalked, is_of, kept}
use Rattle.key_counts.specs.Segments.{is_key, totals_of}
use Rattle.key_counts.specs.declared.classes.Class.{Class}
use Rattle.key_counts.specs.declared.classes.Totals.{Totals}
use Rattle.key_counts.specs.declared.twins.TheConstants.{CLASSES}
use Rattle.key_counts.specs.declared.walk.Position.{Position}
use Rattle.key_counts.specs.declared.walk.Walk.{Walk}

-- ---- a key that is there once
absent-more : (ks : List Key) (x y : Key) → is_interned ks x ≡ false → bytes_eq x y ≡ false → is_interned (ks ++ y ∷ []) x ≡ false
absent-more [] x y a e = rw e refl
absent-more (k ∷ ks) x y a e =
    elim (cases_Bool (bytes_eq x k)) [
      | inl here ↦ absurd (let clash : true ≡ false = rw here at a in cc clash)
      | inr other ↦ let later : is_interned ks x ≡ false = rw other at a in rw other (absent-more ks x y later e)
    ]

absent-at : (b : Bool) (ks : List Key) (x y : Key) → is_interned ks x ≡ false → bytes_eq x y ≡ false → is_interned (if b then ks else ks ++ y ∷ []) x ≡ false
absent-at true ks x y a e = a
absent-at false ks x y a e = absent-more ks x y a e

count-cons : (x y : Key) (ys : List Key) → count_by (bytes_eq x) (y ∷ ys) ≡ cond (bytes_eq x y) 1 0 + count_by (bytes_eq x) ys
count-cons x y ys = sum_by-cons (λ k. cond (bytes_eq x k) 1 0) y ys

absent-fold : (ks xs : List Key) (x : Key) → is_interned ks x ≡ false → count_by (bytes_eq x) xs ≡ 0 → is_interned (fold with_key ks xs) x ≡ false
absent-fold ks [] x a none = a
absent-fold ks (y ∷ xs) x a none =
    let all = count-cons x y xs in
    elim (cases_Bool (bytes_eq x y)) [
      | inl e ↦ let one : ◌≡◌ {A = ℕ} (cond (bytes_eq x y) 1 0) 1 = rw e refl in absurd (omega (arith, all, none, one))
      | inr e ↦ absent-fold (with_key ks y) xs x (absent-at (is_interned ks y) ks x y a e) (omega (arith, all, none))
    ]

absent : (xs : List Key) (x : Key) → count_by (bytes_eq x) xs ≡ 0 → is_interned (distinct xs) x ≡ false
unfolding distinct
absent xs x none = absent-fold [] xs x refl none

own-count : (x : Key) → ◌≡◌ {A = ℕ} (cond (bytes_eq x x) 1 0) 1
own-count x = rw ((bytes_eq-Decides x x).1 refl) refl

count-at : (xs : List Key) (k : ℕ) (x : Key) → k < length xs → x ≡ key_at xs k → 1 ≤ count_by (bytes_eq x) xs
count-at [] k x lt is = absurd (omega arith)
count-at (y ∷ xs) zero x lt is =
    let all = count-cons x y xs in
    let one : ◌≡◌ {A = ℕ} (cond (bytes_eq x y) 1 0) 1 = rw ((bytes_eq-Decides x y).1 is) refl in
    omega (arith, all, one)
count-at (y ∷ xs) (suc k) x lt is =
    let all = count-cons x y xs in
    let there = count-at xs k x (omega (arith, lt)) is in
    omega (arith, all, there)

total-none : (x : Key) (keys : List Key) (counts : List ℕ) → count_by (bytes_eq x) keys ≡ 0 → total (is_key x) keys counts ≡ 0
unfolding total
total-none x [] counts none = refl
total-none x (y ∷ keys) [] none = refl
total-none x (y ∷ keys) (n ∷ counts) none =
    let all = count-cons x y keys in
    elim (cases_Bool (bytes_eq x y)) [
      | inl e ↦ let one : ◌≡◌ {A = ℕ} (cond (bytes_eq x y) 1 0) 1 = rw e refl in absurd (omega (arith, all, none, one))
      | inr e ↦ let rest = total-none x keys counts (omega (arith, all, none)) in rw e (omega (arith, rest))
    ]

-- the total of a key that is there once is the count of its entry
total-once : (x : Key) (keys : List Key) (counts : List ℕ) (k : ℕ) → length counts ≡ length keys → k < length keys → x ≡ key_at keys k
    → count_by (bytes_eq x) keys ≤ 1 → total (is_key x) keys counts ≡ get_or counts k 0
unfolding total
total-once x [] counts k len lt is once = absurd (omega arith)
total-once x (y ∷ keys) [] k len lt is once = absurd (omega (arith, len))
total-once x (y ∷ keys) (n ∷ counts) zero len lt is once =
    let all = count-cons x y keys in
    let same : bytes_eq x y ≡ true = (bytes_eq-Decides x y).1 is in
    let one : ◌≡◌ {A = ℕ} (cond (bytes_eq x y) 1 0) 1 = rw same refl in
    let rest = total-none x keys counts (omega (arith, all, one, once)) in
    rw same (omega (arith, rest))
total-once x (y ∷ keys) (n ∷ counts) (suc k) len lt is once =
    let all = count-cons x y keys in
    let there = count-at keys k x (omega (arith, lt)) is in
    elim (cases_Bool (bytes_eq x y)) [
      | inl e ↦ let one : ◌≡◌ {A = ℕ} (cond (bytes_eq x y) 1 0) 1 = rw e refl in absurd (omega (arith, all, one, once, there))
      | inr e ↦
          let rest = total-once x keys counts k (omega (arith, len)) (omega (arith, lt)) is (omega (arith, all, once)) in
          rw e (omega (arith, rest))
    ]

-- ---- the keys that pass
differs : (p : Key → Bool) (x y : Key) → p x ≡ true → p y ≡ false → bytes_eq x y ≡ false
differs p x y px py =
    elim (cases_Bool (bytes_eq x y)) [
      | inl e ↦ absurd (both_ways (p x) (ap p ((bytes_eq-Decides x y).0 e) ∙ py) px)
      | inr e ↦ e
    ]

total-empty : (f : Key → ℕ) (ks : List Key) → total f ks [] ≡ 0
unfolding total
total-empty f [] = refl
total-empty f (k ∷ ks) = refl

pub kept-total : (p : Key → Bool) (x : Key) (keys : List Key) (counts : List ℕ) → p x ≡ true
    → total (is_key x) (filter p keys) (kept p keys counts) ≡ total (is_key x) keys counts
unfolding total kept
kept-total p x [] counts px = refl
kept-total p x (y ∷ keys) [] px =
    elim (cases_Bool (p y)) [
      | inl e ↦ rw e refl
      | inr e ↦ rw e (total-empty (is_key x) (filter p keys))
    ]
kept-total p x (y ∷ keys) (n ∷ counts) px =
    let rest = kept-total p x keys counts px in
    elim (cases_Bool (p y)) [
      | inl e ↦ rw e (ap (λ m. n * is_key x y + m) rest)
      | inr e ↦ let other = differs p x y px e in rw (e, other) (omega (arith, rest))
    ]

pub kept-le : (p : Key → Bool) (f : Key → ℕ) (keys : List Key) (counts : List ℕ) → length counts ≡ length keys
    → total f (filter p keys) (kept p keys counts) ≤ total f keys counts
unfolding total kept
kept-le p f [] counts len = omega arith
kept-le p f (y ∷ keys) [] len = absurd (omega (arith, len))
kept-le p f (y ∷ keys) (n ∷ counts) len =
    let rest = kept-le p f keys counts (omega (arith, len)) in
    elim (cases_Bool (p y)) [
      | inl e ↦ rw e (omega (arith, rest))
      | inr e ↦ rw e (omega (arith, rest))
    ]

pub kept-length : (p : Key → Bool) (keys : List Key) (counts : List ℕ) → length counts ≡ length keys → length (kept p keys counts) ≡ length (filter p keys)
unfolding kept
kept-length p [] counts len = refl
kept-length p (y ∷ keys) [] len = absurd (omega (arith, len))
kept-length p (y ∷ keys) (n ∷ counts) len =
    let rest = kept-length p keys counts (omega (arith, len)) in
    elim (cases_Bool (p y)) [
      | inl e ↦ rw e (omega (arith, rest))
      | inr e ↦ rw e rest
    ]

pub kept-append : (p : Key → Bool) (xs ys : List Key) (cs ds : List ℕ) → length cs ≡ length xs → kept p (xs ++ ys) (cs ++ ds) ≡ kept p xs cs ++ kept p ys ds
unfolding kept
kept-append p [] ys [] ds len = refl
kept-append p [] ys (c ∷ cs) ds len = absurd (omega (arith, len))
kept-append p (x ∷ xs) ys [] ds len = absurd (omega (arith, len))
kept-append p (x ∷ xs) ys (c ∷ cs) ds len =
    let rest = kept-append p xs ys cs ds (omega (arith, len)) in
    elim (cases_Bool (p x)) [
      | inl e ↦ rw e (ap (λ ns. c ∷ ns) rest)
      | inr e ↦ rw e rest
    ]

pub filter-yes : (p : Key → Bool) (xs : List Key) (x : Key) → p x ≡ true → filter p (xs ++ x ∷ []) ≡ filter p xs ++ x ∷ []
filter-yes p xs x px = let one : filter p (x ∷ []) ≡ x ∷ [] = rw px refl in filter-append p xs (x ∷ []) ∙ ap (λ ks. filter p xs ++ ks) one

pub filter-no : (p : Key → Bool) (xs : List Key) (x : Key) → p x ≡ false → filter p (xs ++ x ∷ []) ≡ filter p xs ++ []
filter-no p xs x px = let none : filter p (x ∷ []) ≡ [] = rw px refl in filter-append p xs (x ∷ []) ∙ ap (λ ks. filter p xs ++ ks) none

pub kept-yes : (p : Key → Bool) (xs : List Key) (cs : List ℕ) (x : Key) (n : ℕ) → length cs ≡ length xs → p x ≡ true → kept p (xs ++ x ∷ []) (cs ++ n ∷ []) ≡ kept p xs cs ++ n ∷ []
unfolding kept
kept-yes p xs cs x n len px = let one : kept p (x ∷ []) (n ∷ []) ≡ n ∷ [] = rw px refl in kept-append p xs (x ∷ []) cs (n ∷ []) len ∙ ap (λ ns. kept p xs cs ++ ns) one

pub kept-no : (p : Key → Bool) (xs : List Key) (cs : List ℕ) (x : Key) (n : ℕ) → length cs ≡ length xs → p x ≡ false → kept p (xs ++ x ∷ []) (cs ++ n ∷ []) ≡ kept p xs cs ++ []
unfolding kept
kept-no p xs cs x n len px = let none : kept p (x ∷ []) (n ∷ []) ≡ [] = rw px refl in kept-append p xs (x ∷ []) cs (n ∷ []) len ∙ ap (λ ns. kept p xs cs ++ ns) none

-- ---- one more key
pub distinct-push : (xs : List Key) (x : Key) → distinct (xs ++ x ∷ []) ≡ with_key (distinct xs) x
unfolding distinct
distinct-push xs x = fold_push with_key [] xs x

pub split-at : (all : List Key) (k : ℕ) (x : Key) → k < length all → x ≡ key_at all k → all ≡ take k all ++ x ∷ drop (k + 1) all
split-at all k x lt is = sym (take-append-drop k all) ∙ ap (λ ks. take k all ++ ks) (drop_more all k [] lt) ∙ ap (λ y. take k all ++ y ∷ drop (k + 1) all) (sym is)

pub taken-more : (all : List Key) (k : ℕ) (x : Key) → k < length all → x ≡ key_at all k → take (k + 1) all ≡ take k all ++ x ∷ []
taken-more all k x lt is = take_more all k [] lt ∙ ap (λ y. take k all ++ y ∷ []) (sym is)

-- a key of no class is new
pub unique-new : (class : Key → ℕ) (all : List Key) (k : ℕ) (x : Key) → IsOnce class all → k < length all → x ≡ key_at all k → class x ≡ 0
    → is_interned (distinct (take k all)) x ≡ false
unique-new class all k x once lt is fails =
    let f : Key → ℕ = λ y. cond (bytes_eq x y) 1 0 in
    let parted = ap (sum_by f) (split-at all k x lt is) ∙ sum_by-append f (take k all) (x ∷ drop (k + 1) all) in
    let rest = count-cons x x (drop (k + 1) all) in
    absent (take k all) x (omega (arith, parted, rest, own-count x, once x fails))

pub unique-total : (class : Key → ℕ) (all : List Key) (counts : List ℕ) (k : ℕ) (x : Key) → IsOnce class all → length counts ≡ length all → k < length all → x ≡ key_at all k → class x ≡ 0
    → total (is_key x) all counts ≡ get_or counts k 0
unique-total class all counts k x once len lt is fails = total-once x all counts k len lt is (once x fails)

-- a shared key is new if its number is the next
pub record IsNumbered (p : Key → Bool) (all : List Key) (k : ℕ) (x : Key) : Type 0 where
  pub within : length (filter p (take k all)) < length (filter p all)
  pub here : key_at (filter p all) (length (filter p (take k all))) ≡ x
  pub same : id_of (distinct (filter p all)) x ≡ id_of (distinct (filter p (take k all))) x
  pub there : id_of (distinct (filter p all)) x < length (distinct (filter p all))
  pub named : key_at (distinct (filter p all)) (id_of (distinct (filter p all)) x) ≡ x
  pub known : is_interned (distinct (filter p (take k all))) x ≡ is_interned (distinct (take k all)) x

pub numbered : (p : Key → Bool) (all : List Key) (k : ℕ) (x : Key) → k < length all → x ≡ key_at all k → p x ≡ true → IsNumbered p all k x
numbered p all k x lt is passes =
    let done = take k all in
    let later = drop (k + 1) all in
    let ends : filter p (x ∷ later) ≡ x ∷ filter p later = rw passes refl in
    let parted : filter p all ≡ filter p done ++ x ∷ filter p later =
    ap (filter p) (split-at all k x lt is) ∙ filter-append p done (x ∷ later) ∙ ap (λ ks. filter p done ++ ks) ends in
    let is_there : is_interned (distinct (filter p all)) x ≡ true = ap (λ ks. is_interned (distinct ks) x) parted ∙ interned-there (filter p done) (filter p later) x in
    let number = interned (distinct (filter p all)) x is_there in
    record {
      within = omega (arith, ap length parted, length-append (filter p done) (x ∷ filter p later));
      here = ap (λ ks. key_at ks (length (filter p done))) parted ∙ get_or-append_seam (filter p done) x (filter p later) [];
      same = ap (λ ks. id_of (distinct ks) x) parted ∙ number-there (filter p done) (filter p later) x;
      there = number.0;
      named = number.1;
      known = ap (λ ks. is_interned ks x) (sym (filter-distinct p done)) ∙ interned-filter p x passes (distinct done);
    }

pub shared-new : (p : Key → Bool) (all : List Key) (k : ℕ) (x : Key) → IsNumbered p all k x → id_of (distinct (filter p all)) x ≡ length (distinct (filter p (take k all))) → is_interned (distinct (take k all)) x ≡ false
shared-new p all k x n e = sym n.known ∙ (new_is_next (distinct (filter p (take k all))) x).0 (sym n.same ∙ e)

pub shared-old : (p : Key → Bool) (all : List Key) (k : ℕ) (x : Key) → IsNumbered p all k x → id_of (distinct (filter p all)) x ≢ length (distinct (filter p (take k all))) → is_interned (distinct (take k all)) x ≡ true
shared-old p all k x n ne =
    elim (cases_Bool (is_interned (distinct (take k all)) x)) [
      | inl e ↦ e
      | inr e ↦ absurd (ne (n.same ∙ (new_is_next (distinct (filter p (take k all))) x).1 (n.known ∙ e)))
    ]

-- ---- one more entry is merged
pub new-keys : (ks : List Key) (x : Key) → is_interned ks x ≡ false → with_key ks x ≡ ks ++ x ∷ []
new-keys ks x fails = rw fails refl

pub old-keys : (ks : List Key) (x : Key) → is_interned ks x ≡ true → with_key ks x ≡ ks
old-keys ks x passes = rw passes refl

-- the distinct keys of one more entry, and their totals
more-keys : (all : List Key) (k : ℕ) (x : Key) → k < length all → x ≡ key_at all k → distinct (take (k + 1) all) ≡ with_key (distinct (take k all)) x
more-keys all k x lt is = ap distinct (taken-more all k x lt is) ∙ distinct-push (take k all) x

more-totals : (all : List Key) (counts : List ℕ) (k : ℕ) (x : Key) → k < length all → x ≡ key_at all k → is_interned (distinct (take k all)) x ≡ false
    → totals_of (distinct (take (k + 1) all)) all counts ≡ totals_of (distinct (take k all)) all counts ++ total (is_key x) all counts ∷ []
more-totals all counts k x lt is fails =
    let f : Key → ℕ = λ y. total (is_key y) all counts in
    ap (map f) (more-keys all k x lt is ∙ new-keys (distinct (take k all)) x fails) ∙ map-append f (distinct (take k all)) (x ∷ [])

-- the entry has a new key
pub walked-new : (class : Key → ℕ) (all : List Key) (counts : List ℕ) (from k : ℕ) (x : Key) (n : ℕ) (old new : Walk) → k < length all → x ≡ key_at all k → is_interned (distinct (take k all)) x ≡ false
    → n ≡ total (is_key x) all counts → IsWalked class all counts from k old → lent new.keys.items ≡ lent old.keys.items ++ x ∷ [] → new.counts.items ≡ old.counts.items ++ n ∷ [] → AreAt class all (k + 1) new.positions
    → IsWalked class all counts from (k + 1) new
walked-new class all counts from k x n old new lt is absent own was keys totals here =
    let before = distinct (take from all) in
    let done = distinct (take k all) in
    record {
      keys = ap (λ ks. before ++ ks) keys ∙ sym (append_assoc before (lent old.keys.items) (x ∷ [])) ∙ ap (λ ks. ks ++ x ∷ []) was.keys ∙ sym (new-keys done x absent) ∙ sym (more-keys all k x lt is);
      totals = ap (λ ms. totals_of before all counts ++ ms) totals ∙ sym (append_assoc (totals_of before all counts) old.counts.items (n ∷ [])) ∙ ap (λ ms. ms ++ n ∷ []) was.totals
          ∙ ap (λ m. totals_of done all counts ++ m ∷ []) own ∙ sym (more-totals all counts k x lt is absent);
      here = here;
    }

-- the entry has a key that came before
pub walked-old : (class : Key → ℕ) (all : List Key) (counts : List ℕ) (from k : ℕ) (x : Key) (old new : Walk) → k < length all → x ≡ key_at all k → is_interned (distinct (take k all)) x ≡ true
    → IsWalked class all counts from k old → lent new.keys.items ≡ lent old.keys.items → new.counts.items ≡ old.counts.items → AreAt class all (k + 1) new.positions
    → IsWalked class all counts from (k + 1) new
walked-old class all counts from k x old new lt is there was keys totals here =
    let before = distinct (take from all) in
    let same_keys : distinct (take (k + 1) all) ≡ distinct (take k all) = more-keys all k x lt is ∙ old-keys (distinct (take k all)) x there in
    record {
      keys = ap (λ ks. before ++ ks) keys ∙ was.keys ∙ sym same_keys;
      totals = ap (λ ms. totals_of before all counts ++ ms) totals ∙ was.totals ∙ ap (λ ks. totals_of ks all counts) (sym same_keys);
      here = here;
    }

-- ---- how far the shared entries are
pub at-unique : (p : Key → Bool) (all : List Key) (k : ℕ) (x : Key) (here : Position) → p x ≡ false → k < length all → x ≡ key_at all k → IsAt p all k here → IsAt p all (k + 1) here
at-unique p all k x here fails lt is was =
    let rest : filter p (take (k + 1) all) ≡ filter p (take k all) = ap (filter p) (taken-more all k x lt is) ∙ filter-no p (take k all) x fails ∙ append-nil (filter p (take k all)) in
    record {
      at = was.at ∙ ap length (sym rest);
      next = was.next ∙ ap (λ ks. length (distinct ks)) (sym rest);
    }

-- a key of another class, or of none, does not pass
pub of-other : (class : Key → ℕ) (c : ℕ) (x : Key) → class x ≢ c + 1 → is_of class c x ≡ false
of-other class c x other = ne_eqb (class x) (c + 1) other

pub of-own : (class : Key → ℕ) (c : ℕ) (x : Key) → class x ≡ c + 1 → is_of class c x ≡ true
of-own class c x is = eq-eqb (class x) (c + 1) is

pub all-unique : (class : Key → ℕ) (all : List Key) (k : ℕ) (x : Key) (positions : List Position) → class x ≡ 0 → k < length all → x ≡ key_at all k → AreAt class all k positions → AreAt class all (k + 1) positions
all-unique class all k x positions none lt is was = record {
  count = was.count;
  each = λ c d in_classes. at-unique (is_of class c) all k x (get_or positions c d) (of-other class c x (λ e. absurd (omega (arith, none, e)))) lt is (was.each c d in_classes);
}

-- one class went on
pub one-passed : (class : Key → ℕ) (all : List Key) (k : ℕ) (x : Key) (positions : List Position) (c : ℕ) (new : Position) → class x ≡ c + 1 → k < length all → x ≡ key_at all k → c < CLASSES
    → AreAt class all k positions → IsAt (is_of class c) all (k + 1) new → AreAt class all (k + 1) (slice_set positions c new)
one-passed class all k x positions c new own lt is in_all was passed = record {
  count = length-set positions c new ∙ was.count;
  each = λ v d in_classes.
      elim (cases_eq v c) [
        | inl e ↦
            let there : c < length positions = omega (arith, in_all, was.count) in
            let read : get_or (slice_set positions c new) v d ≡ new = ap (λ i. get_or (slice_set positions c new) i d) e ∙ get_or-set_same positions c new d there in
            subst (λ (p : Position). IsAt (is_of class v) all (k + 1) p) (sym read) (subst (λ i. IsAt (is_of class i) all (k + 1) new) (sym e) passed)
        | inr ne ↦
            let read : get_or (slice_set positions c new) v d ≡ get_or positions v d = get_or-set_other positions c v new d ne in
            subst (λ (p : Position). IsAt (is_of class v) all (k + 1) p) (sym read) (at-unique (is_of class v) all k x (get_or positions v d) (of-other class v x (λ e. ne (omega (arith, own, e)))) lt is (was.each v d in_classes))
      ];
}

pub walked-unique : (class : Key → ℕ) (all : List Key) (counts : List ℕ) (from k : ℕ) (x : Key) (n : ℕ) (classes : List Class) (old new : Walk) → class x ≡ 0 → AreClasses class all counts classes → IsNext all counts k x n
    → IsWalked class all counts from k old → lent new.keys.items ≡ lent old.keys.items ++ x ∷ [] → new.counts.items ≡ old.counts.items ++ n ∷ [] → new.positions ≡ old.positions
    → IsWalked class all counts from (k + 1) new
walked-unique class all counts from k x n classes old new none so at was keys totals same =
    let absent = unique-new class all k x so.once at.within at.same none in
    let own : n ≡ total (is_key x) all counts = at.count ∙ sym (unique-total class all counts k x so.once so.len at.within at.same none) in
    walked-new class all counts from k x n old new at.within at.same absent own was keys totals (subst (AreAt class all (k + 1)) (sym same) (all-unique class all k x old.positions none at.within at.same was.here))

-- where the key number of a shared entry is
pub number-at : (p : Key → Bool) (all : List Key) (counts : List ℕ) (k : ℕ) (x : Key) (n : ℕ) (t : Totals) (here : Position) → p x ≡ true → AreTotalled p all counts t → IsNext all counts k x n
    → IsAt p all k here → (here.at < length t.ids.items) × (get_or t.ids.items here.at 0 ≡ id_of (distinct (filter p all)) x)
number-at p all counts k x n t here passes so at was =
    let f = id_of (distinct (filter p all)) in
    let num = numbered p all k x at.within at.same passes in
    let below : here.at < length (filter p all) = omega (arith, was.at, num.within) in (
      omega (arith, below, ap length so.ids, length-map (filter p all) f),
      ap (λ is. get_or is here.at 0) so.ids ∙ get_or-map f (filter p all) here.at [] 0 below ∙ ap (λ m. f (key_at (filter p all) m)) was.at ∙ ap f num.here,
    )

pub filter-more : (p : Key → Bool) (all : List Key) (k : ℕ) (x : Key) → k < length all → x ≡ key_at all k → p x ≡ true → filter p (take (k + 1) all) ≡ filter p (take k all) ++ x ∷ []
filter-more p all k x lt is passes = ap (filter p) (taken-more all k x lt is) ∙ filter-yes p (take k all) x passes

pub passed-new : (p : Key → Bool) (all : List Key) (counts : List ℕ) (k : ℕ) (x : Key) (n id m : ℕ) (t : Totals) (old new : Position) → p x ≡ true → AreTotalled p all counts t → IsNext all counts k x n
    → IsAt p all k old → id ≡ get_or t.ids.items old.at 0 → id ≡ old.next → m ≡ get_or t.totals.items id 0 → new.at ≡ old.at + 1 → new.next ≡ old.next + 1
    → IsAt p all (k + 1) new × IsNewTotal all counts k x (Some m)
passed-new p all counts k x n id m t old new passes so at was number next read more_at more_next =
    let names = distinct (filter p all) in
    let done = filter p (take k all) in
    let f : Key → ℕ = λ y. total (is_key y) (filter p all) (kept p all counts) in
    let num = numbered p all k x at.within at.same passes in
    let id_is : id ≡ id_of names x = number ∙ (number-at p all counts k x n t old passes so at was).1 in
    let absent = shared-new p all k x num (sym id_is ∙ next ∙ was.next) in
    let below : id < length names = omega (arith, id_is, num.there) in
    let own : get_or t.totals.items id 0 ≡ total (is_key x) all counts =
    ap (λ ms. get_or ms id 0) so.totals ∙ get_or-map f names id [] 0 below ∙ ap (λ i. f (key_at names i)) id_is ∙ ap f num.named ∙ kept-total p x all counts passes in
    let more = filter-more p all k x at.within at.same passes in
    let new_name : distinct (filter p (take (k + 1) all)) ≡ distinct done ++ x ∷ [] = ap distinct more ∙ distinct-push done x ∙ new-keys (distinct done) x (num.known ∙ absent) in (
      record {
        at = omega (arith, more_at, was.at, ap length more, length-append done (x ∷ []));
        next = omega (arith, more_next, was.next, ap length new_name, length-append (distinct done) (x ∷ []));
      },
      (absent, read ∙ own),
    )

pub passed-old : (p : Key → Bool) (all : List Key) (counts : List ℕ) (k : ℕ) (x : Key) (n id : ℕ) (t : Totals) (old new : Position) → p x ≡ true → AreTotalled p all counts t → IsNext all counts k x n
    → IsAt p all k old → id ≡ get_or t.ids.items old.at 0 → id ≢ old.next → new.at ≡ old.at + 1 → new.next ≡ old.next
    → IsAt p all (k + 1) new × IsNewTotal all counts k x None
passed-old p all counts k x n id t old new passes so at was number other more_at same_next =
    let done = filter p (take k all) in
    let num = numbered p all k x at.within at.same passes in
    let id_is : id ≡ id_of (distinct (filter p all)) x = number ∙ (number-at p all counts k x n t old passes so at was).1 in
    let there = shared-old p all k x num (λ e. other (id_is ∙ e ∙ sym was.next)) in
    let more = filter-more p all k x at.within at.same passes in
    let same_names : distinct (filter p (take (k + 1) all)) ≡ distinct done = ap distinct more ∙ distinct-push done x ∙ old-keys (distinct done) x (num.known ∙ there) in (
      record {
        at = omega (arith, more_at, was.at, ap length more, length-append done (x ∷ []));
        next = same_next ∙ was.next ∙ ap length (sym same_names);
      },
      there,
    )

-- a shared entry's number is below that of the keys
pub new-below : (p : Key → Bool) (all : List Key) (counts : List ℕ) (k : ℕ) (x : Key) (n id : ℕ) (t : Totals) (here : Position) → p x ≡ true → AreTotalled p all counts t → IsNext all counts k x n
    → IsAt p all k here → id ≡ get_or t.ids.items here.at 0 → id < length t.totals.items
new-below p all counts k x n id t here passes so at was number =
    let names = distinct (filter p all) in
    let f : Key → ℕ = λ y. total (is_key y) (filter p all) (kept p all counts) in
    let num = numbered p all k x at.within at.same passes in
    omega (arith, number, (number-at p all counts k x n t here passes so at was).1, num.there, ap length so.totals, length-map names f)

-- ---- a walk that begins
pub start : (class : Key → ℕ) (all : List Key) (counts : List ℕ) (k : ℕ) (positions : List Position) (walk : Walk) → IsStart positions walk → AreAt class all k positions → IsWalked class all counts k k walk
start class all counts k positions walk so was =
    let before = distinct (take k all) in
    record {
      keys = ap (λ ks. before ++ ks) so.keys ∙ append-nil before;
      totals = ap (λ ns. totals_of before all counts ++ ns) so.counts ∙ append-nil (totals_of before all counts);
      here = subst (AreAt class all k) (sym so.same) was;
    }
