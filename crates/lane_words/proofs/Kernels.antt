-- The loops of the kernels: steps over eight pairs of words and over one, and the rest.
use Rattle.std.proofs.Common.{ℕ, ◌≡◌, ◌+◌, ◌-◌, ◌%◌, ◌^◌, ◌<◌, ◌≤◌, ◌==◌, Bool, true, false, not, ◌||◌, List, [], ◌∷◌, ◌++◌, length, drop, take, refl, arith, zero, suc, ap, sym, ◌∙◌, get_or, map, bit_and, bit_or, bit_xor, length-drop, append-nil, inl, inr}
use Rattle.std.proofs.Math.ListN.{set}
use Rattle.std.specs.Prelude.{IsTrue, ◌↔◌}
use Rattle.std.specs.Int.{bit_at}
use Rattle.std.specs.Int.Bits.{xor_self}
use Rattle.std.specs.Simd.Lanes.{zip2, put_chunk, chunk, fold_l}
use Rattle.std.proofs.lemmas.Bool.{cases_eq}
use Rattle.std.proofs.lemmas.Bool.Decides.{nat_tests}
use Rattle.std.proofs.lemmas.List.{drop_all, take_all, length-take}
use Rattle.std.proofs.lemmas.Nat.{le_or_l}
use Rattle.std.proofs.lemmas.Nat.Bits.{bit_at-lt, bit_at-zero, bit_at_xor, same_from_bits}
use Rattle.std.proofs.lemmas.Simd.{length-chunk, length-zip2}
use borrow.Rule.Slice.PartMut.{put_mid}
use Rattle.lane_words.specs.Words.{and_not, any_set}

-- processed up to index at, and unchanged from there on
abbrev pub done : (ℕ → ℕ → ℕ) → ℕ → List ℕ → List ℕ → List ℕ
done f at old b = zip2 f (take at old) (take at b) ++ drop at old

put_first : (f : ℕ → ℕ → ℕ) (n : ℕ) (old b : List ℕ) → length old ≡ length b → n ≤ length old → put_chunk 0 old (zip2 f (take n old) (take n b)) ≡ done f n old b
put_first f zero [] b len le = refl
put_first f zero (x ∷ old) b len le = refl
put_first f (suc n) [] b len le = absurd (omega arith)
put_first f (suc n) (x ∷ old) [] len le = absurd (omega arith)
put_first f (suc n) (x ∷ old) (y ∷ b) len le = ap (λ r. f x y ∷ r) (put_first f n old b (omega arith) (omega arith))

pub words_more : (f : ℕ → ℕ → ℕ) (n at : ℕ) (old b : List ℕ) → length old ≡ length b → at + n ≤ length old → put_chunk at (done f at old b) (zip2 f (chunk at n (done f at old b)) (chunk at n b)) ≡ done f (at + n) old b
words_more f n zero old b len le = let e : 0 + n ≡ n = omega arith in rw e (put_first f n old b len (omega arith))
words_more f n (suc at) [] b len le = absurd (omega arith)
words_more f n (suc at) (x ∷ old) [] len le = absurd (omega arith)
words_more f n (suc at) (x ∷ old) (y ∷ b) len le =
    let e : suc at + n ≡ suc (at + n) = omega arith in
    rw e (ap (λ r. f x y ∷ r) (words_more f n at old b (omega arith) (omega arith)))

pub one_more : (f : ℕ → ℕ → ℕ) (at : ℕ) (old b : List ℕ) → length old ≡ length b → at < length old → set (done f at old b) at (f (get_or (done f at old b) at 0) (get_or b at 0)) ≡ done f (at + 1) old b
one_more f zero [] b len lt = absurd (omega arith)
one_more f zero (x ∷ old) [] len lt = absurd (omega arith)
one_more f zero (x ∷ old) (y ∷ b) len lt = refl
one_more f (suc at) [] b len lt = absurd (omega arith)
one_more f (suc at) (x ∷ old) [] len lt = absurd (omega arith)
one_more f (suc at) (x ∷ old) (y ∷ b) len lt =
    let e : suc at + 1 ≡ suc (at + 1) = omega arith in
    rw e (ap (λ r. f x y ∷ r) (one_more f at old b (omega arith) (omega arith)))

pub length_done : (f : ℕ → ℕ → ℕ) (at : ℕ) (old b : List ℕ) → length old ≡ length b → length (done f at old b) ≡ length old
length_done f zero old b len = refl
length_done f (suc at) [] b len = refl
length_done f (suc at) (x ∷ old) [] len = absurd (omega arith)
length_done f (suc at) (x ∷ old) (y ∷ b) len = ap (λ n. suc n) (length_done f at old b (omega arith))

pub rest_done : (f : ℕ → ℕ → ℕ) (at : ℕ) (old b : List ℕ) → length old ≡ length b → at ≤ length old → take at (done f at old b) ++ zip2 f (drop at (done f at old b)) (drop at b) ≡ zip2 f old b
rest_done f zero old b len le = refl
rest_done f (suc at) [] b len le = absurd (omega arith)
rest_done f (suc at) (x ∷ old) [] len le = absurd (omega arith)
rest_done f (suc at) (x ∷ old) (y ∷ b) len le = ap (λ r. f x y ∷ r) (rest_done f at old b (omega arith) (omega arith))

pub zip2_not : (xs ys : List ℕ) → zip2 bit_and xs (map (λ y. 18446744073709551615 - y) ys) ≡ zip2 and_not xs ys
zip2_not [] ys = refl
zip2_not (x ∷ xs) [] = refl
zip2_not (x ∷ xs) (y ∷ ys) = ap (λ r. and_not x y ∷ r) (zip2_not xs ys)

pub rest_put : (f : ℕ → ℕ → ℕ) (at : ℕ) (now old b ys : List ℕ) → length old ≡ length b → at ≤ length old → now ≡ done f at old b → ys ≡ zip2 f (take (length now - at) (drop at now)) (take (length b - at) (drop at b)) → put_mid at (length now - at) now ys ≡ zip2 f old b
rest_put f at now old b ys len le e y =
    let long : length now ≡ length old = ap length e ∙ length_done f at old b len in
    let gone : drop (length now - at) (drop at now) ≡ [] = drop_all (length now - at) (drop at now) (omega (arith, length-drop at now)) in
    let mine : take (length now - at) (drop at now) ≡ drop at now = take_all (length now - at) (drop at now) (omega (arith, length-drop at now)) in
    let theirs : take (length b - at) (drop at b) ≡ drop at b = take_all (length b - at) (drop at b) (omega (arith, length-drop at b)) in
    let z : ys ≡ zip2 f (drop at now) (drop at b) = y ∙ rw (mine, theirs) refl in
    rw (gone, append-nil ys, z, e) (rest_done f at old b len le)

-- ---- whether a bit is set in f of the pairs before index at
abbrev pub set_below : (ℕ → ℕ → ℕ) → ℕ → List ℕ → List ℕ → Bool
set_below f at a b = any_set (zip2 f (take at a) (take at b))

-- whether any bit of one word is set
abbrev pub is_set : ℕ → Bool
is_set x = not (x == 0)

pub is_set-zero : (x : ℕ) → x ≡ 0 → is_set x ≡ false
is_set-zero x e = rw e refl

pub is_set-pos : (x : ℕ) → 0 < x → is_set x ≡ true
is_set-pos x lt = grind (arith, nat_tests)

is_set-or : (x y : ℕ) → is_set (bit_or x y) ≡ (is_set x || is_set y)
is_set-or x y = elim (cases_eq x 0) [
  | inl none ↦ rw none refl
  | inr some ↦ rw (is_set-pos (bit_or x y) (omega (arith, le_or_l x y)), is_set-pos x (omega arith)) refl
]

or_swap : (x y z : Bool) → ((x || y) || z) ≡ (x || (y || z))
or_swap true y z = refl
or_swap false y z = refl

or_middle : (x y p q : Bool) → ((x || y) || (p || q)) ≡ ((x || p) || (y || q))
or_middle true y p q = refl
or_middle false true true q = refl
or_middle false true false q = refl
or_middle false false p q = refl

any_set-or : (xs ys : List ℕ) → length xs ≡ length ys → any_set (zip2 bit_or xs ys) ≡ (any_set xs || any_set ys)
any_set-or [] [] len = refl
any_set-or [] (y ∷ ys) len = absurd (omega arith)
any_set-or (x ∷ xs) [] len = absurd (omega arith)
any_set-or (x ∷ xs) (y ∷ ys) len = rw (is_set-or x y, any_set-or xs ys (omega arith)) (or_middle (is_set x) (is_set y) (any_set xs) (any_set ys))

any_set-append : (xs ys : List ℕ) → any_set (xs ++ ys) ≡ (any_set xs || any_set ys)
any_set-append [] ys = refl
any_set-append (x ∷ xs) ys = rw (any_set-append xs ys) (sym (or_swap (is_set x) (any_set xs) (any_set ys)))

zip2-split : (f : ℕ → ℕ → ℕ) (at n : ℕ) (a b : List ℕ) → length a ≡ length b → zip2 f (take (at + n) a) (take (at + n) b) ≡ zip2 f (take at a) (take at b) ++ zip2 f (chunk at n a) (chunk at n b)
zip2-split f zero n a b len = let e : 0 + n ≡ n = omega arith in rw e refl
zip2-split f (suc at) n [] [] len = let e : suc at + n ≡ suc (at + n) = omega arith in rw e (no_words f n)
  where
    no_words : (f : ℕ → ℕ → ℕ) (n : ℕ) → [] ≡ zip2 f (take n []) (take n [])
    no_words f zero = refl
    no_words f (suc n) = refl
zip2-split f (suc at) n [] (y ∷ b) len = absurd (omega arith)
zip2-split f (suc at) n (x ∷ a) [] len = absurd (omega arith)
zip2-split f (suc at) n (x ∷ a) (y ∷ b) len =
    let e : suc at + n ≡ suc (at + n) = omega arith in
    rw e (ap (λ r. f x y ∷ r) (zip2-split f at n a b (omega arith)))

length-pairs : (f : ℕ → ℕ → ℕ) (at n : ℕ) (a b : List ℕ) → length a ≡ length b → at + n ≤ length a → length (zip2 f (chunk at n a) (chunk at n b)) ≡ n
length-pairs f at n a b len le =
    let mine = length-chunk at n a le in
    let theirs = length-chunk at n b (omega arith) in
    length-zip2 f (chunk at n a) (chunk at n b) (mine ∙ sym theirs) ∙ mine

pub set_more : (f : ℕ → ℕ → ℕ) (n at : ℕ) (found a b : List ℕ) → length a ≡ length b → at + n ≤ length a → length found ≡ n → any_set found ≡ set_below f at a b → any_set (zip2 bit_or found (zip2 f (chunk at n a) (chunk at n b))) ≡ set_below f (at + n) a b
set_more f n at found a b len le lanes e =
    let pairs = length-pairs f at n a b len le in
    any_set-or found (zip2 f (chunk at n a) (chunk at n b)) (lanes ∙ sym pairs)
    ∙ rw e (sym (any_set-append (zip2 f (take at a) (take at b)) (zip2 f (chunk at n a) (chunk at n b))) ∙ ap any_set (sym (zip2-split f at n a b len)))

chunk-one : (at : ℕ) (xs : List ℕ) → at < length xs → chunk at 1 xs ≡ get_or xs at 0 ∷ []
chunk-one zero [] lt = absurd (omega arith)
chunk-one zero (x ∷ xs) lt = refl
chunk-one (suc at) [] lt = absurd (omega arith)
chunk-one (suc at) (x ∷ xs) lt = chunk-one at xs (omega arith)

or_none : (x : Bool) → (x || false) ≡ x
or_none true = refl
or_none false = refl

pub set_one : (f : ℕ → ℕ → ℕ) (at found : ℕ) (a b : List ℕ) → length a ≡ length b → at < length a → is_set found ≡ set_below f at a b → is_set (bit_or found (f (get_or a at 0) (get_or b at 0))) ≡ set_below f (at + 1) a b
set_one f at found a b len lt e =
    is_set-or found (f (get_or a at 0) (get_or b at 0))
    ∙ rw (e, zip2-split f at 1 a b len, chunk-one at a lt, chunk-one at b (omega arith)) (ap (λ x. set_below f at a b || x) (sym (or_none (is_set (f (get_or a at 0) (get_or b at 0))))) ∙ sym (any_set-append (zip2 f (take at a) (take at b)) (f (get_or a at 0) (get_or b at 0) ∷ [])))

pub set_all : (f : ℕ → ℕ → ℕ) (at : ℕ) (a b : List ℕ) → length a ≡ length b → length a ≤ at → set_below f at a b ≡ any_set (zip2 f a b)
set_all f at a b len le = rw (take_all at a le, take_all at b (omega arith)) refl

pub set_fold : (x : ℕ) (xs : List ℕ) → is_set (fold_l bit_or x xs) ≡ (is_set x || any_set xs)
set_fold x [] = sym (or_none (is_set x))
set_fold x (y ∷ xs) = set_fold (bit_or x y) xs ∙ rw (is_set-or x y) (or_swap (is_set x) (is_set y) (any_set xs))

pub none_set : (x : ℕ) → (x == 0) ≡ not (is_set x)
none_set x = twice (x == 0)
  where
    twice : (b : Bool) → b ≡ not (not b)
    twice true = refl
    twice false = refl

pub rests : (at : ℕ) (a b : List ℕ) → length a ≡ length b → length (take (length a - at) (drop at a)) ≡ length (take (length b - at) (drop at b))
rests at a b len = omega (arith, length-drop at a, length-drop at b, length-take (length a - at) (drop at a), length-take (length b - at) (drop at b))

pub set_rest : (f : ℕ → ℕ → ℕ) (at : ℕ) (a b : List ℕ) → length a ≡ length b → at ≤ length a → (set_below f at a b || any_set (zip2 f (take (length a - at) (drop at a)) (take (length b - at) (drop at b)))) ≡ any_set (zip2 f a b)
set_rest f at a b len le =
    let same : length b - at ≡ length a - at = omega arith in
    let whole : at + (length a - at) ≡ length a = omega arith in
    rw same (sym (any_set-append (zip2 f (take at a) (take at b)) (zip2 f (chunk at (length a - at) a) (chunk at (length a - at) b)))
    ∙ ap any_set (sym (zip2-split f at (length a - at) a b len)) ∙ set_all f (at + (length a - at)) a b len (omega arith))

pub lanes_more : (f : ℕ → ℕ → ℕ) (n at : ℕ) (found a b : List ℕ) → length a ≡ length b → at + n ≤ length a → length found ≡ n → length (zip2 bit_or found (zip2 f (chunk at n a) (chunk at n b))) ≡ n
lanes_more f n at found a b len le lanes = length-zip2 bit_or found (zip2 f (chunk at n a) (chunk at n b)) (lanes ∙ sym (length-pairs f at n a b len le)) ∙ lanes

pub lanes_found : (f : ℕ → ℕ → ℕ) (at : ℕ) (found a b : List ℕ) → length a ≡ length b → at ≤ length a → any_set found ≡ set_below f at a b → is_set (fold_l bit_or 0 found) ≡ true → any_set (zip2 f a b) ≡ true
lanes_found f at found a b len le e h = sym (set_rest f at a b len le) ∙ rw (← e, ← set_fold 0 found, h) refl

pub lanes_none : (f : ℕ → ℕ → ℕ) (at : ℕ) (found a b : List ℕ) → length a ≡ length b → at ≤ length a → any_set found ≡ set_below f at a b → is_set (fold_l bit_or 0 found) ≡ false → any_set (zip2 f (take (length a - at) (drop at a)) (take (length b - at) (drop at b))) ≡ any_set (zip2 f a b)
lanes_none f at found a b len le e h =
    let none : set_below f at a b ≡ false = sym e ∙ (sym (set_fold 0 found) ∙ h) in
    rw none at (set_rest f at a b len le)

-- ---- equal words
xor_none : (x y : ℕ) → bit_xor x y ≡ 0 → x ≡ y
xor_none x y e = same_from_bits x y (λ i. let both : (bit_at x i + bit_at y i) % 2 ≡ 0 = sym (bit_at_xor x y i) ∙ (ap (λ n. bit_at n i) e ∙ bit_at-zero i) in omega (arith, bit_at-lt x i, bit_at-lt y i))

neither : (x y : Bool) → (x || y) ≡ false → (x ≡ false) × (y ≡ false)
neither true y h = absurd (cc h)
neither false y h = (refl, h)

unset_is : (x : ℕ) → is_set x ≡ false → x ≡ 0
unset_is x e = grind (arith, nat_tests)

equal_by : (a b : List ℕ) → length a ≡ length b → any_set (zip2 bit_xor a b) ≡ false → a ≡ b
equal_by [] [] len e = refl
equal_by [] (y ∷ b) len e = absurd (omega arith)
equal_by (x ∷ a) [] len e = absurd (omega arith)
equal_by (x ∷ a) (y ∷ b) len e =
    let parts = neither (is_set (bit_xor x y)) (any_set (zip2 bit_xor a b)) e in
    rw (xor_none x y (unset_is (bit_xor x y) parts.0), equal_by a b (omega arith) parts.1) refl

equal_self : (a : List ℕ) → any_set (zip2 bit_xor a a) ≡ false
equal_self [] = refl
equal_self (x ∷ a) = rw (xor_self x) (equal_self a)

unlike : (x : Bool) → (x ≡ false → false ≡ true) → x ≡ true
unlike true h = refl
unlike false h = h refl

pub equal_is : (a b : List ℕ) (x : Bool) → length a ≡ length b → x ≡ not (any_set (zip2 bit_xor a b)) → IsTrue x ↔ (a ≡ b)
equal_is a b true len e = (λ h. equal_by a b len (unset (any_set (zip2 bit_xor a b)) e), λ h. refl)
  where
    unset : (x : Bool) → true ≡ not x → x ≡ false
    unset true h = h
    unset false h = refl
equal_is a b false len e = (λ h. absurd (cc h), λ h. let self : any_set (zip2 bit_xor a b) ≡ false = ap (λ ys. any_set (zip2 bit_xor a ys)) (sym h) ∙ equal_self a in cc (e, ap not self))

pub equal_by_bits : (a b : List ℕ) (x : Bool) → length a ≡ length b → IsTrue x ↔ (a ≡ b) → x ≡ not (any_set (zip2 bit_xor a b))
equal_by_bits a b true len h = let same : a ≡ b = h.0 refl in ap not (sym (equal_self a) ∙ ap (λ ys. any_set (zip2 bit_xor a ys)) same)
equal_by_bits a b false len h = ap not (sym (unlike (any_set (zip2 bit_xor a b)) (λ none. h.1 (equal_by a b len none))))

-- ---- sums that fit
-- each pair adds up to a word
abbrev pub Fit : List ℕ → List ℕ → Type 0
Fit a b = (i : ℕ) → get_or a i 0 + get_or b i 0 < 2 ^ 64

get_or-take-le : (n : ℕ) (xs : List ℕ) (i : ℕ) → get_or (take n xs) i 0 ≤ get_or xs i 0
get_or-take-le zero xs i = omega arith
get_or-take-le (suc n) [] i = omega arith
get_or-take-le (suc n) (x ∷ xs) zero = omega arith
get_or-take-le (suc n) (x ∷ xs) (suc i) = get_or-take-le n xs i

pub rest_fits : (n m at : ℕ) (old b : List ℕ) → length old ≡ length b → at ≤ length old → Fit old b → Fit (take n (drop at (done (λ x y. x + y) at old b))) (take m (drop at b))
rest_fits n m zero old b len le fit i = omega (arith, get_or-take-le n old i, get_or-take-le m b i, fit i)
rest_fits n m (suc at) [] b len le fit i = absurd (omega arith)
rest_fits n m (suc at) (x ∷ old) [] len le fit i = absurd (omega arith)
rest_fits n m (suc at) (x ∷ old) (y ∷ b) len le fit i = rest_fits n m at old b (omega arith) (omega arith) (λ j. fit (suc j)) i

zip2_fits : (a b : List ℕ) → Fit a b → zip2 (λ x y. (x + y) % 18446744073709551616) a b ≡ zip2 (λ x y. x + y) a b
zip2_fits [] b fit = refl
zip2_fits (x ∷ a) [] fit = refl
zip2_fits (x ∷ a) (y ∷ b) fit =
    let here : (x + y) % 18446744073709551616 ≡ x + y = omega (arith, fit 0) in
    rw (here, zip2_fits a b (λ i. fit (suc i))) refl

pub sums_more : (n at : ℕ) (old b : List ℕ) → length old ≡ length b → at + n ≤ length old → Fit old b → put_chunk at (done (λ x y. x + y) at old b) (zip2 (λ x y. (x + y) % 18446744073709551616) (chunk at n (done (λ x y. x + y) at old b)) (chunk at n b)) ≡ done (λ x y. x + y) (at + n) old b
sums_more n at old b len le fit =
    let within : at ≤ length old = omega arith in
    ap (λ sums. put_chunk at (done (λ x y. x + y) at old b) sums) (zip2_fits (chunk at n (done (λ x y. x + y) at old b)) (chunk at n b) (rest_fits n n at old b len within fit))
    ∙ words_more (λ x y. x + y) n at old b len le
