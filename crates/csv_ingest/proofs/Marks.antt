-- Which of so many bytes are among three.
use Rattle.std.proofs.Common.{◌/◌, shr-shr, ◌≡◌, ◌∙◌, ◌≤◌, ◌<◌, ◌+◌, ◌-◌, ◌%◌, ◌^◌, ◌||◌, ℕ, List, Bool, true, false, cond, eqb, length, get_or, map, replicate, take, drop, bit_or, refl, sym, ap, arith, inl, inr, true≢false}
use native.Mathlib.Decide.{dec_lt}
use Rattle.std.specs.Int.{bit_at}
use Rattle.std.proofs.lemmas.Bool.{cases_Bool}
use Rattle.std.proofs.lemmas.Nat.Bits.{bit_at-zero}
use Rattle.std.specs.Simd.Lanes.{zip2, mask_l, top}
use Rattle.std.proofs.lemmas.Simd.{length-zip2, get_or-zip2, get_or-replicate, length-chunk, get_or-chunk, bit_mask_l, mask_l-mod}
use Rattle.std.proofs.lemmas.List.{get_or-map, get_or_past, length-map, length-replicate}
use Rattle.csv_ingest.specs.Private.ByteSearch.{HasMarks, HasNone, IsFirstFrom, is_any}

-- a lane is 255 where its byte is this one
abbrev pub compared : ℕ → ℕ → List ℕ → List ℕ
compared lanes d xs = zip2 (λ a b. cond (eqb a b) 255 0) xs (replicate lanes d)

-- a lane is 255 where its byte is one of three
abbrev pub marked : ℕ → ℕ → ℕ → ℕ → List ℕ → List ℕ
marked lanes a b c xs = zip2 bit_or (zip2 bit_or (compared lanes a xs) (compared lanes b xs)) (compared lanes c xs)

tops : (a b c : Bool) → top 7 (bit_or (bit_or (cond a 255 0) (cond b 255 0)) (cond c 255 0)) ≡ (a || (b || c))
tops true true true = refl
tops true true false = refl
tops true false true = refl
tops true false false = refl
tops false true true = refl
tops false true false = refl
tops false false true = refl
tops false false false = refl

long-compared : (lanes d : ℕ) (xs : List ℕ) → length xs ≡ lanes → length (compared lanes d xs) ≡ lanes
long-compared lanes d xs long = length-zip2 _ xs (replicate lanes d) (long ∙ sym (length-replicate lanes d)) ∙ long

lane-compared : (lanes d : ℕ) (xs : List ℕ) (k : ℕ) → length xs ≡ lanes → k < lanes → get_or (compared lanes d xs) k 0 ≡ cond (eqb (get_or xs k 0) d) 255 0
lane-compared lanes d xs k long lt =
    get_or-zip2 (λ a b. cond (eqb a b) 255 0) xs (replicate lanes d) k 0 0 0 (omega (arith, long, lt)) (omega (arith, lt, length-replicate lanes d))
    ∙ ap (λ b. cond (eqb (get_or xs k 0) b) 255 0) (get_or-replicate lanes k d 0 lt)

long-two : (lanes a b : ℕ) (xs : List ℕ) → length xs ≡ lanes → length (zip2 bit_or (compared lanes a xs) (compared lanes b xs)) ≡ lanes
long-two lanes a b xs long = length-zip2 bit_or (compared lanes a xs) (compared lanes b xs) (long-compared lanes a xs long ∙ sym (long-compared lanes b xs long)) ∙ long-compared lanes a xs long

long-marked : (lanes a b c : ℕ) (xs : List ℕ) → length xs ≡ lanes → length (marked lanes a b c xs) ≡ lanes
long-marked lanes a b c xs long = length-zip2 bit_or (zip2 bit_or (compared lanes a xs) (compared lanes b xs)) (compared lanes c xs) (long-two lanes a b xs long ∙ sym (long-compared lanes c xs long)) ∙ long-two lanes a b xs long

lane-two : (lanes a b : ℕ) (xs : List ℕ) (k : ℕ) → length xs ≡ lanes → k < lanes
    → get_or (zip2 bit_or (compared lanes a xs) (compared lanes b xs)) k 0 ≡ bit_or (cond (eqb (get_or xs k 0) a) 255 0) (cond (eqb (get_or xs k 0) b) 255 0)
lane-two lanes a b xs k long lt =
    get_or-zip2 bit_or (compared lanes a xs) (compared lanes b xs) k 0 0 0 (omega (arith, long-compared lanes a xs long, lt)) (omega (arith, long-compared lanes b xs long, lt))
    ∙ ap (λ m. bit_or m (get_or (compared lanes b xs) k 0)) (lane-compared lanes a xs k long lt)
    ∙ ap (bit_or (cond (eqb (get_or xs k 0) a) 255 0)) (lane-compared lanes b xs k long lt)

lane-marked : (lanes a b c : ℕ) (xs : List ℕ) (k : ℕ) → length xs ≡ lanes → k < lanes → top 7 (get_or (marked lanes a b c xs) k 0) ≡ is_any a b c (get_or xs k 0)
lane-marked lanes a b c xs k long lt =
    let x = get_or xs k 0 in
    ap (top 7) (
    get_or-zip2 bit_or (zip2 bit_or (compared lanes a xs) (compared lanes b xs)) (compared lanes c xs) k 0 0 0 (omega (arith, long-two lanes a b xs long, lt)) (omega (arith, long-compared lanes c xs long, lt))
    ∙ ap (λ m. bit_or m (get_or (compared lanes c xs) k 0)) (lane-two lanes a b xs k long lt)
    ∙ ap (bit_or (bit_or (cond (eqb x a) 255 0) (cond (eqb x b) 255 0))) (lane-compared lanes c xs k long lt)
    )
    ∙ tops (eqb x a) (eqb x b) (eqb x c)

set-if : (b : Bool) → cond {A = ℕ} b 1 0 ≡ 1 → b ≡ true
set-if true e = refl
set-if false e = absurd (omega (arith, e))

-- a bit of the mask is set where a byte is one of three
pub marks : (lanes a b c : ℕ) (text : List ℕ) (at : ℕ) → at + lanes ≤ length text → lanes ≤ 64
    → HasMarks lanes a b c text at (mask_l (map (top 7) (marked lanes a b c (take lanes (drop at text)))) % 2 ^ 64)
marks lanes a b c text at within few = λ k.
    let xs = take lanes (drop at text) in
    let long : length xs ≡ lanes = length-chunk at lanes text within in
    let ms = map (top 7) (marked lanes a b c xs) in
    let long-ms : length ms ≡ lanes = length-map (marked lanes a b c xs) (top 7) ∙ long-marked lanes a b c xs long in
    let bit : bit_at (mask_l ms % 2 ^ 64) k ≡ cond (get_or ms k false) 1 0 = ap (λ m. bit_at m k) (mask_l-mod ms 64 (omega (arith, long-ms, few))) ∙ bit_mask_l ms k in
    elim (dec_lt k lanes) [
      | yes lt ↦
          let is : get_or ms k false ≡ is_any a b c (get_or text (at + k) 0) =
          get_or-map (top 7) (marked lanes a b c xs) k 0 false (omega (arith, long-marked lanes a b c xs long, lt)) ∙ lane-marked lanes a b c xs k long lt ∙ ap (is_any a b c) (get_or-chunk at lanes text k 0 lt) in
          (λ one. (lt, sym is ∙ set-if (get_or ms k false) (sym bit ∙ one)), λ h. bit ∙ ap (λ b. cond b 1 0) (is ∙ h.1))
      | no more ↦
          (λ one. absurd (true≢false (sym (set-if (get_or ms k false) (sym bit ∙ one)) ∙ get_or_past ms k false (omega (arith, long-ms, more)))), λ h. absurd (more h.0))
    ]

one-not-zero : (b : ℕ) → b ≡ 1 → b ≡ 0 → ⊥
one-not-zero b one none = omega (arith, one, none)

not-true : (b : Bool) → (b ≡ true → ⊥) → b ≡ false
not-true b never =
    elim (cases_Bool b) [
      | inl e ↦ absurd (never e)
      | inr e ↦ e
    ]

-- none of these bytes is one of three where no bit is set
pub no-marks : (lanes a b c : ℕ) (text : List ℕ) (at m : ℕ) → HasMarks lanes a b c text at m → m ≡ 0 → HasNone a b c text at (at + lanes)
no-marks lanes a b c text at m bits zero = λ i low high.
    let is : at + (i - at) ≡ i = omega (arith, low) in
    not-true _ (λ e. one-not-zero _ ((bits (i - at)).1 (omega (arith, low, high), ap (λ j. is_any a b c (get_or text j 0)) is ∙ e)) (ap (λ n. bit_at n (i - at)) zero ∙ bit_at-zero (i - at)))

-- the first bit that is set is that of the first byte that is one of three
pub first-mark : (lanes a b c : ℕ) (text : List ℕ) (at m n : ℕ) → at + lanes ≤ length text → HasMarks lanes a b c text at m
    → bit_at m n ≡ 1 → ((k : ℕ) → k < n → bit_at m k ≡ 0) → IsFirstFrom a b c text at (at + n)
first-mark lanes a b c text at m n within bits set below =
    let here = (bits n).0 set in
    record {
      order = omega arith;
      within = omega (arith, within, here.0);
      none = λ i low high.
          let is : at + (i - at) ≡ i = omega (arith, low) in
          not-true _ (λ e. one-not-zero _ ((bits (i - at)).1 (omega (arith, low, high, here.0), ap (λ j. is_any a b c (get_or text j 0)) is ∙ e)) (below (i - at) (omega (arith, low, high))));
      is = λ lt. here.1;
    }

-- ---- none so far
pub none-both : (a b c : ℕ) (text : List ℕ) (from at to : ℕ) → HasNone a b c text from at → HasNone a b c text at to → HasNone a b c text from to
none-both a b c text from at to front back = λ i low high.
    elim (dec_lt i at) [
      | yes lt ↦ front i low lt
      | no ge ↦ back i (omega (arith, ge)) high
    ]

pub later-first : (a b c : ℕ) (text : List ℕ) (start at first : ℕ) → start ≤ at → HasNone a b c text start at → IsFirstFrom a b c text at first → IsFirstFrom a b c text start first
later-first a b c text start at first order none found = record {
  order = omega (arith, order, found.order);
  within = found.within;
  none = none-both a b c text start at first none found.none;
  is = found.is;
}

-- ---- marks that are known: the first one from a place on
pub first-known : (lanes a b c : ℕ) (text : List ℕ) (from at m n : ℕ) → from + lanes ≤ length text → from ≤ at → HasMarks lanes a b c text from m
    → bit_at (m / 2 ^ (at - from)) n ≡ 1 → ((k : ℕ) → k < n → bit_at (m / 2 ^ (at - from)) k ≡ 0) → IsFirstFrom a b c text at (at + n)
first-known lanes a b c text from at m n within order bits set below =
    let by = at - from in
    let start : from + by ≡ at = omega (arith, order) in
    let shifted = λ (k : ℕ). let e : bit_at (m / 2 ^ by) k ≡ bit_at m (by + k) = ap (λ x. x % 2) (shr-shr m by k) in e in
    let place = λ (k : ℕ). let e : from + (by + k) ≡ at + k = omega (arith, start) in e in
    let here = (bits (by + n)).0 (sym (shifted n) ∙ set) in
    record {
      order = omega arith;
      within = omega (arith, within, here.0, place n);
      none = λ i low high.
          let k = i - at in
          let is : from + (by + k) ≡ i = omega (arith, start, low) in
          not-true _ (λ e. one-not-zero _
          ((bits (by + k)).1 (omega (arith, here.0, low, high), ap (λ j. is_any a b c (get_or text j 0)) is ∙ e))
          (sym (shifted k) ∙ below k (omega (arith, low, high))));
      is = λ lt. ap (λ j. is_any a b c (get_or text j 0)) (sym (place n)) ∙ here.1;
    }
