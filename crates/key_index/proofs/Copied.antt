-- Keys that are copied in the order of their numbers.
use Rattle.std.proofs.Common.{◌≡◌, ◌∙◌, ◌+◌, ◌<◌, ◌≤◌, ℕ, zero, suc, Bool, true, false, List, [], ◌∷◌, ◌++◌, length, map, take, get_or, get_or-take, ap, sym, refl, subst, arith, length-append}
use Rattle.std.specs.Prelude.{◌==◌, All}
use Rattle.std.specs.List.{range_with_len}
use Rattle.std.proofs.lemmas.List.{ext_get_or, get_or-append_right, get_or-map, length-map, length-take, map-append, take_all, take_more}
use Rattle.std.proofs.lemmas.List.FromFn.{get_or-range_with_len, length-range_with_len}
use Rattle.key_index.specs.Keys.{Key, IsWithoutRepeats, distinct, is_interned, key_at, id_of, with_key}
use Rattle.key_index.specs.Private.Sharded.{of_shard}
use Rattle.key_index.proofs.Assigned.{one-more}
use Rattle.key_index.proofs.Filtered.{filter-distinct}
use Rattle.key_index.proofs.Growth.{interned}

not_so : (b : Bool) → (b ≡ true → ⊥) → b ≡ false
not_so true f = absurd (f refl)
not_so false f = refl

clash : (ks : List Key) (n m : ℕ) → IsWithoutRepeats ks → n < length ks → m < n → key_at (take n ks) m ≡ key_at ks n → ⊥
clash ks n m without_repeats lt before stands =
    let same : m ≡ n = without_repeats m n (omega (arith, before, lt)) lt (sym (get_or-take n ks m [] before) ∙ stands) in
    omega (arith, same, before)

pub is_new : (ks : List Key) (n : ℕ) → IsWithoutRepeats ks → n < length ks → is_interned (take n ks) (key_at ks n) ≡ false
is_new ks n without_repeats lt =
    not_so (is_interned (take n ks) (key_at ks n)) (λ h.
    let there = interned (take n ks) (key_at ks n) h in
    clash ks n (id_of (take n ks) (key_at ks n)) without_repeats lt (omega (arith, there.0, length-take n ks)) there.1)

pub next_copied : (ks : List Key) (n : ℕ) → IsWithoutRepeats ks → n < length ks → with_key (take n ks) (key_at ks n) ≡ take (n + 1) ks
next_copied ks n without_repeats lt = let new = is_new ks n without_repeats lt in rw new (sym (take_more ks n [] lt))

pub no-keys : distinct [] ≡ []
unfolding distinct
no-keys = refl

distinct-taken-next : (ks : List Key) (n : ℕ) → n < length ks → distinct (take n ks) ≡ take n ks → IsWithoutRepeats ks → distinct (take (n + 1) ks) ≡ take (n + 1) ks
distinct-taken-next ks n lt before without_repeats =
    ap distinct (take_more ks n [] lt) ∙ one-more (take n ks) (key_at ks n) ∙ ap (λ ws. with_key ws (key_at ks n)) before ∙ next_copied ks n without_repeats lt

-- keys without repeats are distinct
distinct-taken : (ks : List Key) (n : ℕ) → IsWithoutRepeats ks → n ≤ length ks → distinct (take n ks) ≡ take n ks
distinct-taken ks zero without_repeats le = no-keys
distinct-taken ks (suc n) without_repeats le =
    let lt : n < length ks = omega (arith, le) in
    let next : suc n ≡ n + 1 = omega arith in
    ap (λ m. distinct (take m ks)) next ∙ distinct-taken-next ks n lt (distinct-taken ks n without_repeats (omega (arith, le))) without_repeats ∙ ap (λ m. take m ks) (sym next)

pub distinct-same : (ks : List Key) → IsWithoutRepeats ks → distinct ks ≡ ks
distinct-same ks without_repeats =
    let all = take_all (length ks) ks (omega arith) in
    ap distinct (sym all) ∙ distinct-taken ks (length ks) without_repeats (omega arith) ∙ all

pub distinct-next : (ks : List Key) (n : ℕ) → n < length ks → with_key (distinct (take n ks)) (key_at ks n) ≡ distinct (take (n + 1) ks)
distinct-next ks n lt = sym (ap distinct (take_more ks n [] lt) ∙ one-more (take n ks) (key_at ks n))

pub last-without : (ks zs : List Key) → IsWithoutRepeats (ks ++ zs) → IsWithoutRepeats zs
last-without ks zs h = λ m n ltm ltn same.
    let long = length-append ks zs in
    let one : length ks + m ≡ length ks + n = h (length ks + m) (length ks + n) (omega (arith, ltm, long)) (omega (arith, ltn, long)) (behind-at m ∙ same ∙ sym (behind-at n)) in
    omega (arith, one)
  where
    behind-at : (i : ℕ) → key_at (ks ++ zs) (length ks + i) ≡ key_at zs i
    behind-at i = get_or-append_right ks zs (length ks) (length ks + i) [] refl (omega arith) ∙ ap (λ j. get_or zs j []) (omega arith)

-- the tables of a map without repeats are without repeats
pub tables-distinct : (shard : Key → ℕ) (keys : List Key) (tables : List (List Key)) → IsWithoutRepeats keys → ((s : ℕ) → s < length tables → get_or tables s [] ≡ of_shard shard s keys) → map distinct tables ≡ tables
tables-distinct shard keys tables without_repeats h =
    ext_get_or [] (map distinct tables) tables (length-map tables distinct) (λ s lt.
    let within : s < length tables = omega (arith, lt, length-map tables distinct) in
    let own = h s within in
    get_or-map distinct tables s [] [] within ∙ ap distinct own ∙ sym (filter-distinct (λ k. shard k == s) keys) ∙ ap (of_shard shard s) (distinct-same keys without_repeats) ∙ sym own)

pub tables-copied : (tables copies : List (List Key)) → length copies ≡ length tables → ((s : ℕ) (d : List Key) → s < length tables → get_or copies s d ≡ distinct (get_or tables s [])) → copies ≡ map distinct tables
tables-copied tables copies many each =
    ext_get_or [] copies (map distinct tables) (many ∙ sym (length-map tables distinct)) (λ s lt.
    let within : s < length tables = omega (arith, lt, many) in
    each s [] within ∙ sym (get_or-map distinct tables s [] [] within))

pub next_shown : {A B : Type 0} (f : A → B) (xs ys : List A) (i : ℕ) (x y : A) → i < length xs → x ≡ get_or xs i x → f y ≡ f x → map f ys ≡ take i (map f xs) → map f (ys ++ y ∷ []) ≡ take (i + 1) (map f xs)
next_shown f xs ys i x y lt read same done =
    let long : i < length (map f xs) = omega (arith, length-map xs f, lt) in
    let last : get_or (map f xs) i (f x) ≡ f y = get_or-map f xs i x (f x) lt ∙ ap f (sym read) ∙ sym same in
    map-append f ys (y ∷ []) ∙ ap (λ zs. zs ++ f y ∷ []) done ∙ ap (λ z. take i (map f xs) ++ z ∷ []) (sym last) ∙ sym (take_more (map f xs) i (f x) long)
