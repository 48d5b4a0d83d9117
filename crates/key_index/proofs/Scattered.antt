-- Keys scattered to their shards, and shards interned row by row.
use Rattle.std.proofs.Common.{◌≡◌, ◌∙◌, ◌+◌, ◌-◌, ◌<◌, ◌≤◌, ℕ, zero, suc, Bool, List, [], ◌∷◌, ◌++◌, Bor, length, map, take, drop, get_or, replicate, sym, ap, ap₂, refl, subst, arith, inl, inr, append_assoc, length-append, length-drop, length-take-le, get_or-set_same, get_or-set_other}
use Rattle.std.specs.Prelude.{◌==◌, slice_range, slice_set}
use Rattle.std.specs.List.{fold}
use Rattle.std.proofs.Math.ListN.{length-set}
use Rattle.std.proofs.lemmas.Bool.{cases_eq}
use Rattle.std.proofs.lemmas.List.{append-nil, drop-map, drop_more, length-replicate, map-append, take-append-drop, take-map, take_at, take_more}
use Rattle.std.proofs.lemmas.List.Concat.{flat_map-append}
use Rattle.std.proofs.lemmas.List.Elements.{filter-append}
use Rattle.std.proofs.lemmas.List.Folds.{drop_split}
use Rattle.std.proofs.lemmas.List.Sums.{fold-append}
use Rattle.key_index.specs.Keys.{Key, distinct, id_of, lent, lent_lists, with_key}
use Rattle.key_index.specs.Private.Sharded.{AreRows, of_shard, start_of, with_keys}
use Rattle.key_index.proofs.Firsts.{own, stays}
use Rattle.key_index.proofs.ShardRecords.{IsInternedUpTo, few-distinct, few-filtered, shard-other, shard-own}

pub scattered-none : (shard : Key → ℕ) (count : ℕ) (keys : List Key) → AreRows shard count (take 0 keys) (replicate count [])
scattered-none shard count keys = let none : List Key = [] in record { each = length-replicate count none; are = λ s lt. empty-at count s }
  where
    empty-at : (n s : ℕ) → get_or {A = List Key} (replicate n []) s [] ≡ []
    empty-at zero s = refl
    empty-at (suc n) zero = refl
    empty-at (suc n) (suc s) = empty-at n s

pub scattered-more : (shard : Key → ℕ) (count : ℕ) (keys : List Key) (i : ℕ) (rows : List (List Key)) (s : ℕ) → i < length keys → s ≡ shard (get_or keys i []) → s < count → AreRows shard count (take i keys) rows
    → AreRows shard count (take (i + 1) keys) (slice_set rows s (get_or rows s [] ++ get_or keys i [] ∷ []))
scattered-more shard count keys i rows s lt at below so =
    let x = get_or keys i [] in
    let new = get_or rows s [] ++ x ∷ [] in record {
      each = length-set rows s new ∙ so.each;
      are = λ t t_in. elim (cases_eq s t) [
        | inl same ↦
            let set : get_or (slice_set rows s new) s [] ≡ new = get_or-set_same rows s new [] (omega (arith, below, so.each)) in
            subst (λ u. get_or (slice_set rows s new) u [] ≡ of_shard shard u (take (i + 1) keys)) same
            (set ∙ ap (λ ks. ks ++ x ∷ []) (so.are s below) ∙ sym (shard-own shard s keys i lt (sym at)))
        | inr ne ↦
            get_or-set_other rows s t new [] (λ e. ne (sym e)) ∙ so.are t t_in ∙ sym (shard-other shard t keys i lt (λ e. ne (at ∙ e)))
      ];
    }

-- the keys of a row keep their numbers, whatever is appended
ids-stay : (ks ys zs : List Key) → map (id_of (fold with_key (fold with_key ks ys) zs)) ys ≡ map (id_of (fold with_key ks ys)) ys
ids-stay ks [] zs = refl
ids-stay ks (y ∷ ys) zs =
    let there = stays (with_key ks y) ys y (own ks y).0 in
    let same = (stays (fold with_key (with_key ks y) ys) zs y there.0).1 in
    ap₂ (λ n ns. n ∷ ns) same (ids-stay (with_key ks y) ys zs)

pub number-next : (ks row : List Key) (k : ℕ) → k < length row → id_of (with_keys ks row) (get_or row k []) ≡ id_of (with_keys ks (take k row)) (get_or row k [])
number-next ks row k lt =
    let x = get_or row k [] in
    let before = with_keys ks (take k row) in
    let behind = drop (k + 1) row in
    let seam : row ≡ take k row ++ x ∷ behind = sym (take-append-drop k row) ∙ ap (λ xs. take k row ++ xs) (drop_more row k [] lt) in
    ap (λ xs. id_of (with_keys ks xs) x) seam ∙ ap (λ ws. id_of ws x) (fold-append with_key ks (take k row) (x ∷ behind))
    ∙ (stays (with_key before x) behind x (own before x).0).1 ∙ (own before x).1

pub lists-more : (lists : List (Bor (List (Bor Key)))) (i : ℕ) (e : Bor (List (Bor Key))) → i < length lists → lent_lists (take (i + 1) lists) ≡ lent_lists (take i lists) ++ lent (get_or lists i e).now
lists-more lists i e lt =
    let own : Bor (List (Bor Key)) → List Key = λ list. lent list.now in
    ap lent_lists (take_more lists i e lt) ∙ flat_map-append own (take i lists) (get_or lists i e ∷ []) ∙ ap (λ ks. lent_lists (take i lists) ++ ks) (append-nil (own (get_or lists i e)))

pub lists-parted : (lists : List (Bor (List (Bor Key)))) (i : ℕ) (e : Bor (List (Bor Key))) → i < length lists
    → lent_lists lists ≡ (lent_lists (take i lists) ++ lent (get_or lists i e).now) ++ lent_lists (drop (i + 1) lists)
lists-parted lists i e lt =
    let own : Bor (List (Bor Key)) → List Key = λ list. lent list.now in
    ap lent_lists (sym (take-append-drop (i + 1) lists)) ∙ flat_map-append own (take (i + 1) lists) (drop (i + 1) lists) ∙ ap (λ ks. ks ++ lent_lists (drop (i + 1) lists)) (lists-more lists i e lt)

pub row-numbered : (shard : Key → ℕ) (s : ℕ) (keys xs ys zs : List Key) (table : List Key) (local_ids : List ℕ) → keys ≡ (xs ++ ys) ++ zs → IsInternedUpTo shard s keys xs table local_ids
    → let row = of_shard shard s ys in
    IsInternedUpTo shard s keys (xs ++ ys) (with_keys table row) (local_ids ++ map (id_of (with_keys table row)) row)
unfolding distinct
row-numbered shard s keys xs ys zs table local_ids seam so =
    let p : Key → Bool = λ k. shard k == s in
    let before = of_shard shard s xs in
    let row = of_shard shard s ys in
    let behind = of_shard shard s zs in
    let f = id_of (distinct (of_shard shard s keys)) in
    let more : of_shard shard s (xs ++ ys) ≡ before ++ row = filter-append p xs ys in
    let whole : of_shard shard s keys ≡ (before ++ row) ++ behind = ap (of_shard shard s) seam ∙ filter-append p (xs ++ ys) zs ∙ ap (λ ks. ks ++ behind) more in
    let before_is : distinct (before ++ row) ≡ with_keys table row = fold-append with_key [] before row ∙ ap (λ ks. with_keys ks row) (sym so.keys_of) in
    let all : distinct (of_shard shard s keys) ≡ with_keys (with_keys table row) behind = ap distinct whole ∙ fold-append with_key [] (before ++ row) behind ∙ ap (λ ks. with_keys ks behind) before_is in
    let numbers : map f row ≡ map (id_of (with_keys table row)) row = ap (λ ks. map (id_of ks) row) all ∙ ids-stay table row behind in record {
      keys_of = sym before_is ∙ ap distinct (sym more);
      local_ids_of = ap₂ (λ ms ns. ms ++ ns) so.local_ids_of (sym numbers) ∙ sym (map-append f before row) ∙ ap (map f) (sym more);
    }

-- there is capacity for the keys of a row
pub row-capacity : (shard : Key → ℕ) (s : ℕ) (keys xs ys zs : List Key) (table : List Key) (local_ids : List ℕ) → keys ≡ (xs ++ ys) ++ zs → IsInternedUpTo shard s keys xs table local_ids
    → length table + length (of_shard shard s ys) ≤ length keys
row-capacity shard s keys xs ys zs table local_ids seam so =
    let p : Key → Bool = λ k. shard k == s in
    omega (arith, ap length so.keys_of, few-distinct (of_shard shard s xs), few-filtered p xs, few-filtered p ys, ap length seam, length-append (xs ++ ys) zs, length-append xs ys)

pub take-parted : (keys : List Key) (from to : ℕ) → from ≤ to → to ≤ length keys → take to keys ≡ take from keys ++ slice_range keys from to
take-parted keys from to ordered within =
    let own = slice_range keys from to in
    let long : length (take from keys ++ own) ≡ to =
    omega (arith, length-append (take from keys) own, length-take-le from keys (omega (arith, ordered, within)), length-take-le (to - from) (drop from keys) (omega (arith, length-drop from keys, ordered, within)), ordered) in
    let seam : keys ≡ (take from keys ++ own) ++ drop to keys =
    sym (take-append-drop from keys) ∙ ap (λ ks. take from keys ++ ks) (drop_split keys from to ordered) ∙ sym (append_assoc (take from keys) own (drop to keys)) in
    ap (take to) seam ∙ take_at (take from keys ++ own) (drop to keys) to long

pub more-slices : (keys : List Key) (p : ℕ) → take (start_of (p + 1) keys) keys ≡ take (start_of p keys) keys ++ slice_range keys (start_of p keys) (start_of (p + 1) keys)
more-slices keys p = take-parted keys (start_of p keys) (start_of (p + 1) keys) (omega arith) (omega arith)

pub slice-map : {X Y : Type 0} (f : X → Y) (xs : List X) (from to : ℕ) → map f (slice_range xs from to) ≡ slice_range (map f xs) from to
slice-map f xs from to = sym (take-map f (to - from) (drop from xs)) ∙ ap (take (to - from)) (sym (drop-map f from xs))
