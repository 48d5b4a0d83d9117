-- A store stays exact.
use Rattle.std.proofs.Common.{◌≡◌, ◌≢◌, ◌∙◌, ◌+◌, ◌-◌, ◌<◌, ◌≤◌, ℕ, zero, suc, Bool, true, false, List, [], ◌∷◌, ◌++◌, length, map, take, drop, replicate, cond, get_or, sym, ap, refl, arith, inl, inr, get_or-set_same, get_or-set_other, get_or-take, get_or-drop}
use Rattle.std.specs.Str.{bytes_eq}
use Rattle.std.proofs.lemmas.Bool.{cases_eq, cases_lt}
use Rattle.std.proofs.lemmas.List.{get_or_past, length-append, length-map, map-append, take-append-le, take-map, take_all}
use Rattle.std.proofs.lemmas.List.Sums.{sum_by-cons}
use Rattle.keyed_table.specs.Counts as counts
use Rattle.keyed_table.proofs.Elements.{none-past, occurs-somewhere}
use Rattle.keyed_table.proofs.Raised.{counter-raised, length-raised}
use Rattle.partition_log.specs.Keys.{IsWithoutRepeats, is_interned, key_at, with_key}
use Rattle.partition_log.specs.Logs.{IsPlaceOf, with_record_at}
use Rattle.key_index.proofs.Growth.{among, fresh, grows, interned, stays_without_repeats}
use Rattle.partition_log.proofs.History.{names-same}
use Rattle.partition_log.proofs.Valid.{goes-below, log-other, log-same}
use Rattle.partition_log.proofs.Numbered.{by_number}
use Rattle.partition_log.proofs.Parted.{in_one_log, sum-same, sum-zero}
use Rattle.commit_store.specs.Commits.{IsValidLogs, AreLogsOf, Commits, Fits, IsExact, Key, Keyed, PartitionLogs, committed_at, count_at, keys_of_log, log_at, id_of, plain, raised, keys_in, sum_below, with_commit}

plain-append : (ks js : List Key) (x : Key) → plain (ks ++ js) x ≡ plain ks x + plain js x
plain-append [] js x = omega arith
plain-append (k ∷ ks) js x = omega (arith, plain-append ks js x, sum_by-cons (λ y. cond (bytes_eq x y) 1 0) k ks, sum_by-cons (λ y. cond (bytes_eq x y) 1 0) k (ks ++ js))

pub sum_more : (n p d : ℕ) (f g : ℕ → ℕ) → p < n → ((q : ℕ) → q ≢ p → g q ≡ f q) → g p ≡ f p + d → sum_below n g ≡ sum_below n f + d
sum_more zero p d f g lt others here = absurd (omega (arith, lt))
sum_more (suc n) p d f g lt others here =
    elim (cases_eq n p) [
      | inl e ↦
          let last : g n ≡ f n + d = ap g e ∙ here ∙ ap (λ q. f q + d) (sym e) in
          let before = sum-same n g f (λ q below. others q (λ is. omega (arith, is, below, e))) in
          omega (arith, last, before)
      | inr ne ↦ omega (arith, others n ne, sum_more n p d f g (omega (arith, lt, ne)) others here)
    ]

take-plus : {A : Type 0} (c k : ℕ) (xs : List A) → take (c + k) xs ≡ take c xs ++ take k (drop c xs)
take-plus zero k xs = let e : 0 + k ≡ k = omega arith in rw e refl
take-plus (suc c) k [] = let e : suc c + k ≡ suc (c + k) = omega arith in rw e (sym (take-none k))
  where
    take-none : {A : Type 0} (k : ℕ) → take {A = A} k [] ≡ []
    take-none zero = refl
    take-none (suc k) = refl
take-plus (suc c) k (x ∷ xs) = let e : suc c + k ≡ suc (c + k) = omega arith in rw e (ap (λ ys. x ∷ ys) (take-plus c k xs))

pub numbers-below : (s : Commits) (l : PartitionLogs) (p from : ℕ) (ids : List ℕ) → IsValidLogs l → Fits s l p from ids → (i : ℕ) → i < length ids → get_or ids i 0 < length l.keys
numbers-below s l p from ids a fits i lt =
    let many : from + length ids - from ≡ length ids = omega arith in
    let read : get_or ids i 0 ≡ get_or (log_at l p) (from + i) 0 =
    ap (λ ns. get_or ns i 0) (sym fits.same) ∙ get_or-take (from + length ids - from) (drop from (log_at l p)) i 0 (omega (arith, many, lt)) ∙ get_or-drop from (log_at l p) i 0 in
    rw read (a.entries p (from + i) (omega (arith, lt, fits.within))).numbered

pub counter_raised : (cs ids : List ℕ) (x : ℕ) → counts.HaveCounters cs ids → get_or (raised cs ids) x 0 ≡ get_or cs x 0 + counts.plain ids x
unfolding raised
counter_raised cs ids x have =
    elim (cases_lt x (length cs)) [
      | inl lt ↦ let e : 0 + x ≡ x = omega arith in counter-raised 0 cs ids x lt ∙ ap (λ y. get_or cs x 0 + counts.plain ids y) e
      | inr le ↦
          let none : counts.plain ids x ≡ 0 = nothing cs ids x have le in
          get_or_past (counts.raised_from 0 cs ids) x 0 (omega (arith, length-raised 0 cs ids, le)) ∙ omega (arith, none, get_or_past cs x 0 le)
    ]
  where
    nothing : (cs ids : List ℕ) (x : ℕ) → counts.HaveCounters cs ids → length cs ≤ x → counts.plain ids x ≡ 0
    nothing cs ids x have le = at_none (counts.plain ids x) (λ more. omega (arith, have x more, le))
      where
        at_none : (n : ℕ) → (0 < n → ⊥) → n ≡ 0
        at_none zero h = refl
        at_none (suc n) h = absurd (h (omega arith))

more_committed : (s : Commits) (l : PartitionLogs) (p from : ℕ) (ids : List ℕ) (x : Key) → IsValidLogs l → Fits s l p from ids
    → plain (take (committed_at s p + length ids) (keys_of_log l p)) x ≡ plain (take (committed_at s p) (keys_of_log l p)) x + counts.plain ids (id_of l.keys x)
more_committed s l p from ids x a fits =
    let c = committed_at s p in
    let many : from + length ids - from ≡ length ids = omega arith in
    let next : take (length ids) (drop c (log_at l p)) ≡ ids = ap (λ n. take (length ids) (drop n (log_at l p))) (sym fits.next) ∙ ap (λ n. take n (drop from (log_at l p))) (sym many) ∙ fits.same in
    ap (λ ks. plain ks x) (take-map (key_at l.keys) (c + length ids) (log_at l p) ∙ ap (map (key_at l.keys)) (take-plus c (length ids) (log_at l p)) ∙ map-append (key_at l.keys) (take c (log_at l p)) (take (length ids) (drop c (log_at l p))))
    ∙ plain-append (map (key_at l.keys) (take c (log_at l p))) (map (key_at l.keys) (take (length ids) (drop c (log_at l p)))) x
    ∙ ap (λ ns. plain (map (key_at l.keys) (take c (log_at l p))) x + plain (map (key_at l.keys) ns) x) next
    ∙ ap (λ ks. plain ks x + plain (map (key_at l.keys) ids) x) (sym (take-map (key_at l.keys) c (log_at l p)))
    ∙ ap (λ n. plain (take c (keys_of_log l p)) x + n) (by_number l.keys ids x a.without_repeats (numbers-below s l p from ids a fits))

pub have-counters : (s : Commits) (l : PartitionLogs) (p from : ℕ) (ids : List ℕ) → IsValidLogs l → Fits s l p from ids → length l.keys ≤ length s.counts → counts.HaveCounters s.counts ids
have-counters s l p from ids a fits many x more =
    let there = occurs-somewhere ids x more in
    omega (arith, there.2, numbers-below s l p from ids a fits there.0 there.1, many)

-- a commit that fits keeps a store exact
pub commit-exact : (s : Commits) (l : PartitionLogs) (p from : ℕ) (ids : List ℕ) → IsValidLogs l → p < l.partitions → p < length s.offsets → length l.keys ≤ length s.counts → Fits s l p from ids → IsExact s l → IsExact (with_commit s p ids) l
commit-exact s l p from ids a placed stored many fits e =
    let c = committed_at s p in
    let have = have-counters s l p from ids a fits many in
    let here : committed_at (with_commit s p ids) p ≡ c + length ids = get_or-set_same s.offsets p (c + length ids) 0 stored in
    let others : (q : ℕ) → q ≢ p → committed_at (with_commit s p ids) q ≡ committed_at s q = λ q ne. get_or-set_other s.offsets p q (c + length ids) 0 ne in
    record {
      within = λ q. elim (cases_eq q p) [
        | inl is ↦ let at : committed_at (with_commit s p ids) q ≡ c + length ids = ap (committed_at (with_commit s p ids)) is ∙ here in
            omega (arith, at, fits.next, fits.within, ap (λ r. length (log_at l r)) is)
        | inr ne ↦ rw (others q ne) (e.within q)
      ];
      counted = λ x.
          counter_raised s.counts ids (id_of l.keys x) have
          ∙ ap (λ n. n + counts.plain ids (id_of l.keys x)) (e.counted x)
          ∙ sym (sum_more l.partitions p (counts.plain ids (id_of l.keys x)) (λ q. plain (take (committed_at s q) (keys_of_log l q)) x) (λ q. plain (take (committed_at (with_commit s p ids) q) (keys_of_log l q)) x) placed
          (λ q ne. ap (λ n. plain (take n (keys_of_log l q)) x) (others q ne))
          (ap (λ n. plain (take n (keys_of_log l p)) x) here ∙ more_committed s l p from ids x a fits));
      spare = λ n le.
          let none = none-past ids (length l.keys) n (numbers-below s l p from ids a fits) le in
          counter_raised s.counts ids n have ∙ omega (arith, none, e.spare n le);
    }

pub nothing-exact : (s : Commits) (l : PartitionLogs) → ((p : ℕ) → committed_at s p ≡ 0) → ((n : ℕ) → count_at s n ≡ 0) → IsExact s l
nothing-exact s l none blank = record {
  within = λ p. omega (arith, none p);
  counted = λ x. blank (id_of l.keys x)
      ∙ sym (sum-same l.partitions (λ p. plain (take (committed_at s p) (keys_of_log l p)) x) (λ p. 0) (λ p lt. ap (λ n. plain (take n (keys_of_log l p)) x) (none p)) ∙ sum-zero l.partitions);
  spare = λ n le. blank n;
}

one_at_0 : (cs : List ℕ) (n : ℕ) → get_or (cs ++ 0 ∷ []) n 0 ≡ get_or cs n 0
one_at_0 [] zero = refl
one_at_0 [] (suc n) = refl
one_at_0 (c ∷ cs) zero = refl
one_at_0 (c ∷ cs) (suc n) = one_at_0 cs n

pub counter-exact : (s : Commits) (capacity : ℕ) (l : PartitionLogs) → IsExact s l → IsExact (record s { counts = s.counts ++ 0 ∷ []; capacity = capacity }) l
counter-exact s capacity l e = record {
  within = e.within;
  counted = λ x. one_at_0 s.counts (id_of l.keys x) ∙ e.counted x;
  spare = λ n le. one_at_0 s.counts n ∙ e.spare n le;
}

same-number : (ks : List Key) (k x : Key) → IsWithoutRepeats ks → is_interned ks x ≡ true → id_of (with_key ks k) x ≡ id_of ks x
same-number ks k x without_repeats h =
    let g = grows ks k in
    let old = interned ks x h in
    let stands : key_at (with_key ks k) (id_of ks x) ≡ x = g.stays (id_of ks x) old.0 ∙ old.1 in
    let within : id_of ks x < length (with_key ks k) = omega (arith, old.0, g.longer) in
    let new = interned (with_key ks k) x (among (with_key ks k) x (id_of ks x) within stands) in
    stays_without_repeats ks k without_repeats (id_of (with_key ks k) x) (id_of ks x) new.0 within (new.1 ∙ sym stands)

later-number : (ks : List Key) (k x : Key) → is_interned ks x ≡ false → length ks ≤ id_of (with_key ks k) x
later-number ks k x h =
    elim (cases_lt (id_of (with_key ks k) x) (length ks)) [
      | inr le ↦ le
      | inl lt ↦ absurd (at (is_interned (with_key ks k) x) refl lt)
    ]
  where
    at : (b : Bool) → is_interned (with_key ks k) x ≡ b → id_of (with_key ks k) x < length ks → ⊥
    at true e lt =
        let g = grows ks k in
        let there = interned (with_key ks k) x e in
        let clash = among ks x (id_of (with_key ks k) x) lt (sym (g.stays (id_of (with_key ks k) x) lt) ∙ there.1) in cc (clash, h)
    at false e lt = let g = grows ks k in omega (arith, fresh (with_key ks k) x e, g.longer, lt)

-- an append leaves the committed part of each log
same-part : (s : Commits) (l : PartitionLogs) (at : ℕ) (key : Key) (p : ℕ) → IsValidLogs l → at < l.partitions → IsExact s l → take (committed_at s p) (keys_of_log (with_record_at l at key) p) ≡ take (committed_at s p) (keys_of_log l p)
same-part s l at key p a below e =
    let ws = with_key l.keys key in
    let c = committed_at s p in
    let placed : at < length l.logs = rw a.a_log_each below in
    elim (cases_eq p (at)) [
      | inr ne ↦ ap (take c) (ap (map (key_at ws)) (log-other l at key p ne) ∙ names-same l at key a p)
      | inl is ↦
          let more : log_at (with_record_at l at key) p ≡ log_at l p ++ id_of l.keys key ∷ [] = ap (log_at (with_record_at l at key)) is ∙ log-same l at key placed ∙ ap (λ q. log_at l q ++ id_of l.keys key ∷ []) (sym is) in
          let fits : c ≤ length (keys_of_log l p) = omega (arith, e.within p, length-map (log_at l p) (key_at l.keys)) in
          ap (take c) (ap (map (key_at ws)) more ∙ map-append (key_at ws) (log_at l p) (id_of l.keys key ∷ []) ∙ ap (λ ks. ks ++ key_at ws (id_of l.keys key) ∷ []) (names-same l at key a p))
          ∙ take-append-le c (keys_of_log l p) (key_at ws (id_of l.keys key) ∷ []) fits
    ]

longer-log : (l : PartitionLogs) (at : ℕ) (key : Key) (p : ℕ) → IsValidLogs l → at < l.partitions → length (log_at l p) ≤ length (log_at (with_record_at l at key) p)
longer-log l at key p a below =
    let placed : at < length l.logs = rw a.a_log_each below in
    elim (cases_eq p (at)) [
      | inr ne ↦ omega (arith, ap length (log-other l at key p ne))
      | inl is ↦
          let more : log_at (with_record_at l at key) p ≡ log_at l p ++ id_of l.keys key ∷ [] = ap (log_at (with_record_at l at key)) is ∙ log-same l at key placed ∙ ap (λ q. log_at l q ++ id_of l.keys key ∷ []) (sym is) in
          omega (arith, ap length more, length-append (log_at l p) (id_of l.keys key ∷ []))
    ]

pub append-exact : (s : Commits) (l : PartitionLogs) (at : ℕ) (key : Key) → IsValidLogs l → IsPlaceOf l key at → IsExact s l → IsExact s (with_record_at l at key)
append-exact s l at key a goes e = record {
  within = λ p. omega (arith, e.within p, longer-log l at key p a (goes-below l key at a goes));
  counted = λ x. numbered (is_interned l.keys x) x refl ∙ e.counted x ∙ sym (sum-same l.partitions (λ p. plain (take (committed_at s p) (keys_of_log (with_record_at l at key) p)) x) (λ p. plain (take (committed_at s p) (keys_of_log l p)) x) (λ p lt. ap (λ ks. plain ks x) (same-part s l at key p a (goes-below l key at a goes) e)));
  spare = λ n le. e.spare n (omega (arith, le, (grows l.keys key).longer));
}
  where
    numbered : (b : Bool) (x : Key) → is_interned l.keys x ≡ b → count_at s (id_of (with_key l.keys key) x) ≡ count_at s (id_of l.keys x)
    numbered true x h = ap (count_at s) (same-number l.keys key x a.without_repeats h)
    numbered false x h = e.spare (id_of (with_key l.keys key) x) (later-number l.keys key x h) ∙ sym (e.spare (id_of l.keys x) (omega (arith, fresh l.keys x h)))

-- where all ends are committed, all is counted
pub all-counted : (s : Commits) (l : PartitionLogs) (appended : List Keyed) (x : Key) → IsValidLogs l → AreLogsOf appended l → IsExact s l → ((p : ℕ) → p < l.partitions → committed_at s p ≡ length (log_at l p)) → count_at s (id_of l.keys x) ≡ plain (keys_in appended) x
all-counted s l appended x a h e ends =
    e.counted x
    ∙ sum-same l.partitions (λ p. plain (take (committed_at s p) (keys_of_log l p)) x) (λ p. plain (keys_of_log l p) x) (λ p lt. ap (λ ks. plain ks x) (take_all (committed_at s p) (keys_of_log l p) (omega (arith, ends p lt, length-map (log_at l p) (key_at l.keys)))))
    ∙ in_one_log appended l x a h

pub zero-at : (n p : ℕ) → get_or {A = ℕ} (replicate n 0) p 0 ≡ 0
zero-at zero p = refl
zero-at (suc n) zero = refl
zero-at (suc n) (suc p) = zero-at n p
