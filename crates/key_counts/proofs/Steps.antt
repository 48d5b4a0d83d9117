-- What records do to entries.
use Rattle.std.proofs.Common.{◌≡◌, ◌∙◌, ◌+◌, ◌*◌, ◌<◌, ℕ, zero, suc, Bool, true, false, List, [], ◌∷◌, ◌++◌, get_or, length, map, take, subst, sym, ap, ap₂, refl, arith}
use Rattle.std.specs.Prelude.{All, if◌then◌else◌, slice_set, Result, Ok, Err, OnOk}
use Rattle.std.specs.List.{sum_by}
use Rattle.std.proofs.lemmas.List.{append-nil, get_or_append_left, map-append, take_more}
use Rattle.std.proofs.Math.Seq.{get_or-append_seam}
use Rattle.std.proofs.lemmas.List.Sums.{sum_by-cons}
use Rattle.key_index.specs.Keys.{Key, is_interned, key_at, with_key}
use Rattle.key_counts.specs.Counts.{AreInterned, CounterState, Entries, Takes, TakesLater, recorded, total}
use Rattle.key_counts.specs.Private.Codes.{with_code}
use Rattle.key_counts.specs.Private.TakingLaws.{takes-then}

sum-one : (f : Key → ℕ) (key : Key) → sum_by f (key ∷ []) ≡ f key
sum-one f key = let e = sum_by-cons f key [] in omega (arith, e)

times-suc : (n m : ℕ) → (n + 1) * m ≡ n * m + m
times-suc zero m = omega arith
times-suc (suc n) m = omega arith

-- ---- one more record of an entry
total-raised : (f : Key → ℕ) (keys : List Key) (counts : List ℕ) (code n : ℕ) → length counts ≡ length keys → code < length keys
    → n ≡ get_or counts code 0 + 1 → total f keys (slice_set counts code n) ≡ total f keys counts + f (key_at keys code)
unfolding total
total-raised f [] counts code n long lt is = absurd (omega (arith, lt))
total-raised f (key ∷ keys) [] code n long lt is = absurd (omega (arith, long))
total-raised f (key ∷ keys) (c ∷ counts) zero n long lt is =
    let e : n * f key ≡ c * f key + f key = ap (λ m. m * f key) is ∙ times-suc c (f key) in
    omega (arith, e)
total-raised f (key ∷ keys) (c ∷ counts) (suc code) n long lt is =
    let rest = total-raised f keys counts code n (omega (arith, long)) (omega (arith, lt)) is in
    omega (arith, rest)

known-here : (keys before : List Key) (code : ℕ) → AreInterned keys before → code < length keys → is_interned before (key_at keys code) ≡ true
known-here keys before code all lt = all code [] lt

same-at : (before : List Key) (key : Key) → is_interned before key ≡ true → with_key before key ≡ before
same-at before key is = ap (λ b. if b then before else before ++ key ∷ []) is

recorded-more : (coded : Bool) (keys : List Key) (codes : List ℕ) (code : ℕ)
    → map (key_at keys) (with_code coded codes code) ≡ map (key_at keys) codes ++ recorded coded (key_at keys code ∷ [])
recorded-more true keys codes code = map-append (key_at keys) codes (code ∷ [])
recorded-more false keys codes code = sym (append-nil (map (key_at keys) codes))

pub counted-one : (keys : List Key) (counts codes : List ℕ) (coded : Bool) (code n : ℕ) → length counts ≡ length keys → code < length keys
    → n ≡ get_or counts code 0 + 1
    → Takes (record { keys = keys; counts = counts; coded = coded; codes = codes })
    (record { keys = keys; counts = slice_set counts code n; coded = coded; codes = with_code coded codes code }) (key_at keys code ∷ [])
counted-one keys counts codes coded code n long lt is = record {
  added = [];
  grown = sym (append-nil keys);
  order = λ before all. same-at before (key_at keys code) (known-here keys before code all lt);
  counted = λ f. let e = total-raised f keys counts code n long lt is in let p = sum-one f (key_at keys code) in omega (arith, e, p);
  same = refl;
  records = recorded-more coded keys codes code;
}

-- ---- a new entry
total-added : (f : Key → ℕ) (keys : List Key) (counts : List ℕ) (key : Key) → length counts ≡ length keys
    → total f (keys ++ key ∷ []) (counts ++ 1 ∷ []) ≡ total f keys counts + f key
unfolding total
total-added f [] [] key long = let e = times-suc 0 (f key) in omega (arith, e)
total-added f [] (c ∷ counts) key long = absurd (omega (arith, long))
total-added f (k ∷ keys) [] key long = absurd (omega (arith, long))
total-added f (k ∷ keys) (c ∷ counts) key long = let rest = total-added f keys counts key (omega (arith, long)) in omega (arith, rest)

pub read-still : (keys : List Key) (key : Key) (codes : List ℕ) → All (λ code. code < length keys) codes
    → map (key_at (keys ++ key ∷ [])) codes ≡ map (key_at keys) codes
read-still keys key [] all = refl
read-still keys key (code ∷ codes) all =
    ap₂ (λ (k : Key) ks. k ∷ ks) (get_or_append_left keys (key ∷ []) [] code (all 0 0 (omega arith))) (read-still keys key codes (λ k d lt. all (suc k) d (omega (arith, lt))))

recorded-new : (coded : Bool) (keys : List Key) (key : Key) (codes : List ℕ) → All (λ code. code < length keys) codes
    → map (key_at (keys ++ key ∷ [])) (with_code coded codes (length keys)) ≡ map (key_at keys) codes ++ recorded coded (key ∷ [])
recorded-new true keys key codes all =
    map-append (key_at (keys ++ key ∷ [])) codes (length keys ∷ [])
    ∙ ap₂ (λ ks (k : Key). ks ++ k ∷ []) (read-still keys key codes all) (get_or-append_seam keys key [] [])
recorded-new false keys key codes all = read-still keys key codes all ∙ sym (append-nil (map (key_at keys) codes))

pub added-one : (keys : List Key) (counts codes : List ℕ) (coded : Bool) (key : Key) → length counts ≡ length keys → All (λ code. code < length keys) codes
    → Takes (record { keys = keys; counts = counts; coded = coded; codes = codes })
    (record { keys = keys ++ key ∷ []; counts = counts ++ 1 ∷ []; coded = coded; codes = with_code coded codes (length keys) }) (key ∷ [])
added-one keys counts codes coded key long all = record {
  added = key ∷ [];
  grown = refl;
  order = λ before so. refl;
  counted = λ f. let e = total-added f keys counts key long in let p = sum-one f key in omega (arith, e, p);
  same = refl;
  records = recorded-new coded keys key codes all;
}

-- ---- the same, of answers
pub counts-one : {T E : Type 0} (result : Result T E) (old : Entries) (keys new_keys : List Key) (counts new codes new_codes : List ℕ) (coded : Bool) (code : ℕ)
    → record { keys = keys; counts = counts; coded = coded; codes = codes } ≡ old → length counts ≡ length keys → code < length old.keys → new_keys ≡ keys
    → new ≡ slice_set counts code (get_or counts code 0 + 1)
    → OnOk result (new_codes ≡ with_code coded codes code)
    → OnOk result (Takes old (record { keys = new_keys; counts = new; coded = coded; codes = new_codes }) (key_at old.keys code ∷ []))
counts-one (Err e) old keys new_keys counts new codes new_codes coded code is long lt ks so kept = tt
counts-one (Ok u) old keys new_keys counts new codes new_codes coded code is long lt ks so kept =
    let same : length keys ≡ length old.keys = ap (λ (o : Entries). length o.keys) is in
    let below : code < length keys = omega (arith, lt, same) in
    let here : Takes (record { keys = keys; counts = counts; coded = coded; codes = codes }) (record { keys = new_keys; counts = new; coded = coded; codes = new_codes }) (key_at keys code ∷ []) =
    rw (ks, so, kept) (counted-one keys counts codes coded code (get_or counts code 0 + 1) long below refl) in
    rw (← is) here

pub adds-one : {T E : Type 0} (result : Result T E) (old : Entries) (keys new_keys : List Key) (counts new_counts codes new_codes : List ℕ) (coded : Bool) (code : ℕ) (stored key : Key)
    → record { keys = keys; counts = counts; coded = coded; codes = codes } ≡ old → length counts ≡ length keys → All (λ code. code < length keys) codes → stored ≡ key → code ≡ length keys
    → new_keys ≡ keys ++ stored ∷ [] → new_counts ≡ counts ++ 1 ∷ []
    → OnOk result (new_codes ≡ with_code coded codes code)
    → OnOk result (Takes old (record { keys = new_keys; counts = new_counts; coded = coded; codes = new_codes }) (key ∷ []))
adds-one (Err e) old keys new_keys counts new_counts codes new_codes coded code stored key is long all same at ks ns kept = tt
adds-one (Ok u) old keys new_keys counts new_counts codes new_codes coded code stored key is long all same at ks ns kept =
    let here : Takes (record { keys = keys; counts = counts; coded = coded; codes = codes }) (record { keys = new_keys; counts = new_counts; coded = coded; codes = new_codes }) (key ∷ []) =
    rw (ks, ns, kept, at, same) (added-one keys counts codes coded key long all) in
    rw (← is) here

-- ---- keys that wait
pub later-long : (old mid new : CounterState) (key : Key) → Takes old.entries mid.entries old.waiting → mid.waiting ≡ [] → Takes mid.entries new.entries (key ∷ [])
    → new.waiting ≡ mid.waiting → TakesLater old (key ∷ []) new
later-long old mid new key first none second same = record {
  counted = old.waiting ++ key ∷ [];
  takes = takes-then old.entries mid.entries new.entries old.waiting (key ∷ []) first second;
  order = sym (append-nil (old.waiting ++ key ∷ [])) ∙ ap (λ ks. (old.waiting ++ key ∷ []) ++ ks) (sym (same ∙ none));
}

pub later-long-answer : {T E : Type 0} (result : Result T E) (old mid : CounterState) (counts after : Entries) (waiting : List Key) (key : Key)
    → Takes old.entries mid.entries old.waiting → mid.waiting ≡ [] → record { entries = counts; waiting = waiting } ≡ mid
    → OnOk result (Takes counts after (key ∷ [])) → OnOk result (TakesLater old (key ∷ []) (record { entries = after; waiting = waiting }))
later-long-answer (Err e) old mid counts after waiting key first none is second = tt
later-long-answer (Ok u) old mid counts after waiting key first none is second =
    later-long old mid (record { entries = after; waiting = waiting }) key first none
    (subst (λ e. Takes e after (key ∷ [])) (ap (λ (s : CounterState). s.entries) is) second) (ap (λ (s : CounterState). s.waiting) is)

pub took-more : (start old new : Entries) (keys : List Key) (i : ℕ) (key : Key) → i < length keys → key ≡ get_or keys i key
    → Takes start old (take i keys) → Takes old new (key ∷ []) → Takes start new (take (i + 1) keys)
took-more start old new keys i key lt is before now =
    let front : take i keys ++ key ∷ [] ≡ take (i + 1) keys = ap (λ k. take i keys ++ k ∷ []) is ∙ sym (take_more keys i key lt) in
    subst (Takes start new) front (takes-then start old new (take i keys) (key ∷ []) before now)
