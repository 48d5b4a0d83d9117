-- Groups of keys, and the hashes computed so far.
use Rattle.std.proofs.Common.{ℕ, ◌≡◌, ◌≢◌, ◌+◌, ◌<◌, ◌≤◌, ◌^◌, ◌%◌, List, [], ◌∷◌, length, map, replicate, refl, arith, zero, suc, get_or, ap, sym, ◌∙◌, Bor, slice_set}
use Rattle.std.proofs.Math.ListN.{length-set}
use Rattle.murmur_lanes.specs.Murmur.{AreOfOneLength, hash_of}
use Rattle.partitioner.specs.Place.{positive_hash}
use Rattle.partitioner.specs.Private.Groups.{AreComputed, AreOfLength, AreUnhashed, ArePendingFrom, IsOfLength, IsPending, extended_row, no_key}

pub computed_unhashed : (keys : List (Bor (List ℕ))) (hashes : List ℕ) → AreUnhashed hashes → AreComputed keys hashes
unfolding AreComputed
computed_unhashed [] hashes none = tt
computed_unhashed (key ∷ keys) [] none = tt
computed_unhashed (key ∷ keys) (p ∷ hashes) none = ((λ missing. absurd (missing (none 0 (omega arith)))), computed_unhashed keys hashes (λ k lt. none (suc k) (omega arith)))

pub computed_set : (keys : List (Bor (List ℕ))) (hashes : List ℕ) (i hash : ℕ) → AreComputed keys hashes → hash ≡ positive_hash (get_or keys i no_key).now → AreComputed keys (slice_set hashes i hash)
unfolding AreComputed
computed_set [] hashes i hash computed e = tt
computed_set (key ∷ keys) [] i hash computed e = tt
computed_set (key ∷ keys) (p ∷ hashes) zero hash computed e = ((λ missing. e), computed.1)
computed_set (key ∷ keys) (p ∷ hashes) (suc i) hash computed e = (computed.0, computed_set keys hashes i hash computed.1 e)

-- the hashes before an index are their keys', and those from there on too, or not computed yet
unfoldable pub AreHashedBelow : ℕ → List (Bor (List ℕ)) → List ℕ → Type 0
AreHashedBelow zero keys hashes = AreComputed keys hashes
AreHashedBelow (suc i) [] hashes = Unit {0}
AreHashedBelow (suc i) (key ∷ keys) [] = Unit {0}
AreHashedBelow (suc i) (key ∷ keys) (p ∷ hashes) = (p ≡ positive_hash key.now) × AreHashedBelow i keys hashes

hashed_set : (i : ℕ) (keys : List (Bor (List ℕ))) (hashes : List ℕ) (hash : ℕ) → AreHashedBelow i keys hashes → hash ≡ positive_hash (get_or keys i no_key).now → AreHashedBelow (suc i) keys (slice_set hashes i hash)
unfolding AreHashedBelow AreComputed
hashed_set i [] hashes hash hashed e = tt
hashed_set i (key ∷ keys) [] hash hashed e = tt
hashed_set zero (key ∷ keys) (p ∷ hashes) hash hashed e = (e, hashed.1)
hashed_set (suc i) (key ∷ keys) (p ∷ hashes) hash hashed e = (hashed.0, hashed_set i keys hashes hash hashed.1 e)

pub hashed_one : (i : ℕ) (keys : List (Bor (List ℕ))) (hashes : List ℕ) (hash : ℕ) → AreHashedBelow i keys hashes → hash ≡ positive_hash (get_or keys i no_key).now → AreHashedBelow (i + 1) keys (slice_set hashes i hash)
hashed_one i keys hashes hash hashed e = let one : i + 1 ≡ suc i = omega arith in rw one (hashed_set i keys hashes hash hashed e)

hashed_computed : (i : ℕ) (keys : List (Bor (List ℕ))) (hashes : List ℕ) → AreHashedBelow i keys hashes → get_or hashes i 0 ≢ 4294967295 → AreHashedBelow (suc i) keys hashes
unfolding AreHashedBelow AreComputed
hashed_computed i [] hashes hashed there = tt
hashed_computed i (key ∷ keys) [] hashed there = tt
hashed_computed zero (key ∷ keys) (p ∷ hashes) hashed there = (hashed.0 there, hashed.1)
hashed_computed (suc i) (key ∷ keys) (p ∷ hashes) hashed there = (hashed.0, hashed_computed i keys hashes hashed.1 there)

pub hashed_before : (i : ℕ) (keys : List (Bor (List ℕ))) (hashes : List ℕ) → AreHashedBelow i keys hashes → get_or hashes i 0 ≢ 4294967295 → AreHashedBelow (i + 1) keys hashes
hashed_before i keys hashes hashed there = let one : i + 1 ≡ suc i = omega arith in rw one (hashed_computed i keys hashes hashed there)

pub hashed_all : (i : ℕ) (keys : List (Bor (List ℕ))) (hashes : List ℕ) → length hashes ≡ length keys → length keys ≤ i → AreHashedBelow i keys hashes → hashes ≡ map (λ key. positive_hash key.now) keys
unfolding AreHashedBelow
hashed_all i [] [] e le hashed = refl
hashed_all i [] (p ∷ hashes) e le hashed = absurd (omega arith)
hashed_all i (key ∷ keys) [] e le hashed = absurd (omega arith)
hashed_all zero (key ∷ keys) (p ∷ hashes) e le hashed = absurd (omega arith)
hashed_all (suc i) (key ∷ keys) (p ∷ hashes) e le hashed = rw (hashed.0, hashed_all i keys hashes (omega arith) (omega arith) hashed.1) refl

pub lane_of_length : (keys : List (Bor (List ℕ))) (len : ℕ) (row : List ℕ) (lane : ℕ) → AreOfLength keys len row → lane < length row → IsOfLength keys len (get_or row lane 0)
unfolding AreOfLength
lane_of_length keys len [] lane all lt = absurd (omega arith)
lane_of_length keys len (i ∷ row) zero all lt = all.0
lane_of_length keys len (i ∷ row) (suc lane) all lt = lane_of_length keys len row lane all.1 (omega arith)

pub lane_within : (keys : List (Bor (List ℕ))) (len : ℕ) (row : List ℕ) (lane : ℕ) → AreOfLength keys len row → lane < length row → get_or row lane 0 < length keys
lane_within keys len row lane all lt = (lane_of_length keys len row lane all lt).0

pub row_begun : (keys : List (Bor (List ℕ))) (len i n : ℕ) → IsOfLength keys len i → AreOfLength keys len (replicate n i)
unfolding AreOfLength
row_begun keys len i zero is = tt
row_begun keys len i (suc n) is = (is, row_begun keys len i n is)

pub row_set : (keys : List (Bor (List ℕ))) (len : ℕ) (row : List ℕ) (lane i : ℕ) → AreOfLength keys len row → IsOfLength keys len i → AreOfLength keys len (slice_set row lane i)
unfolding AreOfLength
row_set keys len [] lane i all is = tt
row_set keys len (j ∷ row) zero i all is = (is, all.1)
row_set keys len (j ∷ row) (suc lane) i all is = (all.0, row_set keys len row lane i all.1 is)

pending_from : (keys : List (Bor (List ℕ))) (from i len : ℕ) (rows : List (List ℕ)) (counts : List ℕ) → ArePendingFrom keys from rows counts → len ≡ from + i → i < length rows → i < length counts → IsPending keys len (get_or rows i []) (get_or counts i 0)
unfolding ArePendingFrom
pending_from keys from i len [] counts pending e below_rows below_counts = absurd (omega arith)
pending_from keys from i len (row ∷ rows) [] pending e below_rows below_counts = absurd (omega arith)
pending_from keys from zero len (row ∷ rows) (count ∷ counts) pending e below_rows below_counts = let same : len ≡ from = omega arith in rw same pending.0
pending_from keys from (suc i) len (row ∷ rows) (count ∷ counts) pending e below_rows below_counts = pending_from keys (suc from) i len rows counts pending.1 (omega arith) (omega arith) (omega arith)

pub pending_at : (keys : List (Bor (List ℕ))) (len : ℕ) (rows : List (List ℕ)) (counts : List ℕ) → ArePendingFrom keys 0 rows counts → len < length rows → len < length counts → IsPending keys len (get_or rows len []) (get_or counts len 0)
pending_at keys len rows counts pending below_rows below_counts = pending_from keys 0 len len rows counts pending (omega arith) below_rows below_counts

pending_set_from : (keys : List (Bor (List ℕ))) (from i : ℕ) (rows : List (List ℕ)) (counts : List ℕ) (row : List ℕ) (count : ℕ) → ArePendingFrom keys from rows counts → IsPending keys (from + i) row count → ArePendingFrom keys from (slice_set rows i row) (slice_set counts i count)
unfolding ArePendingFrom
pending_set_from keys from i [] counts row count pending is = tt
pending_set_from keys from zero (r ∷ rows) [] row count pending is = tt
pending_set_from keys from (suc i) (r ∷ rows) [] row count pending is = tt
pending_set_from keys from zero (r ∷ rows) (c ∷ counts) row count pending is = let e : from ≡ from + 0 = omega arith in ((rw e is), pending.1)
pending_set_from keys from (suc i) (r ∷ rows) (c ∷ counts) row count pending is = let e : suc from + i ≡ from + suc i = omega arith in (pending.0, pending_set_from keys (suc from) i rows counts row count pending.1 (rw e is))

pub pending_set : (keys : List (Bor (List ℕ))) (len : ℕ) (rows : List (List ℕ)) (counts : List ℕ) (row : List ℕ) (count : ℕ) → ArePendingFrom keys 0 rows counts → IsPending keys len row count → ArePendingFrom keys 0 (slice_set rows len row) (slice_set counts len count)
pending_set keys len rows counts row count pending is = let e : 0 + len ≡ len = omega arith in pending_set_from keys 0 len rows counts row count pending (rw e is)

pub pending_start : (keys : List (Bor (List ℕ))) (from n : ℕ) (row : List ℕ) → length row ≡ 8 → ArePendingFrom keys from (replicate n row) (replicate n 0)
unfolding ArePendingFrom
pending_start keys from zero row e = tt
pending_start keys from (suc n) row e = ((e, omega arith, λ some. absurd (omega arith)), pending_start keys (suc from) n row e)

-- the keys of a group
abbrev pub row_keys : List (Bor (List ℕ)) → List ℕ → List (Bor (List ℕ))
row_keys keys row = get_or keys (get_or row 0 0) no_key ∷ get_or keys (get_or row 1 0) no_key ∷ get_or keys (get_or row 2 0) no_key ∷ get_or keys (get_or row 3 0) no_key ∷ get_or keys (get_or row 4 0) no_key ∷ get_or keys (get_or row 5 0) no_key ∷ get_or keys (get_or row 6 0) no_key ∷ get_or keys (get_or row 7 0) no_key ∷ []

pub row_of_one_length : (keys : List (Bor (List ℕ))) (len : ℕ) (row : List ℕ) → 7 < length row → AreOfLength keys len row → AreOfOneLength (row_keys keys row)
row_of_one_length keys len row long all zero d lt = (lane_of_length keys len row 0 all (omega arith)).1 ∙ sym (lane_of_length keys len row 0 all (omega arith)).1
row_of_one_length keys len row long all (suc zero) d lt = (lane_of_length keys len row 1 all (omega arith)).1 ∙ sym (lane_of_length keys len row 0 all (omega arith)).1
row_of_one_length keys len row long all (suc (suc zero)) d lt = (lane_of_length keys len row 2 all (omega arith)).1 ∙ sym (lane_of_length keys len row 0 all (omega arith)).1
row_of_one_length keys len row long all (suc (suc (suc zero))) d lt = (lane_of_length keys len row 3 all (omega arith)).1 ∙ sym (lane_of_length keys len row 0 all (omega arith)).1
row_of_one_length keys len row long all (suc (suc (suc (suc zero)))) d lt = (lane_of_length keys len row 4 all (omega arith)).1 ∙ sym (lane_of_length keys len row 0 all (omega arith)).1
row_of_one_length keys len row long all (suc (suc (suc (suc (suc zero))))) d lt = (lane_of_length keys len row 5 all (omega arith)).1 ∙ sym (lane_of_length keys len row 0 all (omega arith)).1
row_of_one_length keys len row long all (suc (suc (suc (suc (suc (suc zero)))))) d lt = (lane_of_length keys len row 6 all (omega arith)).1 ∙ sym (lane_of_length keys len row 0 all (omega arith)).1
row_of_one_length keys len row long all (suc (suc (suc (suc (suc (suc (suc zero))))))) d lt = (lane_of_length keys len row 7 all (omega arith)).1 ∙ sym (lane_of_length keys len row 0 all (omega arith)).1
row_of_one_length keys len row long all (suc (suc (suc (suc (suc (suc (suc (suc k)))))))) d lt = absurd (omega arith)

lane_hash : (keys : List (Bor (List ℕ))) (row : List ℕ) (lane : ℕ) → lane < 8 → get_or (map (λ key. hash_of key.now) (row_keys keys row)) lane 0 ≡ hash_of (get_or keys (get_or row lane 0) no_key).now
lane_hash keys row zero lt = refl
lane_hash keys row (suc zero) lt = refl
lane_hash keys row (suc (suc zero)) lt = refl
lane_hash keys row (suc (suc (suc zero))) lt = refl
lane_hash keys row (suc (suc (suc (suc zero)))) lt = refl
lane_hash keys row (suc (suc (suc (suc (suc zero))))) lt = refl
lane_hash keys row (suc (suc (suc (suc (suc (suc zero)))))) lt = refl
lane_hash keys row (suc (suc (suc (suc (suc (suc (suc zero))))))) lt = refl
lane_hash keys row (suc (suc (suc (suc (suc (suc (suc (suc k)))))))) lt = absurd (omega arith)

pub lane_positive : (keys : List (Bor (List ℕ))) (row hashes : List ℕ) (lane hash : ℕ) → lane < 8 → hashes ≡ map (λ key. hash_of key.now) (row_keys keys row) → hash ≡ get_or hashes lane 0 % 2 ^ 31 → hash ≡ positive_hash (get_or keys (get_or row lane 0) no_key).now
unfolding positive_hash
lane_positive keys row hashes lane hash lt e is = is ∙ ap (λ h. h % 2 ^ 31) (ap (λ hs. get_or hs lane 0) e ∙ lane_hash keys row lane lt)

pub read_row : (rows : List (List ℕ)) (i : ℕ) (row : List ℕ) → i < length rows → get_or (slice_set rows i row) i [] ≡ row
read_row [] i row lt = absurd (omega arith)
read_row (r ∷ rows) zero row lt = refl
read_row (r ∷ rows) (suc i) row lt = read_row rows i row (omega arith)

pub extended_long : (keys : List (Bor (List ℕ))) (len : ℕ) (row : List ℕ) (count i : ℕ) → IsPending keys len row count → length (extended_row row count i) ≡ 8
extended_long keys len row zero i pending = refl
extended_long keys len row (suc count) i pending = length-set {A = ℕ} row (suc count) i ∙ pending.0

pub extended_of_length : (keys : List (Bor (List ℕ))) (len : ℕ) (row : List ℕ) (count i : ℕ) → IsPending keys len row count → IsOfLength keys len i → AreOfLength keys len (extended_row row count i)
extended_of_length keys len row zero i pending is = row_begun keys len i 8 is
extended_of_length keys len row (suc count) i pending is = row_set keys len row (suc count) i (pending.2 (omega arith)) is
