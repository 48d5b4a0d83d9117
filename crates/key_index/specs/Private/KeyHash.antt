-- The hash of a key. That of a short key is a multilinear hash (Lemire and Kaser, Strongly
-- universal string hashing is fast, The Computer Journal 57, 2014): a sum of products of its words
-- with seeds, in words of 64 bits, of which the 33 highest bits are used. That of a long key is
-- SipHash.
use Rattle.std.specs.Prelude.{ℕ, ◌≡◌, ◌<◌, ◌+◌, ◌*◌, ◌/◌, ◌%◌, ◌^◌, List, [], ◌∷◌, if◌then◌else◌, length, nat_le, slice_index}
use Rattle.std.specs.Hash.{usize}
use Rattle.std.specs.Hash.DefaultHasher.{finish, write}
use Rattle.std.specs.List.{fold}
use Rattle.std.specs.RandomState.{initial_hasher}
use Rattle.std.specs.declared.random_state.RandomState.{RandomState}
use Rattle.key_index.specs.declared.key_hash.KeyHash.{KeyHash}
use Rattle.key_index.specs.declared.key_hash.TheConstants.{ADDED, OF_LENGTH, SEEDS}
use Rattle.key_index.specs.declared.stored_key.TheConstants.{LONGEST_INLINE}

-- the seed with this index: its SipHash under a random key
abbrev pub seed_of : RandomState → ℕ → ℕ
seed_of hasher n = finish (fold write (initial_hasher hasher) (usize n))

-- the seeds of a hash are drawn from this hasher: seed i is its hash of i, and long keys are hashed
-- by the hasher itself
pub record IsDrawn (hasher : RandomState) (hash : KeyHash) : Type 0 where
  pub seeds : (i : ℕ) → i < SEEDS → slice_index hash.seeds i ≡ seed_of hasher i
  pub long : hash.long ≡ hasher

-- the little-endian word of four bytes
abbrev pub word_of : ℕ → ℕ → ℕ → ℕ → ℕ
word_of a b c d = a + 2 ^ 8 * b + 2 ^ 16 * c + 2 ^ 24 * d

-- the four bytes of a key from an index on
abbrev pub word_from : List ℕ → ℕ → ℕ
word_from key at = word_of (slice_index key at) (slice_index key (at + 1))
    (slice_index key (at + 2)) (slice_index key (at + 3))

-- a sum plus one more product
abbrev pub with_product : ℕ → ℕ → ℕ → ℕ
with_product sum seed word = (sum + (seed * word) % 2 ^ 64) % 2 ^ 64

-- a sum plus the products of a text's words with the seeds; the last word may be incomplete
abbrev pub with_products : ℕ → List ℕ → List ℕ → ℕ
with_products sum seeds [] = sum
with_products sum [] (a ∷ text) = sum
with_products sum (seed ∷ seeds) (a ∷ []) = with_product sum seed a
with_products sum (seed ∷ seeds) (a ∷ b ∷ []) = with_product sum seed (a + 2 ^ 8 * b)
with_products sum (seed ∷ seeds) (a ∷ b ∷ c ∷ []) =
    with_product sum seed (a + 2 ^ 8 * b + 2 ^ 16 * c)
with_products sum (seed ∷ seeds) (a ∷ b ∷ c ∷ d ∷ text) =
    with_products (with_product sum seed (word_of a b c d)) seeds text

-- the sum of all products of a text that begins with a short key of this length, that of the length
-- included
unfoldable pub sum_of : List ℕ → List ℕ → ℕ → ℕ
sum_of seeds text len = with_products
    (with_product (slice_index seeds ADDED) (slice_index seeds OF_LENGTH) len) seeds text

-- the hash of a key
unfoldable pub hash_of : KeyHash → List ℕ → ℕ
hash_of hasher key =
    if nat_le (length key) LONGEST_INLINE then sum_of hasher.seeds key (length key) / 2 ^ 31
    else finish (write (initial_hasher hasher.long) key)
