-- Key numbers read record by record.
use Rattle.std.proofs.Common.{◌≡◌, ◌∙◌, ◌+◌, ◌<◌, ℕ, List, [], length, get_or, sym, ap, arith, inl, inr, get_or-set_same, get_or-set_other}
use Rattle.std.specs.Prelude.{slice_set}
use Rattle.key_index.specs.declared.key_hash.KeyHash.{KeyHash}
use Rattle.std.proofs.lemmas.Bool.{cases_eq}
use Rattle.key_index.specs.Keys.{Key, distinct, id_of}
use Rattle.key_index.specs.Private.Sharded.{AreFrom, AreSeenCounts, AreReadable, shard_of}
use Rattle.key_index.specs.declared.shards.TheConstants.{SHARDS}
use Rattle.key_index.proofs.ShardRecords.{next-local_id, shard-at, shard-below}
use Rattle.key_index.proofs.Assigned.{of_record}

-- what is read for record i: its number in its shard, and its key number
pub record IsRead (keys : List Key) (i s seen : ℕ) (local_ids ids : List (List ℕ)) : Type 0 where
  pub seen_in : seen < length (get_or local_ids s [])
  pub local_id_in : get_or (get_or local_ids s []) seen 0 < length (get_or ids s [])
  pub number : get_or (get_or ids s []) (get_or (get_or local_ids s []) seen 0) 0 ≡ id_of (distinct keys) (get_or keys i [])

pub read-record : (hasher : KeyHash) (keys : List Key) (shards : List ℕ) (local_ids ids : List (List ℕ)) (i : ℕ) (seen : List ℕ) → AreReadable (shard_of hasher) keys shards local_ids ids → i < length keys
    → AreSeenCounts (shard_of hasher) SHARDS keys i seen → IsRead keys i (get_or shards i 0) (get_or seen (get_or shards i 0) 0) local_ids ids
read-record hasher keys shards local_ids ids i seen h lt so =
    let s = get_or shards i 0 in
    let at = shard-at (shard_of hasher) keys shards i h.sharded lt in
    let below : s < SHARDS = shard-below hasher keys shards i h.sharded lt in
    let next = next-local_id (shard_of hasher) SHARDS keys i seen (get_or local_ids s []) s lt at below (h.numbered.are s below) so in
    let own = of_record (shard_of hasher) keys i s (get_or (get_or local_ids s []) (get_or seen s 0) 0) ids lt at (omega (arith, below, h.each)) next.1 h.are in record {
      seen_in = next.0;
      local_id_in = own.0;
      number = own.1;
    }

pub from-more : (f : Key → ℕ) (keys : List Key) (from k : ℕ) (numbers : List ℕ) (number : ℕ) → AreFrom f keys from k numbers → k < length numbers → number ≡ f (get_or keys (from + k) [])
    → AreFrom f keys from (k + 1) (slice_set numbers k number)
from-more f keys from k numbers number h lt is = λ j d below.
    elim (cases_eq j k) [
      | inl same ↦
          ap (λ m. get_or (slice_set numbers k number) m d) same ∙ get_or-set_same numbers k number d lt ∙ is ∙ ap (λ m. f (get_or keys (from + m) [])) (sym same)
      | inr ne ↦ get_or-set_other numbers k j number d ne ∙ h j d (omega (arith, below, ne))
    ]
