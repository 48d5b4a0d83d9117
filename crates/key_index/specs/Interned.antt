-- Interned lists.
use Rattle.std.specs.Prelude.{◌≡◌, List, map}
use Rattle.key_index.specs.Keys.{Key, distinct, id_of}
use Rattle.key_index.specs.declared.shards.Interned.{Interned}

-- the distinct keys of these, in the order of their first appearance, and the key number of each
pub record IsDictionaryOf (records : List Key) (interned : Interned) : Type 0 where
  pub keys : interned.keys ≡ distinct records
  pub ids : interned.ids.items ≡ map (id_of (distinct records)) records
