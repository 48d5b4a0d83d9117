-- Stored entries.
use Rattle.std.specs.Prelude.{ℕ, List, map}
use Rattle.key_index.specs.Keys.{Key}
use Rattle.key_counts.specs.declared.entry.Entry.{Entry}

-- their keys
abbrev pub stored_keys : List Entry → List Key
stored_keys entries = map (λ e. e.key) entries

-- how many records each took
abbrev pub stored_counts : List Entry → List ℕ
stored_counts entries = map (λ e. e.count) entries
