-- Stored entries, and the lists of their keys and of their counts.
use Rattle.std.proofs.Common.{◌≡◌, ◌∙◌, ◌+◌, ◌<◌, ℕ, zero, suc, List, [], ◌∷◌, ◌++◌, length, get_or, subst, sym, ap, refl, arith}
use Rattle.std.specs.Prelude.{All, slice_set}
use Rattle.std.proofs.lemmas.List.{get_or-map, length-map, map-append}
use Rattle.key_index.specs.Keys.{key_at}
use Rattle.key_counts.specs.declared.entry.Entry.{Entry}
use Rattle.key_counts.specs.Private.Entry.{stored_counts, stored_keys}

pub keys-long : (entries : List Entry) → length (stored_keys entries) ≡ length entries
keys-long entries = length-map entries (λ e. e.key)

pub counts-long : (entries : List Entry) → length (stored_counts entries) ≡ length (stored_keys entries)
counts-long entries = length-map entries (λ e. e.count) ∙ sym (keys-long entries)

pub key-stored : (entries : List Entry) (code : ℕ) (e : Entry) → code < length entries → e ≡ get_or entries code e → key_at (stored_keys entries) code ≡ e.key
key-stored entries code e lt is = get_or-map (λ (x : Entry). x.key) entries code e [] lt ∙ ap (λ (x : Entry). x.key) (sym is)

-- ---- one more record of an entry
pub keys-raised : (entries : List Entry) (code : ℕ) (old new : Entry) → old ≡ get_or entries code old → new.key ≡ old.key
    → stored_keys (slice_set entries code new) ≡ stored_keys entries
keys-raised [] code old new is same = refl
keys-raised (e ∷ entries) zero old new is same = ap (λ k. k ∷ stored_keys entries) (same ∙ ap (λ (x : Entry). x.key) is)
keys-raised (e ∷ entries) (suc code) old new is same = ap (λ ks. e.key ∷ ks) (keys-raised entries code old new is same)

pub counts-raised : (entries : List Entry) (code : ℕ) (old new : Entry) → code < length entries → old ≡ get_or entries code old → new.count ≡ old.count + 1
    → stored_counts (slice_set entries code new) ≡ slice_set (stored_counts entries) code (get_or (stored_counts entries) code 0 + 1)
counts-raised [] code old new lt is more = absurd (omega (arith, lt))
counts-raised (e ∷ entries) zero old new lt is more = ap (λ n. n ∷ stored_counts entries) (more ∙ ap (λ (x : Entry). x.count + 1) is)
counts-raised (e ∷ entries) (suc code) old new lt is more = ap (λ ns. e.count ∷ ns) (counts-raised entries code old new (omega (arith, lt)) is more)

-- ---- a new entry
pub keys-added : (entries new : List Entry) (e : Entry) → new ≡ entries ++ e ∷ [] → stored_keys new ≡ stored_keys entries ++ e.key ∷ []
keys-added entries new e is = ap stored_keys is ∙ map-append (λ (x : Entry). x.key) entries (e ∷ [])

pub counts-added : (entries new : List Entry) (e : Entry) → new ≡ entries ++ e ∷ [] → stored_counts new ≡ stored_counts entries ++ e.count ∷ []
counts-added entries new e is = ap stored_counts is ∙ map-append (λ (x : Entry). x.count) entries (e ∷ [])

pub codes-within : (entries : List Entry) (codes : List ℕ) → All (λ code. code < length entries) codes → All (λ code. code < length (stored_keys entries)) codes
codes-within entries codes all = subst (λ n. All (λ code. code < n) codes) (sym (keys-long entries)) all
