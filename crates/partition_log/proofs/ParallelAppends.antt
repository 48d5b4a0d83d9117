-- Records appended to empty logs all at once.
use Rattle.std.proofs.Common.{◌≡◌, ◌∙◌, ℕ, suc, List, [], ◌∷◌, ◌++◌, length, map, get_or, replicate, sym, ap, refl, arith, inl, inr}
use Rattle.std.specs.Prelude.{slice_set}
use Rattle.std.specs.List.{fold}
use Rattle.std.proofs.lemmas.Bool.{cases_lt}
use Rattle.partition_log.specs.Appends.{Placed, with_records}
use Rattle.partition_log.specs.Keys.{Key, distinct, id_of, with_key}
use Rattle.partition_log.specs.Logs.{IsValidLogs, PartitionLogs, log_at, with_record_at}
use Rattle.partition_log.specs.Private.Filled.{filled}
use Rattle.key_index.proofs.Firsts.{own, stays}

abbrev pub key_of : Placed → Key
key_of one = one.1

abbrev pub place_at : Placed → ℕ
place_at one = one.0

pub with_records-keys : (l : PartitionLogs) (records : List Placed) → (with_records l records).keys ≡ fold with_key l.keys (map key_of records)
unfolding with_records
with_records-keys l [] = refl
with_records-keys l (x ∷ records) = with_records-keys (with_record_at l x.0 x.1) records

pub with_records-counts : (l : PartitionLogs) (records : List Placed) → (with_records l records).counts ≡ l.counts
unfolding with_records
with_records-counts l [] = refl
with_records-counts l (x ∷ records) = with_records-counts (with_record_at l x.0 x.1) records

pub with_records-partitions : (l : PartitionLogs) (records : List Placed) → (with_records l records).partitions ≡ l.partitions
unfolding with_records
with_records-partitions l [] = refl
with_records-partitions l (x ∷ records) = with_records-partitions (with_record_at l x.0 x.1) records

-- logs filled by the final key numbers are those with the records appended
pub with_records-logs : (l : PartitionLogs) (records : List Placed) (all : List Key) → all ≡ fold with_key l.keys (map key_of records) → filled l.logs (map place_at records) (map (id_of all) (map key_of records)) ≡ (with_records l records).logs
unfolding with_records
with_records-logs l [] all is = refl
with_records-logs l (x ∷ records) all is =
    let final : id_of all x.1 ≡ id_of l.keys x.1 = ap (λ ks. id_of ks x.1) is ∙ (stays (with_key l.keys x.1) (map key_of records) x.1 (own l.keys x.1).0).1 ∙ (own l.keys x.1).1 in
    ap (λ n. filled (slice_set l.logs x.0 (log_at l x.0 ++ n ∷ [])) (map place_at records) (map (id_of all) (map key_of records))) final
    ∙ with_records-logs (with_record_at l x.0 x.1) records all is

pub no-record : (l : PartitionLogs) (p : ℕ) → IsValidLogs l → length l.keys ≡ 0 → length (log_at l p) ≡ 0
no-record l p a none =
    elim (cases_lt 0 (length (log_at l p))) [
      | inl some ↦ absurd (omega (arith, (a.entries p 0 some).numbered, none))
      | inr le ↦ omega (arith, le)
    ]

all-empty : (logs : List (List ℕ)) → ((p : ℕ) → length (get_or logs p []) ≡ 0) → logs ≡ replicate (length logs) []
all-empty [] h = refl
all-empty (log ∷ logs) h =
    let first : log ≡ [] = empty log (h 0) in
    rw first (ap (λ (ls : List (List ℕ)). [] ∷ ls) (all-empty logs (λ p. h (suc p))))
  where
    empty : (xs : List ℕ) → length xs ≡ 0 → xs ≡ []
    empty [] e = refl
    empty (x ∷ xs) e = absurd (omega (arith, e))

pub no-records : (l : PartitionLogs) → IsValidLogs l → length l.keys ≡ 0 → l.logs ≡ replicate l.partitions []
no-records l a none = all-empty l.logs (λ p. no-record l p a none) ∙ ap (λ n. replicate n []) a.a_log_each

same-parts : (w : PartitionLogs) (counts : List ℕ) (partitions : ℕ) (keys : List Key) (logs : List (List ℕ)) → counts ≡ w.counts → partitions ≡ w.partitions → keys ≡ w.keys → logs ≡ w.logs
    → (let new : PartitionLogs = record { counts = counts; partitions = partitions; keys = keys; logs = logs } in new ≡ w)
same-parts w counts partitions keys logs c p ks ls = rw (c, p, ks, ls) refl

pub appended-whole : (l : PartitionLogs) (records : List Placed) (all : List Key) (logs : List (List ℕ)) → IsValidLogs l → l.keys ≡ [] → all ≡ distinct (map key_of records)
    → logs ≡ filled (replicate l.partitions []) (map place_at records) (map (id_of all) (map key_of records))
    → (let new : PartitionLogs = record { counts = l.counts; partitions = l.partitions; keys = all; logs = logs } in new ≡ with_records l records)
unfolding distinct
appended-whole l records all logs a none is are =
    let w = with_records l records in
    let same_keys : all ≡ w.keys = is ∙ ap (λ ks. fold with_key ks (map key_of records)) (sym none) ∙ sym (with_records-keys l records) in
    let same_logs : logs ≡ w.logs =
    are ∙ ap (λ ls. filled ls (map place_at records) (map (id_of all) (map key_of records))) (sym (no-records l a (ap length none))) ∙ with_records-logs l records all (same_keys ∙ with_records-keys l records) in
    same-parts w l.counts l.partitions all logs (sym (with_records-counts l records)) (sym (with_records-partitions l records)) same_keys same_logs
