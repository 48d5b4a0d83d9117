-- Where an appended record is.
use Rattle.std.proofs.Common.{◌≡◌, ◌∙◌, ◌+◌, ◌<◌, ℕ, Bool, true, false, List, [], ◌∷◌, ◌++◌, length, get_or, sym, ap, arith, inl, inr, length-append}
use Rattle.std.specs.Prelude.{if◌then◌else◌, nat_lt, Result, Ok, Err}
use Rattle.std.proofs.Math.Seq.{get_or-append_seam}
use Rattle.lane_words.specs.Answers.{Answers}
use Rattle.lane_words.specs.declared.limits.TheConstants.{LONGEST_KEY}
use Rattle.lane_words.specs.declared.Refusal.{Refusal}
use Rattle.lane_words.specs.declared.Refusal.TheVariants as r
use Rattle.partition_log.specs.Keys.{Key, Keyed, id_of, of_first}
use Rattle.partition_log.specs.Logs.{IsOfTopic, IsValidLogs, PartitionLogs, append_answer, is_full_for, log_at, place_in, with_record}
use Rattle.partition_log.proofs.Valid.{log-same, place-below}

-- the record that was appended is at this partition and offset, as the number of its key
pub record IsStored (l : PartitionLogs) (key : Key) (new : PartitionLogs) (place offset : ℕ) : Type 0 where
  pub placed : place < new.partitions
  pub within : offset < length (log_at new place)
  pub numbered : get_or (log_at new place) offset 0 ≡ id_of l.keys key

answered : {T : Type 0} (a b : Bool) (v w : T) → (if a then Err r.KeyTooLong else if b then Err r.LogFull else Ok v) ≡ Ok w → v ≡ w
answered true b v w e = absurd (cc e)
answered false true v w e = absurd (cc e)
answered false false v w e = cc e

-- an answer that is not a refusal is the expected one
pub accepted : {T : Type 0} (expected : Result T Refusal) (v : T) → Answers expected (Ok v) → expected ≡ Ok v
accepted expected v (inl e) = sym e
accepted expected v (inr e) = absurd (cc e)

pub stored : (l new : PartitionLogs) (keyed : Keyed) (place offset : ℕ) → IsValidLogs l → IsOfTopic l keyed → new ≡ with_record l keyed → Answers {T = ℕ × ℕ} (append_answer l keyed) (Ok (place, offset))
    → IsStored l keyed.1 new place offset
stored l new keyed place offset a topic e h =
    let key = keyed.1 in
    let goes = place_in l keyed in
    let pair : (let v : ℕ × ℕ = (goes, length (log_at l goes)) in v) ≡ (place, offset) =
    answered (nat_lt LONGEST_KEY (length key)) (is_full_for l goes key) _ _ (accepted _ _ h) in
    let at : goes ≡ place = ap (λ (v : ℕ × ℕ). v.0) pair in
    let end : length (log_at l goes) ≡ offset = ap (λ (v : ℕ × ℕ). v.1) pair in
    let below : goes < l.partitions = place-below l keyed a topic in
    let old = log_at l goes in
    let log : log_at new place ≡ old ++ id_of l.keys key ∷ [] =
    ap (λ (x : PartitionLogs). log_at x place) e ∙ ap (log_at (with_record l keyed)) (sym at) ∙ log-same l goes key (rw a.a_log_each below) in
    let long : length (log_at new place) ≡ length old + 1 = ap length log ∙ length-append old (id_of l.keys key ∷ []) in
    let same : new.partitions ≡ l.partitions = ap (λ (x : PartitionLogs). x.partitions) e in
    record {
      placed = omega (arith, at, below, same);
      within = omega (arith, long, end);
      numbered = ap (λ (xs : List ℕ). get_or xs offset 0) log ∙ ap (λ n. get_or (old ++ id_of l.keys key ∷ []) n 0) (sym end) ∙ get_or-append_seam old (id_of l.keys key) [] 0;
    }

pub first-topic : (l : PartitionLogs) (key : Key) → IsValidLogs l → IsOfTopic l (of_first key)
first-topic l key a = omega (arith, a.counted.some)
