-- The logs of a list of records, with one record more at its end.
use Rattle.std.proofs.Common.{◌≡◌, ◌≢◌, ◌∙◌, ◌<◌, ℕ, suc, Bool, true, false, List, [], ◌∷◌, ◌++◌, length, map, get_or, sym, subst, ap, refl, arith, inl, inr}
use Rattle.std.specs.Prelude.{◌==◌, filter}
use Rattle.std.proofs.lemmas.Bool.{eq-eqb}
use Rattle.std.proofs.lemmas.Bool.Decides.{eqb_tells}
use Rattle.std.proofs.lemmas.List.{append-nil, map-append}
use Rattle.std.specs.List.{fold}
use Rattle.std.proofs.lemmas.List.Elements.{All-push, filter-append}
use Rattle.std.proofs.lemmas.List.Sums.{fold-append}
use Rattle.partition_log.specs.Keys.{Key, Keyed, distinct, key_at, keys_in, id_of, with_key}
use Rattle.partition_log.specs.Logs.{AreLogsOf, IsOfTopic, IsValidLogs, PartitionLogs, keys_of_log, log_at, place_in, with_record, with_record_at}
use Rattle.key_index.proofs.Growth.{grows}
use Rattle.partition_log.proofs.Valid.{is_place, log-other, log-same, place-below}

map-agree : {X Y : Type 0} (f g : X → Y) (d : X) (xs : List X) → ((i : ℕ) → i < length xs → f (get_or xs i d) ≡ g (get_or xs i d)) → map f xs ≡ map g xs
map-agree f g d [] h = refl
map-agree f g d (x ∷ xs) h =
    let first : f x ≡ g x = h 0 (omega arith) in
    rw first (ap (λ ys. g x ∷ ys) (map-agree f g d xs (λ i lt. h (suc i) (omega arith))))

-- the entries of a log name the same keys as before
pub names-same : (l : PartitionLogs) (at : ℕ) (key : Key) → IsValidLogs l → (p : ℕ) → map (key_at (with_key l.keys key)) (log_at l p) ≡ keys_of_log l p
names-same l at key a p =
    let g = grows l.keys key in
    map-agree (key_at (with_key l.keys key)) (key_at l.keys) 0 (log_at l p) (λ i lt. g.stays (get_or (log_at l p) i 0) (a.entries p i lt).numbered)

filter-none : (p : Keyed → Bool) (keyed : Keyed) → p keyed ≡ false → filter p (keyed ∷ []) ≡ []
filter-none p keyed e = rw e refl

filter-last : (p : Keyed → Bool) (keyed : Keyed) → p keyed ≡ true → filter p (keyed ∷ []) ≡ keyed ∷ []
filter-last p keyed e = rw e refl

not_place : (m n : ℕ) → m ≢ n → (m == n) ≡ false
not_place m n ne =
    elim (eqb_tells m n) [
      | inl t ↦ absurd (ne t.1)
      | inr f ↦ f.0
    ]

abbrev key_of : Keyed → Key
key_of keyed = keyed.1

records-of : (l : PartitionLogs) (keyed : Keyed) (appended : List Keyed) → IsValidLogs l → AreLogsOf appended l → place_in l keyed < length l.logs → (p : ℕ) → p < l.partitions
    → keys_of_log (with_record l keyed) p ≡ keys_in (filter (λ k. place_in l k == p) (appended ++ keyed ∷ []))
records-of l keyed appended a h lt p p_in =
    let goes : Keyed → Bool = λ k. place_in l k == p in
    let at = place_in l keyed in
    let key = keyed.1 in
    let ws = with_key l.keys key in
    let shown : List Keyed → List Key = keys_in in
    elim (is_place p at) [
      | inr ne ↦
          let none : filter goes (keyed ∷ []) ≡ [] = filter-none goes keyed (not_place at p (λ e. ne (sym e))) in
          ap (map (key_at ws)) (log-other l at key p ne) ∙ names-same l at key a p ∙ h.records p p_in
          ∙ ap shown (sym (filter-append goes appended (keyed ∷ []) ∙ ap (λ ks. filter goes appended ++ ks) none ∙ append-nil (filter goes appended)))
      | inl is ↦
          let one : filter goes (keyed ∷ []) ≡ keyed ∷ [] = filter-last goes keyed (eq-eqb at p (sym is)) in
          let old = log_at l p in
          let more : log_at (with_record l keyed) p ≡ old ++ id_of l.keys key ∷ [] =
          ap (log_at (with_record l keyed)) is ∙ log-same l at key lt ∙ ap (λ q. log_at l q ++ id_of l.keys key ∷ []) (sym is) in
          ap (map (key_at ws)) more ∙ map-append (key_at ws) old (id_of l.keys key ∷ [])
          ∙ ap (λ ks. ks ++ key_at ws (id_of l.keys key) ∷ []) (names-same l at key a p ∙ h.records p p_in)
          ∙ ap (λ (k : Key). shown (filter goes appended) ++ k ∷ []) (grows l.keys key).found
          ∙ sym (map-append key_of (filter goes appended) (keyed ∷ []))
          ∙ ap shown (sym (filter-append goes appended (keyed ∷ []) ∙ ap (λ ks. filter goes appended ++ ks) one))
    ]

pub history : (l : PartitionLogs) (keyed : Keyed) (appended : List Keyed) → IsValidLogs l → AreLogsOf appended l → IsOfTopic l keyed → AreLogsOf (appended ++ keyed ∷ []) (with_record l keyed)
unfolding distinct
history l keyed appended a h topic =
    let below = place-below l keyed a topic in record {
      topics = All-push (IsOfTopic l) appended keyed h.topics topic;
      numbers = ap (λ ks. with_key ks keyed.1) h.numbers ∙ sym (fold-append with_key [] (keys_in appended) (keyed.1 ∷ [])) ∙ ap (fold with_key []) (sym (map-append key_of appended (keyed ∷ [])));
      records = records-of l keyed appended a h (rw a.a_log_each below);
    }

pub history-at : (l : PartitionLogs) (at topic : ℕ) (key : Key) (appended : List Keyed) → IsValidLogs l → AreLogsOf appended l → IsOfTopic l (topic, key) → place_in l (topic, key) ≡ at → AreLogsOf (appended ++ (topic, key) ∷ []) (with_record_at l at key)
history-at l at topic key appended a h is_of goes = subst (λ p. AreLogsOf (appended ++ (topic, key) ∷ []) (with_record_at l p key)) goes (history l (topic, key) appended a h is_of)
