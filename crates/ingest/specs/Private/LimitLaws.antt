-- The laws of a check of limits that takes keys.
use Rattle.std.proofs.Common.{◌≡◌, ◌∙◌, ◌+◌, ◌<◌, ◌≤◌, ℕ, Bool, List, [], ◌++◌, length, sym, ap, refl, subst, arith, append_assoc, length-append}
use Rattle.std.specs.Prelude.{All}
use Rattle.std.proofs.lemmas.List.{append-nil, get_or-append-add, get_or_append_left, map-append}
use Rattle.lane_words.specs.declared.limits.TheConstants.{MOST_RECORDS}
use Rattle.key_index.proofs.Firsts.{length-first}
use Rattle.partition_log.specs.Keys.{Key, Keyed, distinct, keys_in}
use Rattle.ingest.specs.Limits.{ChecksKeys, GoesOn, IsLimitCheck, Limits, record_taken, records_taken}
use Rattle.ingest.specs.Records.{AreOfTopics}

-- ---- the keys of fewer records are no more
pub fewer-keys : (xs ys : List Keyed)
    → length (distinct (keys_in xs)) ≤ length (distinct (keys_in (xs ++ ys)))
fewer-keys xs ys =
    let parts = map-append (λ (k : Keyed). k.1) xs ys in
    let whole : length (distinct (keys_in (xs ++ ys)))
    ≡ length (distinct (keys_in xs ++ keys_in ys)) =
    ap (λ ks. length (distinct ks)) parts in
    omega (arith, whole, length-first (keys_in xs) (keys_in ys))

-- ---- records one after another
pub goes-none : (check : Limits) → GoesOn check [] check
goes-none check =
    λ (counts : List ℕ) (has_topics : Bool) (before : List Keyed)
    (known : IsLimitCheck counts has_topics before check) few.
    subst (λ records. IsLimitCheck counts has_topics records check) (sym (append-nil before)) known

pub goes-then : (a b c : Limits) (xs ys : List Key)
    → GoesOn a xs b → GoesOn b ys c → GoesOn a (xs ++ ys) c
goes-then a b c xs ys first second =
    λ (counts : List ℕ) (has_topics : Bool) (before : List Keyed)
    (known : IsLimitCheck counts has_topics before a) few.
    let more = records_taken has_topics ys in
    let middle = before ++ records_taken has_topics xs in
    let parts : before ++ records_taken has_topics (xs ++ ys) ≡ middle ++ more =
    ap (λ ks. before ++ ks) (map-append (record_taken has_topics) xs ys)
    ∙ sym (append_assoc before (records_taken has_topics xs) more) in
    let few2 : length (distinct (keys_in (middle ++ more))) < MOST_RECORDS =
    subst (λ rs. length (distinct (keys_in rs)) < MOST_RECORDS) parts few in
    let few1 : length (distinct (keys_in middle)) < MOST_RECORDS =
    omega (arith, fewer-keys middle more, few2) in
    let here = first counts has_topics before known few1 in
    subst (λ rs. IsLimitCheck counts has_topics rs c) (sym parts)
    (second counts has_topics middle here few2)

-- ---- the same, of keys that are of topics
first-part : {X : Type 0} (P : X → Type 0) (xs ys : List X) → All P (xs ++ ys) → All P xs
first-part P xs ys all = λ i d lt.
    subst P (get_or_append_left xs ys d i lt) (all i d (omega (arith, lt, length-append xs ys)))

second-part : {X : Type 0} (P : X → Type 0) (xs ys : List X) → All P (xs ++ ys) → All P ys
second-part P xs ys all = λ i d lt.
    let within : length xs + i < length (xs ++ ys) = omega (arith, lt, length-append xs ys) in
    subst P (get_or-append-add xs ys i d) (all (length xs + i) d within)

pub checks-nothing : (check : Limits) → ChecksKeys check [] check
checks-nothing check = record {
  same_counts = refl;
  same_topics = refl;
  state = λ topics. goes-none check;
}

pub checks-more : (a b c : Limits) (xs ys : List Key)
    → ChecksKeys a xs b → ChecksKeys b ys c → ChecksKeys a (xs ++ ys) c
checks-more a b c xs ys first second = record {
  same_counts = second.same_counts ∙ first.same_counts;
  same_topics = second.same_topics ∙ first.same_topics;
  state = λ topics.
      let P = λ (k : Keyed). k.0 < length a.counts in
      let front = records_taken a.has_topics xs in
      let back = records_taken a.has_topics ys in
      let all : All P (front ++ back) =
      subst (All P) (map-append (record_taken a.has_topics) xs ys) topics in
      let behind : AreOfTopics b.counts (records_taken b.has_topics ys) =
      rw (first.same_counts, first.same_topics) (second-part P front back all) in
      goes-then a b c xs ys (first.state (first-part P front back all)) (second.state behind);
}
