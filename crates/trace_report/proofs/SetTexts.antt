-- The texts of sets, element by element.
use Rattle.std.proofs.Common.{◌≡◌, ◌≢◌, ◌∙◌, ◌+◌, ◌-◌, ◌<◌, ◌≤◌, ℕ, suc, Bool, true, false, ◌&&◌, cond, List, [], ◌∷◌, ◌++◌, Option, Some, None, append_assoc, arith, ap, drop, drop-cons, get_or, is_some, length, map, refl, subst, sym, true≢false}
use Rattle.std.specs.Prelude.{◌==◌, filter, nat_le, nat_lt, not}
use Rattle.std.proofs.Math.Numerals.{add-one}
use Rattle.std.proofs.lemmas.Bool.Decides.{nat_tests}
use Rattle.std.proofs.lemmas.Grind.{flat_map-append}
use Rattle.std.proofs.lemmas.List.{append-nil, drop_all}
use Rattle.std.proofs.lemmas.List.Sums.{sum_by-cons}
use Rattle.bit_planes.specs.PartitionSet.{PartitionSet, elements, empty_set, is_in, partitions_of, set_where}
use Rattle.bit_planes.proofs.Listed.{elements-first, elements-over}
use Rattle.bit_planes.proofs.Sets.{in_empty, in_where, partitions_where, same_set}
use Rattle.group_machine.specs.State.{GroupState, granted_of, is_joined, is_present, member_of, members, seat_granted}
use Rattle.group_machine.specs.declared.group.Seat.{Seat}
use Rattle.partitioner.specs.Topic.{partitions_in}
use Rattle.partitioner.specs.declared.topic.Topic.{Topic}
use Rattle.trace_report.specs.Private.Runs.{IsNextAmong, IsNextRun, IsReadSet, run_texts}
use Rattle.trace_report.specs.Cells.{waiting_text}
use Rattle.trace_report.specs.Sets.{before_range, each_after, granted_cell, granted_entry, is_read, numbers_among, numbers_within, range_text, range_texts, ranges, set_texts, texts_of_topic, texts_of_topics, unread, unread_cell}
use Rattle.trace_report.specs.declared.texts.TheConstants.{SEMICOLON, SPACE}
use Rattle.replay_steps.specs.Steps.{name_of_member}
use Rattle.world.specs.World.{WorldState}
use Rattle.world.proofs.Walks.{AreBelow, elements_below}

-- ---- ranges
joins : (f l n : ℕ) (rest : List (ℕ × ℕ)) → (suc l == n) ≡ true → before_range (f, l) (before_range (n, n) rest) ≡ before_range (f, n) rest
joins f l n [] e = rw e refl
joins f l n (x ∷ rest) e = go (suc n == x.0)
  where
    go : (b : Bool) → before_range (f, l) (cond b ((n, x.1) ∷ rest) ((n, n) ∷ x ∷ rest)) ≡ cond b ((f, x.1) ∷ rest) ((f, n) ∷ x ∷ rest)
    go true = rw e refl
    go false = rw e refl

ends : (f l n : ℕ) (rest : List (ℕ × ℕ)) → (suc l == n) ≡ false → before_range (f, l) (before_range (n, n) rest) ≡ (f, l) ∷ before_range (n, n) rest
ends f l n [] e = rw e refl
ends f l n (x ∷ rest) e = go (suc n == x.0)
  where
    go : (b : Bool) → before_range (f, l) (cond b ((n, x.1) ∷ rest) ((n, n) ∷ x ∷ rest)) ≡ (f, l) ∷ cond b ((n, x.1) ∷ rest) ((n, n) ∷ x ∷ rest)
    go true = rw e refl
    go false = rw e refl

-- ---- numbers among others
among_taken : (from to n : ℕ) (ns : List ℕ) → (nat_le from n && nat_lt n to) ≡ true → numbers_among from to (n ∷ ns) ≡ (n - from) ∷ numbers_among from to ns
among_taken from to n ns e = ap (λ b. map (λ k. k - from) (cond b (n ∷ filter (λ k. nat_le from k && nat_lt k to) ns) (filter (λ k. nat_le from k && nat_lt k to) ns))) e

all_among : (to : ℕ) (ns : List ℕ) → AreBelow to ns → numbers_among 0 to ns ≡ ns
all_among to [] below = refl
all_among to (n ∷ ns) below =
    let within : (nat_le 0 n && nat_lt n to) ≡ true = grind (arith, nat_tests, below.0) in
    let whole : n - 0 ≡ n = omega arith in
    among_taken 0 to n ns within ∙ ap (λ m. m ∷ numbers_among 0 to ns) whole ∙ ap (λ ms. n ∷ ms) (all_among to ns below.1)

pub all_within : (s : PartitionSet) → numbers_within s 0 (partitions_of s) ≡ elements s
all_within s = all_among (partitions_of s) (elements s) (elements_below s)

-- ---- sets without elements
elements_of_none : (n : ℕ) → elements (empty_set n) ≡ []
elements_of_none n = sym (elements-first (empty_set n)) ∙ elements-over (empty_set n) 0 (λ q le. in_empty n q)

texts_of_none : (topics : List Topic) (from n : ℕ) → texts_of_topics topics from (empty_set n) ≡ []
unfolding texts_of_topics
texts_of_none [] from n = refl
texts_of_none (topic ∷ topics) from n =
    ap (λ ns. texts_of_topic topic.name (numbers_among from (from + topic.partitions) ns) ++ texts_of_topics topics (from + topic.partitions) (empty_set n)) (elements_of_none n)
    ∙ texts_of_none topics (from + topic.partitions) n

set_texts_of_none : (topics : List Topic) (n : ℕ) → set_texts topics (empty_set n) ≡ []
set_texts_of_none [] n = ap range_texts (elements_of_none n)
set_texts_of_none (topic ∷ topics) n = texts_of_none (topic ∷ topics) 0 n

absent : (g : GroupState) (m : ℕ) → is_present g m ≡ false → granted_of g m ≡ empty_set g.partitions
absent g m gone = go (member_of g m) gone
  where
    go : (o : Option Seat) → is_some o ≡ false → seat_granted g.partitions o ≡ empty_set g.partitions
    go None e = refl
    go (Some seat) e = absurd (true≢false e)

pub absent_texts : (topics : List Topic) (g : GroupState) (m : ℕ) → is_present g m ≡ false → set_texts topics (granted_of g m) ≡ []
absent_texts topics g m gone = ap (set_texts topics) (absent g m gone) ∙ set_texts_of_none topics g.partitions

-- ---- topics
pub topics_first : (topics : List Topic) (i from : ℕ) (topic : Topic) (s : PartitionSet) → i < length topics → topic ≡ get_or topics i topic
    → texts_of_topics (drop i topics) from s ≡ texts_of_topic topic.name (numbers_within s from (from + topic.partitions)) ++ texts_of_topics (drop (i + 1) topics) (from + topic.partitions) s
unfolding texts_of_topics
topics_first topics i from topic s lt is =
    rw (add-one, drop-cons topics i topic)
    (ap (λ (t : Topic). texts_of_topic t.name (numbers_within s from (from + t.partitions)) ++ texts_of_topics (drop (suc i) topics) (from + t.partitions) s) (sym is))

pub partitions_first : (topics : List Topic) (i : ℕ) (topic : Topic) → i < length topics → topic ≡ get_or topics i topic → partitions_in (drop i topics) ≡ topic.partitions + partitions_in (drop (i + 1) topics)
partitions_first topics i topic lt is =
    ap partitions_in (drop-cons topics i topic lt)
    ∙ sum_by-cons (λ (t : Topic). t.partitions) (get_or topics i topic) (drop (suc i) topics)
    ∙ ap (λ (t : Topic). t.partitions + partitions_in (drop (suc i) topics)) (sym is)
    ∙ ap (λ k. topic.partitions + partitions_in (drop k topics)) (sym (add-one i))

pub topics_step : (text more old : List ℕ) (texts : List (List ℕ)) (new rest : List (List ℕ)) → text ++ each_after SPACE texts ≡ old → texts ≡ new ++ rest → more ≡ text ++ each_after SPACE new → more ++ each_after SPACE rest ≡ old
topics_step text more old texts new rest so_far first written =
    ap (λ t. t ++ each_after SPACE rest) written ∙ append_assoc text (each_after SPACE new) (each_after SPACE rest)
    ∙ ap (λ t. text ++ t) (sym (ap (each_after SPACE) first ∙ flat_map-append (λ t. SPACE ∷ t) new rest)) ∙ so_far

pub topics_over : (text old : List ℕ) (topics : List Topic) (i from : ℕ) (s : PartitionSet) (all : List ℕ) → length topics ≤ i → text ++ each_after SPACE (texts_of_topics (drop i topics) from s) ≡ all → text ≡ all
unfolding texts_of_topics
topics_over text old topics i from s all past so_far =
    sym (append-nil text) ∙ ap (λ ts. text ++ each_after SPACE (texts_of_topics ts from s)) (sym (drop_all i topics past)) ∙ so_far

-- ---- members
pub granted_none : (topics : List Topic) (w : WorldState) (m : ℕ) (text old name : List ℕ) → is_present w.cluster.group m ≡ false → text ≡ old ++ SEMICOLON ∷ name → name ≡ name_of_member w m → text ≡ old ++ SEMICOLON ∷ granted_entry topics w m
granted_none topics w m text old name gone written named =
    written ∙ ap (λ t. old ++ SEMICOLON ∷ t) (sym (append-nil name) ∙ ap (λ t. t ++ []) named ∙ ap (λ ts. name_of_member w m ++ each_after SPACE ts) (sym (absent_texts topics w.cluster.group m gone)))

pub granted_done : (topics : List Topic) (w : WorldState) (text : List ℕ) → text ++ each_after SEMICOLON (map (granted_entry topics w) []) ≡ each_after SEMICOLON (map (granted_entry topics w) (members w.cluster.group)) → drop 1 text ≡ granted_cell topics w
unfolding granted_cell
granted_done topics w text so_far = ap (drop 1) (sym (append-nil text) ∙ so_far)

-- ---- what nobody reads
pub unread_is : (w : WorldState) (full read rest : PartitionSet) → partitions_of rest ≡ w.cluster.group.partitions → ((q : ℕ) → is_in full q ≡ nat_lt q w.cluster.group.partitions) → IsReadSet w read
    → ((q : ℕ) → is_in rest q ≡ (is_in full q && not (is_in read q))) → rest ≡ unread w
unfolding unread
unread_is w full read rest partitions of_full of_read of_rest =
    let P = w.cluster.group.partitions in
    same_set rest (set_where P (λ p. not (is_read w p))) (partitions ∙ sym (partitions_where P (λ p. not (is_read w p))))
    (λ q lt. of_rest q ∙ ap (λ b. is_in full q && not b) (of_read.elements q) ∙ below_all q P (is_in full q) (not (is_read w q)) (omega (arith, lt, partitions)) (of_full q) ∙ sym (in_where P (λ p. not (is_read w p)) q (omega (arith, lt, partitions))))
  where
    below_all : (q n : ℕ) (b c : Bool) → q < n → b ≡ nat_lt q n → (b && c) ≡ c
    below_all q n b c lt is = grind (arith, nat_tests)

pub unread_done : (topics : List Topic) (w : WorldState) (text cleared : List ℕ) (rest : PartitionSet) → cleared ≡ [] → rest ≡ unread w → text ≡ cleared ++ each_after SPACE (set_texts topics rest) → drop 1 text ≡ unread_cell topics w
unfolding unread_cell
unread_done topics w text cleared rest none is written =
    ap (drop 1) (written ∙ ap (λ t. t ++ each_after SPACE (set_texts topics rest)) none ∙ ap (λ s. each_after SPACE (set_texts topics s)) is)

-- ---- who has not joined
pub waiting_more : (w : WorldState) (m : ℕ) (ms : List ℕ) → waiting_text w (m ∷ ms) ≡ waiting_text w (m ∷ []) ++ waiting_text w ms
waiting_more w m ms = go (is_joined w.cluster.group m) (filter (λ k. not (is_joined w.cluster.group k)) ms)
  where
    go : (b : Bool) (rest : List ℕ) → each_after SPACE (map (name_of_member w) (cond (not b) (m ∷ rest) rest)) ≡ each_after SPACE (map (name_of_member w) (cond (not b) (m ∷ []) [])) ++ each_after SPACE (map (name_of_member w) rest)
    go true rest = refl
    go false rest = ap (λ t. t ++ each_after SPACE (map (name_of_member w) rest)) (sym (append-nil (SPACE ∷ name_of_member w m)))

pub waiting_step : (w : WorldState) (text more old : List ℕ) (m : ℕ) (ms : List ℕ) → text ++ waiting_text w (m ∷ ms) ≡ old → more ≡ text ++ waiting_text w (m ∷ []) → more ++ waiting_text w ms ≡ old
waiting_step w text more old m ms so_far written =
    ap (λ t. t ++ waiting_text w ms) written ∙ append_assoc text (waiting_text w (m ∷ [])) (waiting_text w ms) ∙ ap (λ t. text ++ t) (sym (waiting_more w m ms)) ∙ so_far
