-- A file that is counted within the limits of its logs, window by window.
use Rattle.std.proofs.Common.{◌≡◌, ◌∙◌, ◌<◌, ◌≤◌, ℕ, List, [], ◌∷◌, ◌++◌, Bool, true, false, Option, Some, None, Result, Ok, Err, length, take, drop, sym, ap, refl, subst, arith, inl, append-nil, append_assoc, length-append, take-append-drop}
use Rattle.std.specs.Option.{is_some}
use Rattle.std.specs.Io.KnownBytes.{Consumes, IsAtEnd}
use Rattle.std.proofs.lemmas.List.{map-append}
use Rattle.byte_io.proofs.ConsecutiveCalls.{consumes_more}
use Rattle.lane_words.specs.declared.Refusal.{Refusal}
use Rattle.lane_words.specs.declared.limits.TheConstants.{MOST_RECORDS}
use Rattle.csv_ingest.specs.KeyFile.{Taking, taken_of}
use Rattle.csv_ingest.specs.Pieces.{file_records}
use Rattle.csv_ingest.specs.Private.Pieces.{lent}
use Rattle.csv_ingest.specs.Rounds.{HasRead, IsSplitPoint, chunk_keys}
use Rattle.csv_ingest.proofs.Joined.{keys_of-few}
use Rattle.csv_ingest.proofs.Pieces.{keys_from-count}
use Rattle.csv_ingest.proofs.Rounds.{chunk_fault, read_chunk, split-front}
use Rattle.csv_ingest.proofs.Short.{file_records-short}
use Rattle.key_counts.specs.Counts.{Entries}
use Rattle.key_counts.specs.Segments.{keys_of}
use Rattle.key_counts.specs.declared.merging.Segment.{Segment}
use Rattle.key_stream.specs.Counting.{HasFaultIn, IsCounted, Refills, TakesFirst}
use Rattle.key_stream.specs.Rounds.{entries_in}
use Rattle.key_stream.specs.Splits.{IsSplitOf}
use Rattle.key_stream.specs.declared.counting.Counting.{Counting}
use Rattle.key_stream.specs.declared.counting.Split.{Split}
use Rattle.key_stream.proofs.TakenFirst.{front-within}
use Rattle.partition_log.specs.Keys.{Key, distinct}
use Rattle.partition_log.specs.Keys.{keys_in as keys_in_records}
use Rattle.ingest.specs.Limits.{AreEntriesOfTopics, BeginsAfter, IsLimitCheck, Limits, record_taken, records_taken}
use Rattle.ingest.specs.Private.Counted.{AreWithin, BeginsCheck, ChecksFound, ChecksWindow, Concludes, CountsSource, HasRoom, IsChecking, IsFirstFault, IsSourceFault, ReadsBehind, TakesTopics}
use Rattle.ingest.specs.Private.LimitLaws.{fewer-keys}
use Rattle.ingest.specs.Private.Limits.{long_fault_of}
use Rattle.ingest.specs.Records.{AreOfTopics}
use Rattle.ingest.proofs.EntryLimits.{entries-of_topics, unfilled}
use Rattle.ingest.proofs.Taken.{chunk-topics, file-topics}

-- ---- the keys of what was read, and of a chunk behind it
-- a chunk has these keys, which follow those that were read
pub record Follows (delimiter : ℕ) (wanted : Taking) (header : Bool) (width : Option ℕ) (chunk : List ℕ) (keys all : List Key) : Type 0 where
  pub more : List Key
  pub found : chunk_keys delimiter wanted header width chunk ≡ Ok more
  pub order : all ≡ keys ++ more
  pub few : length more ≤ length chunk

chunk-few : (delimiter : ℕ) (wanted : Taking) (header : Bool) (width : Option ℕ) (chunk : List ℕ) (more : List Key) → chunk_keys delimiter wanted header width chunk ≡ Ok more → length more ≤ length chunk
chunk-few delimiter wanted header None chunk more e = keys_of-few delimiter wanted header chunk more e
chunk-few delimiter wanted header (Some width) chunk more e =
    let n = keys_from-count wanted width 1 (file_records delimiter chunk) more e in
    let short = file_records-short delimiter chunk in
    omega (arith, n, short)

follows-as : (delimiter : ℕ) (wanted : Taking) (header : Bool) (read chunk : List ℕ) (width : Option ℕ) (records : ℕ) (keys all : List Key) (found : Result (List Key) Refusal) → IsSplitPoint delimiter read chunk
    → HasRead delimiter wanted header read width records keys → taken_of delimiter wanted header (read ++ chunk) ≡ Ok all → chunk_keys delimiter wanted header width chunk ≡ found
    → Follows delimiter wanted header width chunk keys all
follows-as delimiter wanted header read chunk width records keys all (Ok more) at so whole e =
    let next = read_chunk delimiter wanted header read chunk width records keys more so at e in record {
      more = more;
      found = e;
      order = cc (sym whole ∙ next.taken);
      few = chunk-few delimiter wanted header width chunk more e;
    }
follows-as delimiter wanted header read chunk width records keys all (Err fault) at so whole e =
    absurd (cc (sym whole ∙ chunk_fault delimiter wanted header read chunk width records keys fault so at e))

pub follows : (delimiter : ℕ) (wanted : Taking) (header : Bool) (read chunk : List ℕ) (width : Option ℕ) (records : ℕ) (keys all : List Key) → IsSplitPoint delimiter read chunk
    → HasRead delimiter wanted header read width records keys → taken_of delimiter wanted header (read ++ chunk) ≡ Ok all → Follows delimiter wanted header width chunk keys all
follows delimiter wanted header read chunk width records keys all at so whole =
    follows-as delimiter wanted header read chunk width records keys all (chunk_keys delimiter wanted header width chunk) at so whole refl

pub begins-new : (counts : List ℕ) (has_topics : Bool) (workers : List Entries) (total more : ℕ) (old : Option Limits) (check : Limits) → is_some old ≡ false → BeginsAfter counts has_topics workers check
    → BeginsCheck counts has_topics workers total more old (Some check)
begins-new counts has_topics workers total more None check none begins = λ keys order so many within. ((λ few. begins keys order so within), tt)
begins-new counts has_topics workers total more (Some old) check none begins = absurd (cc none)

pub fault-unchecked : (counts : List ℕ) (has_topics : Bool) (workers : List Entries) (segments : List Segment) → IsFirstFault counts has_topics workers segments None (long_fault_of has_topics workers)
fault-unchecked counts has_topics workers segments = λ keys so within few. unfilled counts has_topics keys (keys_of workers segments) workers so within

-- ---- the limits go on
records-append : (has_topics : Bool) (keys more : List Key) → records_taken has_topics (keys ++ more) ≡ records_taken has_topics keys ++ records_taken has_topics more
records-append has_topics keys more = map-append (record_taken has_topics) keys more

within-more : (counts : List ℕ) (has_topics : Bool) (keys more : List Key) (found : Result (List Key) Refusal) (total bytes : ℕ) (check check2 : Option Limits) → found ≡ Ok more
    → AreOfTopics counts (records_taken has_topics more) → total ≡ length keys → length more ≤ bytes → AreWithin counts has_topics keys check → HasRoom total bytes check → ChecksFound found check check2
    → AreWithin counts has_topics (keys ++ more) check2
within-more counts has_topics keys more found total bytes None check2 is topics many few within room checks =
    subst (AreWithin counts has_topics (keys ++ more)) (sym checks) (omega (arith, room, few, many, length-append keys more))
within-more counts has_topics keys more found total bytes (Some old) check2 is topics many few within room checks =
    let new = checks.0 in
    let before = records_taken has_topics keys in
    let after = records_taken has_topics more in
    let same : checks.1 ≡ more = cc (sym checks.3 ∙ is) in
    subst (AreWithin counts has_topics (keys ++ more)) (sym checks.2) (λ enough.
    let parts = records-append has_topics keys more in
    let enough2 : length (distinct (keys_in_records (before ++ after))) < MOST_RECORDS = subst (λ rs. length (distinct (keys_in_records rs)) < MOST_RECORDS) parts enough in
    let known : IsLimitCheck counts has_topics before old = within (omega (arith, fewer-keys before after, enough2)) in
    let of_old : AreOfTopics old.counts (records_taken old.has_topics checks.1) = rw (known.counts_are, known.topics_are, same) topics in
    let goes = checks.4.state of_old counts has_topics before known in
    subst (λ rs. IsLimitCheck counts has_topics rs new) (sym parts) (rw same at goes enough2))

-- ---- a source, window by window
consumes-none : (left : Option (List ℕ)) → Consumes left left []
consumes-none None = tt
consumes-none (Some xs) = refl

pub checking-starts : (delimiter : ℕ) (wanted : Taking) (header : Bool) (counts : List ℕ) (has_topics at_end : Bool) (left : Option (List ℕ)) (window : List ℕ) (counting : Counting) (check : Option Limits) → check ≡ None → (at_end ≡ true → IsAtEnd left)
    → IsCounted delimiter wanted header [] counting → IsChecking delimiter wanted header counts has_topics at_end window at_end left left window counting check
checking-starts delimiter wanted header counts has_topics at_end left window counting check unchecked end so = record {
  read = [];
  bytes = record { more = []; whole = sym (append-nil window); consumed = consumes-none left; follows = λ e. refl };
  ended = end;
  stays = λ e. e;
  counted = so;
  split = λ more end. inl refl;
  within =
      let few : length so.keys ≤ length {A = ℕ} [] = keys_of-few delimiter wanted header [] so.keys so.so.so.taken in
      subst (AreWithin counts has_topics so.keys) (sym unchecked) (omega (arith, few));
}

pub checking-refills : (delimiter : ℕ) (wanted : Taking) (header : Bool) (counts : List ℕ) (has_topics at_end end : Bool) (first : List ℕ) (first_end : Bool) (left left2 left3 : Option (List ℕ)) (window window2 : List ℕ) (counting : Counting) (check : Option Limits)
    → IsChecking delimiter wanted header counts has_topics at_end first first_end left left2 window counting check → Refills at_end end left2 left3 window window2
    → IsChecking delimiter wanted header counts has_topics end first first_end left left3 window2 counting check
checking-refills delimiter wanted header counts has_topics true end first first_end left left2 left3 window window2 counting check r f = rw (f.0, f.1, f.2) r
checking-refills delimiter wanted header counts has_topics false end first first_end left left2 left3 window window2 counting check r f =
    let got = f.0.0 in
    record {
      read = r.read;
      bytes = record {
        more = r.bytes.more ++ got;
        whole = ap (λ xs. r.read ++ xs) f.0.1 ∙ sym (append_assoc r.read window got) ∙ ap (λ xs. xs ++ got) r.bytes.whole ∙ append_assoc first r.bytes.more got;
        consumed = consumes_more left left2 left3 r.bytes.more got r.bytes.consumed f.0.2;
        follows = λ e. absurd (cc (r.stays e));
      };
      ended = f.1;
      stays = λ e. absurd (cc (r.stays e));
      counted = r.counted;
      split = λ more end_is. subst (IsSplitPoint delimiter r.read) (sym (append_assoc window got more) ∙ ap (λ xs. xs ++ more) (sym f.0.1)) (r.split (got ++ more) (λ e. cc e));
      within = r.within;
    }

-- what is taken of a split text are bytes of it
pub split-within : (delimiter : ℕ) (at_end : Bool) (text : List ℕ) (split : Split) → IsSplitOf delimiter at_end text split → split.taken ≤ length text
split-within delimiter at_end text split so =
    let few = front-within delimiter (lent split.pieces.items) text split.count so.pieces in
    let is = so.taken in
    omega (arith, few, is)

-- at the end of a source nothing is read
pub ended-reads : (at_end end : Bool) (left left2 : Option (List ℕ)) (window window2 : List ℕ) → at_end ≡ true → Refills at_end end left left2 window window2 → left2 ≡ left
ended-reads true end left left2 window window2 is f = f.1
ended-reads false end left left2 window window2 is f = absurd (cc is)

-- a check has begun, if a log could be full behind the window
pub record IsReady (delimiter : ℕ) (wanted : Taking) (header : Bool) (counts : List ℕ) (has_topics at_end : Bool) (first : List ℕ) (first_end : Bool) (left left2 : Option (List ℕ)) (window : List ℕ) (counting : Counting) (check : Option Limits) : Type 0 where
  pub checking : IsChecking delimiter wanted header counts has_topics at_end first first_end left left2 window counting check
  pub room : HasRoom counting.round.keys (length window) check

pub checking-begins : (delimiter : ℕ) (wanted : Taking) (header : Bool) (counts : List ℕ) (has_topics at_end : Bool) (first : List ℕ) (first_end : Bool) (left left2 : Option (List ℕ)) (window : List ℕ) (counting : Counting) (check check2 : Option Limits) (more : ℕ)
    → IsChecking delimiter wanted header counts has_topics at_end first first_end left left2 window counting check → more ≡ length window
    → BeginsCheck counts has_topics (entries_in counting.workers.items) counting.round.keys more check check2
    → IsReady delimiter wanted header counts has_topics at_end first first_end left left2 window counting check2
checking-begins delimiter wanted header counts has_topics at_end first first_end left left2 window counting check check2 more r long begins =
    let so = r.counted in
    let begun = begins so.keys (keys_of (entries_in counting.workers.items) counting.segments.items) so.taken so.so.counted r.within in record {
      checking = record { read = r.read; bytes = r.bytes; ended = r.ended; stays = r.stays; counted = r.counted; split = r.split; within = begun.0 };
      room = subst (λ n. HasRoom counting.round.keys n check2) long begun.1;
    }

pub checking-counts : (delimiter : ℕ) (wanted : Taking) (header : Bool) (counts : List ℕ) (has_topics at_end done : Bool) (first : List ℕ) (first_end : Bool) (left left2 : Option (List ℕ)) (window window2 : List ℕ) (counting new : Counting) (check check2 : Option Limits)
    → TakesTopics wanted counts has_topics → IsReady delimiter wanted header counts has_topics at_end first first_end left left2 window counting check
    → ChecksWindow delimiter wanted header at_end done counting new window window2 check check2
    → IsChecking delimiter wanted header counts has_topics at_end first first_end left left2 window2 new check2
checking-counts delimiter wanted header counts has_topics at_end done first first_end left left2 window window2 counting new check check2 topics ready c =
    let r = ready.checking in
    let so = r.counted in
    let n = c.counts.n in
    let front = take n window in
    let whole : front ++ drop n window ≡ window = take-append-drop n window in
    let now = (c.counts.taken r.read [] (r.split [] (λ e. refl)) (λ e. refl) so).0 in
    let at : IsSplitPoint delimiter r.read front =
    split-front delimiter r.read front (drop n window) (subst (IsSplitPoint delimiter r.read) (append-nil window ∙ sym whole) (r.split [] (λ e. refl))) in
    let f = follows delimiter wanted header r.read front counting.round.width so.so.records so.keys now.keys at so.so.so now.so.so.taken in
    let short : length f.more ≤ length window = let e = ap length whole in let l = length-append front (drop n window) in let few = f.few in omega (arith, e, l, few) in
    record {
      read = r.read ++ front;
      bytes = subst (ReadsBehind first first_end left left2) (ap (λ xs. r.read ++ xs) (sym whole ∙ ap (λ xs. front ++ xs) (sym c.counts.rest)) ∙ sym (append_assoc r.read front window2)) r.bytes;
      ended = r.ended;
      stays = r.stays;
      counted = now;
      split = λ more end. subst (λ xs. IsSplitPoint delimiter (r.read ++ front) (xs ++ more)) (sym c.counts.rest) (c.counts.taken r.read more (r.split more end) end so).1;
      within =
          subst (λ keys. AreWithin counts has_topics keys check2) (sym f.order)
          (within-more counts has_topics so.keys f.more (chunk_keys delimiter wanted header counting.round.width front) counting.round.keys (length window) check check2 f.found
          (chunk-topics delimiter wanted header counts has_topics counting.round.width front f.more topics f.found) so.so.counted short r.within ready.room c.checks);
    }

pub checking-ends : (delimiter : ℕ) (wanted : Taking) (header : Bool) (counts : List ℕ) (has_topics at_end done : Bool) (first : List ℕ) (first_end : Bool) (left left2 : Option (List ℕ)) (window window2 : List ℕ) (counting new : Counting) (check check2 : Option Limits)
    → TakesTopics wanted counts has_topics → IsReady delimiter wanted header counts has_topics at_end first first_end left left2 window counting check
    → ChecksWindow delimiter wanted header at_end done counting new window window2 check check2 → done ≡ true
    → IsChecking delimiter wanted header counts has_topics true first first_end left left2 [] new check2
checking-ends delimiter wanted header counts has_topics at_end done first first_end left left2 window window2 counting new check check2 topics ready c is =
    let all = c.counts.all is in
    let none : window2 ≡ [] = c.counts.rest ∙ ap (λ n. drop n window) all.1 ∙ drop-all window in
    let next = checking-counts delimiter wanted header counts has_topics at_end done first first_end left left2 window window2 counting new check check2 topics ready c in
    subst (λ b. IsChecking delimiter wanted header counts has_topics b first first_end left left2 [] new check2) all.0
    (subst (λ xs. IsChecking delimiter wanted header counts has_topics at_end first first_end left left2 xs new check2) none next)
  where
    drop-all : (xs : List ℕ) → drop (length xs) xs ≡ []
    drop-all [] = refl
    drop-all (x ∷ xs) = drop-all xs

-- ---- the fault of a source
pub checking-fails : (delimiter : ℕ) (wanted : Taking) (header : Bool) (counts : List ℕ) (has_topics at_end : Bool) (first : List ℕ) (first_end : Bool) (left left2 : Option (List ℕ)) (window : List ℕ) (counting : Counting) (check : Option Limits) (e : Refusal)
    → IsChecking delimiter wanted header counts has_topics at_end first first_end left left2 window counting check → HasFaultIn delimiter wanted header at_end window counting e
    → IsSourceFault delimiter wanted header first left e
checking-fails delimiter wanted header counts has_topics at_end first first_end None left2 window counting check e r f = tt
checking-fails delimiter wanted header counts has_topics at_end first first_end (Some rest) None window counting check e r f = absurd r.bytes.consumed
checking-fails delimiter wanted header counts has_topics at_end first first_end (Some rest) (Some more) window counting check e r f =
    let file : first ++ rest ≡ r.read ++ (window ++ more) =
    ap (λ xs. first ++ xs) r.bytes.consumed ∙ sym (append_assoc first r.bytes.more more) ∙ ap (λ xs. xs ++ more) (sym r.bytes.whole) ∙ append_assoc r.read window more in
    ap (taken_of delimiter wanted header) file ∙ f r.read more (r.split more r.ended) r.ended r.counted

-- a chunk that was counted has no fault
pub counted-fault : (delimiter : ℕ) (wanted : Taking) (header at_end : Bool) (text : List ℕ) (n : ℕ) (old new : Counting) (e : Refusal) → TakesFirst delimiter wanted header at_end text n old new
    → chunk_keys delimiter wanted header old.round.width (take n text) ≡ Err e → HasFaultIn delimiter wanted header at_end text old e
counted-fault delimiter wanted header at_end text n old new e takes bad = λ read more at end so.
    let front = take n text in
    let now = (takes read more at end so).0 in
    let parts : text ++ more ≡ front ++ (drop n text ++ more) = ap (λ xs. xs ++ more) (sym (take-append-drop n text)) ∙ append_assoc front (drop n text) more in
    let here = split-front delimiter read front (drop n text ++ more) (subst (IsSplitPoint delimiter read) parts at) in
    absurd (cc (sym now.so.so.taken ∙ chunk_fault delimiter wanted header read front old.round.width so.so.records so.keys e so.so.so here bad))

-- ---- at the end
pub concluded : (delimiter : ℕ) (wanted : Taking) (header : Bool) (counts : List ℕ) (has_topics : Bool) (first : List ℕ) (first_end : Bool) (left left2 : Option (List ℕ)) (counting : Counting) (check : Option Limits) (why : Option Refusal)
    → IsChecking delimiter wanted header counts has_topics true first first_end left left2 [] counting check
    → Concludes counts has_topics (entries_in counting.workers.items) counting.segments.items check (Ok why)
    → TakesTopics wanted counts has_topics → CountsSource delimiter wanted header counts has_topics first first_end left left2 counting why
concluded delimiter wanted header counts has_topics first first_end left left2 counting check why r end topics = record {
  read = r.read;
  bytes = subst (ReadsBehind first first_end left left2) (append-nil r.read) r.bytes;
  ended = r.ended refl;
  counted = r.counted;
  topics = file-topics delimiter wanted header counts has_topics r.read r.counted.keys topics r.counted.so.so.taken;
  refused = end r.counted.keys r.counted.taken r.within;
}

-- ---- what is asked of the workers
pub entries-topics : (delimiter : ℕ) (wanted : Taking) (header : Bool) (counts : List ℕ) (has_topics : Bool) (read : List ℕ) (counting : Counting) → TakesTopics wanted counts has_topics
    → IsCounted delimiter wanted header read counting → AreEntriesOfTopics counts has_topics (entries_in counting.workers.items)
entries-topics delimiter wanted header counts has_topics read counting topics so =
    entries-of_topics counts has_topics so.keys (keys_of (entries_in counting.workers.items) counting.segments.items) (entries_in counting.workers.items) so.taken
    (file-topics delimiter wanted header counts has_topics read so.keys topics so.so.so.taken)
