-- Misplaced records, told one after another.
use Rattle.std.proofs.Common.{◌≡◌, ◌∙◌, ◌+◌, ◌-◌, ◌<◌, ◌≤◌, ℕ, zero, suc, Bool, true, false, List, [], ◌∷◌, ◌++◌, length, length-append, map, take, drop, drop-cons, add-one, get_or, cond, sym, ap, refl, subst, arith, append_assoc, true≢false}
use Rattle.std.specs.Prelude.{bytes_eq, flat_map, if◌then◌else◌, nat_lt}
use Rattle.std.specs.Borrow.{Bor}
use Rattle.std.proofs.lemmas.Bool.{lt-ltb}
use Rattle.std.proofs.lemmas.List.{append-nil, drop_all, get_or-map, length-map}
use Rattle.partitioner.specs.declared.topic.Topic.{Topic}
use Rattle.report_rows.specs.Rows.{HasText}
use Rattle.partition_log.specs.Keys.{Keyed, keys_in}
use Rattle.partition_log.specs.Logs.{PartitionLogs, place_in}
use Rattle.command_line.specs.declared.options.Options.{Options}
use Rattle.ingest.specs.Records.{partition_counts, partition_of_record}
use Rattle.place_report.specs.Given.{first_number, misplaced_of, misplaced_row, misplaced_rows, number_text}
use Rattle.place_report.specs.declared.given.Given.{Given}
use Rattle.place_report.specs.Private.Given.{AreAsMany, keys_of, misplaced_from, misplaced_in, row_at, texts_of}

abbrev concatenated : List (List ℕ) → List ℕ
concatenated rows = flat_map (λ row. row) rows

-- ---- one record
pub told_row : (topics : List Topic) (given : Given) (i : ℕ) (no_key no_text : Bor (List ℕ)) → AreAsMany given → i < length given.places.now
    → bytes_eq (get_or given.texts.now i no_text).now (number_text topics (get_or given.places.now i 0)) ≡ false
    → concatenated (row_at topics given i) ≡ misplaced_row topics (given.first + i) (get_or given.keys.now i no_key).now (get_or given.texts.now i no_text).now (get_or given.places.now i 0)
told_row topics given i no_key no_text many lt differs =
    let key = get_or-map (λ (key : Bor (List ℕ)). key.now) given.keys.now i no_key [] (omega (arith, lt, many.keys)) in
    let text = get_or-map (λ (text : Bor (List ℕ)). text.now) given.texts.now i no_text [] (omega (arith, lt, many.texts)) in
    let row = misplaced_row topics (given.first + i) (get_or given.keys.now i no_key).now (get_or given.texts.now i no_text).now (get_or given.places.now i 0) in
    rw (key, text, differs) (append-nil row)

-- ---- the rest
before_rest : (b : Bool) (row : List ℕ) (rest : List (List ℕ)) → (if b then rest else row ∷ rest) ≡ (if b then [] else row ∷ []) ++ rest
before_rest true row rest = refl
before_rest false row rest = refl

rows_cons : (topics : List Topic) (nth p : ℕ) (key text : List ℕ) (places : List ℕ) (keys texts : List (List ℕ))
    → misplaced_rows topics nth (p ∷ places) (key ∷ keys) (text ∷ texts)
    ≡ (if bytes_eq text (number_text topics p) then [] else misplaced_row topics nth key text p ∷ []) ++ misplaced_rows topics (nth + 1) places keys texts
unfolding misplaced_rows
rows_cons topics nth p key text places keys texts =
    before_rest (bytes_eq text (number_text topics p)) (misplaced_row topics nth key text p) (misplaced_rows topics (nth + 1) places keys texts)

cons_at : {A : Type 0} (xs : List A) (i : ℕ) (d : A) → i < length xs → drop i xs ≡ get_or xs i d ∷ drop (i + 1) xs
cons_at xs i d lt = rw add-one (drop-cons xs i d lt)

pub next_row : (topics : List Topic) (given : Given) (i : ℕ) → AreAsMany given → i < length given.places.now → misplaced_from topics given i ≡ row_at topics given i ++ misplaced_from topics given (i + 1)
next_row topics given i many lt =
    let keys = keys_of given in
    let texts = texts_of given in
    let key_in : i < length keys = omega (arith, length-map given.keys.now (λ (key : Bor (List ℕ)). key.now), lt, many.keys) in
    let text_in : i < length texts = omega (arith, length-map given.texts.now (λ (text : Bor (List ℕ)). text.now), lt, many.texts) in
    let number : (given.first + i) + 1 ≡ given.first + (i + 1) = omega arith in
    let nth = given.first + i in
    let p = get_or given.places.now i 0 in
    let key = get_or keys i [] in
    let text = get_or texts i [] in
    ap (λ ps. misplaced_rows topics nth ps (drop i keys) (drop i texts)) (cons_at given.places.now i 0 lt)
    ∙ ap (λ ks. misplaced_rows topics nth (p ∷ drop (i + 1) given.places.now) ks (drop i texts)) (cons_at keys i [] key_in)
    ∙ ap (λ ts. misplaced_rows topics nth (p ∷ drop (i + 1) given.places.now) (key ∷ drop (i + 1) keys) ts) (cons_at texts i [] text_in)
    ∙ rows_cons topics nth p key text (drop (i + 1) given.places.now) (drop (i + 1) keys) (drop (i + 1) texts)
    ∙ ap (λ n. row_at topics given i ++ misplaced_rows topics n (drop (i + 1) given.places.now) (drop (i + 1) keys) (drop (i + 1) texts)) number

pub no_rows : (topics : List Topic) (given : Given) (i : ℕ) → length given.places.now ≤ i → misplaced_from topics given i ≡ []
unfolding misplaced_rows
no_rows topics given i le = ap (λ ps. misplaced_rows topics (given.first + i) ps (drop i (keys_of given)) (drop i (texts_of given))) (drop_all i given.places.now le)

-- ---- the rows that are told
single : (row : List (List ℕ)) → length row ≡ 1 → (one : List ℕ) × (row ≡ one ∷ [])
single [] long = absurd (omega (arith, long))
single (one ∷ []) long = (one, refl)
single (one ∷ other ∷ rows) long = absurd (omega (arith, long))

first_told : (one : List ℕ) (rest : List (List ℕ)) (left : ℕ) → one ++ concatenated (take left rest) ≡ concatenated (take (suc left) (one ∷ rest))
first_told one rest left = refl

pub told_more : (done : List ℕ) (row rest all : List (List ℕ)) (left : ℕ) → length row ≡ 1 → 0 < left → all ≡ row ++ rest
    → (done ++ concatenated row) ++ concatenated (take (left - 1) rest) ≡ done ++ concatenated (take left all)
told_more done row rest all zero long some is = absurd (omega (arith, some))
told_more done row rest all (suc left) long some is =
    let one = single row long in
    let alone : concatenated row ≡ one.0 = ap concatenated one.1 ∙ append-nil one.0 in
    let first : all ≡ one.0 ∷ rest = is ∙ ap (λ r. r ++ rest) one.1 in
    let less : suc left - 1 ≡ left = omega arith in
    ap (λ n. (done ++ concatenated row) ++ concatenated (take n rest)) less
    ∙ append_assoc done (concatenated row) (concatenated (take left rest)) ∙ ap (λ text. done ++ (text ++ concatenated (take left rest))) alone
    ∙ ap (λ text. done ++ text) (first_told one.0 rest left) ∙ ap (λ rows. done ++ concatenated (take (suc left) rows)) (sym first)

pub told_all : (done all : List ℕ) (left : ℕ) (rows : List (List ℕ)) → rows ≡ [] → done ++ concatenated (take left rows) ≡ all → done ≡ all
told_all done all zero rows none is = sym (append-nil done) ∙ is
told_all done all (suc left) rows none is = sym (append-nil done) ∙ sym (ap (λ rs. done ++ concatenated (take (suc left) rs)) none) ∙ is

pub told_enough : (done all : List ℕ) (left : ℕ) (rows : List (List ℕ)) → left ≡ 0 → done ++ concatenated (take left rows) ≡ all → done ≡ all
told_enough done all left rows none is = sym (append-nil done) ∙ sym (ap (λ n. done ++ concatenated (take n rows)) none) ∙ is

-- a row is told, or none
one_at_most : (b : Bool) (row : List ℕ) → length (if b then [] else row ∷ []) ≤ 1
one_at_most true row = omega arith
one_at_most false row = omega arith

some : (rows : List (List ℕ)) → nat_lt 0 (length rows) ≡ true → 0 < length rows
some [] e = absurd (cc e)
some (row ∷ rows) e = omega arith

none : (rows : List (List ℕ)) → nat_lt 0 (length rows) ≡ false → rows ≡ []
none [] e = refl
none (row ∷ rows) e = absurd (true≢false (sym (lt-ltb 0 (length (row ∷ rows)) (omega arith)) ∙ e))

pub told_one : (topics : List Topic) (given : Given) (i : ℕ) → nat_lt 0 (length (row_at topics given i)) ≡ true → length (row_at topics given i) ≡ 1
told_one topics given i told =
    let p = get_or given.places.now i 0 in
    let text = get_or (texts_of given) i [] in
    omega (arith, some (row_at topics given i) told, one_at_most (bytes_eq text (number_text topics p)) (misplaced_row topics (given.first + i) (get_or (keys_of given) i []) text p))

pub told_none : (topics : List Topic) (given : Given) (i : ℕ) → nat_lt 0 (length (row_at topics given i)) ≡ false → row_at topics given i ≡ []
told_none topics given i told = none (row_at topics given i) told

-- ---- the misplaced records of a file
pub misplaced_are : (options : Options) (records : List Keyed) (texts : List (List ℕ)) (topics : List Topic) (given : Given) (l : PartitionLogs) → topics ≡ options.topics.items → given.first ≡ first_number options.header
    → given.places.now ≡ map (place_in l) records → l.counts ≡ partition_counts options → keys_of given ≡ keys_in records → texts_of given ≡ texts → misplaced_in topics given ≡ misplaced_of options (records, texts)
misplaced_are options records texts topics given l of_topics of_first of_places of_counts of_keys of_texts =
    ap (λ ts. misplaced_rows ts given.first given.places.now (keys_of given) (texts_of given)) of_topics
    ∙ ap (λ n. misplaced_rows options.topics.items n given.places.now (keys_of given) (texts_of given)) of_first
    ∙ ap (λ ps. misplaced_rows options.topics.items (first_number options.header) ps (keys_of given) (texts_of given)) (of_places ∙ ap (λ cs. map (partition_of_record cs) records) of_counts)
    ∙ ap (λ ks. misplaced_rows options.topics.items (first_number options.header) (map (partition_of_record (partition_counts options)) records) ks (texts_of given)) of_keys
    ∙ ap (λ ts. misplaced_rows options.topics.items (first_number options.header) (map (partition_of_record (partition_counts options)) records) (keys_in records) ts) of_texts

pub first_few : (header : Bool) → first_number header ≤ 2
first_few true = omega arith
first_few false = omega arith
