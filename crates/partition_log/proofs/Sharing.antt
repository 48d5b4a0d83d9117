-- Logs that are filled share by share, and records that are read by codes.
use Rattle.std.proofs.Common.{◌≡◌, ◌∙◌, ◌+◌, ◌*◌, ◌/◌, ◌%◌, ◌<◌, ◌≤◌, ℕ, suc, Bool, true, false, List, [], ◌∷◌, ◌++◌, Vec, length, map, min, take, drop, get_or, replicate, sym, ap, ap₂, refl, subst, arith, inl, inr, append_assoc, length-append, length-drop, get_or-set_same, get_or-set_other, vec_items}
use Rattle.std.specs.Fork.{slice_chunk}
use Rattle.std.specs.Prelude.{◌==◌, if◌then◌else◌, All, slice_range, slice_set}
use Rattle.std.proofs.lemmas.Bool.Decides.{eqb_tells}
use Rattle.std.proofs.lemmas.List.{append-nil, drop-drop, drop_more, ext_get_or, get_or-map, get_or-replicate, length-map, length-replicate, length-set, take-append-drop}
use Rattle.std.proofs.lemmas.List.Concat.{flat_map-append}
use Rattle.std.specs.Global.{Global}
use Rattle.std.proofs.lemmas.Grind.{div_ceil_times}
use native.Mathlib.Nat.{suc-mul, zero-mul}
use Rattle.key_counts.specs.Counts.{Entries}
use Rattle.key_counts.specs.Segments.{entries_of}
use Rattle.key_counts.specs.declared.merging.Segment.{Segment}
use Rattle.partition_log.specs.Private.Filled.{filled}
use Rattle.partition_log.specs.Private.Shares.{AreFilled, AreMerged, filled_by, flattened, read_chunk, read_chunks, table_of}
use Rattle.partition_log.specs.declared.shares.Tables.{Tables}

-- ---- the records of one place
abbrev pub at_place : ℕ → List ℕ → List ℕ → List ℕ
at_place p [] ids = []
at_place p (x ∷ xs) [] = []
at_place p (x ∷ xs) (n ∷ ns) = if x == p then n ∷ at_place p xs ns else at_place p xs ns

pub filled-long : (logs : List (List ℕ)) (places ids : List ℕ) → length (filled logs places ids) ≡ length logs
filled-long logs [] ids = refl
filled-long logs (x ∷ xs) [] = refl
filled-long logs (x ∷ xs) (n ∷ ns) =
    let new = get_or logs x [] ++ n ∷ [] in
    filled-long (slice_set logs x new) xs ns ∙ length-set logs x new

filled-one : (b : Bool) (old new rest : List ℕ) (n : ℕ) → (b ≡ true → new ≡ old ++ n ∷ []) → (b ≡ false → new ≡ old) → new ++ rest ≡ old ++ (if b then n ∷ rest else rest)
filled-one true old new rest n same other = ap (λ xs. xs ++ rest) (same refl) ∙ append_assoc old (n ∷ []) rest
filled-one false old new rest n same other = ap (λ xs. xs ++ rest) (other refl)

pub filled-at : (logs : List (List ℕ)) (places ids : List ℕ) (p : ℕ) → p < length logs → get_or (filled logs places ids) p [] ≡ get_or logs p [] ++ at_place p places ids
filled-at logs [] ids p lt = sym (append-nil (get_or logs p []))
filled-at logs (x ∷ xs) [] p lt = sym (append-nil (get_or logs p []))
filled-at logs (x ∷ xs) (n ∷ ns) p lt =
    let new = get_or logs x [] ++ n ∷ [] in
    let still : p < length (slice_set logs x new) = omega (arith, lt, length-set logs x new) in
    filled-at (slice_set logs x new) xs ns p still
    ∙ filled-one (x == p) (get_or logs p []) (get_or (slice_set logs x new) p []) (at_place p xs ns) n
    (λ e. elim (eqb_tells x p) [
      | inl t ↦ ap (λ q. get_or (slice_set logs x new) q []) (sym t.1) ∙ get_or-set_same logs x new [] (omega (arith, lt, t.1)) ∙ ap (λ q. get_or logs q [] ++ n ∷ []) t.1
      | inr f ↦ absurd (cc (e, f.0))
    ])
    (λ e. elim (eqb_tells x p) [
      | inl t ↦ absurd (cc (e, t.0))
      | inr f ↦ get_or-set_other logs x p new [] (λ is. f.1 (sym is))
    ])

place-one : (b : Bool) (n : ℕ) (own more : List ℕ) → (if b then n ∷ (own ++ more) else own ++ more) ≡ (if b then n ∷ own else own) ++ more
place-one true n own more = refl
place-one false n own more = refl

pub place-append : (p : ℕ) (xs ns ys ms : List ℕ) → length xs ≡ length ns → at_place p (xs ++ ys) (ns ++ ms) ≡ at_place p xs ns ++ at_place p ys ms
place-append p [] [] ys ms e = refl
place-append p [] (n ∷ ns) ys ms e = absurd (omega (arith, e))
place-append p (x ∷ xs) [] ys ms e = absurd (omega (arith, e))
place-append p (x ∷ xs) (n ∷ ns) ys ms e =
    ap (λ rest. if x == p then n ∷ rest else rest) (place-append p xs ns ys ms (omega (arith, e))) ∙ place-one (x == p) n (at_place p xs ns) (at_place p ys ms)

-- ---- chunks
none-long : (partitions : ℕ) → length (replicate {A = List ℕ} partitions []) ≡ partitions
none-long partitions = length-replicate partitions []

filled-append : (logs : List (List ℕ)) (xs ns ys ms : List ℕ) → length xs ≡ length ns → filled logs (xs ++ ys) (ns ++ ms) ≡ filled (filled logs xs ns) ys ms
filled-append logs [] [] ys ms e = refl
filled-append logs [] (n ∷ ns) ys ms e = absurd (omega (arith, e))
filled-append logs (x ∷ xs) [] ys ms e = absurd (omega (arith, e))
filled-append logs (x ∷ xs) (n ∷ ns) ys ms e = filled-append (slice_set logs x (get_or logs x [] ++ n ∷ [])) xs ns ys ms (omega (arith, e))

chunk-long : (places numbers : List (Vec ℕ Global)) (workers : List Entries) (s : Segment) → length (read_chunk places workers s) ≡ length (read_chunk numbers workers s)
chunk-long places numbers workers s =
    let codes = slice_range (entries_of workers s.worker).codes s.from s.to in
    length-map codes (λ (code : ℕ). get_or (table_of places s.worker) code 0) ∙ sym (length-map codes (λ (code : ℕ). get_or (table_of numbers s.worker) code 0))

chunks-long : (places numbers : List (Vec ℕ Global)) (workers : List Entries) (chunks : List Segment) → length (read_chunks places workers chunks) ≡ length (read_chunks numbers workers chunks)
chunks-long places numbers workers [] = refl
chunks-long places numbers workers (s ∷ chunks) =
    let own = chunk-long places numbers workers s in
    let rest = chunks-long places numbers workers chunks in
    length-append (read_chunk places workers s) (read_chunks places workers chunks) ∙ ap₂ (λ a b. a + b) own rest
    ∙ sym (length-append (read_chunk numbers workers s) (read_chunks numbers workers chunks))

-- the logs after one chunk more
pub filled-chunk : (places numbers : List (Vec ℕ Global)) (workers : List Entries) (logs : List (List ℕ)) (chunks : List Segment) (i : ℕ) (d : Segment) → i < length chunks
    → filled logs (read_chunks places workers (drop i chunks)) (read_chunks numbers workers (drop i chunks))
    ≡ filled (filled logs (read_chunk places workers (get_or chunks i d)) (read_chunk numbers workers (get_or chunks i d))) (read_chunks places workers (drop (i + 1) chunks)) (read_chunks numbers workers (drop (i + 1) chunks))
filled-chunk places numbers workers logs chunks i d lt =
    let s = get_or chunks i d in
    let rest = drop (i + 1) chunks in
    ap (λ cs. filled logs (read_chunks places workers cs) (read_chunks numbers workers cs)) (drop_more chunks i d lt)
    ∙ filled-append logs (read_chunk places workers s) (read_chunk numbers workers s) (read_chunks places workers rest) (read_chunks numbers workers rest) (chunk-long places numbers workers s)

-- ---- shares
filled-place : (partitions p : ℕ) (workers : List Entries) (tables : Tables) (chunks : List Segment) → p < partitions
    → get_or (filled_by partitions workers tables chunks) p [] ≡ at_place p (read_chunks tables.places.items workers chunks) (read_chunks tables.numbers.items workers chunks)
filled-place partitions p workers tables chunks lt =
    let none : List (List ℕ) = replicate partitions [] in
    let places = read_chunks tables.places.items workers chunks in
    let numbers = read_chunks tables.numbers.items workers chunks in
    filled-at none places numbers p (omega (arith, lt, none-long partitions)) ∙ ap (λ log. log ++ at_place p places numbers) (get_or-replicate partitions p [] [] lt)

filled_by-long : (partitions : ℕ) (workers : List Entries) (tables : Tables) (chunks : List Segment) → length (filled_by partitions workers tables chunks) ≡ partitions
filled_by-long partitions workers tables chunks =
    filled-long (replicate partitions []) (read_chunks tables.places.items workers chunks) (read_chunks tables.numbers.items workers chunks) ∙ none-long partitions

-- what chunks have is what the first have, and then the others
read-split : (tables : List (Vec ℕ Global)) (workers : List Entries) (chunks : List Segment) (size : ℕ) → read_chunks tables workers chunks ≡ read_chunks tables workers (take size chunks) ++ read_chunks tables workers (drop size chunks)
read-split tables workers chunks size = ap (read_chunks tables workers) (sym (take-append-drop size chunks)) ∙ flat_map-append (read_chunk tables workers) (take size chunks) (drop size chunks)

-- without the first share, the others are filled
filled-behind : (partitions : ℕ) (workers : List Entries) (tables : Tables) (size : ℕ) (chunks : List Segment) (part : List (List ℕ)) (parts : List (List (List ℕ)))
    → AreFilled partitions workers tables size chunks (part ∷ parts) → AreFilled partitions workers tables size (drop size chunks) parts
filled-behind partitions workers tables size chunks part parts so = record {
  all = (let rest : suc (length parts) * size ≡ length parts * size + size = suc-mul (length parts) size in omega (arith, so.all, rest, length-drop size chunks));
  each = λ i lt. so.each (suc i) (omega (arith, lt))
      ∙ ap (λ cs. filled_by partitions workers tables (take size cs)) (ap (λ n. drop n chunks) (suc-mul i size ∙ omega arith) ∙ sym (drop-drop (i * size) size chunks));
}

merged-place : (partitions p : ℕ) (workers : List Entries) (tables : Tables) (size : ℕ) (chunks : List Segment) (parts : List (List (List ℕ))) → p < partitions
    → AreFilled partitions workers tables size chunks parts
    → flattened (map (λ part. get_or part p []) parts) ≡ at_place p (read_chunks tables.places.items workers chunks) (read_chunks tables.numbers.items workers chunks)
merged-place partitions p workers tables size [] [] lt so = refl
merged-place partitions p workers tables size (c ∷ chunks) [] lt so = absurd (omega (arith, so.all, zero-mul size))
merged-place partitions p workers tables size chunks (part ∷ parts) lt so =
    let places = tables.places.items in
    let numbers = tables.numbers.items in
    let one = take size chunks in
    let rest = drop size chunks in
    let first : part ≡ filled_by partitions workers tables one = so.each 0 (omega arith) ∙ ap (λ n. filled_by partitions workers tables (take size (drop n chunks))) (zero-mul size) in
    let own : get_or part p [] ≡ at_place p (read_chunks places workers one) (read_chunks numbers workers one) = ap (λ ls. get_or ls p []) first ∙ filled-place partitions p workers tables one lt in
    ap₂ (λ a b. a ++ b) own (merged-place partitions p workers tables size rest parts lt (filled-behind partitions workers tables size chunks part parts so))
    ∙ sym (place-append p (read_chunks places workers one) (read_chunks numbers workers one) (read_chunks places workers rest) (read_chunks numbers workers rest) (chunks-long places numbers workers one))
    ∙ sym (ap₂ (λ xs ns. at_place p xs ns) (read-split places workers chunks size) (read-split numbers workers chunks size))

-- merged, they are those that are filled by all records
pub merged-filled : (partitions : ℕ) (workers : List Entries) (tables : Tables) (size : ℕ) (chunks : List Segment) (parts : List (List (List ℕ))) (logs : List (List ℕ))
    → AreFilled partitions workers tables size chunks parts → AreMerged partitions parts logs → logs ≡ filled_by partitions workers tables chunks
merged-filled partitions workers tables size chunks parts logs filled_so so =
    let whole = filled_by partitions workers tables chunks in
    ext_get_or [] logs whole (so.as_many ∙ sym (filled_by-long partitions workers tables chunks)) (λ p lt.
    let within : p < partitions = omega (arith, lt, so.as_many) in
    so.each p within ∙ merged-place partitions p workers tables size chunks parts within filled_so ∙ sym (filled-place partitions p workers tables chunks within))

pub parts-long : {A Z : Type 0} (partitions : ℕ) (workers : List Entries) (tables : Tables) (size : ℕ) (chunks : List Segment) (parts : List (Vec (Vec ℕ Z) A))
    → AreFilled partitions workers tables size chunks (map (λ (part : Vec (Vec ℕ Z) A). map vec_items part.items) parts) → All (λ (part : Vec (Vec ℕ Z) A). length part.items ≡ partitions) parts
parts-long partitions workers tables size chunks parts so = λ i d lt.
    let many = length-map parts (λ part. map vec_items part.items) in
    let within : i < length (map (λ part. map vec_items part.items) parts) = omega (arith, lt, many) in
    sym (length-map (get_or parts i d).items vec_items) ∙ ap length (sym (get_or-map (λ part. map vec_items part.items) parts i d [] lt) ∙ so.each i within)
    ∙ filled_by-long partitions workers tables (slice_chunk chunks size i)

-- ---- what threads found
pub filled-parts : {A Z : Type 0} (partitions : ℕ) (workers : List Entries) (tables : Tables) (size : ℕ) (chunks : List Segment) (parts : List (Vec (Vec ℕ Z) A)) → 0 < size
    → length parts ≡ length chunks / size + min 1 (length chunks % size)
    → ((i : ℕ) (d : Vec (Vec ℕ Z) A) → i < length parts → map vec_items (get_or parts i d).items ≡ filled_by partitions workers tables (slice_chunk chunks size i))
    → AreFilled partitions workers tables size chunks (map (λ (part : Vec (Vec ℕ Z) A). map vec_items part.items) parts)
filled-parts {A} {Z} partitions workers tables size chunks parts some many h =
    let part_logs : Vec (Vec ℕ Z) A → List (List ℕ) = λ part. map vec_items part.items in
    record {
      all = subst (λ n. length chunks ≤ n * size) (sym (length-map parts part_logs ∙ many)) (div_ceil_times (length chunks) size some).0;
      each = filled-each parts h;
    }
  where
    filled-each : (parts : List (Vec (Vec ℕ Z) A)) → ((i : ℕ) (d : Vec (Vec ℕ Z) A) → i < length parts → map vec_items (get_or parts i d).items ≡ filled_by partitions workers tables (slice_chunk chunks size i))
        → (i : ℕ) → i < length (map (λ (part : Vec (Vec ℕ Z) A). map vec_items part.items) parts) → get_or (map (λ (part : Vec (Vec ℕ Z) A). map vec_items part.items) parts) i [] ≡ filled_by partitions workers tables (slice_chunk chunks size i)
    filled-each [] h i lt = absurd (omega (arith, lt))
    filled-each (part ∷ parts) h i lt =
        let within : i < length (part ∷ parts) = omega (arith, lt, length-map (part ∷ parts) (λ part. map vec_items part.items)) in
        get_or-map (λ part. map vec_items part.items) (part ∷ parts) i part [] within ∙ h i part within

map-twice : {X Y Z : Type 0} (f : X → Y) (g : Y → Z) (xs : List X) → map g (map f xs) ≡ map (λ x. g (f x)) xs
map-twice f g [] = refl
map-twice f g (x ∷ xs) = ap (λ ys. g (f x) ∷ ys) (map-twice f g xs)

merged-one : {A B Z : Type 0} (partitions : ℕ) (parts : List (Vec (Vec ℕ Z) B)) (logs : List (Vec ℕ A)) → length logs ≡ partitions
    → ((p : ℕ) (d : Vec ℕ A) → p < partitions → (get_or logs p d).items ≡ flattened (map (λ (part : Vec (Vec ℕ Z) B). get_or (map vec_items part.items) p []) parts))
    → (p : ℕ) → p < partitions → get_or (map vec_items logs) p [] ≡ flattened (map (λ (part : List (List ℕ)). get_or part p []) (map (λ (part : Vec (Vec ℕ Z) B). map vec_items part.items) parts))
merged-one partitions parts [] many h p lt = absurd (omega (arith, many, lt))
merged-one partitions parts (log ∷ logs) many h p lt =
    get_or-map vec_items (log ∷ logs) p log [] (omega (arith, many, lt)) ∙ h p log lt
    ∙ ap flattened (sym (map-twice (λ part. map vec_items part.items) (λ part. get_or part p []) parts))

pub merged-parts : {A B Z : Type 0} (partitions : ℕ) (parts : List (Vec (Vec ℕ Z) B)) (logs : List (Vec ℕ A)) → length logs ≡ partitions
    → ((p : ℕ) (d : Vec ℕ A) → p < partitions → (get_or logs p d).items ≡ flattened (map (λ (part : Vec (Vec ℕ Z) B). get_or (map vec_items part.items) p []) parts))
    → AreMerged partitions (map (λ (part : Vec (Vec ℕ Z) B). map vec_items part.items) parts) (map vec_items logs)
merged-parts partitions parts logs many h = record {
  as_many = length-map logs vec_items ∙ many;
  each = merged-one partitions parts logs many h;
}
