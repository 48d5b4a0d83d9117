-- Where the records of a file begin, byte by byte.
use Rattle.std.proofs.Common.{◌≡◌, ◌≢◌, ◌<◌, ◌≤◌, ◌+◌, ◌∙◌, ℕ, List, [], ◌∷◌, true, false, length, get_or, take, drop, ap, refl, arith, add-one}
use Rattle.std.proofs.Math.Seq.{drop-cons}
use Rattle.std.proofs.lemmas.List.{drop_all, length-take}
use Rattle.std.proofs.lemmas.List.Sums.{count_by-le-length, count_by_more_no, count_by_more_yes}
use Rattle.csv_ingest.specs.Stand.{is_line_end, stand_next}
use Rattle.csv_ingest.specs.Starts.{begins_record, first_if, starts_from}
use Rattle.csv_ingest.specs.declared.stand.Stand.{Stand}
use Rattle.csv_ingest.specs.declared.stand.Stand.TheVariants as k
use Rattle.check_report.specs.Places.{is_line_feed, line_at}

pub cons_at : {A : Type 0} (xs : List A) (i : ℕ) (d : A) → i < length xs → drop i xs ≡ get_or xs i d ∷ drop (i + 1) xs
cons_at xs i d lt = rw add-one (drop-cons xs i d lt)

starts-cons : (delimiter : ℕ) (s : Stand) (byte c : ℕ) (rest : List ℕ) → starts_from delimiter s byte (c ∷ rest) ≡ first_if (begins_record s c) byte (starts_from delimiter (stand_next delimiter s c) (byte + 1) rest)
unfolding starts_from
starts-cons delimiter s byte c rest = refl

starts-at : (delimiter : ℕ) (s : Stand) (file : List ℕ) (i : ℕ) → i < length file
    → starts_from delimiter s i (drop i file) ≡ first_if (begins_record s (get_or file i 0)) i (starts_from delimiter (stand_next delimiter s (get_or file i 0)) (i + 1) (drop (i + 1) file))
starts-at delimiter s file i lt = ap (starts_from delimiter s i) (cons_at file i 0 lt) ∙ starts-cons delimiter s i (get_or file i 0) (drop (i + 1) file)

-- a line's end begins no record, and leaves a reader between two
pub starts-blank : (delimiter : ℕ) (file : List ℕ) (i : ℕ) → i < length file → is_line_end (get_or file i 0) ≡ true
    → starts_from delimiter k.Record i (drop i file) ≡ starts_from delimiter k.Record (i + 1) (drop (i + 1) file)
starts-blank delimiter file i lt e =
    starts-at delimiter k.Record file i lt
    ∙ rw e refl

-- any other byte begins one
pub starts-here : (delimiter : ℕ) (file : List ℕ) (i : ℕ) → i < length file → is_line_end (get_or file i 0) ≡ false
    → starts_from delimiter k.Record i (drop i file) ≡ i ∷ starts_from delimiter (stand_next delimiter k.Record (get_or file i 0)) (i + 1) (drop (i + 1) file)
starts-here delimiter file i lt e = starts-at delimiter k.Record file i lt ∙ rw e refl

begins-none : (s : Stand) (c : ℕ) → s ≢ k.Record → begins_record s c ≡ false
begins-none k.Record c other = absurd (other refl)
begins-none k.Fresh c other = refl
begins-none k.Bare c other = refl
begins-none k.Quoted c other = refl

-- within a record none begins
pub starts-within : (delimiter : ℕ) (s : Stand) (file : List ℕ) (i : ℕ) → i < length file → s ≢ k.Record
    → starts_from delimiter s i (drop i file) ≡ starts_from delimiter (stand_next delimiter s (get_or file i 0)) (i + 1) (drop (i + 1) file)
starts-within delimiter s file i lt other = starts-at delimiter s file i lt ∙ rw (begins-none s (get_or file i 0) other) refl

pub starts-end : (delimiter : ℕ) (s : Stand) (file : List ℕ) (i : ℕ) → length file ≤ i → starts_from delimiter s i (drop i file) ≡ []
unfolding starts_from
starts-end delimiter s file i le = rw (drop_all i file le) refl
