-- Where the field begins in which a file ends.
use Rattle.std.proofs.Common.{◌≡◌, ◌<◌, ◌≤◌, ◌+◌, ◌∙◌, ℕ, List, [], ◌∷◌, None, codes, true, false, length, get_or, drop, ap, refl}
use Rattle.std.specs.Prelude.{if◌then◌else◌}
use Rattle.std.proofs.lemmas.List.{drop_all}
use Rattle.csv_ingest.specs.Stand.{in_quotes, stand_after, stand_next}
use Rattle.csv_ingest.specs.declared.stand.Stand.{Stand}
use Rattle.csv_ingest.specs.declared.stand.Stand.TheVariants as k
use Rattle.check_report.specs.Places.{line_at, places}
use Rattle.check_report.specs.RecordFindings.{found_at}
use Rattle.check_report.specs.Warnings.{ends_field, last_field, last_field_from, last_number, quote_warnings, unmarked}
use Rattle.check_report.proofs.Starts.{cons_at}

last_field-cons : (delimiter : ℕ) (s : Stand) (start byte c : ℕ) (rest : List ℕ) → last_field_from delimiter s start byte (c ∷ rest) ≡ last_field_from delimiter (stand_next delimiter s c) (if ends_field delimiter s c then byte + 1 else start) (byte + 1) rest
unfolding last_field_from
last_field-cons delimiter s start byte c rest = refl

pub last_field-more : (delimiter : ℕ) (s : Stand) (start i : ℕ) (file : List ℕ) → i < length file
    → last_field_from delimiter s start i (drop i file)
    ≡ last_field_from delimiter (stand_next delimiter s (get_or file i 0)) (if ends_field delimiter s (get_or file i 0) then i + 1 else start) (i + 1) (drop (i + 1) file)
last_field-more delimiter s start i file lt = ap (last_field_from delimiter s start i) (cons_at file i 0 lt) ∙ last_field-cons delimiter s start i (get_or file i 0) (drop (i + 1) file)

pub last_field-end : (delimiter : ℕ) (s : Stand) (start i : ℕ) (file : List ℕ) → length file ≤ i → last_field_from delimiter s start i (drop i file) ≡ start
unfolding last_field_from
last_field-end delimiter s start i file le = rw (drop_all i file le) refl

after-cons : (delimiter : ℕ) (s : Stand) (c : ℕ) (rest : List ℕ) → stand_after delimiter s (c ∷ rest) ≡ stand_after delimiter (stand_next delimiter s c) rest
unfolding stand_after
after-cons delimiter s c rest = refl

pub after-more : (delimiter : ℕ) (s : Stand) (i : ℕ) (file : List ℕ) → i < length file → stand_after delimiter s (drop i file) ≡ stand_after delimiter (stand_next delimiter s (get_or file i 0)) (drop (i + 1) file)
after-more delimiter s i file lt = ap (stand_after delimiter s) (cons_at file i 0 lt) ∙ after-cons delimiter s (get_or file i 0) (drop (i + 1) file)

pub after-end : (delimiter : ℕ) (s : Stand) (i : ℕ) (file : List ℕ) → length file ≤ i → stand_after delimiter s (drop i file) ≡ s
unfolding stand_after
after-end delimiter s i file le = rw (drop_all i file le) refl

-- the warning about a quote that is not closed
pub quote-is : (delimiter : ℕ) (file : List ℕ) (byte nth line : ℕ) (words : List ℕ) → in_quotes (stand_after delimiter k.Record (unmarked file)) ≡ true → byte ≡ last_field delimiter file → nth ≡ last_number (places delimiter file) → line ≡ line_at file byte
    → words ≡ codes "the quotes that open here are never closed" → quote_warnings delimiter file ≡ found_at None (record { nth = nth; line = line; byte = byte }) words ∷ []
quote-is delimiter file byte nth line words opened at last on said = rw (opened, said, on, last, at) refl
