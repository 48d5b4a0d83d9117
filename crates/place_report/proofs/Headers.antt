-- The rows of headers and of single partitions, field by field.
use Rattle.std.proofs.Common.{◌≡◌, ◌≢◌, ℕ, List, [], ◌∷◌, ◌++◌, ap, refl, length}
use Rattle.std.specs.Prelude.{codes, decimal, unwrap_or}
use Rattle.std.proofs.lemmas.Bool.{ne_eqb}
use Rattle.csv.specs.Writing.{row_text}
use Rattle.partition_log.specs.Keys.{Key, distinct}
use Rattle.partitioner.specs.declared.topic.Topic.{Topic}
use Rattle.report_rows.specs.ReplayRows.{partition_fields}
use Rattle.report_rows.specs.Rows.{row_writer}
use Rattle.place_report.specs.Given.{given_header, misplaced_row}
use Rattle.place_report.specs.PlaceRows.{key_header, key_row, largest_of, most_of, partition_header, partition_row, topic_column}

pub column_without : (topics : List Topic) → topics ≡ [] → topic_column topics ≡ []
column_without [] none = refl
column_without (topic ∷ topics) none = let no : ⊥ = cc none in absurd no

pub column_with : (topics : List Topic) → topics ≢ [] → topic_column topics ≡ codes "topic" ∷ []
column_with [] some = absurd (some refl)
column_with (topic ∷ topics) some = refl

pub partition_header-is : (topics : List Topic) (column : List (List ℕ)) → topic_column topics ≡ column
    → partition_header topics ≡ row_text row_writer (column ++ codes "partition" ∷ codes "records" ∷ codes "keys" ∷ codes "largest" ∷ codes "records_of_largest" ∷ [])
unfolding partition_header
partition_header-is topics column e = ap (λ cs. row_text row_writer (cs ++ codes "partition" ∷ codes "records" ∷ codes "keys" ∷ codes "largest" ∷ codes "records_of_largest" ∷ [])) e

pub key_header-is : (topics : List Topic) (column : List (List ℕ)) → topic_column topics ≡ column → key_header topics ≡ row_text row_writer (codes "key" ∷ column ++ codes "partition" ∷ codes "records" ∷ [])
unfolding key_header
key_header-is topics column e = ap (λ cs. row_text row_writer (codes "key" ∷ cs ++ codes "partition" ∷ codes "records" ∷ [])) e

pub partition_row-is : (topics : List Topic) (p : ℕ) (keys : List Key) (fields : List (List ℕ)) (records different most : ℕ) (largest : List ℕ) → partition_fields topics p ≡ fields → length keys ≡ records → length (distinct keys) ≡ different
    → unwrap_or (largest_of keys) [] ≡ largest → most_of keys ≡ most
    → partition_row topics p keys ≡ row_text row_writer (fields ++ decimal records ∷ decimal different ∷ largest ∷ decimal most ∷ [])
unfolding partition_row
partition_row-is topics p keys fields records different most largest of_fields of_records of_different of_largest of_most =
    rw (of_fields, of_records, of_different, of_largest, of_most) refl

pub no_key_row : (topics : List Topic) (key : Key) (p n : ℕ) → n ≡ 0 → key_row topics key p n ≡ []
unfolding key_row
no_key_row topics key p n none = rw none refl

pub key_row-is : (topics : List Topic) (key : Key) (p n : ℕ) (fields : List (List ℕ)) → n ≢ 0 → partition_fields topics p ≡ fields → key_row topics key p n ≡ row_text row_writer (key ∷ fields ++ decimal n ∷ [])
unfolding key_row
key_row-is topics key p n fields some of_fields = rw (ne_eqb n 0 some, of_fields) refl

pub given_header-is : (topics : List Topic) (column : List (List ℕ)) → topic_column topics ≡ column → given_header topics ≡ row_text row_writer (codes "record" ∷ codes "key" ∷ codes "given" ∷ column ++ codes "place" ∷ [])
unfolding given_header
given_header-is topics column e = ap (λ cs. row_text row_writer (codes "record" ∷ codes "key" ∷ codes "given" ∷ cs ++ codes "place" ∷ [])) e

pub misplaced_row-is : (topics : List Topic) (nth : ℕ) (key : Key) (text : List ℕ) (p : ℕ) (fields : List (List ℕ)) → partition_fields topics p ≡ fields
    → misplaced_row topics nth key text p ≡ row_text row_writer (decimal nth ∷ key ∷ text ∷ fields)
unfolding misplaced_row
misplaced_row-is topics nth key text p fields e = ap (λ fs. row_text row_writer (decimal nth ∷ key ∷ text ∷ fs)) e
