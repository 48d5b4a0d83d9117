-- The columns of a file whose first record was read.
use Rattle.std.proofs.Common.{◌≡◌, ℕ, List, [], ◌∷◌, ap, refl, sym}
use Rattle.std.specs.Prelude.{zip}
use Rattle.csv_ingest.specs.Header.{column_named}
use Rattle.csv_ingest.specs.KeyFile.{Record}
use Rattle.csv_ingest.specs.Pieces.{file_records}
use Rattle.partitioner.specs.declared.topic.Topic.{Topic}
use Rattle.command_line.specs.declared.options.Column.{Column}
use Rattle.command_line.specs.declared.options.Column.TheVariants.{Number, Named}
use Rattle.command_line.specs.declared.options.Options.{Options}
use Rattle.command_line.specs.declared.options.TheConstants.{LAST_COLUMN}
use Rattle.ingest.specs.Records.{column_in, topic_column_in}
use Rattle.check_report.specs.Places.{places}
use Rattle.check_report.specs.Private.RecordFindings.{column_among, topic_column_among}
use Rattle.check_report.specs.RecordFindings.{findings_in, findings_of_file, placed}
use Rattle.check_report.specs.declared.places.Place.{Place}

column-is : (delimiter : ℕ) (file : List ℕ) (fields : Record) (more : List Record) (column : Column) → file_records delimiter file ≡ fields ∷ more → column_in delimiter file column ≡ column_among fields column
column-is delimiter file fields more (Number n) is = refl
column-is delimiter file fields more (Named name) is = ap (column_named LAST_COLUMN name.items) is

topic_column-is : (delimiter : ℕ) (file : List ℕ) (fields : Record) (more : List Record) (topics : List Topic) (column : Column) → file_records delimiter file ≡ fields ∷ more → topic_column_in delimiter file topics column ≡ topic_column_among fields topics column
topic_column-is delimiter file fields more [] column is = refl
topic_column-is delimiter file fields more (topic ∷ topics) column is = column-is delimiter file fields more column is

zip-first : {A B : Type 0} (xs : List A) (ys : List B) (x : A) (y : B) (rest : List (A × B)) → zip xs ys ≡ (x, y) ∷ rest → (more : List B) × (ys ≡ y ∷ more)
zip-first [] ys x y rest e = absurd (cc e)
zip-first (a ∷ xs) [] x y rest e = absurd (cc e)
zip-first {A} {B} (a ∷ xs) (b ∷ ys) x y rest e =
    let pair : ◌≡◌ {A = A × B} (a, b) (x, y) = cc e in
    (ys, ap (λ z. z ∷ ys) (ap (λ (p : A × B). p.1) pair))

pub file-findings : (options : Options) (file : List ℕ) (first : Place) (fields : Record) (rest : List (Place × Record)) → placed options.delimiter file ≡ (first, fields) ∷ rest
    → findings_in options (column_among fields options.column) (topic_column_among fields options.topics.items options.topic_column) ((first, fields) ∷ rest) ≡ findings_of_file options file
unfolding findings_of_file
file-findings options file first fields rest is =
    let more = zip-first (places options.delimiter file) (file_records options.delimiter file) first fields rest is in
    sym (rw (column-is options.delimiter file fields more.0 options.column more.1, topic_column-is options.delimiter file fields more.0 options.topics.items options.topic_column more.1, is) refl)
