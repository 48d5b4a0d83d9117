use Rattle.std.proofs.Common.{◌∙◌, ℕ, List, Ok, length, map, inl, sym, ap, arith}
use Rattle.std.specs.Prelude.{nat_lt}
use Rattle.std.specs.Borrow.{Bor}
use Rattle.std.proofs.lemmas.List.{length-map}
use Rattle.partition_log.specs.Keys.{Keyed}
use Rattle.partition_log.specs.Logs.{place_in}
use Rattle.ingest.specs.RecordFaults.{fault_or}
use Rattle.ingest.specs.Records.{records_in}
use Rattle.place_report.specs.Given.{given_table, misplaced_of}
use Rattle.place_report.specs.Private.Given.{texts_in}
use Rattle.place_report.specs.declared.given.Given.{Given}
use Rattle.place_report.proofs.Told.{first_few, misplaced_are}
use Rattle.place_report.proofs.given.told_of_records.Goals as goal

pub table_of_given-requires : goal.table_of_given-requires
table_of_given-requires g c =
    let records = records_in c.args.records.now in
    let places = ap length (c.as_slice.ensures.value ∙ c.in_ok-places.ensures.places) ∙ length-map records (place_in c.in_ok-logs.logs) in
    let keys = ap length c.as_slice-2.ensures.value ∙ sym (length-map c.in_ok-places.keys.items (λ (key : Bor (List ℕ)). key.now)) ∙ ap length c.in_ok-places.ensures.keys ∙ length-map records (λ (keyed : Keyed). keyed.1) in
    let texts = ap length c.as_slice-3.ensures.value ∙ sym (length-map c.in_ok-texts.texts.items (λ (text : Bor (List ℕ)). text.now)) ∙ ap length c.in_ok-texts.ensures ∙ c.requires.len in
    let few = first_few c.args.options.now.header in
    record {
      keys = keys ∙ sym places;
      texts = texts ∙ sym places;
      numbers = omega (arith, c.as_slice.type_inv, c.first_number.ensures, few);
    }

pub returns-clause-misplaced : goal.returns-clause-misplaced
returns-clause-misplaced g c =
    let options = c.args.options.now in
    let records = records_in c.args.records.now in
    let given : Given = record { places = c.as_slice.result; keys = c.as_slice-2.result; texts = c.as_slice-3.result; first = c.first_number.result } in
    c.in_ok-table_of_given.ensures.misplaced ∙ ap (λ (rows : List (List ℕ)). nat_lt 0 (length rows))
    (misplaced_are options records (texts_in c.args.texts.now) c.as_slice-4.result.now given c.in_ok-logs.logs c.as_slice-4.ensures.value c.first_number.ensures (c.as_slice.ensures.value ∙ c.in_ok-places.ensures.places) c.in_ok-logs.ensures.counts
    (ap (map (λ (key : Bor (List ℕ)). key.now)) c.as_slice-2.ensures.value ∙ c.in_ok-places.ensures.keys)
    (ap (map (λ (text : Bor (List ℕ)). text.now)) c.as_slice-3.ensures.value ∙ c.in_ok-texts.ensures))

pub returns-clause-answer : goal.returns-clause-answer
returns-clause-answer g c =
    let options = c.args.options.now in
    let records = records_in c.args.records.now in
    let given : Given = record { places = c.as_slice.result; keys = c.as_slice-2.result; texts = c.as_slice-3.result; first = c.first_number.result } in
    let topics = c.as_slice-4.ensures.value in
    let are = misplaced_are options records (texts_in c.args.texts.now) c.as_slice-4.result.now given c.in_ok-logs.logs topics c.first_number.ensures (c.as_slice.ensures.value ∙ c.in_ok-places.ensures.places) c.in_ok-logs.ensures.counts
    (ap (map (λ (key : Bor (List ℕ)). key.now)) c.as_slice-2.ensures.value ∙ c.in_ok-places.ensures.keys)
    (ap (map (λ (text : Bor (List ℕ)). text.now)) c.as_slice-3.ensures.value ∙ c.in_ok-texts.ensures) in
    let text = c.in_ok-table_of_given.ensures.text ∙ ap (given_table c.as_slice-4.result.now) are ∙ ap (λ ts. given_table ts (misplaced_of options (records, texts_in c.args.texts.now))) topics in
    inl (sym (ap (λ fault. fault_or fault (given_table options.topics.items (misplaced_of options (records, texts_in c.args.texts.now)))) c.in_ok-logs.ensures.answer ∙ ap Ok (sym text)))
