use Rattle.std.proofs.Common.{◌≡◌, Err, arith, codes, inl, inr, rules}
use Rattle.clap.specs.Walk.{first_of, one_of}
use Rattle.clap.specs.Words.{found_of, one_text, rows_of}
use Rattle.clap.proofs.WalkLemmas.{one_text-rows}
use Rattle.command_line.specs.CommandLine.{IsFlag}
use Rattle.command_line.proofs.Entered.{column_is_bad_option, delimiter_is_bad_option, flag_is, number_in}
use Rattle.command_line.proofs.ColumnTexts.{column_in}
use Rattle.command_line.proofs.DelimiterTexts.{delimiter_given}
use Rattle.command_line.proofs.TopicLists.{may_be_topics}
use Rattle.command_line.proofs.words.options_of.Goals as goal

pub returns-in_err-column-clause-fault : goal.returns-in_err-column-clause-fault
returns-in_err-column-clause-fault c =
    let found = found_of c.args.given.now in
    let usage = c.in_err-column.field-0.0 in
    let same : c.from_residual-in_err-column.result ≡ Err usage = search rules in
    let flag : IsFlag (one_of (codes "header") (rows_of found)) c.get_flag-header.result =
    rw (← one_text-rows found (codes "header")) (flag_is (one_text found (codes "header")) c.get_flag-header.result c.get_flag-header.ensures.none c.get_flag-header.ensures.value c.get_flag-header.ensures.other) in
    rw same (column_is_bad_option (rows_of found) usage c.in_ok-topics.topics.items c.get_flag-header.result (first_of (codes "column") (rows_of found)) c.in_ok-topics.ensures.topics flag (λ bad. inl bad) c.in_err-column.ensures.fault)

pub returns-in_err-topic_column-clause-fault : goal.returns-in_err-topic_column-clause-fault
returns-in_err-topic_column-clause-fault c =
    let found = found_of c.args.given.now in
    let usage = c.in_err-topic_column.field-0.0 in
    let same : c.from_residual-in_err-topic_column.result ≡ Err usage = search rules in
    let flag : IsFlag (one_of (codes "header") (rows_of found)) c.get_flag-header.result =
    rw (← one_text-rows found (codes "header")) (flag_is (one_text found (codes "header")) c.get_flag-header.result c.get_flag-header.ensures.none c.get_flag-header.ensures.value c.get_flag-header.ensures.other) in
    rw same (column_is_bad_option (rows_of found) usage c.in_ok-topics.topics.items c.get_flag-header.result (first_of (codes "topic-column") (rows_of found)) c.in_ok-topics.ensures.topics flag (λ bad. inr bad) c.in_err-topic_column.ensures.fault)

pub returns-in_err-delimiter-clause-fault : goal.returns-in_err-delimiter-clause-fault
returns-in_err-delimiter-clause-fault c =
    let found = found_of c.args.given.now in
    let usage = c.in_err-delimiter.field-0.0 in
    let same : c.from_residual-in_err-delimiter.result ≡ Err usage = search rules in
    rw same (delimiter_is_bad_option (rows_of found) usage c.in_ok-topics.topics.items c.in_ok-topics.ensures.topics c.in_err-delimiter.ensures.fault)

pub returns-clause-options : goal.returns-clause-options
returns-clause-options c =
    let found = found_of c.args.given.now in
    let topics = c.in_ok-topics.ensures.topics in
    record {
      partitions = c.number_of.ensures;
      column = c.in_ok-column.ensures.column;
      header = rw (← one_text-rows found (codes "header")) (flag_is (one_text found (codes "header")) c.get_flag-header.result c.get_flag-header.ensures.none c.get_flag-header.ensures.value c.get_flag-header.ensures.other);
      delimiter = c.in_ok-delimiter.ensures.delimiter;
      topics = topics;
      topic_column = c.in_ok-topic_column.ensures.column;
      in_range = record {
        partitions = number_in _ 4 4096 _ (omega arith, omega arith) c.requires.present.partitions c.number_of.ensures;
        column = column_in _ _ 1 _ (omega arith, omega arith) c.in_ok-column.ensures.column;
        delimiter = delimiter_given _ _ c.in_ok-delimiter.ensures.delimiter;
        batch = c.requires.batch;
        topics = may_be_topics _ _ topics;
        topic_column = column_in _ _ 2 _ (omega arith, omega arith) c.in_ok-topic_column.ensures.column;
        top = c.requires.top;
      };
    }
