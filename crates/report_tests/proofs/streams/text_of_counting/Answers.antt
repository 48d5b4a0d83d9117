use Rattle.report_tests.proofs.streams.text_of_counting.Goals as goal

pub text_of_counters-requires-after_bounds : goal.text_of_counters-requires-after_bounds
text_of_counters-requires-after_bounds g c κs within =
    let file = c.requires.2 in
    let options = c.args.options.now in
    (file.counted.keys, (c.in_ok-counters.ensures options.delimiter file.wanted options.header file.read file.counted).0)
