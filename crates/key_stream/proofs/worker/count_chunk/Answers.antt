use Rattle.key_stream.proofs.Chunked.{all-counted}
use Rattle.key_stream.proofs.worker.count_chunk.Goals as goal

pub returns : goal.returns
returns c =
    let found = c.in_ok-keys.ensures in (
      found.0,
      found.1,
      found.2,
      all-counted c.args.counter.now c.forget_waiting.new.self c.take_chunk.new.keys c.settle.new.self found.0 c.forget_waiting.ensures.entries c.forget_waiting.ensures.waiting found.3
          c.in_ok-settle.ensures.entries,
    )
