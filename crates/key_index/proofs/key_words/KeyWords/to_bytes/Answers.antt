use Rattle.std.proofs.Common.{refl, sym}
use Rattle.key_index.proofs.Padded.{first-bytes}
use Rattle.key_index.specs.Private.KeyWords.{all_bytes}
use Rattle.key_index.proofs.key_words.KeyWords.to_bytes.Goals as goal

pub returns : goal.returns
returns c =
    let words = c.self.inside in
    rw (c.to_le_bytes-a.ensures, c.to_le_bytes-b.ensures, c.to_le_bytes-c.ensures)
    (first-bytes c.args.self.now (all_bytes words.first words.second words.third) words.size refl c.self.invariant.0 (sym c.self.view_is))
