use Rattle.std.proofs.Common.{◌≡◌, ◌∙◌, ap, arith, sym, take}
use Rattle.std.proofs.lemmas.Bool.{eqb-true, false≢true}
use Rattle.std.specs.Int.{to_le_bytes, w64}
use Rattle.key_index.proofs.Padded.{words-of}
use Rattle.key_index.proofs.key_words.KeyWords.is_in.Goals as goal
use Rattle.key_index.proofs.key_words.KeyWords.is_in.Goals.{then-self-from, else-self-from, then-self-word_at, else-self-word_at}

pub returns-then-self-word_at-2 : goal.returns-then-self-word_at-2
returns-then-self-word_at-2 c e =
    let words = c.self.inside in
    let third : words.third ≡ c.last_word.result = eqb-true _ _ e in
    elim c.if-self-word_at.branch [
      | then-self-word_at w ↦
          let second : words.second ≡ w.word_at-then-self-word_at.result = eqb-true _ _ (sym w.value-is ∙ c.if-self-word_at-2.true) in
          elim c.if-self-from.branch [
            | then-self-from v ↦
                let first : words.first ≡ v.word_at.result = eqb-true _ _ (sym v.value-is ∙ w.if-self-word_at.true) in
                let size : words.size ≡ c.args.size = omega (arith, v.if-self-from.true, c.from.ensures) in
                ap (λ n. take n c.args.bytes.now) (sym size)
                ∙ words-of c.args.bytes.now words.first words.second words.third words.size c.told-bytes c.self.invariant.0
                (ap (to_le_bytes w64) first ∙ v.word_at.ensures) (ap (to_le_bytes w64) second ∙ w.word_at-then-self-word_at.ensures) (ap (to_le_bytes w64) third ∙ c.last_word.ensures)
                ∙ c.self.view_is
            | else-self-from v ↦ absurd (v.if-self-from.false (eqb-true _ _ (sym v.value-is ∙ w.if-self-word_at.true)))
          ]
      | else-self-word_at w ↦ absurd (false≢true (sym w.if-self-word_at.false ∙ sym w.value-is ∙ c.if-self-word_at-2.true))
    ]
