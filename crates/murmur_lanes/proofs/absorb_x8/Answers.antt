use Rattle.std.proofs.Common.{ℕ, ◌≡◌, ◌*◌, ◌/◌, ◌%◌, ◌^◌, List, [], ◌∷◌, length, refl, ap, sym, ◌∙◌, bit_xor, arith, replicate, zero, suc}
use Rattle.std.proofs.lemmas.Simd.{length-zip2}
use Rattle.std.specs.Simd.Lanes.{zip2}
use Rattle.murmur_lanes.specs.Murmur.{absorbed}
use Rattle.murmur_lanes.proofs.absorb_x8.Goals as goal

lanes_absorbed : (n : ℕ) (hs ws : List ℕ) → length hs ≡ n → length ws ≡ n → zip2 bit_xor (zip2 (λ a b. (a * b) % 2 ^ 32) hs (replicate n 1540483477)) (zip2 (λ a b. (a * b) % 2 ^ 32) (zip2 bit_xor (zip2 (λ a b. (a * b) % 2 ^ 32) ws (replicate n 1540483477)) (zip2 (λ a b. a / 2 ^ b) (zip2 (λ a b. (a * b) % 2 ^ 32) ws (replicate n 1540483477)) (replicate n 24))) (replicate n 1540483477)) ≡ zip2 absorbed hs ws
lanes_absorbed n [] ws p q = refl
lanes_absorbed n (h ∷ hs) [] p q = absurd (omega arith)
lanes_absorbed zero (h ∷ hs) (w ∷ ws) p q = absurd (omega arith)
lanes_absorbed (suc n) (h ∷ hs) (w ∷ ws) p q = ap (λ r. absorbed h w ∷ r) (lanes_absorbed n hs ws (omega arith) (omega arith))

pub returns-clause-value : goal.returns-clause-value
returns-clause-value c = lanes_absorbed 8 c.args.hash c.args.word c.requires.hash c.requires.word

pub returns-clause-len : goal.returns-clause-len
returns-clause-len c = ap length (lanes_absorbed 8 c.args.hash c.args.word c.requires.hash c.requires.word) ∙ (length-zip2 absorbed c.args.hash c.args.word (c.requires.hash ∙ sym c.requires.word) ∙ c.requires.hash)
