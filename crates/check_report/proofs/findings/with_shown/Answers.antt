use Rattle.std.proofs.Common.{◌≡◌, ◌++◌, ◌∷◌, [], ℕ, List, append_assoc, rules, take}
use Rattle.check_report.proofs.findings.with_shown.Goals as goal

quoted : (words first last all few : List ℕ) → first ≡ words ++ 39 ∷ [] → last ≡ first ++ few → all ≡ last ++ 39 ∷ [] → all ≡ words ++ 39 ∷ (few ++ 39 ∷ [])
quoted words first last all few h i j = rw (j, i, h) (simp append_assoc)

pub returns : goal.returns
returns c =
    let begun : c.in_ok-all.all.items ≡ c.args.words.now = search rules in
    let first : c.extend_from_slice.new.self.items ≡ c.args.words.now ++ 39 ∷ [] = search (rules, begun) in
    let few : c.extend_from_slice-2.new.self.items ≡ c.extend_from_slice.new.self.items ++ take 80 c.args.text.now = search rules in
    let last : c.extend_from_slice-3.new.self.items ≡ c.extend_from_slice-2.new.self.items ++ 39 ∷ [] = search rules in
    quoted c.args.words.now c.extend_from_slice.new.self.items c.extend_from_slice-2.new.self.items c.extend_from_slice-3.new.self.items (take 80 c.args.text.now) first few last
