use Rattle.std.proofs.Common.{◌≡◌, ◌≤◌, ◌∙◌, ◌+◌, [], ◌∷◌, ◌++◌, ℕ, List, length, decimal, drop, arith, ap, append_assoc}
use Rattle.std.specs.Prelude.{codes, slice_set}
use Rattle.std.proofs.lemmas.Fmt.{length-decimal-le}
use Rattle.std.proofs.lemmas.List.{drop-set, drop_all}
use Rattle.report_cli.specs.Faults.{fault_text, location_text}
use Rattle.report_cli.proofs.faults.put_fault.Goals as goal

last_set : (xs : List ℕ) (n v : ℕ) → length xs ≡ n + 1 → drop n (slice_set xs n v) ≡ v ∷ []
last_set xs n v h = drop-set xs n v (omega arith) ∙ ap (λ t. v ∷ t) (drop_all (n + 1) xs (omega arith))

concatenated : (a b c d end number location all : List ℕ) → end ≡ d → location ≡ c ++ end → number ≡ b ++ location → all ≡ a ++ number → all ≡ a ++ b ++ c ++ d
concatenated a b c d end number location all h i j k = rw (k, j, i, h) (simp append_assoc)

pub write_digits-code-requires : goal.write_digits-code-requires
write_digits-code-requires c =
    let few : length (decimal c.code.result) ≤ 3 = length-decimal-le 3 c.code.result (omega arith) (omega arith) (omega arith) in
    (omega (arith, c.put_location_of-end.ensures.capacity), omega (arith, c.put_location_of-end.ensures.start, c.told-line))

pub put_before-requires : goal.put_before-requires
put_before-requires c =
    let few : length (decimal c.code.result) ≤ 3 = length-decimal-le 3 c.code.result (omega arith) (omega arith) (omega arith) in
    (omega (arith, c.put_location_of-end.ensures.capacity, c.write_digits-code.ensures.start), omega (arith, c.write_digits-code.ensures.start, c.put_location_of-end.ensures.start, c.told-line))

pub returns-clause-line : goal.returns-clause-line
unfolding fault_text
returns-clause-line c =
    concatenated (codes "fault ") (decimal c.code.result) (location_text c.args.fault.now) (codes "\n") _ _ _ _
    (last_set c.args.line.now 47 10 c.told-line) c.put_location_of-end.ensures.line c.write_digits-code.ensures.written c.put_before.ensures.line
    ∙ ap (λ n. codes "fault " ++ decimal n ++ location_text c.args.fault.now ++ codes "\n") c.code.ensures
