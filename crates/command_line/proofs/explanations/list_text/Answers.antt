use Rattle.std.proofs.Common.{◌≡◌, ◌∙◌, ◌++◌, ap, codes, arith, get_or, sym, take, flat_map}
use Rattle.std.specs.Prelude.{ℕ, List}
use Rattle.lane_words.specs.declared.Refusal.TheVariants as r
use Rattle.command_line.specs.Explanations.{line_of, list_text}
use Rattle.command_line.specs.declared.explanations.TheConstants.{REFUSALS}
use Rattle.command_line.proofs.Codes.{pieces_more}
use Rattle.command_line.proofs.explanations.list_text.Goals as goal

pub loop-refusal-preserved : goal.loop-refusal-preserved
loop-refusal-preserved c =
    let more = pieces_more (λ refusal. line_of refusal ++ codes "\n") REFUSALS c.loop-refusal.refusal-index r.UnknownMember c.loop-refusal-test.true in
    let line = line_of (get_or REFUSALS c.loop-refusal.refusal-index r.UnknownMember) ++ codes "\n" in
    c.in_ok-push_line.ensures ∙ ap (λ (front : List ℕ). front ++ line) c.loop-refusal.invariant ∙ sym more

pub returns : goal.returns
unfolding list_text
returns c =
    let all : c.loop-refusal.refusal-index ≡ 34 = omega (arith, c.loop-refusal-test.false, c.loop-refusal.auto) in
    c.loop-refusal.invariant ∙ ap (λ n. flat_map (λ refusal. line_of refusal ++ codes "\n") (take n REFUSALS)) all
