-- A line of a plan that is due is accepted, and leads to the result that the plan has.
use Rattle.std.proofs.Common.{ℕ, zero, suc, ◌≡◌, ◌+◌, ◌*◌, ◌<◌, ◌≤◌, ◌==◌, Bool, true, false, ◌&&◌, ◌||◌, not, List, [], ◌∷◌, Option, Some, None, Result, Ok, Err, length, map, take, slice_get, nat_lt, nat_le, refl, ap, sym, ◌∙◌, arith, cond}
use Rattle.std.specs.List.{list_any, position_or_len}
use Rattle.std.specs.Option.{option_map, unwrap_or}
use Rattle.std.specs.Result.{result_and}
use Rattle.std.specs.Str.{bytes_eq}
use Rattle.std.proofs.lemmas.Bool.{false≢true}
use Rattle.std.proofs.lemmas.Bool.Decides.{nat_tests}
use Rattle.lane_words.specs.declared.limits.TheConstants.{LAST_GENERATION, MOST_MEMBERS}
use Rattle.lane_words.specs.declared.Refusal.{Refusal}
use Rattle.lane_words.specs.declared.Refusal.TheVariants as r
use Rattle.group_machine.specs.declared.group.Slot.{Slot}
use Rattle.group_machine.specs.declared.group.Seat.{Seat}
use Rattle.group_machine.specs.declared.group.Phase.{Phase}
use Rattle.group_machine.specs.declared.group.Phase.TheVariants.{Empty, Preparing, Stable}
use Rattle.group_machine.specs.Slots.{reseated_from}
use Rattle.group_machine.specs.State.{GroupState, is_anybody, is_present, opening}
use Rattle.group_machine.specs.Completion.{complete, completed, is_over, is_ready}
use Rattle.group_laws.specs.Rounds.{without_flags, seat_without_flags, rebalance_result, round}
use Rattle.group_machine.specs.Settled.{is_settled}
use Rattle.group_machine.specs.Steps.{is_name_used, join_answer, joining, leaving, left_by}
use Rattle.group_machine.specs.Valid.{IsValidGroup}
use Rattle.group_machine.proofs.PresentLemmas.{length_reseated}
use Rattle.group_laws.proofs.ResultFacts.{result_by, result_from, join_without_flags, leave_without_flags}
use Rattle.group_machine.proofs.JoinLemmas.{accepted_join}
use Rattle.group_laws.proofs.OtherLemmas.{accepted_leave}
use Rattle.group_laws.proofs.StepLemmas.{join_valid, leave_valid}
use Rattle.script.specs.Plan.{IsPlan, Roster, is_allowed, is_among, roster_of}
use Rattle.script.specs.declared.plan.Change.{Change}
use Rattle.script.specs.declared.plan.Change.TheVariants.{Join, Leave, Lose}
use Rattle.workers.specs.Plans.{changed_by, number_of, settled, settled_from}
use Rattle.workers.specs.Progress.{is_at_rest, is_empty}
use Rattle.workers.specs.Private.Applied.{change_answer}
use Rattle.group_laws.proofs.NameLemmas.{number_reseated}
use Rattle.workers.proofs.Rosters.{HasRoster, next_settled, present_there, progress_roster, slots_are}

-- ---- at rest
empty_phase : (p : Phase) → is_empty p ≡ true → p ≡ Empty
empty_phase Empty e = refl
empty_phase Preparing e = absurd (false≢true e)
empty_phase Stable e = absurd (false≢true e)

empty_rest : (a b : Bool) → b ≡ false → (a || b) ≡ true → a ≡ true
empty_rest true b none e = refl
empty_rest false b none e = absurd (false≢true (sym none ∙ e))

nobody_at_rest : (g : GroupState) → IsValidGroup g → is_at_rest g ≡ true → is_settled g ≡ false → is_anybody g ≡ false
nobody_at_rest g valid rest unsettled = valid.empty.0 (empty_phase g.phase (empty_rest (is_empty g.phase) (is_settled g) unsettled rest))

pub rest_is_end : (g : GroupState) → IsValidGroup g → is_at_rest g ≡ true → rebalance_result g ≡ without_flags g
rest_is_end g valid rest = go (is_anybody g) (is_settled g) refl refl
  where
    go : (any now : Bool) → is_anybody g ≡ any → is_settled g ≡ now → cond any (cond now (without_flags g) (cond (is_settled (round g)) (round g) (round (round g)))) (without_flags g) ≡ without_flags g
    go true true some here = refl
    go true false some here = absurd (false≢true (sym (nobody_at_rest g valid rest here) ∙ some))
    go false now some here = refl

-- ---- numbers without flags
number_without_flags : (g : GroupState) (name : List ℕ) → number_of (without_flags g) name ≡ number_of g name
number_without_flags g name = ap (λ o. unwrap_or o 0) (number_reseated 1 1 (λ m. option_map seat_without_flags) g.slots name)

-- ---- a line, of a group and of the group without its flags
changed_without_flags : (g : GroupState) (line : Change) → IsValidGroup g → rebalance_result (changed_by g line) ≡ rebalance_result (changed_by (without_flags g) line)
changed_without_flags g (Join name) valid = join_without_flags g name valid
changed_without_flags g (Leave name) valid = leave_without_flags g (number_of g name) valid ∙ ap (λ n. rebalance_result (left_by (without_flags g) n)) (sym (number_without_flags g name))
changed_without_flags g (Lose name) valid = leave_without_flags g (number_of g name) valid ∙ ap (λ n. rebalance_result (left_by (without_flags g) n)) (sym (number_without_flags g name))

pub applied_end : (g : GroupState) (p : ℕ) (plan : List Change) (i : ℕ) (line : Change) → IsValidGroup g → is_at_rest g ≡ true → slice_get plan i ≡ Some line → rebalance_result g ≡ settled p (take i plan) → rebalance_result (changed_by g line) ≡ settled p (take (suc i) plan)
applied_end g p plan i line valid rest at end =
    changed_without_flags g line valid
    ∙ ap (λ s. rebalance_result (changed_by s line)) (sym (rest_is_end g valid rest) ∙ end)
    ∙ sym (next_settled p plan i line at)

-- ---- partitions and generations
pub same_partitions : (g : GroupState) → (completed g).partitions ≡ g.partitions
same_partitions g = go (is_ready g)
  where
    go : (b : Bool) → (cond b (complete g) g).partitions ≡ g.partitions
    go true = refl
    go false = refl

pub changed_partitions : (g : GroupState) (line : Change) → (changed_by g line).partitions ≡ g.partitions
changed_partitions g (Join name) = same_partitions (joining g name)
changed_partitions g (Leave name) = same_partitions (leaving g (number_of g name))
changed_partitions g (Lose name) = same_partitions (leaving g (number_of g name))

completed_up : (g : GroupState) → (completed g).generation ≤ g.generation + 1
completed_up g = go (is_ready g)
  where
    go : (b : Bool) → (cond b (complete g) g).generation ≤ g.generation + 1
    go true = omega arith
    go false = omega arith

changed_up : (g : GroupState) (line : Change) → (changed_by g line).generation ≤ g.generation + 1
changed_up g (Join name) = completed_up (joining g name)
changed_up g (Leave name) = completed_up (leaving g (number_of g name))
changed_up g (Lose name) = completed_up (leaving g (number_of g name))

settled_up : (g : GroupState) (lines : List Change) → (settled_from g lines).generation ≤ g.generation + 3 * length lines
settled_up g [] = omega arith
settled_up g (line ∷ lines) =
    let h : GroupState = changed_by g line in
    omega (arith, settled_up (rebalance_result h) lines, result_by h, changed_up g line)

pub few_generations : (g : GroupState) (p : ℕ) (lines : List Change) → rebalance_result g ≡ settled p lines → g.generation ≤ 3 * length lines
few_generations g p lines end = omega (arith, result_from g, ap (λ (s : GroupState). s.generation) end, settled_up (opening p) lines)

not_last : (b : Bool) (n : ℕ) → n < LAST_GENERATION → (b && n == LAST_GENERATION) ≡ false
not_last false n lt = refl
not_last true n lt = grind (arith, nat_tests)

-- ---- a line that is allowed is accepted
names_used : (slots : List Slot) (name : List ℕ) → list_any (λ s. bytes_eq s.name name) slots ≡ is_among (map (λ s. s.name) slots) name
names_used [] name = refl
names_used (s ∷ slots) name = ap (λ b. bytes_eq s.name name || b) (names_used slots name)

capacity_left : (n : ℕ) → nat_lt n MOST_MEMBERS ≡ true → nat_le MOST_MEMBERS n ≡ false
capacity_left n lt = grind (arith, nat_tests)

join_accepted : (used full over : Bool) (n : ℕ) → used ≡ false → full ≡ false → over ≡ false → ◌≡◌ {A = Result (Unit {0}) Refusal} (result_and (cond used (Err r.NameUsed) (cond full (Err r.TooManyMembers) (cond over (Err r.GenerationsOver) (Ok n)))) (Ok tt)) (Ok tt)
join_accepted used full over n a b c = rw (a, b, c) refl

leave_accepted : (here over : Bool) → here ≡ true → over ≡ false → ◌≡◌ {A = Result (Unit {0}) Refusal} (cond here (cond over (Err r.GenerationsOver) (Ok tt)) (Err r.UnknownMember)) (Ok tt)
leave_accepted here over a b = rw (a, b) refl

both_of : (a b : Bool) → (not a && b) ≡ true → (a ≡ false) × (b ≡ true)
both_of true b e = absurd (false≢true e)
both_of false b e = (refl, e)

accepted_by_roster : (g : GroupState) (x : Roster) (line : Change) → HasRoster g x → is_allowed x line ≡ true → g.generation < LAST_GENERATION → change_answer g line ≡ Ok tt
unfolding is_allowed
accepted_by_roster g x (Join name) has e low =
    let allowed = both_of (is_among x.joined name) (nat_lt (length x.joined) MOST_MEMBERS) e in
    join_accepted (is_name_used g name) (nat_le MOST_MEMBERS (length g.slots)) (is_over (joining g name)) (length g.slots + 1)
    (names_used g.slots name ∙ ap (λ xs. is_among xs name) has.names_are ∙ allowed.0)
    (ap (λ n. nat_le MOST_MEMBERS n) (slots_are g x has) ∙ capacity_left (length x.joined) allowed.1)
    (not_last (is_ready (joining g name)) g.generation low)
accepted_by_roster g x (Leave name) has e low =
    leave_accepted (is_present g (number_of g name)) (is_over (leaving g (number_of g name))) (present_there g x name has e) (not_last (is_ready (leaving g (number_of g name))) g.generation low)
accepted_by_roster g x (Lose name) has e low =
    leave_accepted (is_present g (number_of g name)) (is_over (leaving g (number_of g name))) (present_there g x name has e) (not_last (is_ready (leaving g (number_of g name))) g.generation low)

length_take : (n : ℕ) (xs : List Change) → length (take n xs) ≤ length xs
length_take zero xs = omega arith
length_take (suc n) [] = omega arith
length_take (suc n) (x ∷ xs) = omega (arith, length_take n xs)

pub line_accepted : (g : GroupState) (p : ℕ) (plan : List Change) (i : ℕ) (line : Change) → IsPlan plan → length plan < 2 * MOST_MEMBERS → i ≤ length plan → slice_get plan i ≡ Some line → rebalance_result g ≡ settled p (take i plan) → change_answer g line ≡ Ok tt
line_accepted g p plan i line is short le at end =
    accepted_by_roster g (roster_of (take i plan)) line (progress_roster g p plan i is le end) (is.allowed i line at)
    (omega (arith, few_generations g p (take i plan) end, length_take i plan))

-- ---- what a line leaves as it is
join_is_accepted : (a : Result ℕ Refusal) → ◌≡◌ {A = Result (Unit {0}) Refusal} (result_and a (Ok tt)) (Ok tt) → (n : ℕ) × (a ≡ Ok n)
join_is_accepted (Ok n) e = (n, refl)
join_is_accepted (Err why) e = absurd (cc e)

pub changed_valid : (g : GroupState) (line : Change) → IsValidGroup g → change_answer g line ≡ Ok tt → IsValidGroup (changed_by g line)
changed_valid g (Join name) valid ok =
    let a = join_is_accepted (join_answer g name) ok in
    join_valid g name valid (accepted_join g name a.0 a.1).0
changed_valid g (Leave name) valid ok = leave_valid g (number_of g name) valid (accepted_leave (is_present g (number_of g name)) _ ok)
changed_valid g (Lose name) valid ok = leave_valid g (number_of g name) valid (accepted_leave (is_present g (number_of g name)) _ ok)
