-- The faults of the lines of a plan.
use Rattle.std.proofs.Common.{◌≡◌, not, cond, ℕ, Bool, true, false, List, [], ◌∷◌, ◌++◌, length, Option, Some, None, Ok, Err, ap, subst}
use Rattle.std.specs.Prelude.{◌==◌}
use Rattle.std.specs.Option.{option_map_or, option_or, option_to_list}
use Rattle.lane_words.specs.declared.Refusal.{Refusal}
use Rattle.lane_words.specs.declared.Refusal.TheVariants as r
use Rattle.script.specs.Grammar.{◌>>=◌, lines_from}
use Rattle.script.specs.Plan.{change_fault, parse_change, changes_in, entered, first_fault, is_allowed, is_anybody_left, is_no_plan_line, line_fault, plan_answer, plan_of, roster_of, with_a_line, Roster}
use Rattle.script.specs.declared.plan.Change.{Change}
use Rattle.ingest.proofs.ReadFaults.{IsLineFault, HasLineFaultsAlone}

change_fault_kind : (number : ℕ) (before : Roster) (change : Change) (e : Refusal) → change_fault number before change ≡ Some e → IsLineFault e
unfolding change_fault
change_fault_kind number before change e h = go (is_allowed before change) (is_anybody_left (entered before change)) h
  where
    go : (a b : Bool) → cond (not a) (Some (r.BadLine number)) (cond (not b) (Some (r.NobodyLeft number)) None) ≡ Some e → IsLineFault e
    go false b h = let is : r.BadLine number ≡ e = cc h in subst IsLineFault is tt
    go true false h = let is : r.NobodyLeft number ≡ e = cc h in subst IsLineFault is tt
    go true true h = absurd (cc h)

line_fault_kind : (before : Roster) (line : ℕ × List ℕ) (e : Refusal) → line_fault before line ≡ Some e → IsLineFault e
unfolding line_fault
line_fault_kind before (number, line) e h = go (is_no_plan_line line) (parse_change line) h
  where
    go : (b : Bool) (change : Option Change) → cond b (Some (r.BadLine number)) (change >>= change_fault number before) ≡ Some e → IsLineFault e
    go true change h = let is : r.BadLine number ≡ e = cc h in subst IsLineFault is tt
    go false None h = absurd (cc h)
    go false (Some change) h = change_fault_kind number before change e h

first_fault_kind : (before : List Change) (lines : List (ℕ × List ℕ)) (e : Refusal) → first_fault before lines ≡ Some e → IsLineFault e
unfolding first_fault
first_fault_kind before [] e h = absurd (cc h)
first_fault_kind before (line ∷ lines) e h =
    go (line_fault (roster_of before) line) (line_fault_kind (roster_of before) line e) (first_fault_kind (before ++ option_to_list (parse_change line.1)) lines e) h
  where
    go : (o : Option Refusal) → (o ≡ Some e → IsLineFault e) → (first_fault (before ++ option_to_list (parse_change line.1)) lines ≡ Some e → IsLineFault e)
        → option_or o (first_fault (before ++ option_to_list (parse_change line.1)) lines) ≡ Some e → IsLineFault e
    go None now later h = later h
    go (Some fault) now later h = now h

plan_fault_kind : (lines : List (ℕ × List ℕ)) (e : Refusal) → plan_of lines ≡ Err e → IsLineFault e
unfolding plan_of with_a_line
plan_fault_kind lines e h = go (first_fault [] lines) (first_fault_kind [] lines) h
  where
    go : (o : Option Refusal) → ((x : Refusal) → o ≡ Some x → IsLineFault x) → option_map_or Err o (with_a_line (changes_in lines)) ≡ Err e → IsLineFault e
    go (Some fault) reported h = reported e (let is : fault ≡ e = cc h in ap Some is)
    go None reported h = none (length (changes_in lines) == 0) h
      where
        none : (b : Bool) → cond b (Err (r.NobodyLeft 0)) (Ok (changes_in lines)) ≡ Err e → IsLineFault e
        none true h = let is : r.NobodyLeft 0 ≡ e = cc h in subst IsLineFault is tt
        none false h = absurd (cc h)

pub plan_has_line_faults : HasLineFaultsAlone plan_answer
plan_has_line_faults bytes e h = plan_fault_kind (lines_from 1 bytes) e h
