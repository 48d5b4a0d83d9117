-- The faults of the lines of a replay.
use Rattle.std.proofs.Common.{◌≡◌, ℕ, List, Option, Some, None, Result, Ok, Err, IfErr, refl, subst}
use Rattle.std.specs.Prelude.{Vec}
use Rattle.std.specs.Global.{Global}
use Rattle.std.specs.List.{filter_map, find}
use Rattle.std.specs.Option.{option_map_or}
use Rattle.lane_words.specs.declared.Refusal.{Refusal}
use Rattle.lane_words.specs.declared.Refusal.TheVariants as r
use Rattle.script.specs.Replay.{answer_of, is_bad, lines_seen, read_answer_in, parsed}
use Rattle.script.specs.Grammar.{lines_from}
use Rattle.script.specs.declared.replay.Line.{Line}
use Rattle.partitioner.specs.declared.topic.Topic.{Topic}
use Rattle.ingest.specs.Reports.{failed_reads}
use Rattle.ingest.proofs.ReadFaults.{IsLineFault, HasLineFaultsAlone}

bad_line : (bad : Option (ℕ × List ℕ)) (lines : List Line) (e : Refusal) → option_map_or (λ b. Err (r.BadLine b.0)) bad (Ok lines) ≡ Err e → IsLineFault e
bad_line None lines e h = absurd (cc h)
bad_line (Some bad) lines e h = let is : r.BadLine bad.0 ≡ e = cc h in subst IsLineFault is tt

pub lines_have_line_faults : (topics : List Topic) → HasLineFaultsAlone (read_answer_in topics)
unfolding answer_of
lines_have_line_faults topics bytes e h = bad_line (find (λ line. is_bad topics line.1) (lines_from 1 bytes)) (filter_map (parsed topics) (lines_from 1 bytes)) e h

pub lines_err : (P : Refusal → Type 0) (result : Result (Vec Line Global) Refusal) → IfErr (lines_seen result) P → IfErr result P
lines_err P (Ok lines) h = tt
lines_err P (Err e) h = h

pub lines_reads : (result : Result (Vec Line Global) Refusal) → failed_reads (lines_seen result) ≡ failed_reads result
lines_reads (Ok lines) = refl
lines_reads (Err e) = refl
