use Rattle.std.proofs.Common.{◌≡◌, ◌≤◌, Bool, true, false, [], ◌∷◌, arith, length, refl, sym}
use Rattle.std.proofs.lemmas.Bool.{le-ltb}
use Rattle.std.proofs.lemmas.List.Folds.{list_any_none}
use Rattle.key_index.specs.Keys.{Key}
use Rattle.lane_words.specs.declared.limits.TheConstants.{LONGEST_KEY}
use Rattle.ingest.specs.Private.Limits.{has_long_key}
use Rattle.ingest.proofs.limits.have_long_keys.Goals as goal

short : (has_topics : Bool) (key : Key) → length key ≤ LONGEST_KEY → has_long_key has_topics key ≡ false
short true [] le = refl
short true (a ∷ key) le = le-ltb LONGEST_KEY (length key) (omega (arith, le))
short false key le = le-ltb _ _ le

pub returns-then-longest-le-LONGEST_KEY : goal.returns-then-longest-le-LONGEST_KEY
returns-then-longest-le-LONGEST_KEY c =
    sym (list_any_none (has_long_key c.args.has_topics) c.args.worker.now.keys
    (λ k d lt. short c.args.has_topics _ (omega (arith, c.longest.ensures k d lt, c.if-longest-le-LONGEST_KEY.true))))
