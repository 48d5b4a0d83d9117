-- The subcommand that clap entered, and what clap has checked of it.
use Rattle.std.proofs.Common.{◌≡◌, ◌∙◌, ◌≤◌, ◌++◌, ◌&&◌, ◌||◌, not, cond, refl, ap, ap₂, sym, subst, arith, zero, suc, ℕ, List, [], ◌∷◌, length, drop, Option, Some, None, is_some, IsSome, Bool, true, false, true≢false, codes, inl, inr}
use Rattle.std.specs.Prelude.{⊤, ◌⊎◌, IfErr, IfOk, IfSome, IsErrAnd, Result, Ok, Err, unwrap_or, option_and_then, option_map, encode_utf8, slice_get, find, fold, Box, pos}
use Rattle.std.specs.Box.{box_value}
use Rattle.std.specs.Option.{option_map_or}
use Rattle.std.specs.Str.{bytes_eq, chars}
use Rattle.std.specs.Str.Parse.{IsNumeral, digits_value, starts_with_minus, without_leading_plus}
use Rattle.std.proofs.lemmas.Int.{ints}
use Rattle.std.proofs.lemmas.Slice.Eq.{bytes_eq-Decides}
use Rattle.clap.proofs.OnLiterals.{clap_on_literals}
use Rattle.clap.proofs.ValueTestLemmas.{accepts-Accepts}
use Rattle.clap.specs.Lexer.{long_of, short_of}
use Rattle.clap.specs.Facts.{explicit_source, parser_of_value}
use Rattle.clap.specs.Values.{IsSignedIn, kind_of}
use Rattle.clap.specs.declared.error.Error.{Error}
use Rattle.clap.specs.ValueTests.{accepts}
use Rattle.clap.specs.Kinds.{HasKind, IsAmong, Kinds, check_kinds, or_else}
use Rattle.clap.specs.Faults.{bundle_fault, bundle_step_fault, check_fault, defaults_fault, entered_fault, fault_of, flag_word_fault, flags_fault, is_simple_and_free, level_fault, long_fault, option_fault, other_fault, positional_fault, react_fault, set_fault, settle_fault, short_fault, step_fault, stray_fault, use_fault, walk_fault, word_fault}
use Rattle.clap.specs.Built.{AddsArg}
use Rattle.clap.specs.Matches.{found_of}
use Rattle.clap.specs.declared.parser.matches.ArgMatches.{ArgMatches}
use Rattle.clap.specs.Simple.{App, HasMatchesOf, subcommand_rows_of, Shape, app_of, app_of_fields, built, entered, is_simple, label_of, matches_of, names_of, rows_at, new_app, subcommand_of, subcommand_rows, with_rule}
use Rattle.clap.specs.Takes.{is_given}
use Rattle.clap.specs.Walk.{Held, Names, Outcome, Row, Rule, Step, Text, Waiting, Walk, done, waits, plain, refused, idle, option, positional, next, trailing, subcommand, value, after_flag, after_step, arg_by_id, arg_by_index, arg_by_long, arg_by_short, at_row, attached_value, bundle_met, bundle_step, default_rows, first_of, flag_met, one_of, has_row, is_pending, long_met, long_or_other, more_values, nothing_held, option_met, option_word, plain_word, reacted, reading_by, rows_after, rows_of, rule_of, settled, settled_rows, bundle, short_met, short_or_plain, answers_to, subcommand_met, subcommand_or_other, takes_several, takes_values, to_positional, used, used_by_id, walk, walk_from, walked, walked_from, with_default, with_values, without, word_met}
use Rattle.clap.specs.declared.builder.arg.Arg.{Arg}
use Rattle.clap.specs.declared.builder.command.Command.{Command}
use Rattle.clap.specs.declared.builder.command.Command.TheOpen.{Command-F}
use Rattle.clap.specs.declared.builder.command.Command.TheViews.{out-Command}
use Rattle.clap.specs.declared.builder.value_parser.ValueParser.TheVariants as parser
use Rattle.clap.specs.declared.error.kind.ErrorKind.{ErrorKind}
use Rattle.clap.specs.declared.error.kind.ErrorKind.TheVariants as kind
use Rattle.clap.specs.declared.parser.matches.SubCommand.{SubCommand}
use Rattle.clap.specs.declared.parser.matches.ArgMatches.TheViews.{out-SubCommand}
use Rattle.clap.specs.declared.parser.matches.ValueSource.TheVariants.{CommandLine, DefaultValue}
use Rattle.command_line.specs.CommandLine.{HasJob, HaveBadList, IsBadListReport, IsFlag, IsJobOf, IsNumber, IsNumberIfGiven, IsRefusal, name_of, keycount_app, keycount_top, path}
use Rattle.command_line.specs.Columns.{IsBadColumn}
use Rattle.command_line.specs.Delimiters.{IsBadDelimiter}
use Rattle.command_line.specs.Private.CommandLine.{IsCommand, IsOptionalNumber, AreCountRows, AreExplainRows, AreOptionRows, ArePlaceRows, AreScriptRows, IsBadReport, IsUsageOf, ReportsBadColumn, ReportsBadDelimiter, ReportsBadList, ReportsBadOption, AreCheckRows, AreRowsOf, IsOfScript}
use Rattle.command_line.specs.Topics.{AreTopicsOf, IsBadList}
use Rattle.partitioner.specs.declared.topic.Topic.{Topic}
use Rattle.command_line.specs.declared.words.Job.{Job}
use Rattle.command_line.specs.declared.words.Job.TheVariants.{Count, Place, Check, Replay, Trace, Draw, Run, Explain}
use Rattle.command_line.specs.declared.words.Usage.{Usage}
use Rattle.command_line.specs.declared.words.Usage.TheVariants.{Help, Bad, Memory}

pub keycount_simple : is_simple keycount_app ≡ true
unfolding clap_on_literals
keycount_simple = refl

pub keycount_free : is_simple_and_free keycount_app ≡ true
unfolding clap_on_literals
keycount_free = refl

-- ---- building the commands

-- help texts change nothing that a parse reads
pub described : (c0 c1 c2 : Command) (x y : _) → out-Command c1 ≡ record (out-Command c0) { about = x } → out-Command c2 ≡ record (out-Command c1) { after_help = y }
    → out-Command c2 ≡ record (out-Command c0) { about = x; after_help = y }
described c0 c1 c2 x y h k = k ∙ ap (λ (f : Command-F Command). record f { after_help = y }) h

pub added : (old new : Command) (a : Arg) (app : App) (rule : Rule) → AddsArg old a new → IsCommand app old → rule_of a ≡ rule → a.global ≡ false → IsCommand (with_rule app rule) new
added old new a app rule adds is rule_is local = record {
  read_as = adds.shape local ∙ ap₂ with_rule is.read_as rule_is;
  local = adds.globals ∙ ap₂ (λ x y. x || y) is.local local;
}

pub top_settings : (c0 c1 c2 c3 : Command) (version : _) → app_of c0 ≡ new_app (codes "keycount")
    → out-Command c1 ≡ record (out-Command c0) { no_binary_name = true }
    → out-Command c2 ≡ record (out-Command c1) { subcommand_required = true }
    → out-Command c3 ≡ record (out-Command c2) { version = Some version }
    → app_of c3 ≡ keycount_top
top_settings c0 c1 c2 c3 version h k l m =
    let set = l ∙ ap (λ (f : Command-F Command). record f { subcommand_required = true }) k in
    ap app_of_fields (m ∙ ap (λ (f : Command-F Command). record f { version = Some version }) set)
    ∙ ap (λ (a : App). record a { top = record a.top { no_binary_name = true; subcommand_required = true; has_version = true } }) h

-- ---- what the getters return

pub flag_is : (o : Option Text) (given : Bool) → (o ≡ None → given ≡ false) → (o ≡ Some (codes "true") → given ≡ true) → (o ≡ Some (codes "false") → given ≡ false) → IsFlag o given
flag_is None given n y z = n refl
flag_is (Some t) given n y z = (λ e. y (ap Some e), λ e. z (ap Some e))

pub unsigned_of : (most : ℕ) (t : Text) → IsSignedIn (pos 1) (pos most) t
    → IsNumeral 10 (without_leading_plus t) × (1 ≤ digits_value 10 (without_leading_plus t)) × (digits_value 10 (without_leading_plus t) ≤ most)
unsigned_of most t passed = go (starts_with_minus t) refl
  where
    go : (b : Bool) → starts_with_minus t ≡ b → IsNumeral 10 (without_leading_plus t) × (1 ≤ digits_value 10 (without_leading_plus t)) × (digits_value 10 (without_leading_plus t) ≤ most)
    go true minus =
        let low_ok = rw minus at passed.2 in
        absurd (omega (arith, ints))
    go false minus =
        let numeral = rw minus at passed.0 in
        let low_ok = rw minus at passed.2 in
        let high_ok = rw minus at passed.3 in
        (numeral, omega (arith, ints), omega (arith, ints))

pub number_in : (o : Option Text) (default most n : ℕ) → (1 ≤ default) × (default ≤ most) → IsOptionalNumber o most → IsNumber o default n → (1 ≤ n) × (n ≤ most)
number_in None default most n fits reads is = rw is fits
number_in (Some t) default most n fits reads is =
    let number = unsigned_of most t reads in
    rw is.1 (number.1, number.2)

pub number_if_given : (o : Option Text) (most : ℕ) (n : Option ℕ) → IsOptionalNumber o most → IsNumberIfGiven o n → IfSome n (λ k. (1 ≤ k) × (k ≤ most))
number_if_given None most n reads is = rw is tt
number_if_given (Some t) most n reads is =
    let number = unsigned_of most t reads in
    rw (is.1, is.2.1) (number.1, number.2)

-- ---- lists of rows and rules

abbrev Each : {X : Type 0} → (X → Type 0) → List X → Type 0
Each P [] = ⊤
Each P (x ∷ xs) = P x × Each P xs

found_is : {X : Type 0} (P : X → Type 0) (p : X → Bool) (xs : List X) (x : X) → Each P xs → find p xs ≡ Some x → P x × (p x ≡ true)
found_is P p [] x all e = let no : ⊥ = cc in absurd no
found_is P p (y ∷ ys) x all e = go (p y) refl e (found_is P p ys x all.1)
  where
    go : (b : Bool) → p y ≡ b → cond b (Some y) (find p ys) ≡ Some x → (find p ys ≡ Some x → P x × (p x ≡ true)) → P x × (p x ≡ true)
    go true t h more =
        let same : y ≡ x = cc in
        subst (λ z. P z × (p z ≡ true)) same (all.0, t)
    go false t h more = more h

none_of : (a b : Kinds) → or_else a b ≡ [] → (a ≡ []) × (b ≡ [])
none_of [] b e = (refl, e)
none_of (k ∷ ks) b e = let no : ⊥ = cc in absurd no

some_kind : (k : ErrorKind) (ks : Kinds) → k ∷ ks ≡ [] → ⊥
some_kind k ks e = cc

-- no row has the id, so a new one goes to the end
joined : (P : Row → Type 0) (id : Text) (change : Row → List Row) (missing rows : List Row) → has_row id rows ≡ false → Each P rows → Each P missing → Each P (at_row id change missing rows)
joined P id change missing [] e all more = more
joined P id change missing (r ∷ rs) e all more = go (bytes_eq r.id id) e (λ f. joined P id change missing rs f all.1 more)
  where
    go : (b : Bool) → (b || has_row id rs) ≡ false → (has_row id rs ≡ false → Each P (at_row id change missing rs)) → Each P (cond b (change r ++ rs) (r ∷ at_row id change missing rs))
    go true e rest = absurd (true≢false e)
    go false e rest = (all.0, rest e)

without_none : (id : Text) (rows : List Row) → has_row id rows ≡ false → without id rows ≡ rows
without_none id [] e = refl
without_none id (r ∷ rs) e = go (bytes_eq r.id id) e (without_none id rs)
  where
    go : (b : Bool) → (b || has_row id rs) ≡ false → (has_row id rs ≡ false → without id rs ≡ rs) → cond b ([] ++ rs) (r ∷ without id rs) ≡ r ∷ rs
    go true e rest = absurd (true≢false e)
    go false e rest = ap (λ xs. r ∷ xs) (rest e)

-- a use of an argument that may not be repeated, with its first value checked, adds one row
set_use : (P : Row → Type 0) (a : Rule) (v : Text) (vs : List Text) (rows : List Row) → set_fault false a (v ∷ vs) rows ≡ []
    → (accepts a.ignore_case (parser_of_value a.parser) v ≡ true → P (record { id = a.id; values = v ∷ vs; count = None; source = Some CommandLine; reading = reading_by a }))
    → Each P rows → Each P (with_values a.id (reading_by a) CommandLine (v ∷ vs) (without a.id rows))
set_use P a v vs rows e row all =
    let parts = none_of _ _ e in
    let fresh : has_row a.id rows ≡ false = no_repeat (has_row a.id rows) parts.0 in
    let tested = none_of _ _ parts.1 in
    let same = without_none a.id rows fresh in
    subst (λ (xs : List Row). Each P (with_values a.id (reading_by a) CommandLine (v ∷ vs) xs)) (sym same)
    (joined P a.id (more_values CommandLine (v ∷ vs)) _ rows fresh all (row (passed _ (accepts a.ignore_case (parser_of_value a.parser) v) tested.0), tt))
  where
    no_repeat : (b : Bool) → cond (b && true) (kind.ArgumentConflict ∷ []) [] ≡ [] → b ≡ false
    no_repeat true e = absurd (some_kind _ _ e)
    no_repeat false e = refl

    passed : (k : ErrorKind) (b : Bool) → cond b [] (k ∷ []) ≡ [] → b ≡ true
    passed k true e = refl
    passed k false e = absurd (some_kind _ _ e)

level_parts : (s : Shape) (names : Names) (words : List Text) (has : Bool) (below : Kinds) → level_fault s names nothing_held words has below ≡ []
    → (walk_fault s names (walk_from nothing_held) words ≡ []) × (below ≡ []) × (check_fault s (rows_after s.rules names words) has ≡ [])
level_parts s names words has below e =
    let end = (walk s.rules names nothing_held words).held in
    let walk_ok = none_of (walk_fault s names (walk_from nothing_held) words) _ e in
    let below_ok = none_of below _ walk_ok.1 in
    let settle_ok = none_of (settle_fault s.rules s.args_override_self end) _ below_ok.1 in
    let default_ok = none_of (defaults_fault (settled s.rules end).rows s.rules) _ settle_ok.1 in
    (walk_ok.0, below_ok.0, default_ok.1)

-- ---- an invariant of each use is one of an accepted walk

module _ (P : Row → Type 0) (s : Shape) where
  abbrev Preserves : Rule → Type 0
  Preserves a = (values : List Text) (rows : List Row) → use_fault s.args_override_self a values rows ≡ [] → Each P rows → Each P (used a values rows)

  abbrev PreservesIf : Option Rule → Type 0
  PreservesIf o = (a : Rule) → o ≡ Some a → Preserves a

  abbrev PreservesDefault : Rule → Type 0
  PreservesDefault a = (rows : List Row) → Each P rows → Each P (with_default rows a)

  defaults_preserve : (cs : List Rule) (rows : List Row) → Each PreservesDefault cs → Each P rows → Each P (fold with_default rows cs)
  defaults_preserve [] rows k r = r
  defaults_preserve (a ∷ rest) rows k r = defaults_preserve rest (with_default rows a) k.1 (k.0 rows r)

  by_rule : (o : Option Rule) (values : List Text) (rows : List Row) → PreservesIf o
      → option_map_or (λ a. use_fault s.args_override_self a values rows) o [] ≡ [] → Each P rows → Each P (used_by_id o values rows)
  by_rule None values rows k e r = r
  by_rule (Some a) values rows k e r = k a refl values rows e r

  module _ (rules : Each Preserves s.rules) where
    settles : (o : Option (Text × List Text)) (rows : List Row)
        → option_map_or (λ p. option_map_or (λ a. use_fault s.args_override_self a p.1 rows) (arg_by_id s.rules p.0) []) o [] ≡ [] → Each P rows → Each P (settled_rows s.rules o rows)
    settles None rows e r = r
    settles (Some p) rows e r = by_rule (arg_by_id s.rules p.0) p.1 rows (λ a is. (found_is Preserves _ s.rules a rules is).0) e r

    reacts : (a : Rule) → Preserves a → (values : List Text) (h : Held) → react_fault s.rules s.args_override_self a values h ≡ [] → Each P h.rows → Each P (reacted s.rules a values h).rows
    reacts a k values h e r =
        let parts = none_of _ _ e in
        k values (settled s.rules h).rows parts.1 (settles h.pending h.rows parts.0 r)

    option_preserves : (a : Rule) → Preserves a → (v : Option Text) (h : Held) → option_fault s.rules s.args_override_self a v h ≡ [] → Each P h.rows → Each P (option_met s.rules a v h).0.rows
    option_preserves a k (Some v) h e r = reacts a k (v ∷ []) h e r
    option_preserves a k None h e r = settles h.pending h.rows e r

    flag_preserves : (a : Rule) → Preserves a → (v : Option Text) (h : Held) → cond (is_some v) (kind.TooManyValues ∷ []) (react_fault s.rules s.args_override_self a [] h) ≡ []
        → Each P h.rows → Each P (flag_met s.rules a v h).0.rows
    flag_preserves a k (Some v) h e r = r
    flag_preserves a k None h e r = reacts a k [] h e r

    long_preserves : (o : Option Rule) → PreservesIf o → (v : Option Text) (h : Held) → long_fault s.rules s.args_override_self o v h ≡ [] → Each P h.rows → Each P (long_met s.rules o v h).0.rows
    long_preserves None k v h e r = absurd (some_kind _ _ e)
    long_preserves (Some a) k v h e r = go (takes_values a) e
      where
        go : (b : Bool) → cond b (option_fault s.rules s.args_override_self a v h) (cond (is_some v) (kind.TooManyValues ∷ []) (react_fault s.rules s.args_override_self a [] h)) ≡ []
            → Each P (cond b (option_met s.rules a v h) (flag_met s.rules a v h)).0.rows
        go true e = option_preserves a (k a refl) v h e r
        go false e = flag_preserves a (k a refl) v h e r

    short_preserves : (o : Option Rule) → PreservesIf o → (rest : Text) (h : Held) (met : Held → Held × Outcome) (fault : Held → Kinds)
        → ((g : Held) → fault g ≡ [] → Each P g.rows → Each P (met g).0.rows)
        → short_fault s.rules s.args_override_self o rest h fault ≡ [] → Each P h.rows → Each P (short_met s.rules o rest h met).0.rows
    short_preserves None k rest h met fault more e r = absurd (some_kind _ _ e)
    short_preserves (Some a) k rest h met fault more e r = go (takes_values a) e
      where
        go : (b : Bool) → cond b (option_fault s.rules s.args_override_self a (attached_value rest) h)
            (or_else (react_fault s.rules s.args_override_self a [] h) (fault (reacted s.rules a [] h))) ≡ []
            → Each P (cond b (option_met s.rules a (attached_value rest) h) (met (reacted s.rules a [] h))).0.rows
        go true e = option_preserves a (k a refl) (attached_value rest) h e r
        go false e =
            let parts = none_of _ _ e in
            more (reacted s.rules a [] h) parts.1 (reacts a (k a refl) [] h parts.0 r)

    bundle_preserves : (n : ℕ) (flags : Text) (skip : ℕ) (so_far : Outcome) (h : Held) → flags_fault s.rules s.args_override_self n flags skip h ≡ [] → Each P h.rows
        → Each P (bundle_met s.rules n flags skip so_far h).0.rows
    unfolding bundle_met flags_fault
    bundle_preserves zero flags skip so_far h e r = r
    bundle_preserves (suc n) flags skip so_far h e r = go (slice_get (chars flags) 0) skip e (bundle_preserves n)
      where
        go : (x : Option ℕ) (skip : ℕ) → bundle_step_fault s.rules s.args_override_self x flags skip h (flags_fault s.rules s.args_override_self n) ≡ []
            → ((flags : Text) (skip : ℕ) (so_far : Outcome) (h : Held) → flags_fault s.rules s.args_override_self n flags skip h ≡ [] → Each P h.rows
            → Each P (bundle_met s.rules n flags skip so_far h).0.rows)
            → Each P (bundle_step s.rules x flags skip so_far h (bundle_met s.rules n)).0.rows
        go None skip e more = r
        go (Some x) zero e more =
            let rest = drop (length (encode_utf8 x)) flags in
            short_preserves (arg_by_short s.rules x) (λ a is. (found_is Preserves _ s.rules a rules is).0) rest h (bundle_met s.rules n rest 0 done)
            (flags_fault s.rules s.args_override_self n rest 0) (λ g f q. more rest 0 done g f q) e r
        go (Some x) (suc k) e more = more (drop (length (encode_utf8 x)) flags) k so_far h e r

    plain_preserves : (w : Waiting) (word : Text) (h : Held) → Each P h.rows → Each P (plain_word s.rules w word h).0.rows
    plain_preserves idle word h r = r
    plain_preserves positional word h r = r
    plain_preserves (option id) word h r = go (arg_by_id s.rules id)
      where
        go : (o : Option Rule) → Each P (option_word o id word h).0.rows
        go None = r
        go (Some a) = r

    flag_rows : (o : Outcome) (w : Waiting) (word : Text) (h : Held) → Each P h.rows → Each P (after_flag s.rules w word h o).0.rows
    flag_rows done w word h r = r
    flag_rows (waits id) w word h r = r
    flag_rows plain w word h r = plain_preserves w word h r
    flag_rows refused w word h r = plain_preserves w word h r

    other_preserves : (o : Option (Text × Option Text)) (w : Waiting) (word : Text) (h : Held) → flag_word_fault s.rules s.args_override_self o word h ≡ [] → Each P h.rows
        → Each P (long_or_other s.rules w word o h).0.rows
    other_preserves (Some p) w word h e r =
        flag_rows (long_met s.rules (arg_by_long s.rules p.0) p.1 h).1 w word _ (long_preserves (arg_by_long s.rules p.0) (λ a is. (found_is Preserves _ s.rules a rules is).0) p.1 h e r)
    other_preserves None w word h e r = go (short_of word) e
      where
        go : (o : Option Text) → option_map_or (λ flags. bundle_fault s.rules s.args_override_self flags h) o [] ≡ [] → Each P (short_or_plain s.rules w word o h).0.rows
        go None e = plain_preserves w word h r
        go (Some flags) e =
            flag_rows (bundle s.rules flags h).1 w word _ (bundle_preserves (length flags) flags h.skip plain (record h { skip = 0 }) e r)

    named_preserves : (o : Option Text) (w : Waiting) (position : ℕ) (word : Text) (h : Held) → other_fault s o word h ≡ [] → Each P h.rows
        → Each P (subcommand_or_other s.rules o w position word h).0.rows
    named_preserves (Some name) w position word h e r = r
    named_preserves None w position word h e r = go (bytes_eq word (45 ∷ 45 ∷ [])) e
      where
        go : (b : Bool) → cond b [] (flag_word_fault s.rules s.args_override_self (long_of word) word h) ≡ []
            → Each P (cond b (h, trailing position) (long_or_other s.rules w word (long_of word) h)).0.rows
        go true e = r
        go false e = other_preserves (long_of word) w word h e r

    word_preserves : (is_trailing : Bool) (names : Names) (w : Waiting) (position : ℕ) (word : Text) (h : Held) → word_fault s names is_trailing w word h ≡ [] → Each P h.rows
        → Each P (word_met s.rules names is_trailing w position word h).0.rows
    word_preserves true names w position word h e r = r
    word_preserves false names w position word h e r = named_preserves (subcommand_met names w word) w position word h e r

    positional_preserves : (o : Option Rule) (w : Walk) (word : Text) (h : Held) → option_map_or (λ a. positional_fault s.rules s.args_override_self a h) o (stray_fault s) ≡ [] → Each P h.rows
        → Each P (to_positional s.rules o word w h).held.rows
    positional_preserves None w word h e r = r
    positional_preserves (Some a) w word h e r = go (is_pending a h.pending && takes_several a) e
      where
        go : (b : Bool) → cond b [] (settle_fault s.rules s.args_override_self h) ≡ [] → Each P (cond b h (settled s.rules h)).rows
        go true e = r
        go false e = settles h.pending h.rows e r

    step_preserves : (step : Step) (w : Walk) (word : Text) (h : Held) → step_fault s w.position h step ≡ [] → Each P h.rows → Each P (after_step s.rules word w h step).held.rows
    step_preserves (next waiting) w word h e r = r
    step_preserves (trailing position) w word h e r = r
    step_preserves (subcommand name) w word h e r = r
    step_preserves value w word h e r = positional_preserves (arg_by_index s.rules w.position) w word h e r

    turn_preserves : (names : Names) (o : Option (Text × List Text)) (w : Walk) (word : Text)
        → cond (is_some o) [] (or_else (word_fault s names w.is_trailing w.waiting word w.held)
        (step_fault s w.position (word_met s.rules names w.is_trailing w.waiting w.position word w.held).0 (word_met s.rules names w.is_trailing w.waiting w.position word w.held).1)) ≡ []
        → Each P w.held.rows → Each P (walked_from s.rules names o w word).held.rows
    turn_preserves names (Some p) w word e r = r
    turn_preserves names None w word e r =
        let parts = none_of _ _ e in
        step_preserves _ w word _ parts.1 (word_preserves w.is_trailing names w.waiting w.position word w.held parts.0 r)

    walk_preserves : (names : Names) (words : List Text) (w : Walk) → walk_fault s names w words ≡ [] → Each P w.held.rows → Each P (fold (walked s.rules names) w words).held.rows
    unfolding walk_fault walked
    walk_preserves names [] w e r = r
    walk_preserves names (word ∷ rest) w e r =
        let parts = none_of _ _ e in
        walk_preserves names rest (walked s.rules names w word) parts.1 (turn_preserves names w.stopped w word parts.0 r)

    level_preserves : (words : List Text) (has : Bool) (below : Kinds) → Each PreservesDefault s.rules → level_fault s [] nothing_held words has below ≡ [] → Each P (rows_after s.rules [] words)
    level_preserves words has below defaults e =
        let walk_ok = none_of _ _ e in
        let below_ok = none_of below _ walk_ok.1 in
        let settle_ok = none_of _ _ below_ok.1 in
        let end = (walk s.rules [] nothing_held words).held in
        defaults_preserve s.rules _ defaults (settles end.pending end.rows settle_ok.0 (walk_preserves [] words (walk_from nothing_held) walk_ok.0 tt))

-- ---- where the walk of the program stops

module _ (s : Shape) (names : Names) (helps : not s.disable_help_subcommand ≡ true) where
  abbrev NotHelp : Option (Text × List Text) → Type 0
  NotHelp None = ⊤
  NotHelp (Some p) = bytes_eq p.0 (codes "help") ≡ false

  abbrev NotToHelp : Step → Type 0
  NotToHelp (next waiting) = ⊤
  NotToHelp (trailing position) = ⊤
  NotToHelp (subcommand name) = bytes_eq name (codes "help") ≡ false
  NotToHelp value = ⊤

  plain_step : (w : Waiting) (word : Text) (h : Held) → NotToHelp (plain_word s.rules w word h).1
  plain_step idle word h = tt
  plain_step positional word h = tt
  plain_step (option id) word h = tt

  flag_step : (o : Outcome) (w : Waiting) (word : Text) (h : Held) → NotToHelp (after_flag s.rules w word h o).1
  flag_step done w word h = tt
  flag_step (waits id) w word h = tt
  flag_step plain w word h = plain_step w word h
  flag_step refused w word h = plain_step w word h

  other_step : (o : Option (Text × Option Text)) (w : Waiting) (word : Text) (h : Held) → NotToHelp (long_or_other s.rules w word o h).1
  other_step (Some p) w word h = flag_step (long_met s.rules (arg_by_long s.rules p.0) p.1 h).1 w word _
  other_step None w word h = go (short_of word)
    where
      go : (o : Option Text) → NotToHelp (short_or_plain s.rules w word o h).1
      go None = plain_step w word h
      go (Some flags) = flag_step (bundle s.rules flags h).1 w word _

  named_step : (o : Option Text) (w : Waiting) (position : ℕ) (word : Text) (h : Held) → other_fault s o word h ≡ [] → NotToHelp (subcommand_or_other s.rules o w position word h).1
  named_step (Some name) w position word h e = go (bytes_eq name (codes "help")) (not s.disable_help_subcommand) helps e
    where
      go : (b d : Bool) → d ≡ true → cond (b && d) (kind.DisplayHelp ∷ kind.InvalidSubcommand ∷ []) [] ≡ [] → b ≡ false
      go true true t e = absurd (some_kind _ _ e)
      go true false t e = absurd (true≢false (sym t))
      go false d t e = refl
  named_step None w position word h e = go (bytes_eq word (45 ∷ 45 ∷ []))
    where
      go : (b : Bool) → NotToHelp (cond b (h, trailing position) (long_or_other s.rules w word (long_of word) h)).1
      go true = tt
      go false = other_step (long_of word) w word h

  word_step : (is_trailing : Bool) (w : Waiting) (position : ℕ) (word : Text) (h : Held) → word_fault s names is_trailing w word h ≡ [] → NotToHelp (word_met s.rules names is_trailing w position word h).1
  word_step true w position word h e = tt
  word_step false w position word h e = named_step (subcommand_met names w word) w position word h e

  after_stop : (step : Step) (w : Walk) (word : Text) (h : Held) → NotHelp w.stopped → NotToHelp step → NotHelp (after_step s.rules word w h step).stopped
  after_stop (next waiting) w word h r t = r
  after_stop (trailing position) w word h r t = r
  after_stop (subcommand name) w word h r t = t
  after_stop value w word h r t = go (arg_by_index s.rules w.position)
    where
      go : (o : Option Rule) → NotHelp (to_positional s.rules o word w h).stopped
      go None = r
      go (Some a) = tt

  turn_stop : (o : Option (Text × List Text)) (w : Walk) (word : Text)
      → cond (is_some o) [] (or_else (word_fault s names w.is_trailing w.waiting word w.held)
      (step_fault s w.position (word_met s.rules names w.is_trailing w.waiting w.position word w.held).0 (word_met s.rules names w.is_trailing w.waiting w.position word w.held).1)) ≡ []
      → w.stopped ≡ o → NotHelp o → NotHelp (walked_from s.rules names o w word).stopped
  turn_stop (Some p) w word e is r = r
  turn_stop None w word e is r =
      let parts = none_of _ _ e in
      after_stop _ w word _ (subst NotHelp (sym is) tt) (word_step w.is_trailing w.waiting w.position word w.held parts.0)

  walk_stop : (words : List Text) (w : Walk) → walk_fault s names w words ≡ [] → NotHelp w.stopped → NotHelp (fold (walked s.rules names) w words).stopped
  unfolding walk_fault walked
  walk_stop [] w e r = r
  walk_stop (word ∷ rest) w e r =
      let parts = none_of _ _ e in
      walk_stop rest (walked s.rules names w word) parts.1 (turn_stop w.stopped w word parts.0 refl r)

-- ---- what clap has checked of the subcommands

abbrev keycount_built : App
keycount_built = built keycount_app

abbrev shape_at : ℕ → Shape
shape_at k = unwrap_or (slice_get keycount_built.subs k) keycount_top.top

abbrev count_shape : Shape
count_shape = shape_at 0

abbrev place_shape : Shape
place_shape = shape_at 1

abbrev replay_shape : Shape
replay_shape = shape_at 2

abbrev trace_shape : Shape
trace_shape = shape_at 3

abbrev draw_shape : Shape
draw_shape = shape_at 4

abbrev run_shape : Shape
run_shape = shape_at 5

abbrev check_shape : Shape
check_shape = shape_at 6

abbrev explain_shape : Shape
explain_shape = shape_at 7

abbrev help_shape : Shape
help_shape = shape_at 8

abbrev Named : Text → ℕ → Row → Type 0
Named name most r = bytes_eq r.id name ≡ true → IsOptionalNumber (slice_get r.values 0) most

-- the row has a value; that of a numeric option is a number in range
abbrev RowPasses : Row → Type 0
RowPasses r =
    IsSome (slice_get r.values 0) × Named (codes "partitions") 4096 r × Named (codes "batch") 1000000 r × Named (codes "top") 4294967295 r
    × Named (codes "given") 65535 r × Named (codes "most") 4294967295 r

abbrev count_rule : ℕ → Rule
count_rule k = unwrap_or (slice_get count_shape.rules k) (path (codes "file"))

abbrev replay_rule : ℕ → Rule
replay_rule k = unwrap_or (slice_get replay_shape.rules k) (path (codes "file"))

other : {A : Type 0} → false ≡ true → A
other e = absurd (true≢false (sym e))

abbrev PreservesRows : Rule → Type 0
PreservesRows = Preserves RowPasses count_shape

file_preserves : PreservesRows (count_rule 0)
file_preserves [] rows e r = absurd (some_kind _ _ e)
file_preserves (v ∷ vs) rows e r = set_use RowPasses (count_rule 0) v vs rows (none_of _ _ e).1 (λ ok. (refl, (λ f. other f), (λ f. other f), (λ f. other f), (λ f. other f), (λ f. other f))) r

script_preserves : PreservesRows (replay_rule 1)
script_preserves [] rows e r = absurd (some_kind _ _ e)
script_preserves (v ∷ vs) rows e r = set_use RowPasses (replay_rule 1) v vs rows (none_of _ _ e).1 (λ ok. (refl, (λ f. other f), (λ f. other f), (λ f. other f), (λ f. other f), (λ f. other f))) r

partitions_preserves : PreservesRows (count_rule 1)
partitions_preserves [] rows e r = absurd (some_kind _ _ e)
partitions_preserves (v ∷ vs) rows e r =
    set_use RowPasses (count_rule 1) v vs rows (none_of _ _ e).1 (λ ok. (refl, (λ _. accepts-Accepts false (parser.Signed (pos 1) (pos 4096)) v ok), (λ f. other f), (λ f. other f), (λ f. other f), (λ f. other f))) r

column_preserves : PreservesRows (count_rule 2)
column_preserves [] rows e r = absurd (some_kind _ _ e)
column_preserves (v ∷ vs) rows e r = set_use RowPasses (count_rule 2) v vs rows (none_of _ _ e).1 (λ ok. (refl, (λ f. other f), (λ f. other f), (λ f. other f), (λ f. other f), (λ f. other f))) r

header_preserves : PreservesRows (count_rule 3)
header_preserves [] rows e r = set_use RowPasses (count_rule 3) (codes "true") [] rows e (λ ok. (refl, (λ f. other f), (λ f. other f), (λ f. other f), (λ f. other f), (λ f. other f))) r
header_preserves (v ∷ vs) rows e r = set_use RowPasses (count_rule 3) v vs rows (none_of _ _ e).1 (λ ok. (refl, (λ f. other f), (λ f. other f), (λ f. other f), (λ f. other f), (λ f. other f))) r

topics_preserves : PreservesRows (count_rule 4)
topics_preserves [] rows e r = absurd (some_kind _ _ e)
topics_preserves (v ∷ vs) rows e r = set_use RowPasses (count_rule 4) v vs rows (none_of _ _ e).1 (λ ok. (refl, (λ f. other f), (λ f. other f), (λ f. other f), (λ f. other f), (λ f. other f))) r

topic_column_preserves : PreservesRows (count_rule 5)
topic_column_preserves [] rows e r = absurd (some_kind _ _ e)
topic_column_preserves (v ∷ vs) rows e r = set_use RowPasses (count_rule 5) v vs rows (none_of _ _ e).1 (λ ok. (refl, (λ f. other f), (λ f. other f), (λ f. other f), (λ f. other f), (λ f. other f))) r

delimiter_preserves : PreservesRows (count_rule 6)
delimiter_preserves [] rows e r = absurd (some_kind _ _ e)
delimiter_preserves (v ∷ vs) rows e r = set_use RowPasses (count_rule 6) v vs rows (none_of _ _ e).1 (λ ok. (refl, (λ f. other f), (λ f. other f), (λ f. other f), (λ f. other f), (λ f. other f))) r

top_preserves : PreservesRows (count_rule 7)
top_preserves [] rows e r = absurd (some_kind _ _ e)
top_preserves (v ∷ vs) rows e r =
    set_use RowPasses (count_rule 7) v vs rows (none_of _ _ e).1 (λ ok. (refl, (λ f. other f), (λ f. other f), (λ _. accepts-Accepts false (parser.Signed (pos 1) (pos 4294967295)) v ok), (λ f. other f), (λ f. other f))) r

batch_preserves : PreservesRows (replay_rule 8)
batch_preserves [] rows e r = absurd (some_kind _ _ e)
batch_preserves (v ∷ vs) rows e r =
    set_use RowPasses (replay_rule 8) v vs rows (none_of _ _ e).1 (λ ok. (refl, (λ f. other f), (λ _. accepts-Accepts false (parser.Signed (pos 1) (pos 1000000)) v ok), (λ f. other f), (λ f. other f), (λ f. other f))) r

help_preserves : PreservesRows (count_rule 8)
help_preserves values rows e r = absurd (some_kind _ _ (none_of _ _ e).1)

abbrev DefaultPreservesRows : Rule → Type 0
DefaultPreservesRows = PreservesDefault RowPasses count_shape

no_default : (b : Bool) (rows : List Row) → Each RowPasses rows → Each RowPasses (cond b rows rows)
no_default true rows r = r
no_default false rows r = r

-- the row does not have topics; that of the code is a number in range
abbrev ExplainRowPasses : Row → Type 0
ExplainRowPasses r = Named (codes "code") 90 r × (bytes_eq r.id (codes "topics") ≡ false)

abbrev explain_rule : ℕ → Rule
explain_rule k = unwrap_or (slice_get explain_shape.rules k) (path (codes "file"))

code_preserves : Preserves ExplainRowPasses explain_shape (explain_rule 0)
code_preserves [] rows e r = absurd (some_kind _ _ e)
code_preserves (v ∷ vs) rows e r =
    set_use ExplainRowPasses (explain_rule 0) v vs rows (none_of _ _ e).1 (λ ok. ((λ _. accepts-Accepts false (parser.Signed (pos 1) (pos 90)) v ok), refl)) r

help_of_explain_preserves : Preserves ExplainRowPasses explain_shape (explain_rule 1)
help_of_explain_preserves values rows e r = absurd (some_kind _ _ (none_of _ _ e).1)

no_explain_default : (b : Bool) (rows : List Row) → Each ExplainRowPasses rows → Each ExplainRowPasses (cond b rows rows)
no_explain_default true rows r = r
no_explain_default false rows r = r

explain_preserves : Each (Preserves ExplainRowPasses explain_shape) explain_shape.rules
explain_preserves = (code_preserves, (help_of_explain_preserves, tt))

explain_defaults : Each (PreservesDefault ExplainRowPasses explain_shape) explain_shape.rules
explain_defaults = ((λ rows r. no_explain_default (has_row (codes "code") rows) rows r), ((λ rows r. no_explain_default (has_row (codes "help") rows) rows r), tt))

no_topics_passes : (rows : List Row) → Each ExplainRowPasses rows → first_of (codes "topics") rows ≡ None
no_topics_passes rows all = go (find (λ r. bytes_eq r.id (codes "topics")) rows) (λ r e. found_is ExplainRowPasses _ rows r all e)
  where
    go : (o : Option Row) → ((r : Row) → o ≡ Some r → ExplainRowPasses r × (bytes_eq r.id (codes "topics") ≡ true)) → option_and_then (λ r. slice_get r.values 0) o ≡ None
    go None at = refl
    go (Some r) at = absurd (true≢false (sym (at r refl).1 ∙ (at r refl).0.1))

header_default : DefaultPreservesRows (count_rule 3)
header_default rows r = go (has_row (codes "header") rows) refl
  where
    go : (b : Bool) → has_row (codes "header") rows ≡ b → Each RowPasses (cond b rows (default_rows (codes "header") (reading_by (count_rule 3)) (codes "false" ∷ []) rows))
    go true e = r
    go false e = joined RowPasses (codes "header") (more_values DefaultValue (codes "false" ∷ [])) (record { id = codes "header"; values = codes "false" ∷ []; count = None; source = Some DefaultValue; reading = reading_by (count_rule 3) } ∷ []) rows e r ((refl, (λ f. other f), (λ f. other f), (λ f. other f), (λ f. other f), (λ f. other f)), tt)

abbrev place_rule : ℕ → Rule
place_rule k = unwrap_or (slice_get place_shape.rules k) (path (codes "file"))

keys_preserves : PreservesRows (place_rule 7)
keys_preserves [] rows e r = set_use RowPasses (place_rule 7) (codes "true") [] rows e (λ ok. (refl, (λ f. other f), (λ f. other f), (λ f. other f), (λ f. other f), (λ f. other f))) r
keys_preserves (v ∷ vs) rows e r = set_use RowPasses (place_rule 7) v vs rows (none_of _ _ e).1 (λ ok. (refl, (λ f. other f), (λ f. other f), (λ f. other f), (λ f. other f), (λ f. other f))) r

given_preserves : PreservesRows (place_rule 8)
given_preserves [] rows e r = absurd (some_kind _ _ e)
given_preserves (v ∷ vs) rows e r =
    set_use RowPasses (place_rule 8) v vs rows (none_of _ _ e).1 (λ ok. (refl, (λ f. other f), (λ f. other f), (λ f. other f), (λ _. accepts-Accepts false (parser.Signed (pos 1) (pos 65535)) v ok), (λ f. other f))) r

flag_default : (P : Row → Type 0) (name : Text) (a : Rule) → P (record { id = name; values = codes "false" ∷ []; count = None; source = Some DefaultValue; reading = reading_by a }) → (rows : List Row) → Each P rows
    → Each P (cond (has_row name rows) rows (default_rows name (reading_by a) (codes "false" ∷ []) rows))
flag_default P name a passes rows r = go (has_row name rows) refl
  where
    go : (b : Bool) → has_row name rows ≡ b → Each P (cond b rows (default_rows name (reading_by a) (codes "false" ∷ []) rows))
    go true e = r
    go false e = joined P name (more_values DefaultValue (codes "false" ∷ [])) (record { id = name; values = codes "false" ∷ []; count = None; source = Some DefaultValue; reading = reading_by a } ∷ []) rows e r (passes, tt)

place_preserves : Each (Preserves RowPasses place_shape) place_shape.rules
place_preserves = (file_preserves, (partitions_preserves, (column_preserves, (header_preserves, (topics_preserves, (topic_column_preserves, (delimiter_preserves, (keys_preserves, (given_preserves, (help_preserves, tt))))))))))

place_defaults : Each (PreservesDefault RowPasses place_shape) place_shape.rules
place_defaults = ((λ rows r. no_default (has_row (codes "file") rows) rows r), ((λ rows r. no_default (has_row (codes "partitions") rows) rows r), ((λ rows r. no_default (has_row (codes "column") rows) rows r), (header_default, ((λ rows r. no_default (has_row (codes "topics") rows) rows r), ((λ rows r. no_default (has_row (codes "topic-column") rows) rows r), ((λ rows r. no_default (has_row (codes "delimiter") rows) rows r), (flag_default RowPasses (codes "keys") (place_rule 7) (refl, (λ f. other f), (λ f. other f), (λ f. other f), (λ f. other f), (λ f. other f)), ((λ rows r. no_default (has_row (codes "given") rows) rows r), ((λ rows r. no_default (has_row (codes "help") rows) rows r), tt))))))))))

abbrev check_rule : ℕ → Rule
check_rule k = unwrap_or (slice_get check_shape.rules k) (path (codes "file"))

script_of_check_preserves : PreservesRows (check_rule 1)
script_of_check_preserves [] rows e r = absurd (some_kind _ _ e)
script_of_check_preserves (v ∷ vs) rows e r = set_use RowPasses (check_rule 1) v vs rows (none_of _ _ e).1 (λ ok. (refl, (λ f. other f), (λ f. other f), (λ f. other f), (λ f. other f), (λ f. other f))) r

plan_preserves : PreservesRows (check_rule 8)
plan_preserves [] rows e r = set_use RowPasses (check_rule 8) (codes "true") [] rows e (λ ok. (refl, (λ f. other f), (λ f. other f), (λ f. other f), (λ f. other f), (λ f. other f))) r
plan_preserves (v ∷ vs) rows e r = set_use RowPasses (check_rule 8) v vs rows (none_of _ _ e).1 (λ ok. (refl, (λ f. other f), (λ f. other f), (λ f. other f), (λ f. other f), (λ f. other f))) r

most_preserves : PreservesRows (check_rule 9)
most_preserves [] rows e r = absurd (some_kind _ _ e)
most_preserves (v ∷ vs) rows e r =
    set_use RowPasses (check_rule 9) v vs rows (none_of _ _ e).1 (λ ok. (refl, (λ f. other f), (λ f. other f), (λ f. other f), (λ f. other f), (λ _. accepts-Accepts false (parser.Signed (pos 1) (pos 4294967295)) v ok))) r

check_preserves : Each (Preserves RowPasses check_shape) check_shape.rules
check_preserves = (file_preserves, (script_of_check_preserves, (partitions_preserves, (column_preserves, (header_preserves, (topics_preserves, (topic_column_preserves, (delimiter_preserves, (plan_preserves, (most_preserves, (help_preserves, tt)))))))))))

check_defaults : Each (PreservesDefault RowPasses check_shape) check_shape.rules
check_defaults = ((λ rows r. no_default (has_row (codes "file") rows) rows r), ((λ rows r. no_default (has_row (codes "script") rows) rows r), ((λ rows r. no_default (has_row (codes "partitions") rows) rows r), ((λ rows r. no_default (has_row (codes "column") rows) rows r), (header_default, ((λ rows r. no_default (has_row (codes "topics") rows) rows r), ((λ rows r. no_default (has_row (codes "topic-column") rows) rows r), ((λ rows r. no_default (has_row (codes "delimiter") rows) rows r), (flag_default RowPasses (codes "plan") (check_rule 8) (refl, (λ f. other f), (λ f. other f), (λ f. other f), (λ f. other f), (λ f. other f)), ((λ rows r. no_default (has_row (codes "most") rows) rows r), ((λ rows r. no_default (has_row (codes "help") rows) rows r), tt)))))))))))

count_preserves : Each (Preserves RowPasses count_shape) count_shape.rules
count_preserves = (file_preserves, (partitions_preserves, (column_preserves, (header_preserves, (topics_preserves, (topic_column_preserves, (delimiter_preserves, (top_preserves, (help_preserves, tt)))))))))

replay_preserves : Each (Preserves RowPasses replay_shape) replay_shape.rules
replay_preserves = (file_preserves, (script_preserves, (partitions_preserves, (column_preserves, (header_preserves, (topics_preserves, (topic_column_preserves, (delimiter_preserves, (batch_preserves, (top_preserves, (help_preserves, tt)))))))))))

trace_preserves : Each (Preserves RowPasses trace_shape) trace_shape.rules
trace_preserves = (file_preserves, (script_preserves, (partitions_preserves, (column_preserves, (header_preserves, (topics_preserves, (topic_column_preserves, (delimiter_preserves, (batch_preserves, (help_preserves, tt))))))))))

count_defaults : Each (PreservesDefault RowPasses count_shape) count_shape.rules
count_defaults = ((λ rows r. no_default (has_row (codes "file") rows) rows r), ((λ rows r. no_default (has_row (codes "partitions") rows) rows r), ((λ rows r. no_default (has_row (codes "column") rows) rows r), (header_default, ((λ rows r. no_default (has_row (codes "topics") rows) rows r), ((λ rows r. no_default (has_row (codes "topic-column") rows) rows r), ((λ rows r. no_default (has_row (codes "delimiter") rows) rows r), ((λ rows r. no_default (has_row (codes "top") rows) rows r), ((λ rows r. no_default (has_row (codes "help") rows) rows r), tt)))))))))

replay_defaults : Each (PreservesDefault RowPasses replay_shape) replay_shape.rules
replay_defaults = ((λ rows r. no_default (has_row (codes "file") rows) rows r), ((λ rows r. no_default (has_row (codes "script") rows) rows r), ((λ rows r. no_default (has_row (codes "partitions") rows) rows r), ((λ rows r. no_default (has_row (codes "column") rows) rows r), (header_default, ((λ rows r. no_default (has_row (codes "topics") rows) rows r), ((λ rows r. no_default (has_row (codes "topic-column") rows) rows r), ((λ rows r. no_default (has_row (codes "delimiter") rows) rows r), ((λ rows r. no_default (has_row (codes "batch") rows) rows r), ((λ rows r. no_default (has_row (codes "top") rows) rows r), ((λ rows r. no_default (has_row (codes "help") rows) rows r), tt)))))))))))

trace_defaults : Each (PreservesDefault RowPasses trace_shape) trace_shape.rules
trace_defaults = ((λ rows r. no_default (has_row (codes "file") rows) rows r), ((λ rows r. no_default (has_row (codes "script") rows) rows r), ((λ rows r. no_default (has_row (codes "partitions") rows) rows r), ((λ rows r. no_default (has_row (codes "column") rows) rows r), (header_default, ((λ rows r. no_default (has_row (codes "topics") rows) rows r), ((λ rows r. no_default (has_row (codes "topic-column") rows) rows r), ((λ rows r. no_default (has_row (codes "delimiter") rows) rows r), ((λ rows r. no_default (has_row (codes "batch") rows) rows r), ((λ rows r. no_default (has_row (codes "help") rows) rows r), tt))))))))))

first_passes : (name : Text) (rows : List Row) → Each RowPasses rows → IsSome (find (λ r. bytes_eq r.id name) rows) → IsSome (first_of name rows)
first_passes name rows all some = go (find (λ r. bytes_eq r.id name) rows) (λ r e. found_is RowPasses _ rows r all e) some
  where
    go : (o : Option Row) → ((r : Row) → o ≡ Some r → RowPasses r × (bytes_eq r.id name ≡ true)) → IsSome o → IsSome (option_and_then (λ r. slice_get r.values 0) o)
    go None at e = absurd (true≢false (sym e))
    go (Some r) at e = (at r refl).0.0

number_passes : (P : Row → Type 0) (name : Text) (most : ℕ) (rows : List Row) → Each P rows → ((r : Row) → P r → Named name most r) → IsOptionalNumber (first_of name rows) most
number_passes P name most rows all pick = go (find (λ r. bytes_eq r.id name) rows) (λ r e. found_is P _ rows r all e)
  where
    go : (o : Option Row) → ((r : Row) → o ≡ Some r → P r × (bytes_eq r.id name ≡ true)) → IsOptionalNumber (option_and_then (λ r. slice_get r.values 0) o) most
    go None at = tt
    go (Some r) at = pick r (at r refl).0 (at r refl).1

given_some : (name : Text) (rows : List Row) → is_given name rows ≡ true → IsSome (find (λ r. bytes_eq r.id name) rows)
given_some name rows e = go (find (λ r. bytes_eq r.id name) rows) e
  where
    go : (o : Option Row) → option_map_or (λ r. explicit_source r.source) o false ≡ true → IsSome o
    go None e = absurd (true≢false (sym e))
    go (Some r) e = refl

file_given : (rows : List Row) → check_fault count_shape rows false ≡ [] → is_given (codes "file") rows ≡ true
file_given rows e = go (is_given (codes "file") rows) e
  where
    go : (b : Bool) → check_kinds false false (not b || false) ≡ [] → b ≡ true
    go true e = refl
    go false e = absurd (some_kind _ _ e)

file_given_to_place : (rows : List Row) → check_fault place_shape rows false ≡ [] → is_given (codes "file") rows ≡ true
file_given_to_place rows e = go (is_given (codes "file") rows) e
  where
    go : (b : Bool) → check_kinds false false (not b || false) ≡ [] → b ≡ true
    go true e = refl
    go false e = absurd (some_kind _ _ e)

file_given_to_check : (rows : List Row) → check_fault check_shape rows false ≡ [] → is_given (codes "file") rows ≡ true
file_given_to_check rows e = go (is_given (codes "file") rows) e
  where
    go : (b : Bool) → check_kinds false false (not b || false) ≡ [] → b ≡ true
    go true e = refl
    go false e = absurd (some_kind _ _ e)

paths_given : (rows : List Row) → check_fault replay_shape rows false ≡ [] → (is_given (codes "file") rows ≡ true) × (is_given (codes "script") rows ≡ true)
paths_given rows e = go (is_given (codes "file") rows) (is_given (codes "script") rows) e
  where
    go : (b d : Bool) → check_kinds false false (not b || (not d || false)) ≡ [] → (b ≡ true) × (d ≡ true)
    go true true e = (refl, refl)
    go true false e = absurd (some_kind _ _ e)
    go false d e = absurd (some_kind _ _ e)

path_passes : (name : Text) (rows : List Row) → Each RowPasses rows → is_given name rows ≡ true → IsSome (first_of name rows)
path_passes name rows all given = first_passes name rows all (given_some name rows given)

options_pass : (rows : List Row) → Each RowPasses rows → AreOptionRows rows
options_pass rows all = record {
  partitions = number_passes RowPasses (codes "partitions") 4096 rows all (λ r passes. passes.1);
  top = number_passes RowPasses (codes "top") 4294967295 rows all (λ r passes. passes.3);
}

count_taken : (words : List Text) → level_fault count_shape [] nothing_held words false [] ≡ [] → AreCountRows (rows_after count_shape.rules [] words)
count_taken words e =
    let parts = level_parts count_shape [] words false [] e in
    let rows = rows_after count_shape.rules [] words in
    let all = level_preserves RowPasses count_shape count_preserves words false [] count_defaults e in
    record {
      file = path_passes (codes "file") rows all (file_given rows parts.2);
      options = options_pass rows all;
    }

place_taken : (words : List Text) → level_fault place_shape [] nothing_held words false [] ≡ [] → ArePlaceRows (rows_after place_shape.rules [] words)
place_taken words e =
    let parts = level_parts place_shape [] words false [] e in
    let rows = rows_after place_shape.rules [] words in
    let all = level_preserves RowPasses place_shape place_preserves words false [] place_defaults e in
    record {
      file = path_passes (codes "file") rows all (file_given_to_place rows parts.2);
      options = options_pass rows all;
      given = number_passes RowPasses (codes "given") 65535 rows all (λ r passes. passes.4);
    }

check_taken : (words : List Text) → level_fault check_shape [] nothing_held words false [] ≡ [] → AreCheckRows (rows_after check_shape.rules [] words)
check_taken words e =
    let parts = level_parts check_shape [] words false [] e in
    let rows = rows_after check_shape.rules [] words in
    let all = level_preserves RowPasses check_shape check_preserves words false [] check_defaults e in
    record {
      file = path_passes (codes "file") rows all (file_given_to_check rows parts.2);
      options = options_pass rows all;
      most = number_passes RowPasses (codes "most") 4294967295 rows all (λ r passes. passes.5);
    }

script_taken : (s : Shape) → Each (Preserves RowPasses s) s.rules → Each (PreservesDefault RowPasses s) s.rules
    → ((rows : List Row) → check_fault s rows false ≡ [] → (is_given (codes "file") rows ≡ true) × (is_given (codes "script") rows ≡ true))
    → (words : List Text) → level_fault s [] nothing_held words false [] ≡ [] → AreScriptRows (rows_after s.rules [] words)
script_taken s preserves defaults paths words e =
    let parts = level_parts s [] words false [] e in
    let rows = rows_after s.rules [] words in
    let all = level_preserves RowPasses s preserves words false [] defaults e in
    let given = paths rows parts.2 in
    record {
      file = path_passes (codes "file") rows all given.0;
      script = path_passes (codes "script") rows all given.1;
      options = options_pass rows all;
      batch = number_passes RowPasses (codes "batch") 1000000 rows all (λ r passes. passes.2);
    }

replay_taken : (words : List Text) → level_fault replay_shape [] nothing_held words false [] ≡ [] → AreScriptRows (rows_after replay_shape.rules [] words)
replay_taken = script_taken replay_shape replay_preserves replay_defaults paths_given

trace_taken : (words : List Text) → level_fault trace_shape [] nothing_held words false [] ≡ [] → AreScriptRows (rows_after trace_shape.rules [] words)
trace_taken = script_taken trace_shape trace_preserves trace_defaults paths_given

draw_taken : (words : List Text) → level_fault draw_shape [] nothing_held words false [] ≡ [] → AreScriptRows (rows_after draw_shape.rules [] words)
draw_taken = script_taken draw_shape trace_preserves trace_defaults paths_given

run_taken : (words : List Text) → level_fault run_shape [] nothing_held words false [] ≡ [] → AreScriptRows (rows_after run_shape.rules [] words)
run_taken = script_taken run_shape replay_preserves replay_defaults paths_given

explain_taken : (words : List Text) → level_fault explain_shape [] nothing_held words false [] ≡ [] → AreExplainRows (rows_after explain_shape.rules [] words)
explain_taken words e =
    let rows = rows_after explain_shape.rules [] words in
    let all = level_preserves ExplainRowPasses explain_shape explain_preserves words false [] explain_defaults e in
    record {
      code = number_passes ExplainRowPasses (codes "code") 90 rows all (λ r passes. passes.0);
      no_topics = no_topics_passes rows all;
    }

-- ---- the program

abbrev StopsElsewhere : Option (Text × List Text) → Type 0
StopsElsewhere = NotHelp keycount_built.top (names_of keycount_built) refl

not_named_help : (t : Text) → bytes_eq t (codes "help") ≡ false → answers_to t (codes "help", []) ≡ false
not_named_help t e = go (bytes_eq (codes "help") t) refl
  where
    go : (b : Bool) → bytes_eq (codes "help") t ≡ b → (b || false) ≡ false
    go false same = refl
    go true same =
        let is : codes "help" ≡ t = (bytes_eq-Decides (codes "help") t).0 same in
        absurd (true≢false (ap (λ u. bytes_eq u (codes "help")) is ∙ e))

job_entered : (stop : Option (Text × List Text)) → StopsElsewhere stop → is_some (entered keycount_built stop) ≡ true → entered_fault keycount_built stop ≡ []
    → (name : Text) × (rows : List Row) × (entered keycount_built stop ≡ Some (name, rows)) × AreRowsOf name rows
job_entered None help some e = absurd (true≢false (sym some))
job_entered (Some p) help some e =
    go (answers_to p.0 (label_of count_shape)) (answers_to p.0 (label_of place_shape)) (answers_to p.0 (label_of replay_shape)) (answers_to p.0 (label_of trace_shape)) (answers_to p.0 (label_of draw_shape)) (answers_to p.0 (label_of run_shape)) (answers_to p.0 (label_of check_shape)) (answers_to p.0 (label_of explain_shape)) (answers_to p.0 (label_of help_shape)) (not_named_help p.0 help) some e
  where
    found : (b l d t q r c x h : Bool) → Option Shape
    found b l d t q r c x h =
        cond b (Some count_shape)
        (cond l (Some place_shape) (cond d (Some replay_shape) (cond t (Some trace_shape) (cond q (Some draw_shape) (cond r (Some run_shape) (cond c (Some check_shape) (cond x (Some explain_shape) (cond h (Some help_shape) None))))))))

    go : (b l d t q r c x h : Bool) → h ≡ false → is_some (option_map (λ s. rows_at s p.1) (found b l d t q r c x h)) ≡ true
        → option_map_or (λ s. level_fault s [] nothing_held p.1 false []) (found b l d t q r c x h) [] ≡ []
        → (name : Text) × (rows : List Row) × (option_map (λ s. rows_at s p.1) (found b l d t q r c x h) ≡ Some (name, rows)) × AreRowsOf name rows
    go true l d t q r c x h other_no given e = (codes "count", rows_after count_shape.rules [] p.1, refl, inl (refl, count_taken p.1 e))
    go false true d t q r c x h other_no given e = (codes "place", rows_after place_shape.rules [] p.1, refl, inr (inr (inr (inl (refl, place_taken p.1 e)))))
    go false false true t q r c x h other_no given e = (codes "replay", rows_after replay_shape.rules [] p.1, refl, inr (inl (inl refl, replay_taken p.1 e)))
    go false false false true q r c x h other_no given e = (codes "trace", rows_after trace_shape.rules [] p.1, refl, inr (inl (inr (inl refl), trace_taken p.1 e)))
    go false false false false true r c x h other_no given e = (codes "draw", rows_after draw_shape.rules [] p.1, refl, inr (inl (inr (inr (inl refl)), draw_taken p.1 e)))
    go false false false false false true c x h other_no given e = (codes "run", rows_after run_shape.rules [] p.1, refl, inr (inl (inr (inr (inr refl)), run_taken p.1 e)))
    go false false false false false false true x h other_no given e = (codes "check", rows_after check_shape.rules [] p.1, refl, inr (inr (inr (inr (refl, check_taken p.1 e)))))
    go false false false false false false false true h other_no given e = (codes "explain", rows_after explain_shape.rules [] p.1, refl, inr (inr (inl (refl, explain_taken p.1 e))))
    go false false false false false false false false true other_no given e = absurd (true≢false other_no)
    go false false false false false false false false false other_no given e = absurd (true≢false (sym given))

subcommand_given : (rows : List Row) (has : Bool) → check_fault keycount_built.top rows has ≡ [] → has ≡ true
subcommand_given rows true e = refl
subcommand_given rows false e = absurd (some_kind _ _ e)

-- words that clap accepts name a job, with its arguments
pub taken_job : (words : List Text) → fault_of keycount_app words ≡ [] → (name : Text) × (rows : List Row) × (subcommand_of keycount_app words ≡ Some (name, rows)) × AreRowsOf name rows
taken_job words e =
    let stop = (walk keycount_built.top.rules (names_of keycount_built) nothing_held words).stopped in
    let parts = level_parts keycount_built.top (names_of keycount_built) words (is_some (entered keycount_built stop)) (entered_fault keycount_built stop) e in
    let elsewhere = walk_stop keycount_built.top (names_of keycount_built) refl words (walk_from nothing_held) parts.0 tt in
    job_entered stop elsewhere (subcommand_given (matches_of keycount_app words) _ parts.2) parts.1

pub reported : (words : List Text) (usage : Usage) (e : Error) (kinds : Kinds) → kinds ≡ fault_of keycount_app words → IsUsageOf usage (kind_of e) → HasKind kinds e → IsRefusal words usage
reported words (Help text) e kinds same reports (inl memory) =
    elim reports [
      | inl help ↦
          let no : ⊥ = cc in
          absurd no
      | inr version ↦
          let no : ⊥ = cc in
          absurd no
    ]
reported words (Help text) e kinds same reports (inr among) = (kind_of e, subst (λ ks. IsAmong (kind_of e) ks) same among, reports)
reported words (Bad text) e kinds same reports (inl memory) = absurd (reports.2 memory)
reported words (Bad text) e kinds same reports (inr among) = inl (kind_of e, subst (λ ks. IsAmong (kind_of e) ks) same among, reports.0, reports.1)
reported words Memory e kinds same reports has = tt

pub reports_bad_list : (rows : List Row) (usage : Usage) → IsBadList (first_of (codes "topics") rows) → IsBadListReport usage → ReportsBadList rows usage
reports_bad_list rows (Help text) bad reports = reports
reports_bad_list rows (Bad text) bad reports = (bad, reports)
reports_bad_list rows Memory bad reports = tt

-- a column that is not valid is an option that is not, where the list of topics is valid
pub column_is_bad_option : (rows : List Row) (usage : Usage) (topics : List Topic) (header : Bool) (given : Option Text) → AreTopicsOf (first_of (codes "topics") rows) topics
    → IsFlag (one_of (codes "header") rows) header → (IsBadColumn header given → IsBadColumn header (first_of (codes "column") rows) ⊎ IsBadColumn header (first_of (codes "topic-column") rows))
    → ReportsBadColumn header given usage → ReportsBadOption rows usage
column_is_bad_option rows (Help text) topics header given list flag side reports = reports
column_is_bad_option rows (Bad text) topics header given list flag side reports =
    inr (inl (record { topics = topics; list = list; header = header; is_header = flag; bad = side reports }))
column_is_bad_option rows Memory topics header given list flag side reports = tt

-- and so is a delimiter that is none
pub delimiter_is_bad_option : (rows : List Row) (usage : Usage) (topics : List Topic) → AreTopicsOf (first_of (codes "topics") rows) topics → ReportsBadDelimiter (first_of (codes "delimiter") rows) usage
    → ReportsBadOption rows usage
delimiter_is_bad_option rows (Help text) topics list reports = reports
delimiter_is_bad_option rows (Bad text) topics list reports = inr (inr (record { topics = topics; list = list; bad = reports }))
delimiter_is_bad_option rows Memory topics list reports = tt

-- a usage that reports no help reports a column that is none
pub reports_bad_column : (header : Bool) (given : Option Text) (usage : Usage) → IsBadColumn header given → IsBadReport usage → ReportsBadColumn header given usage
reports_bad_column header given (Help text) bad reports = reports
reports_bad_column header given (Bad text) bad reports = bad
reports_bad_column header given Memory bad reports = tt

-- a usage that reports no help reports a delimiter that is none
pub reports_bad_delimiter : (given : Option Text) (usage : Usage) → IsBadDelimiter given → IsBadReport usage → ReportsBadDelimiter given usage
reports_bad_delimiter given (Help text) bad reports = reports
reports_bad_delimiter given (Bad text) bad reports = bad
reports_bad_delimiter given Memory bad reports = tt

pub bad_option_is_refusal : (words : List Text) (name : Text) (rows : List Row) (usage : Usage) → fault_of keycount_app words ≡ []
    → subcommand_of keycount_app words ≡ Some (name, rows) → ReportsBadOption rows usage → IsRefusal words usage
bad_option_is_refusal words name rows (Help text) taken found reports = absurd reports
bad_option_is_refusal words name rows (Bad text) taken found (inl reports) =
    inr (inl (record { name = name; rows = rows; taken = taken; subcommand = found; list = reports.0 }, reports.1))
bad_option_is_refusal words name rows (Bad text) taken found (inr (inl column)) =
    inr (inr (inl (record { name = name; rows = rows; taken = taken; subcommand = found; column = column })))
bad_option_is_refusal words name rows (Bad text) taken found (inr (inr delimiter)) =
    inr (inr (inr (record { name = name; rows = rows; taken = taken; subcommand = found; delimiter = delimiter })))
bad_option_is_refusal words name rows Memory taken found reports = tt

-- the matches of words that clap accepts: the subcommand of a job, with its arguments
pub record MatchesJob (words : List Text) (m : ArgMatches) : Type 0 where
  pub taken : fault_of keycount_app words ≡ []
  pub name : Text
  pub rows : List Row
  pub subcommand : subcommand_of keycount_app words ≡ Some (name, rows)
  pub entered : subcommand_rows_of m ≡ Some (name, rows)
  pub tested : AreRowsOf name rows

pub matches_are : (command : Command) (words : List Text) (m : ArgMatches) → app_of command ≡ keycount_app → HasMatchesOf (app_of command) words m
    → (is_simple_and_free (app_of command) ≡ true → fault_of (app_of command) words ≡ []) → MatchesJob words m
matches_are command words m app found faults =
    let taken : fault_of keycount_app words ≡ [] = ap (λ a. fault_of a words) (sym app) ∙ faults (ap is_simple_and_free app ∙ keycount_free) in
    let job = taken_job words taken in
    record {
      taken = taken;
      name = job.0;
      rows = job.1;
      subcommand = job.2;
      entered = (found (ap is_simple app ∙ keycount_simple)).1 ∙ ap (λ a. subcommand_of a words) app ∙ job.2;
      tested = job.3;
    }

pub entered_rows : {Z : Type 0} (o : Option (Box SubCommand Z)) (wanted name : Text) (rows rows_found : List Row) → subcommand_rows o ≡ Some (wanted, rows)
    → Some name ≡ option_map (λ b. (out-SubCommand (box_value b)).name.now) o → Some rows_found ≡ option_map (λ p. p.1) (subcommand_rows o)
    → (wanted ≡ name) × (rows ≡ rows_found)
entered_rows None wanted name rows rows_found e h k = let no : ⊥ = cc in absurd no
entered_rows (Some b) wanted name rows rows_found e h k =
    let pair : ◌≡◌ {A = Text × List Row} ((out-SubCommand (box_value b)).name.now, rows_of (found_of (out-SubCommand (box_value b)).matches)) (wanted, rows) = cc in
    let named = ap (λ (p : Text × List Row). p.0) pair in
    let held = ap (λ (p : Text × List Row). p.1) pair in
    (cc, cc)

pub none_entered : {Z : Type 0} (o : Option (Box SubCommand Z)) (wanted : Text) (rows : List Row) → subcommand_rows o ≡ Some (wanted, rows) → None ≡ option_map (λ p. p.1) (subcommand_rows o) → ⊥
none_entered None wanted rows e h = cc
none_entered (Some b) wanted rows e h = cc

-- ---- which job was named

-- a name is not two texts
not_both : (a b : Text) → bytes_eq a b ≡ false → (name : Text) → name ≡ a → name ≡ b → ⊥
not_both a b differ name is_a is_b = true≢false (sym ((bytes_eq-Decides b b).1 refl) ∙ ap (λ t. bytes_eq t b) (sym is_b ∙ is_a) ∙ differ)

script_is_not : (b : Text) → (bytes_eq (codes "replay") b ≡ false) → (bytes_eq (codes "trace") b ≡ false) → (bytes_eq (codes "draw") b ≡ false) → (bytes_eq (codes "run") b ≡ false)
    → (name : Text) → IsOfScript name → name ≡ b → ⊥
script_is_not b no_replay no_trace no_draw no_run name (inl named) is = not_both (codes "replay") b no_replay name named is
script_is_not b no_replay no_trace no_draw no_run name (inr (inl named)) is = not_both (codes "trace") b no_trace name named is
script_is_not b no_replay no_trace no_draw no_run name (inr (inr (inl named))) is = not_both (codes "draw") b no_draw name named is
script_is_not b no_replay no_trace no_draw no_run name (inr (inr (inr named))) is = not_both (codes "run") b no_run name named is

pub takes_count : (name : Text) (rows : List Row) → AreRowsOf name rows → name ≡ codes "count" → AreCountRows rows
takes_count name rows (inl takes) is = takes.1
takes_count name rows (inr (inl takes)) is = absurd (script_is_not (codes "count") refl refl refl refl name takes.0 is)
takes_count name rows (inr (inr (inl takes))) is = absurd (not_both (codes "explain") (codes "count") refl name takes.0 is)
takes_count name rows (inr (inr (inr (inl takes)))) is = absurd (not_both (codes "place") (codes "count") refl name takes.0 is)
takes_count name rows (inr (inr (inr (inr takes)))) is = absurd (not_both (codes "check") (codes "count") refl name takes.0 is)

pub takes_script : (name : Text) (rows : List Row) → AreRowsOf name rows → IsOfScript name → AreScriptRows rows
takes_script name rows (inl takes) is = absurd (script_is_not (codes "count") refl refl refl refl name is takes.0)
takes_script name rows (inr (inl takes)) is = takes.1
takes_script name rows (inr (inr (inl takes))) is = absurd (script_is_not (codes "explain") refl refl refl refl name is takes.0)
takes_script name rows (inr (inr (inr (inl takes)))) is = absurd (script_is_not (codes "place") refl refl refl refl name is takes.0)
takes_script name rows (inr (inr (inr (inr takes)))) is = absurd (script_is_not (codes "check") refl refl refl refl name is takes.0)

pub takes_explain : (name : Text) (rows : List Row) → AreRowsOf name rows → name ≡ codes "explain" → AreExplainRows rows
takes_explain name rows (inl takes) is = absurd (not_both (codes "count") (codes "explain") refl name takes.0 is)
takes_explain name rows (inr (inl takes)) is = absurd (script_is_not (codes "explain") refl refl refl refl name takes.0 is)
takes_explain name rows (inr (inr (inl takes))) is = takes.1
takes_explain name rows (inr (inr (inr (inl takes)))) is = absurd (not_both (codes "place") (codes "explain") refl name takes.0 is)
takes_explain name rows (inr (inr (inr (inr takes)))) is = absurd (not_both (codes "check") (codes "explain") refl name takes.0 is)

pub takes_place : (name : Text) (rows : List Row) → AreRowsOf name rows → name ≡ codes "place" → ArePlaceRows rows
takes_place name rows (inl takes) is = absurd (not_both (codes "count") (codes "place") refl name takes.0 is)
takes_place name rows (inr (inl takes)) is = absurd (script_is_not (codes "place") refl refl refl refl name takes.0 is)
takes_place name rows (inr (inr (inl takes))) is = absurd (not_both (codes "explain") (codes "place") refl name takes.0 is)
takes_place name rows (inr (inr (inr (inl takes)))) is = takes.1
takes_place name rows (inr (inr (inr (inr takes)))) is = absurd (not_both (codes "check") (codes "place") refl name takes.0 is)

pub takes_check : (name : Text) (rows : List Row) → AreRowsOf name rows → name ≡ codes "check" → AreCheckRows rows
takes_check name rows (inl takes) is = absurd (not_both (codes "count") (codes "check") refl name takes.0 is)
takes_check name rows (inr (inl takes)) is = absurd (script_is_not (codes "check") refl refl refl refl name takes.0 is)
takes_check name rows (inr (inr (inl takes))) is = absurd (not_both (codes "explain") (codes "check") refl name takes.0 is)
takes_check name rows (inr (inr (inr (inl takes)))) is = absurd (not_both (codes "place") (codes "check") refl name takes.0 is)
takes_check name rows (inr (inr (inr (inr takes)))) is = takes.1

pub takes_none : (name : Text) (rows : List Row) → AreRowsOf name rows → (name ≡ codes "count" → ⊥) → (name ≡ codes "place" → ⊥) → (name ≡ codes "check" → ⊥) → (name ≡ codes "replay" → ⊥) → (name ≡ codes "trace" → ⊥) → (name ≡ codes "draw" → ⊥) → (name ≡ codes "run" → ⊥) → (name ≡ codes "explain" → ⊥) → ⊥
takes_none name rows (inl takes) no_count no_place no_check no_replay no_trace no_draw no_run no_explain = no_count takes.0
takes_none name rows (inr (inl (inl named, has))) no_count no_place no_check no_replay no_trace no_draw no_run no_explain = no_replay named
takes_none name rows (inr (inl (inr (inl named), has))) no_count no_place no_check no_replay no_trace no_draw no_run no_explain = no_trace named
takes_none name rows (inr (inl (inr (inr (inl named)), has))) no_count no_place no_check no_replay no_trace no_draw no_run no_explain = no_draw named
takes_none name rows (inr (inl (inr (inr (inr named)), has))) no_count no_place no_check no_replay no_trace no_draw no_run no_explain = no_run named
takes_none name rows (inr (inr (inl takes))) no_count no_place no_check no_replay no_trace no_draw no_run no_explain = no_explain takes.0
takes_none name rows (inr (inr (inr (inl takes)))) no_count no_place no_check no_replay no_trace no_draw no_run no_explain = no_place takes.0
takes_none name rows (inr (inr (inr (inr takes)))) no_count no_place no_check no_replay no_trace no_draw no_run no_explain = no_check takes.0

-- ---- lists of topics that are not valid

topics_of_job : (words : List Text) (rows : List Row) (job : Job) → fault_of keycount_app words ≡ [] → subcommand_of keycount_app words ≡ Some (name_of job, rows) → HasJob rows job → (topics : List Topic) × AreTopicsOf (first_of (codes "topics") rows) topics
topics_of_job words rows (Count file options) taken found has = (options.topics.items, has.1.topics)
topics_of_job words rows (Place file options place) taken found has = (options.topics.items, has.1.topics)
topics_of_job words rows (Check file script options check) taken found has = (options.topics.items, has.2.topics)
topics_of_job words rows (Replay file script options) taken found has = (options.topics.items, has.0.options_are.topics)
topics_of_job words rows (Trace file script options) taken found has = (options.topics.items, has.0.options_are.topics)
topics_of_job words rows (Draw file script options) taken found has = (options.topics.items, has.0.options_are.topics)
topics_of_job words rows (Run file script options) taken found has = (options.topics.items, has.0.options_are.topics)
topics_of_job words rows (Explain code) taken found has =
    let job = taken_job words taken in
    let pair : ◌≡◌ {A = Option (Text × List Row)} (Some (job.0, job.1)) (Some (codes "explain", rows)) = sym job.2 ∙ found in
    let named : job.0 ≡ codes "explain" = ap (λ (o : Option (Text × List Row)). option_map_or (λ p. p.0) o []) pair in
    let held : job.1 ≡ rows = ap (λ (o : Option (Text × List Row)). option_map_or (λ p. p.1) o []) pair in
    let none = (takes_explain job.0 job.1 job.3 named).no_topics in
    ([], subst (λ rows. AreTopicsOf (first_of (codes "topics") rows) []) held (rw none refl))

-- words name one subcommand with its arguments, and so one list of topics
same_topics : (words : List Text) (name other : Text) (rows others : List Row) (topics : List Topic) → subcommand_of keycount_app words ≡ Some (name, rows) → subcommand_of keycount_app words ≡ Some (other, others)
    → AreTopicsOf (first_of (codes "topics") rows) topics → AreTopicsOf (first_of (codes "topics") others) topics
same_topics words name other rows others topics first second list =
    let same : rows ≡ others = ap (λ (o : Option (Text × List Row)). option_map_or (λ p. p.1) o []) (sym first ∙ second) in
    subst (λ rows. AreTopicsOf (first_of (codes "topics") rows) topics) same list

pub bad_list_reported : (words : List Text) (answer : Result Job Usage) → IfOk answer (IsJobOf words) → IfErr answer (IsRefusal words)
    → HaveBadList words → IsErrAnd answer IsBadListReport
bad_list_reported words (Ok job) is refusal bad =
    let topics = topics_of_job words is.rows job is.taken is.subcommand is.found in
    bad.list topics.0 (same_topics words (name_of job) bad.name is.rows bad.rows topics.0 is.subcommand bad.subcommand topics.1)
bad_list_reported words (Err (Help text)) is refusal bad = subst (λ kinds. IsAmong refusal.0 kinds) bad.taken refusal.1
bad_list_reported words (Err (Bad text)) is (inl fault) bad = absurd (subst (λ kinds. IsAmong fault.0 kinds) bad.taken fault.1)
bad_list_reported words (Err (Bad text)) is (inr (inl list)) bad = list.1
bad_list_reported words (Err (Bad text)) is (inr (inr (inl column))) bad =
    absurd (bad.list column.column.topics (same_topics words column.name bad.name column.rows bad.rows column.column.topics column.subcommand bad.subcommand column.column.list))
bad_list_reported words (Err (Bad text)) is (inr (inr (inr delimiter))) bad =
    absurd (bad.list delimiter.delimiter.topics (same_topics words delimiter.name bad.name delimiter.rows bad.rows delimiter.delimiter.topics delimiter.subcommand bad.subcommand delimiter.delimiter.list))
bad_list_reported words (Err Memory) is refusal bad = tt
