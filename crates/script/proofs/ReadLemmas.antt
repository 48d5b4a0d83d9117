-- A line that parses to an action has a form of it.
use Rattle.std.proofs.Common.{◌≡◌, refl, ap, subst, ◌∙◌, ℕ, Bool, true, false, cond, List, codes, Option, Some, None}
use Rattle.std.proofs.lemmas.Slice.Eq.{bytes_eq-Decides}
use Rattle.std.specs.Option.{IfSome, option_and_then, option_map_or, option_or}
use Rattle.std.specs.Str.{bytes_eq}
use Rattle.partitioner.specs.Name.{is_name}
use Rattle.script.proofs.Parts.{split-parts}
use Rattle.script.proofs.TopicLemmas.{in-parsed}
use Rattle.script.specs.Forms.{◌⎵◌, IsNamed, IsNumbered, IsTextIn, IsWritten}
use Rattle.script.specs.Grammar.{action_of, append_action, appended, nullary_action, command_action, mail_action, member_action, name_of, number_of, poll_action, send_action, single_action, split_word, parse_topic}
use Rattle.partitioner.specs.declared.topic.Topic.{Topic}

module _ {A : Type 0} (P : A → Type 0) where
  -- what holds of the value of each branch holds of the value
  if_some : (b : Bool) (x y : Option A) → (b ≡ true → IfSome x P) → IfSome y P → IfSome (cond b x y) P
  if_some true x y here there = here refl
  if_some false x y here there = there

  or_some : (o p : Option A) → IfSome o P → IfSome p P → IfSome (option_or o p) P
  or_some None p first second = second
  or_some (Some x) p first second = first

  then_some : {B : Type 0} (f : B → Option A) (o : Option B)
      → ((x : B) → o ≡ Some x → IfSome (f x) P) → IfSome (option_and_then f o) P
  then_some f None next = tt
  then_some f (Some x) next = next x refl

  then_named : (f : List ℕ → Option A) (word : List ℕ) (b : Bool) → is_name word ≡ b
      → (is_name word ≡ true → IfSome (f word) P)
      → IfSome (option_and_then f (cond b (Some word) None)) P
  then_named f word true e next = next e
  then_named f word false e next = tt

  then_name : (f : List ℕ → Option A) (word : List ℕ)
      → (is_name word ≡ true → IfSome (f word) P) → IfSome (option_and_then f (name_of word)) P
  unfolding name_of
  then_name f word next = then_named f word (is_name word) refl next

same : (word text : List ℕ) → bytes_eq word text ≡ true → word ≡ text
same word text e = (bytes_eq-Decides word text).0 e

nullary_parsed : (topics : List Topic) (command line : List ℕ) → line ≡ command
    → IfSome (nullary_action command) (λ action. IsWritten topics action line)
unfolding nullary_action
nullary_parsed topics command line e =
    if_some (λ action. IsWritten topics action line) _ _ _ (λ t. e ∙ same command (codes "settle") t)
    (if_some (λ action. IsWritten topics action line) _ _ _ (λ t. e ∙ same command (codes "drain") t)
    tt)

named_by : (command text name line : List ℕ) → is_name name ≡ true → line ≡ command ⎵ name
    → bytes_eq command text ≡ true → IsNamed text name line
named_by command text name line h e t = (h, e ∙ ap (λ c. c ⎵ name) (same command text t))

numbered_by : (command text word : List ℕ) (n : ℕ) (line : List ℕ) → number_of word ≡ Some n
    → line ≡ command ⎵ word → bytes_eq command text ≡ true → IsNumbered text n line
numbered_by command text word n line h e t =
    record { word = word; number = h; line_is = e ∙ ap (λ c. c ⎵ word) (same command text t) }

member_parsed : (topics : List Topic) (command name line : List ℕ) → is_name name ≡ true → line ≡ command ⎵ name
    → IfSome (member_action command name) (λ action. IsWritten topics action line)
unfolding member_action
member_parsed topics command name line h e =
    if_some (λ action. IsWritten topics action line) _ _ _ (named_by command (codes "join") name line h e)
    (if_some (λ action. IsWritten topics action line) _ _ _ (named_by command (codes "keep") name line h e)
    (if_some (λ action. IsWritten topics action line) _ _ _ (named_by command (codes "return") name line h e)
    (if_some (λ action. IsWritten topics action line) _ _ _ (named_by command (codes "rejoin") name line h e)
    (if_some (λ action. IsWritten topics action line) _ _ _ (named_by command (codes "sync") name line h e)
    (if_some (λ action. IsWritten topics action line) _ _ _ (named_by command (codes "leave") name line h e)
    (if_some (λ action. IsWritten topics action line) _ _ _ (named_by command (codes "lose") name line h e)
    tt))))))

mail_parsed : (topics : List Topic) (command word : List ℕ) (n : ℕ) (line : List ℕ) → number_of word ≡ Some n → line ≡ command ⎵ word
    → IfSome (mail_action command n) (λ action. IsWritten topics action line)
unfolding mail_action
mail_parsed topics command word n line h e =
    if_some (λ action. IsWritten topics action line) _ _ _ (numbered_by command (codes "deliver") word n line h e)
    (if_some (λ action. IsWritten topics action line) _ _ _ (numbered_by command (codes "unanswered") word n line h e)
    tt)

single_parsed : (topics : List Topic) (command word line : List ℕ) → line ≡ command ⎵ word
    → IfSome (single_action command word) (λ action. IsWritten topics action line)
unfolding single_action
single_parsed topics command word line e =
    or_some (λ action. IsWritten topics action line) _ _
    (then_name (λ action. IsWritten topics action line) (member_action command) word (λ h. member_parsed topics command word line h e))
    (then_some (λ action. IsWritten topics action line) (mail_action command) (number_of word) (λ n h. mail_parsed topics command word n line h e))

append_parsed : (topics : List Topic) (text line : List ℕ) → line ≡ codes "append" ⎵ text
    → IfSome (append_action topics text) (λ action. IsWritten topics action line)
unfolding append_action
append_parsed topics text line e =
    then_some (λ action. IsWritten topics action line) _ (parse_topic topics text) (λ parsed h.
    written_in parsed.0 parsed.1 (in-parsed topics text parsed h))
  where
    written_in : (topic : Option ℕ) (key : List ℕ) → IsTextIn topics topic key text
        → IsWritten topics (appended topic key) line
    written_in None key h = record { text = text; parsed = h; line_is = e }
    written_in (Some i) key h = record { text = text; parsed = h; line_is = e }

send_parsed : (topics : List Topic) (text line : List ℕ) → line ≡ codes "send" ⎵ text
    → IfSome (send_action topics text) (λ action. IsWritten topics action line)
unfolding send_action
send_parsed topics text line e =
    then_some (λ action. IsWritten topics action line) _ (split_word text) (λ parts cut.
    then_name (λ action. IsWritten topics action line) _ parts.0 (λ named.
    then_some (λ action. IsWritten topics action line) _ (parse_topic topics parts.1) (λ parsed h.
    then_some (λ action. IsWritten topics action line) _ (number_of parsed.1) (λ p is.
    record {
      topic = parsed.0;
      number = p;
      word = parsed.1;
      text = parts.1;
      named = named;
      parsed = in-parsed topics parts.1 parsed h;
      number_is = is;
      partition_is = refl;
      line_is = e ∙ ap (λ text. codes "send" ⎵ text) (split-parts text parts cut);
    }))))

poll_parsed : (topics : List Topic) (text line : List ℕ) → line ≡ codes "poll" ⎵ text
    → IfSome (poll_action topics text) (λ action. IsWritten topics action line)
unfolding poll_action
poll_parsed topics text line e =
    then_some (λ action. IsWritten topics action line) _ (split_word text) (λ parts cut.
    then_name (λ action. IsWritten topics action line) _ parts.0 (λ named.
    then_some (λ action. IsWritten topics action line) _ (parse_topic topics parts.1) (λ parsed h.
    then_some (λ action. IsWritten topics action line) _ (split_word parsed.1) (λ numbers at.
    then_some (λ action. IsWritten topics action line) _ (number_of numbers.0) (λ p is.
    then_some (λ action. IsWritten topics action line) _ (number_of numbers.1) (λ n most.
    record {
      topic = parsed.0;
      number = p;
      word = numbers.0;
      most = numbers.1;
      text = parts.1;
      named = named;
      parsed =
          subst (λ rest. IsTextIn topics parsed.0 rest parts.1) (split-parts parsed.1 numbers at)
          (in-parsed topics parts.1 parsed h);
      number_is = is;
      partition_is = refl;
      most_is = most;
      line_is = e ∙ ap (λ text. codes "poll" ⎵ text) (split-parts text parts cut);
    }))))))

command_parsed : (topics : List Topic) (command text line : List ℕ) → line ≡ command ⎵ text
    → IfSome (command_action topics command text) (λ action. IsWritten topics action line)
unfolding command_action
command_parsed topics command text line e =
    if_some (λ action. IsWritten topics action line) _ _ _
    (λ t. append_parsed topics text line (e ∙ ap (λ c. c ⎵ text) (same command (codes "append") t)))
    (if_some (λ action. IsWritten topics action line) _ _ _
    (λ t. send_parsed topics text line (e ∙ ap (λ c. c ⎵ text) (same command (codes "send") t)))
    (if_some (λ action. IsWritten topics action line) _ _ _
    (λ t. poll_parsed topics text line (e ∙ ap (λ c. c ⎵ text) (same command (codes "poll") t)))
    (single_parsed topics command text line e)))

pub read_is_written : (topics : List Topic) (line : List ℕ)
    → IfSome (action_of topics line) (λ action. IsWritten topics action line)
unfolding action_of
read_is_written topics line = go (split_word line) refl
  where
    go : (parts : Option (List ℕ × List ℕ)) → split_word line ≡ parts
        → IfSome
        (option_map_or (λ parts. command_action topics parts.0 parts.1) parts (nullary_action line))
        (λ action. IsWritten topics action line)
    go None cut = nullary_parsed topics line line refl
    go (Some parts) cut =
        command_parsed topics parts.0 parts.1 line (split-parts line parts cut)
