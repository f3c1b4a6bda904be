-- The values of the words of a server, by the rows of a parse.
use Rattle.std.proofs.Common.{◌≡◌, ◌∙◌, ◌<◌, ◌^◌, inl, sym, refl, ap, arith, slice_index, ℕ, List, Option, Some, None, Result, Ok, Err, IfOk, IfErr, option_map, unwrap_or, codes}
use Rattle.std.specs.Borrow.{Bor}
use Rattle.std.specs.Str.Parse.{ParsesUnsigned, digits_value, without_leading_plus}
use Rattle.clap.specs.Words.{Row, Text, TriesOne, first_of, one_of}
use Rattle.lpd_commands.specs.declared.command.Command.{Command}
use Rattle.lpd_commands.specs.declared.command.Command.TheVariants.{PrintWaiting, Receive, State, Remove}
use Rattle.program_words.specs.Asked.{IsAsked}
use Rattle.program_words.specs.Questions.{IsQuery}
use Rattle.program_words.specs.Values.{IsGiven}
use Rattle.program_words.specs.Refused.{AsksNothing, HasNoCount, HasNoLimit, LacksServing}
use Rattle.program_words.specs.Serving.{IsLog}
use Rattle.program_words.specs.declared.word_fault.WordFault.{WordFault}
use Rattle.program_words.specs.declared.word_fault.WordFault.TheVariants as faults
use Rattle.program_words.specs.declared.words.Ask.{Ask}
use Rattle.program_edge.specs.Forms.{IsFormName}
use Rattle.program_edge.specs.declared.settings.LogForm.{LogForm}
use Rattle.program_edge.specs.declared.settings.LogForm.TheVariants.{Journal, Plain, Time}
use Rattle.program_words.specs.declared.words.Ask.TheVariants.{Input, Check, Replay, Send, Question, Serve, Control, Audit, Usage}

-- the text of an option, or another where it isn't there
pub text_or : (o : Option (Bor Text)) (first : Option Text) (other : Bor Text) → option_map (λ s. s.now) o ≡ first → (unwrap_or o other).now ≡ unwrap_or first other.now
text_or None first other h = rw (← h) refl
text_or (Some s) first other h = rw (← h) refl

-- the number that is read of an option of at most `bits` bits, or that it is none
module _ {E : Type 0} (A B : Text → Result ℕ E → Type 0) (bits : ℕ) (rows : List Row) (id : Text) where
  abbrev Tries : Text → Result (Option ℕ) E → Type 0
  Tries t r = TriesOne (λ text r. ParsesUnsigned bits 10 text r × A text r × B text r) t r

  pub number_given : (r : Result (Option ℕ) E) (text : Option Text) → one_of id rows ≡ text → (text ≡ None → r ≡ Ok None) → ((t : Text) → text ≡ Some t → Tries t r) → IfOk r (IsGiven bits rows id)
  number_given (Err e) text same none value = tt
  number_given (Ok None) None same none value = same
  number_given (Ok (Some n)) None same none value =
      let bad = none refl in
      cc
  number_given (Ok None) (Some t) same none value = absurd (value t refl)
  number_given (Ok (Some n)) (Some t) same none value =
      let read = (value t refl).0 in
      (t, same, read.0.0, read.1, rw read.1 read.0.1)

  pub none_given : (r : Result (Option ℕ) E) (text : Option Text) → one_of id rows ≡ text → (text ≡ None → r ≡ Ok None) → ((t : Text) → text ≡ Some t → Tries t r) → IfErr r (λ _. (o : Option ℕ) → IsGiven bits rows id o → ⊥)
  none_given (Ok o) text same none value = tt
  none_given (Err e) None same none value =
      let bad = none refl in
      cc
  none_given (Err e) (Some t) same none value = go
    where
      go : (o : Option ℕ) → IsGiven bits rows id o → ⊥
      go None is =
          let bad : Some t ≡ None = sym same ∙ is in
          cc
      go (Some n) is =
          let read = value is.0 (sym same ∙ is.1) in
          let small : digits_value 10 (without_leading_plus is.0) < 2 ^ bits = rw is.3 at is.4 in
          read.0 (is.2, small)

-- the third octet of a name that is serve and another
third : (name other : Text) → name ≡ codes "serve" → name ≡ other → 114 ≡ slice_index other 2
third name other is e = ap (λ (t : Text). slice_index t 2) (sym is ∙ e)

below : (n : ℕ) → n < 114 → 114 ≡ n → ⊥
below n small e = absurd (omega (arith, small, e))

-- the command that serves asks no server
no_query : (name : Text) (rows : List Row) (command : Command) → name ≡ codes "serve" → IsQuery name rows command → ⊥
no_query name rows (PrintWaiting queue) is h =
    below 97 (omega arith) (third name (codes "start") is h.0)
no_query name rows (Receive queue) is h = absurd h
no_query name rows (State queue list long) is h =
    below 97 (omega arith) (third name (codes "state") is h.0)
no_query name rows (Remove queue agent list) is h =
    below 109 (omega arith) (third name (codes "remove") is h.0)

-- words that ask to serve, and don't say how, ask for nothing
no_server : (name : Text) (rows : List Row) → name ≡ codes "serve" → LacksServing rows faults.Missing → (asked : Ask) → IsAsked (Some (name, rows)) asked → ⊥
no_server name rows is lacks Input h = absurd h
no_server name rows is lacks (Check checking) h =
    below 101 (omega arith) (third name (codes "check") is h.0)
no_server name rows is lacks (Replay config script) h =
    below 112 (omega arith) (third name (codes "replay") is h.0)
no_server name rows is lacks (Send sending envelope) h =
    below 110 (omega arith) (third name (codes "send") is h.0)
no_server name rows is lacks (Question question) h =
    no_query name rows question.command is h.query
no_server name rows is lacks (Serve config settings) h = lacks settings h.2
no_server name rows is lacks (Control request) h =
    below 110 (omega arith) (third name (codes "control") is h.0)
no_server name rows is lacks (Audit request) h =
    below 100 (omega arith) (third name (codes "audit") is h.0)
no_server name rows is lacks (Usage request) h =
    below 97 (omega arith) (third name (codes "usage") is h.0)

pub asks_no_server : (name : Text) (rows : List Row) (fault : WordFault) → name ≡ codes "serve" → LacksServing rows fault → AsksNothing (Some (name, rows)) fault
asks_no_server name rows faults.Address is lacks = (is, lacks)
asks_no_server name rows faults.Server is lacks = absurd lacks
asks_no_server name rows faults.Line is lacks = absurd lacks
asks_no_server name rows (faults.Network text) is lacks = (is, lacks)
asks_no_server name rows (faults.Control text) is lacks = inl (inl is, lacks)
asks_no_server name rows (faults.Log text) is lacks = (is, lacks)
asks_no_server name rows (faults.Digest text) is lacks = absurd lacks
asks_no_server name rows (faults.Grouping text) is lacks = absurd lacks
asks_no_server name rows (faults.Time text) is lacks = absurd lacks
asks_no_server name rows (faults.Status text) is lacks = (is, lacks)
asks_no_server name rows (faults.StatusHost text) is lacks = (is, lacks)
asks_no_server name rows faults.NoStatus is lacks = (is, lacks)
asks_no_server name rows (faults.Printer text) is lacks = (inl is, lacks)
asks_no_server name rows (faults.PrinterTwice text) is lacks = (inl is, lacks)
asks_no_server name rows faults.Command is lacks = absurd lacks
asks_no_server name rows faults.Missing is lacks = no_server name rows is lacks
asks_no_server name rows faults.Queue is lacks = absurd lacks
asks_no_server name rows faults.Host is lacks = absurd lacks
asks_no_server name rows faults.User is lacks = absurd lacks
asks_no_server name rows faults.Files is lacks = absurd lacks
asks_no_server name rows faults.Number is lacks = absurd lacks
asks_no_server name rows faults.Memory is lacks = tt

-- what is no number is none above 0
pub no_limit : (rows : List Row) (id : Text) → HasNoCount rows id → HasNoLimit rows id
no_limit rows id none None is = none None is
no_limit rows id none (Some n) is = none (Some n) is.0

-- a text that names no form of the log's lines is none of an option that names one
pub no_log : (rows : List Row) (text : Text) → first_of (codes "log") rows ≡ Some text → ((form : LogForm) → IsFormName text form → ⊥) → (form : LogForm) → IsLog rows form → ⊥
no_log rows text is none Plain h =
    let bad : Some text ≡ None = sym is ∙ h in
    cc
no_log rows text is none Time h =
    let same : Some text ≡ Some (codes "time") = sym is ∙ h in
    none Time cc
no_log rows text is none Journal h =
    let same : Some text ≡ Some (codes "journal") = sym is ∙ h in
    none Journal cc
