-- The words of an audit and of what is asked of use.
use Rattle.std.proofs.Common.{◌≡◌, ◌∙◌, ap, refl, slice_index, sym, List, None, Some, codes}
use Rattle.clap.specs.Words.{Row, Text, all_of}
use Rattle.lpd_commands.specs.declared.command.Command.{Command}
use Rattle.lpd_commands.specs.declared.command.Command.TheVariants.{PrintWaiting, Receive, State, Remove}
use Rattle.program_words.specs.Asked.{IsAsked}
use Rattle.program_words.specs.Questions.{IsQuery}
use Rattle.program_words.specs.Refused.{AsksNothing, LacksAudit, LacksUsage}
use Rattle.program_words.specs.declared.word_fault.WordFault.{WordFault}
use Rattle.program_words.specs.declared.word_fault.WordFault.TheVariants as faults
use Rattle.program_words.specs.declared.words.Ask.{Ask}
use Rattle.program_words.specs.declared.words.Ask.TheVariants.{Input, Check, Replay, Send, Question, Serve, Control, Audit, Usage}
use Rattle.program_words.proofs.QuestionLemmas.{apart, no_query, third}

-- the first octets of two names that are one
first : (name one other : Text) → name ≡ one → name ≡ other → slice_index one 0 ≡ slice_index other 0
first name one other is e = ap (λ (t : Text). slice_index t 0) (sym is ∙ e)

-- the command that tells what was used asks no server
no_usage_query : (name : Text) (rows : List Row) → name ≡ codes "usage" → (command : Command) → IsQuery name rows command → ⊥
no_usage_query name rows is (PrintWaiting queue) h =
    apart 117 115 refl (first name (codes "usage") (codes "start") is h.0)
no_usage_query name rows is (Receive queue) h = absurd h
no_usage_query name rows is (State queue list long) h =
    apart 117 115 refl (first name (codes "usage") (codes "state") is h.0)
no_usage_query name rows is (Remove queue agent list) h =
    apart 117 114 refl (first name (codes "usage") (codes "remove") is h.0)

-- words that ask for an audit of no file ask for nothing
no_audit : (name : Text) (rows : List Row) → name ≡ codes "audit" → all_of (codes "file") rows ≡ None → (asked : Ask) → IsAsked (Some (name, rows)) asked → ⊥
no_audit name rows is none Input h = absurd h
no_audit name rows is none (Check checking) h =
    apart 100 101 refl (third name (codes "audit") (codes "check") is h.0)
no_audit name rows is none (Replay config script) h =
    apart 100 112 refl (third name (codes "audit") (codes "replay") is h.0)
no_audit name rows is none (Send sending envelope) h =
    apart 100 110 refl (third name (codes "audit") (codes "send") is h.0)
no_audit name rows is none (Question question) h =
    no_query name (codes "audit") rows is refl refl question.command h.query
no_audit name rows is none (Serve config settings) h =
    apart 100 114 refl (third name (codes "audit") (codes "serve") is h.0)
no_audit name rows is none (Control request) h =
    apart 100 110 refl (third name (codes "audit") (codes "control") is h.0)
no_audit name rows is none (Audit request) h =
    let bad = sym none ∙ h.1.files in
    cc
no_audit name rows is none (Usage request) h =
    apart 100 97 refl (third name (codes "audit") (codes "usage") is h.0)

-- nor do those that ask what was used of no file
no_usage : (name : Text) (rows : List Row) → name ≡ codes "usage" → all_of (codes "file") rows ≡ None → (asked : Ask) → IsAsked (Some (name, rows)) asked → ⊥
no_usage name rows is none Input h = absurd h
no_usage name rows is none (Check checking) h =
    apart 97 101 refl (third name (codes "usage") (codes "check") is h.0)
no_usage name rows is none (Replay config script) h =
    apart 97 112 refl (third name (codes "usage") (codes "replay") is h.0)
no_usage name rows is none (Send sending envelope) h =
    apart 97 110 refl (third name (codes "usage") (codes "send") is h.0)
no_usage name rows is none (Question question) h =
    no_usage_query name rows is question.command h.query
no_usage name rows is none (Serve config settings) h =
    apart 97 114 refl (third name (codes "usage") (codes "serve") is h.0)
no_usage name rows is none (Control request) h =
    apart 97 110 refl (third name (codes "usage") (codes "control") is h.0)
no_usage name rows is none (Audit request) h =
    apart 97 100 refl (third name (codes "usage") (codes "audit") is h.0)
no_usage name rows is none (Usage request) h =
    let bad = sym none ∙ h.1.files in
    cc

-- words that ask for an audit, and don't have all words of that, or wrong ones, ask for nothing
pub asks_no_audit : (name : Text) (rows : List Row) (fault : WordFault) → name ≡ codes "audit" → LacksAudit rows fault → AsksNothing (Some (name, rows)) fault
asks_no_audit name rows faults.Missing is lacks = no_audit name rows is lacks
asks_no_audit name rows (faults.Digest text) is lacks = (is, lacks)
asks_no_audit name rows faults.Memory is lacks = tt
asks_no_audit name rows faults.Queue is lacks = absurd lacks
asks_no_audit name rows faults.Host is lacks = absurd lacks
asks_no_audit name rows faults.User is lacks = absurd lacks
asks_no_audit name rows faults.Files is lacks = absurd lacks
asks_no_audit name rows faults.Number is lacks = absurd lacks
asks_no_audit name rows faults.Address is lacks = absurd lacks
asks_no_audit name rows faults.Server is lacks = absurd lacks
asks_no_audit name rows faults.Line is lacks = absurd lacks
asks_no_audit name rows (faults.Network text) is lacks = absurd lacks
asks_no_audit name rows (faults.Control text) is lacks = absurd lacks
asks_no_audit name rows (faults.Log text) is lacks = absurd lacks
asks_no_audit name rows (faults.Status text) is lacks = absurd lacks
asks_no_audit name rows (faults.StatusHost text) is lacks = absurd lacks
asks_no_audit name rows faults.NoStatus is lacks = absurd lacks
asks_no_audit name rows (faults.Printer text) is lacks = absurd lacks
asks_no_audit name rows (faults.PrinterTwice text) is lacks = absurd lacks
asks_no_audit name rows faults.Command is lacks = absurd lacks
asks_no_audit name rows (faults.Grouping text) is lacks = absurd lacks
asks_no_audit name rows (faults.Time text) is lacks = absurd lacks

-- nor do those that ask what was used
pub asks_no_usage : (name : Text) (rows : List Row) (fault : WordFault) → name ≡ codes "usage" → LacksUsage rows fault → AsksNothing (Some (name, rows)) fault
asks_no_usage name rows faults.Missing is lacks = no_usage name rows is lacks
asks_no_usage name rows (faults.Grouping text) is lacks = (is, lacks)
asks_no_usage name rows (faults.Time text) is lacks = (is, lacks)
asks_no_usage name rows faults.Memory is lacks = tt
asks_no_usage name rows faults.Queue is lacks = absurd lacks
asks_no_usage name rows faults.Host is lacks = absurd lacks
asks_no_usage name rows faults.User is lacks = absurd lacks
asks_no_usage name rows faults.Files is lacks = absurd lacks
asks_no_usage name rows faults.Number is lacks = absurd lacks
asks_no_usage name rows faults.Address is lacks = absurd lacks
asks_no_usage name rows faults.Server is lacks = absurd lacks
asks_no_usage name rows faults.Line is lacks = absurd lacks
asks_no_usage name rows (faults.Network text) is lacks = absurd lacks
asks_no_usage name rows (faults.Control text) is lacks = absurd lacks
asks_no_usage name rows (faults.Log text) is lacks = absurd lacks
asks_no_usage name rows (faults.Status text) is lacks = absurd lacks
asks_no_usage name rows (faults.StatusHost text) is lacks = absurd lacks
asks_no_usage name rows faults.NoStatus is lacks = absurd lacks
asks_no_usage name rows (faults.Printer text) is lacks = absurd lacks
asks_no_usage name rows (faults.PrinterTwice text) is lacks = absurd lacks
asks_no_usage name rows faults.Command is lacks = absurd lacks
asks_no_usage name rows (faults.Digest text) is lacks = absurd lacks
