-- The words of a configuration that is checked.
use Rattle.std.proofs.Common.{◌≡◌, List, Some, codes, inl, inr, refl}
use Rattle.clap.specs.Words.{Row, Text}
use Rattle.program_words.specs.Asked.{IsAsked}
use Rattle.program_words.specs.Refused.{AsksNothing, LacksChecking}
use Rattle.program_words.specs.declared.word_fault.WordFault.{WordFault}
use Rattle.program_words.specs.declared.word_fault.WordFault.TheVariants as faults
use Rattle.program_words.specs.declared.words.Ask.{Ask}
use Rattle.program_words.specs.declared.words.Ask.TheVariants.{Input, Check, Replay, Send, Question, Serve, Control, Audit, Usage}
use Rattle.program_words.proofs.QuestionLemmas.{apart, no_query, third}

-- words that ask to check, and don't say what, ask for nothing
no_check : (name : Text) (rows : List Row) → name ≡ codes "check" → LacksChecking rows faults.Missing → (asked : Ask) → IsAsked (Some (name, rows)) asked → ⊥
no_check name rows is lacks Input h = absurd h
no_check name rows is lacks (Check checking) h = lacks checking h.1
no_check name rows is lacks (Replay config script) h =
    apart 101 112 refl (third name (codes "check") (codes "replay") is h.0)
no_check name rows is lacks (Send sending envelope) h =
    apart 101 110 refl (third name (codes "check") (codes "send") is h.0)
no_check name rows is lacks (Question question) h =
    no_query name (codes "check") rows is refl refl question.command h.query
no_check name rows is lacks (Serve config settings) h =
    apart 101 114 refl (third name (codes "check") (codes "serve") is h.0)
no_check name rows is lacks (Control request) h =
    apart 101 110 refl (third name (codes "check") (codes "control") is h.0)
no_check name rows is lacks (Audit request) h =
    apart 101 100 refl (third name (codes "check") (codes "audit") is h.0)
no_check name rows is lacks (Usage request) h =
    apart 101 97 refl (third name (codes "check") (codes "usage") is h.0)

-- words that ask to check, and don't have all words of that, or wrong ones, ask for nothing
pub asks_no_check : (name : Text) (rows : List Row) (fault : WordFault) → name ≡ codes "check" → LacksChecking rows fault → AsksNothing (Some (name, rows)) fault
asks_no_check name rows (faults.Printer text) is lacks = (inr is, lacks)
asks_no_check name rows (faults.PrinterTwice text) is lacks = (inr is, lacks)
asks_no_check name rows faults.Memory is lacks = tt
asks_no_check name rows faults.Address is lacks = absurd lacks
asks_no_check name rows faults.Server is lacks = absurd lacks
asks_no_check name rows faults.Line is lacks = absurd lacks
asks_no_check name rows (faults.Network text) is lacks = absurd lacks
asks_no_check name rows (faults.Control text) is lacks = inl (inr is, lacks)
asks_no_check name rows (faults.Log text) is lacks = absurd lacks
asks_no_check name rows (faults.Digest text) is lacks = absurd lacks
asks_no_check name rows (faults.Grouping text) is lacks = absurd lacks
asks_no_check name rows (faults.Time text) is lacks = absurd lacks
asks_no_check name rows (faults.Status text) is lacks = absurd lacks
asks_no_check name rows (faults.StatusHost text) is lacks = absurd lacks
asks_no_check name rows faults.NoStatus is lacks = absurd lacks
asks_no_check name rows faults.Command is lacks = absurd lacks
asks_no_check name rows faults.Missing is lacks = no_check name rows is lacks
asks_no_check name rows faults.Queue is lacks = absurd lacks
asks_no_check name rows faults.Host is lacks = absurd lacks
asks_no_check name rows faults.User is lacks = absurd lacks
asks_no_check name rows faults.Files is lacks = absurd lacks
asks_no_check name rows faults.Number is lacks = absurd lacks
