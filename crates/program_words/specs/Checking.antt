-- The words of `check`: as clap sees them, and what they say.
use Rattle.std.specs.Prelude.{◌≡◌, ◌∷◌, List, Some, codes, option_map, []}
use Rattle.clap.specs.Words.{App, Row, Rule, first_of, new_app}
use Rattle.command_tables.specs.Rules.{flag, option, with_rules, word}
use Rattle.program_words.specs.Serving.{ArePrinters, IsControl, printer}
use Rattle.program_words.specs.Values.{IsFlag}
use Rattle.program_words.specs.declared.checking.Checking.{Checking}

-- the words and options of `check`
abbrev pub check_words : List Rule
check_words =
    word (codes "config") ∷ flag (codes "sizes") ∷ printer ∷ option (codes "out") ∷ option (codes "control")
    ∷ option (codes "spool") ∷ option (codes "account") ∷ []

abbrev pub check_app : App
check_app = with_rules (new_app (codes "check")) check_words

-- a configuration is checked as these rows say
pub record IsChecking (rows : List Row) (checking : Checking) : Type 0 where
  pub config : first_of (codes "config") rows ≡ Some checking.config.now
  pub sizes : IsFlag rows (codes "sizes") checking.sizes
  pub printers : ArePrinters rows checking.printers.items
  pub out : option_map (λ path. path.now) checking.out ≡ first_of (codes "out") rows
  pub control : IsControl rows (option_map (λ path. path.now) checking.control)
  pub spool : option_map (λ path. path.now) checking.spool ≡ first_of (codes "spool") rows
  pub account : option_map (λ path. path.now) checking.account ≡ first_of (codes "account") rows
