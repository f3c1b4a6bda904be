-- The words of `audit` and `usage`: as clap sees them, and what they say.
use Rattle.std.specs.Prelude.{◌≡◌, ◌∷◌, ℕ, List, None, Option, Some, codes, map, option_map, true, [], unwrap_or}
use Rattle.account_text.specs.Reading.{digest_of}
use Rattle.clap.specs.Words.{App, Row, Rule, Text, all_of, first_of, new_app}
use Rattle.command_tables.specs.Rules.{counts, flag, option, repeated, with_rules, words}
use Rattle.program_words.specs.Values.{IsFlag}
use Rattle.account_usage.specs.declared.request.AuditRequest.{AuditRequest}
use Rattle.account_usage.specs.declared.grouping.Grouping.{Grouping}
use Rattle.account_usage.specs.declared.grouping.Grouping.TheVariants.{Host, Queue, User}
use Rattle.account_usage.specs.declared.request.UsageRequest.{UsageRequest}
use Rattle.segment_text.specs.Reading.{is_time}

-- the files of segments: 1 to 65,536
abbrev pub segment_files : Rule
segment_files = words (codes "file") 65536

-- the words and options of `audit`
abbrev pub audit_words : List Rule
audit_words =
    segment_files ∷ option (codes "after") ∷ option (codes "ends") ∷ repeated (codes "printed")
    ∷ counts (codes "taken") ∷ flag (codes "progress") ∷ []

abbrev pub audit_app : App
audit_app = with_rules (new_app (codes "audit")) audit_words

-- the words and options of `usage`
abbrev pub usage_words : List Rule
usage_words =
    segment_files ∷ option (codes "by") ∷ option (codes "since") ∷ option (codes "until") ∷ flag (codes "csv") ∷ []

abbrev pub usage_app : App
usage_app = with_rules (new_app (codes "usage")) usage_words

-- the paths of these files, in order
abbrev pub AreFiles : List Row → List Text → Type 0
AreFiles rows files = all_of (codes "file") rows ≡ Some files

-- the digest that an option gives, if it is there
abbrev pub IsDigest : Text → List Row → Option (List ℕ) → Type 0
IsDigest id rows None = first_of id rows ≡ None
IsDigest id rows (Some digest) =
    (text : Text) × (first_of id rows ≡ Some text) × (digest_of text ≡ Some digest)

-- the time that an option gives, if it is there
abbrev pub IsTime : Text → List Row → Option Text → Type 0
IsTime id rows None = first_of id rows ≡ None
IsTime id rows (Some time) =
    (first_of id rows ≡ Some time) × (is_time time ≡ true)

-- the name of what usage is told by
abbrev pub grouping_name : Grouping → Text
grouping_name User = codes "user"
grouping_name Host = codes "host"
grouping_name Queue = codes "queue"

-- usage is told by what the option names, by users where it isn't there
abbrev pub IsGrouping : List Row → Grouping → Type 0
IsGrouping rows by = unwrap_or (first_of (codes "by") rows) (codes "user") ≡ grouping_name by

-- an audit is asked for by these rows
pub record IsAuditRequest (rows : List Row) (request : AuditRequest) : Type 0 where
  pub files : AreFiles rows (map (λ file. file.now) request.files.items)
  pub after : IsDigest (codes "after") rows request.after
  pub ends : IsDigest (codes "ends") rows request.ends
  pub printed : map (λ place. place.now) request.printed.items ≡ unwrap_or (all_of (codes "printed") rows) []
  pub taken : map (λ printer. printer.now) request.taken.items ≡ unwrap_or (all_of (codes "taken") rows) []
  pub progress : IsFlag rows (codes "progress") request.progress

-- what was used is asked for by these rows
pub record IsUsageRequest (rows : List Row) (request : UsageRequest) : Type 0 where
  pub files : AreFiles rows (map (λ file. file.now) request.files.items)
  pub by : IsGrouping rows request.by
  pub since : IsTime (codes "since") rows (option_map (λ time. time.now) request.since)
  pub until : IsTime (codes "until") rows (option_map (λ time. time.now) request.until)
  pub csv : IsFlag rows (codes "csv") request.csv
