-- The lines of a segment one after another, and which may stand behind which. Lists of items have the newest first.
use Rattle.std.specs.Prelude.{◌≡◌, ◌<◌, ◌+◌, ◌-◌, ◌^◌, ℕ, true, List, [], ◌∷◌, ◌++◌, length}
use Rattle.std.specs.List.{list_all, AllByRecursion}
use Rattle.sha2.specs.Sha256.{sha256}
use Rattle.lpd_values.specs.Kept.{is_line_feed}
use Rattle.lpd_values.specs.Pieces.{is_kept}
use Rattle.config_values.specs.Config.{Config, printer_count}
use Rattle.config_values.specs.Ranges.{IsConfig}
use Rattle.spool_history.specs.Events.{Event}
use Rattle.account.specs.declared.entry.Outline.{Outline}
use Rattle.account.specs.Seen.{event_seen}
use Rattle.account_text.specs.Lines.{event_line}
use Rattle.account_text.specs.Told.{IsTold}
use Rattle.segment_text.specs.declared.items.SegmentLine.{SegmentLine}
use Rattle.segment_text.specs.declared.items.SegmentLine.TheVariants as line
use Rattle.segment_text.specs.declared.items.Stage.{Stage}
use Rattle.segment_text.specs.declared.items.Stage.TheVariants as stage
use Rattle.segment_text.specs.Heads.{Head, Origin, Printer, Start, Last, origin_line, config_line, printer_line, start_line, last_line}
use Rattle.segment_text.specs.Seen.{origin_seen, printer_seen, start_seen, last_seen, IsOrigin, IsPrinter, IsStart, IsLast}

-- what a line says
pub data Item : Type 0 where
  OfOrigin : (origin : Origin) → Item
  OfConfig : (config : Config) → Item
  OfPrinter : (printer : Printer) → Item
  OfStart : (start : Start) → Item
  OfEvent : (event : Event Outline) → Item
  OfLast : (last : Last) → Item

abbrev pub item_seen : SegmentLine → Item
item_seen (line.Origin o) = OfOrigin (origin_seen o)
item_seen (line.Config c) = OfConfig c
item_seen (line.Printer p) = OfPrinter (printer_seen p)
item_seen (line.Start s) = OfStart (start_seen s)
item_seen (line.Entry e) = OfEvent (event_seen e)
item_seen (line.Last l) = OfLast (last_seen l)

abbrev pub item_line : Item → List ℕ
item_line (OfOrigin o) = origin_line o
item_line (OfConfig c) = config_line c
item_line (OfPrinter p) = printer_line p
item_line (OfStart s) = start_line s
item_line (OfEvent e) = event_line e
item_line (OfLast l) = last_line l

-- those that can be told
abbrev pub IsItem : Item → Type 0
IsItem (OfOrigin o) = IsOrigin o
IsItem (OfConfig c) = IsConfig c
IsItem (OfPrinter p) = IsPrinter p
IsItem (OfStart s) = IsStart s
IsItem (OfEvent e) = IsTold e
IsItem (OfLast l) = IsLast l

-- a line with its line feed
abbrev pub with_feed : List ℕ → List ℕ
with_feed text = text ++ 10 ∷ []

abbrev pub text_of : List Item → List ℕ
text_of [] = []
text_of (i ∷ is) = text_of is ++ with_feed (item_line i)

-- how many entries are told
abbrev pub entries_in : Item → ℕ
entries_in (OfEvent e) = 1
entries_in _ = 0

abbrev pub entries_of : List Item → ℕ
entries_of [] = 0
entries_of (i ∷ is) = entries_of is + entries_in i

-- what comes behind a line
abbrev pub stage_after : Stage → Item → Stage
stage_after at (OfOrigin o) = stage.Config
stage_after at (OfConfig c) = stage.Printers (printer_count c)
stage_after (stage.Printers n) (OfPrinter p) = stage.Printers (n - 1)
stage_after at (OfPrinter p) = at
stage_after at (OfStart s) = stage.Entries
stage_after at (OfEvent e) = stage.Entries
stage_after at (OfLast l) = stage.Over

abbrev pub stage_of : List Item → Stage
stage_of [] = stage.Origin
stage_of (i ∷ is) = stage_after (stage_of is) i

-- a line of this kind comes next
abbrev pub Suits : Stage → Item → Type 0
Suits stage.Origin (OfOrigin o) = Unit {0}
Suits stage.Config (OfConfig c) = Unit {0}
Suits (stage.Printers n) (OfPrinter p) = 0 < n
Suits (stage.Printers n) (OfStart s) = n ≡ 0
Suits stage.Entries (OfEvent e) = Unit {0}
Suits stage.Entries (OfLast l) = Unit {0}
Suits _ _ = ⊥

-- where a line says how a segment ends, nothing else that can be told and comes where an entry may has it
abbrev pub OnlyMeans : List ℕ → Item → Type 0
OnlyMeans text (OfLast l) = (i : Item) → IsItem i → Suits stage.Entries i → text ≡ item_line i → i ≡ OfLast l
OnlyMeans text _ = Unit {0}

-- the last line tells how many entries are before it, and the digest of all lines before it
abbrev pub Ends : List Item → Item → Type 0
Ends is (OfLast l) = (l.entries ≡ entries_of is) × (l.digest ≡ sha256 (text_of is))
Ends is _ = Unit {0}

-- a line may stand behind these
abbrev pub MayStand : List Item → Item → Type 0
MayStand is i = Suits (stage_of is) i × Ends is i

-- each line can be told, and may stand behind those before it
abbrev pub AreInTurn : List Item → Type 0
AreInTurn [] = Unit {0}
AreInTurn (i ∷ is) = IsItem i × MayStand is i × AreInTurn is

-- the lines of a head, of entries in order of writing, and of a whole segment
abbrev pub with_printers : List Item → List Printer → List Item
with_printers is [] = is
with_printers is (p ∷ ps) = with_printers (OfPrinter p ∷ is) ps

abbrev pub head_items : Head → List Item
head_items h = OfStart h.start ∷ with_printers (OfConfig h.config ∷ OfOrigin h.origin ∷ []) h.printers

abbrev pub with_events : List Item → List (Event Outline) → List Item
with_events is [] = is
with_events is (e ∷ es) = with_events (OfEvent e ∷ is) es

abbrev pub body_items : Head → List (Event Outline) → List Item
body_items h es = with_events (head_items h) es

-- the digest that a segment ends in
abbrev pub digest_of : Head → List (Event Outline) → List ℕ
digest_of h es = sha256 (text_of (body_items h es))

abbrev pub segment_items : Head → List (Event Outline) → List Item
segment_items h es = OfLast (record { entries = length es; digest = digest_of h es }) ∷ body_items h es

-- a head that can be told, with a line for each printer
pub record IsHead (h : Head) : Type 0 where
  pub origin : IsOrigin h.origin
  pub config : IsConfig h.config
  pub printers : AllByRecursion IsPrinter h.printers
  pub count : length h.printers ≡ printer_count h.config
  pub start : IsStart h.start

-- the lines of a segment that can be told are in turn
abbrev pub SegmentsAreInTurn : Type 0
SegmentsAreInTurn =
    (h : Head) (es : List (Event Outline)) → IsHead h → AllByRecursion IsTold es → length es < 2 ^ 64
    → AreInTurn (segment_items h es)

-- no line of what can be told has a line feed in it
abbrev pub LinesHaveNoFeed : Type 0
LinesHaveNoFeed = (i : Item) → IsItem i → list_all (is_kept is_line_feed) (item_line i) ≡ true
