-- What is known where a page comes back from a printer.
use Rattle.std.proofs.Common.{◌≡◌, ℕ, ◌+◌, ◌-◌, ◌<◌, ◌≤◌, length, get_or, set, sym, ◌∙◌, ap, subst}
use Rattle.std.specs.Prelude.{Option, Some, None}
use Rattle.std.specs.Vec.{with_item}
use Rattle.std.proofs.lemmas.List.{get_or_default}
use Rattle.claims.specs.Claims.{Claims}
use Rattle.page_pool.specs.Page.{Pages}
use Rattle.page_chain.specs.Files.{every_page}
use Rattle.account.specs.declared.entry.Sheet.{Sheet as SheetOut}
use Rattle.held_jobs.specs.Books.{Books, job_at}
use Rattle.config_values.specs.Config.{IsPrinter}
use Rattle.spool_calls.specs.declared.printer.Printer.{Printer}
use Rattle.spool_calls.specs.declared.handed.HandedPage.{HandedPage}
use Rattle.spool_calls.specs.Looks.Detail.{Outlines}
use Rattle.spool_calls.specs.Kept.{Kept}
use Rattle.step_lemmas.proofs.Cores.Leaving.{Found}
use Rattle.step_lemmas.proofs.Cores.Printers.{printer_there}
use Rattle.step_lemmas.proofs.Cores.Backing.{IsOutOf, room_free}
use Rattle.spool_core.specs.declared.core_state.Core.TheInside.{Inside}
use Rattle.spool_core.specs.Inside.{core_view, IsCore}
use Rattle.spool_core.specs.Printers.{IsOutAt}
use Rattle.spool_core.proofs.Cores.{found, printer_of}

out_by : (o : Option SheetOut) (page : HandedPage) (z : ℕ) → IsOutAt o page z → IsOutOf o page z
out_by None page z i = i
out_by (Some s) page z i = i

at_by : (o : Option SheetOut) (page : HandedPage) (z : ℕ) → IsOutOf o page z → IsOutAt o page z
at_by None page z i = i
at_by (Some s) page z i = i

-- the page that is out, in the words of the lemmas
pub out_is : (a : Inside) (o : Option SheetOut) (page : HandedPage) (z : ℕ) → z ≡ a.config.page_size → IsOutAt o page z → IsOutOf o page a.config.page_size
out_is a o page z e i = subst (λ (n : ℕ). IsOutOf o page n) e (out_by o page z i)

pub at_is : (a : Inside) (o : Option SheetOut) (page : HandedPage) (z : ℕ) → z ≡ a.config.page_size → IsOutOf o page a.config.page_size → IsOutAt o page z
at_is a o page z e i = at_by o page z (subst (λ (n : ℕ). IsOutOf o page n) (sym e) i)

-- a printer that was looked at twice is one
pub same_printer : (a : Inside) (p : ℕ) (x y : Printer) → IsCore a → IsPrinter a.config p → x ≡ get_or a.printers.items (p - 1) x → y ≡ get_or a.printers.items (p - 1) y → x ≡ y
same_printer a p x y core ip ex ey =
    let r = core.reached in
    let lt = printer_there Outlines r.0 r.1 (core_view a) r.2 p ip in
    ex ∙ (get_or_default a.printers.items (p - 1) x y lt ∙ sym ey)

-- what was looked at before the page is taken back
pub record Seen (a : Inside) (p i : ℕ) (at : Printer) (page : HandedPage) : Type 0 where
  pub printer : IsPrinter a.config p
  pub at-is : at ≡ get_or a.printers.items (p - 1) at
  pub out : IsOutOf at.out page a.config.page_size
  pub found : Found (core_view a) page.job i

-- from what the code knows
pub seen_of : (a : Inside) (now : Kept) (p i : ℕ) (at : Printer) (page : HandedPage) (z : ℕ) → core_view a ≡ now → IsPrinter now.config p → at ≡ get_or a.printers.items (p - 1) at → z ≡ a.config.page_size → IsOutAt at.out page z
    → (i < length a.book.jobs) × ((job_at a.book i).facts.number ≡ page.job) → Seen a p i at page
seen_of a now p i at page z e is ea ez out f = record { printer = printer_of (core_view a) now p e is; at-is = ea; out = out_is a at.out page z ez out; found = found a page.job i f }

-- and of a printer that was looked at once more
pub seen_again : (a : Inside) (p i : ℕ) (x y : Printer) (page : HandedPage) → IsCore a → Seen a p i x page → y ≡ get_or a.printers.items (p - 1) y → Seen a p i y page
seen_again a p i x y page core s ey = subst (λ (z : Printer). Seen a p i z page) (same_printer a p x y core s.printer s.at-is ey) s

-- there is room in the pool for the page, and for those of its job
pub room : (a : Inside) (p i : ℕ) (at : Printer) (page : HandedPage) → IsCore a → Seen a p i at page → a.pool.free + length (every_page (job_at a.book i).chain.files) + 1 ≤ a.pool.pages
room a p i at page core s =
    let r = core.reached in
    room_free Outlines r.0 r.1 (core_view a) r.2 p s.printer at s.at-is page s.out i s.found

-- what is left, with another printer at its place
abbrev pub left : Inside → (p : ℕ) → Pages → Books → Claims → Printer → Inside
left a p pool book t printer = record {
  alloc = a.alloc;
  config = a.config;
  pool = pool;
  book = book;
  table = t;
  scratch = a.scratch;
  accepted = a.accepted;
  reserved = a.reserved;
  printers = with_item a.printers (p - 1) printer;
  closed = a.closed;
}

-- with the parts that are given, it is what the lemmas say
pub view_left : (a : Inside) (p : ℕ) (pool pool' : Pages) (book book' : Books) (t t' : Claims) (printer : Printer) → pool ≡ pool' → book ≡ book' → t ≡ t'
    → record (core_view a) { pool = pool'; book = book'; table = t'; printers = set a.printers.items (p - 1) printer } ≡ core_view (left a p pool book t printer)
view_left a p pool pool' book book' t t' printer ep eb et =
    ap (λ (z : Pages). record (core_view a) { pool = z; book = book'; table = t'; printers = set a.printers.items (p - 1) printer }) (sym ep)
    ∙ (ap (λ (z : Books). record (core_view a) { pool = pool; book = z; table = t'; printers = set a.printers.items (p - 1) printer }) (sym eb)
    ∙ ap (λ (z : Claims). record (core_view a) { pool = pool; book = book; table = z; printers = set a.printers.items (p - 1) printer }) (sym et))
