-- A core in which nothing happened yet.
use Rattle.std.proofs.Common.{◌≡◌, ℕ, ◌-◌, false, List, [], ◌∷◌, map, refl, ◌∙◌, ap, arith}
use Rattle.claims.specs.Claims.{Claims, IsTable}
use Rattle.page_pool.specs.Page.{Pages}
use Rattle.held_jobs.specs.Books.{Books}
use Rattle.config_values.specs.Config.{Config, printer_count}
use Rattle.spool_history.specs.Base.{first_base}
use Rattle.spool_history.specs.Now.{capacity, printer_of, up_to}
use Rattle.spool_calls.specs.declared.printer.Printer.{Printer}
use Rattle.spool_calls.specs.Looks.{Detail}
use Rattle.spool_calls.specs.Looks.Detail.{Outlines}
use Rattle.spool_calls.specs.Kept.{Kept, Leaves, kept_printer}
use Rattle.spool_core.specs.Printers.{idle}

-- idle printers are the same however pages are told
idle_same : (d : Detail) (c : Config) (ps : List ℕ) → map (kept_printer Outlines) (map (printer_of c first_base []) ps) ≡ map (kept_printer d) (map (printer_of c first_base []) ps)
idle_same d c [] = refl
idle_same d c (p ∷ ps) = ap (λ (l : List Printer). kept_printer d (printer_of c first_base [] p) ∷ l) (idle_same d c ps)

pub begins : (c : Config) (pool : Pages) (book : Books) (t : Claims) (printers : List Printer)
    → pool ≡ record { page_size = c.page_size; pages = c.pages; free = c.pages } → book ≡ record { jobs = []; stored = 0; max_jobs = c.max_jobs; pages = c.pages; page_size = c.page_size }
    → t ≡ record { capacity = capacity c; free = capacity c; rows = []; room = c.max_jobs } → IsTable t → printers ≡ idle c (printer_count c)
    → (d : Detail) → Leaves d first_base [] (record { config = c; pool = pool; book = book; table = t; accepted = 0; reserved = 0; printers = printers; closed = false })
begins c pool book t printers ep eb et table ei d = record {
  legal = tt;
  kept = record {
    book = record {
      jobs = ap (λ (z : Books). map (Rattle.held_jobs.specs.Shown.see_job (Rattle.spool_calls.specs.Kept.look d)) z.jobs) eb;
      stored = ap (λ (z : Books). z.stored) eb;
      max_jobs = ap (λ (z : Books). z.max_jobs) eb;
      pages = ap (λ (z : Books). z.pages) eb;
      page_size = ap (λ (z : Books). z.page_size) eb;
    };
    table = record {
      table = table;
      rows = ap (λ (z : Claims). z.rows) et;
      capacity = ap (λ (z : Claims). z.capacity) et;
      room = ap (λ (z : Claims). z.room) et;
    };
    pool = ep ∙ ap (λ (n : ℕ). record { page_size = c.page_size; pages = c.pages; free = n }) (let z : c.pages ≡ c.pages - 0 = omega arith in z);
    accepted = refl;
    reserved = refl;
    printers = ei ∙ idle_same d c (up_to (printer_count c));
    closed = refl;
  };
}
