-- A world in which nothing has happened.
use Rattle.std.proofs.Common.{◌≡◌, ℕ, ◌-◌, All, List, [], Option, None, length, arith, sym, subst, ap}
use Rattle.config_values.specs.Config.{printer_count}
use Rattle.config_values.specs.Ranges.{IsConfig}
use Rattle.spool_history.specs.Base.{first_base}
use Rattle.spool_history.specs.Events.{Sheet}
use Rattle.spool_history.specs.Now.{Printer}
use Rattle.spool_history.specs.Next.{printer_at}
use Rattle.spool_laws.proofs.Printers.{at_printer}
use Rattle.spool_calls.specs.declared.handed.HandedPage.{HandedPage}
use Rattle.spool_calls.specs.Looks.Detail.{Octets}
use Rattle.spool_calls.specs.Kept.{Kept, Leaves}
use Rattle.spool_trace.specs.Shown.{spool_after}
use Rattle.spool_world.specs.declared.connection.Connection.{Connection}
use Rattle.spool_world.specs.Worlds.{IsOut, Leads}

pub begins : (core : Kept) (ks : List Connection) (pages : List (Option HandedPage)) → IsConfig core.config → Leaves Octets first_base [] core → ks ≡ [] → length pages ≡ printer_count core.config → All (λ (x : Option HandedPage). x ≡ None) pages
    → Leads [] (record { core = core; connections = ks; pages = pages })
begins core ks pages ranges left none count blank = record {
  ranges = ranges;
  right = tt;
  core = left;
  count = ap length none;
  connections = λ i other lt. absurd (let e = ap length none in omega (arith, lt, e));
  printers = λ p ip.
      subst (λ (x : Option HandedPage). IsOut core.config.page_size x (printer_at (spool_after core.config []) p).out) (sym (blank (p - 1) None (let a = ip.0 in let b = ip.1 in let c = count in omega (arith, a, b, c))))
      (subst (λ (x : Option (Sheet (List ℕ))). IsOut core.config.page_size None x) (sym (ap (λ (x : Printer (List ℕ)). x.out) (at_printer core.config first_base [] p ip.0 ip.1))) tt);
}
