-- The printers that a core keeps.
use Rattle.std.specs.Prelude.{◌==◌, ℕ, false, List, None, cond, count_by, is_some, length}
use Rattle.account.specs.declared.entry.Progress.{Progress}
use Rattle.account.specs.declared.entry.Progress.TheVariants.{Going, Done, Ended}
use Rattle.held_jobs.specs.Jobs.{HeldJob}
use Rattle.held_jobs.specs.Turns.{is_ended}
use Rattle.spool_calls.specs.declared.printer.Printer.{Printer}

-- a printer that isn't there
abbrev pub no_kept : Printer
no_kept = record { queue = 0; out = None; began = None; stopped = false }

-- a printer of this queue, started
abbrev pub started : ℕ → Printer → Printer
started q p = cond (p.queue == q) (record p { stopped = false }) p

-- a printer that began no job
abbrev pub with_none : Printer → Printer
with_none p = record p { began = None }

-- how many of these printers are stopped
abbrev pub stopped_among : List Printer → ℕ
stopped_among printers = count_by (λ (p : Printer). p.stopped) printers

-- how many of these printers have a page out
abbrev pub out_among : List Printer → ℕ
out_among printers = count_by (λ (p : Printer). is_some p.out) printers

-- what is said of a job when a page of it was printed
abbrev pub said_of : HeldJob → Progress
said_of j = cond (is_ended j.facts.phase) Ended (cond (length j.chain.places == 0) Done Going)
