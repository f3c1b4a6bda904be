-- What was counted of the account for jobs that are gone is given back.
use Rattle.std.proofs.Common.{◌≡◌, ℕ, ◌+◌, ◌-◌, ◌^◌, ◌≤◌, Bool, List, [], map, refl, sym, ◌∙◌, ap, subst, arith}
use Rattle.std.specs.Prelude.{cond, sum_by}
use Rattle.std.proofs.lemmas.Simd.{map-map}
use Rattle.held_jobs.specs.Jobs.{HeldJob}
use Rattle.held_jobs.specs.Shown.{ShownJob, see_job}
use Rattle.config_values.specs.Config.{Config, reserve_of}
use Rattle.config_values.specs.Ranges.{IsConfig}
use Rattle.spool_history.specs.Base.{Base}
use Rattle.spool_history.specs.Events.{Event}
use Rattle.spool_history.specs.Now as N
use Rattle.spool_history.specs.Now.{Job, State}
use Rattle.spool_history.specs.Rotated.{rotated, stopped_in}
use Rattle.spool_laws.specs.Freeing.{held_reserve, still_reserved}
use Rattle.spool_laws.proofs.Adding.{sum_map}
use Rattle.spool_laws.proofs.Freeing.{wider_is_legal}
use Rattle.spool_calls.specs.declared.printer.Printer.{Printer}
use Rattle.spool_calls.specs.Looks.{Detail, What, size}
use Rattle.spool_calls.specs.Kept.{Kept, Leaves, left_by, look, shown_job, kept_printer}
use Rattle.spool_calls.specs.Calls.{Rotates}
use Rattle.spool_calls.specs.Printers.{stopped_among}
use Rattle.step_lemmas.proofs.Cores.Closing.{rotate_done, rotated_core}

-- a configuration in its ranges is in them with another account too
pub larger : (c : Config) (n : ℕ) → IsConfig c → 1 ≤ n → n ≤ 2 ^ 62 → IsConfig (record c { account = n })
larger c n r low high = record {
  pages_low = r.pages_low;
  pages_high = r.pages_high;
  page_size_low = r.page_size_low;
  page_size_high = r.page_size_high;
  max_jobs_low = r.max_jobs_low;
  max_jobs_high = r.max_jobs_high;
  account_low = low;
  account_high = high;
  some_queue = r.some_queue;
  few_queues = r.few_queues;
  queues = r.queues;
  names = r.names;
}

pub some : (c : Config) (n : ℕ) → IsConfig c → c.account ≤ n → 1 ≤ n
some c n r le = (let low = r.account_low in omega arith)

-- what is kept of a core whose account may have so many entries
abbrev pub with_account : ℕ → Kept → Kept
with_account n k = record k { config = record k.config { account = n } }

module _ (d : Detail) (b : Base) (h : List (Event (What d))) (k : Kept) (l : Leaves d b h k) where
  abbrev v : State (What d)
  v = left_by d b h k

  -- with a larger account the history is as legal, and leaves the core where it did
  pub widened : (n : ℕ) → k.config.account ≤ n → Leaves d b h (with_account n k)
  widened n le =
      let m = n - k.config.account in
      let same : m + k.config.account ≡ n = omega arith in
      let is = l.kept in
      subst (λ (a : ℕ). Leaves d b h (with_account a k)) same (record {
        legal = wider_is_legal (size d) k.config b h m l.legal;
        kept = record {
          book = record { jobs = is.book.jobs; stored = is.book.stored; max_jobs = is.book.max_jobs; pages = is.book.pages; page_size = is.book.page_size };
          table = record { table = is.table.table; rows = is.table.rows; capacity = is.table.capacity; room = is.table.room };
          pool = is.pool;
          accepted = is.accepted;
          reserved = is.reserved;
          printers = is.printers;
          closed = is.closed;
        };
      })

  -- a history that is put away may go on with another account
  pub rotated_with : (n : ℕ) → k.book.jobs ≡ [] → Rotates d b h k (with_account n (rotated_core k))
  rotated_with n none =
      let is = (rotate_done d b h k l none).kept in
      record {
        legal = tt;
        kept = record {
          book = record { jobs = is.book.jobs; stored = is.book.stored; max_jobs = is.book.max_jobs; pages = is.book.pages; page_size = is.book.page_size };
          table = record { table = is.table.table; rows = is.table.rows; capacity = is.table.capacity; room = is.table.room };
          pool = is.pool;
          accepted = is.accepted;
          reserved = is.reserved;
          printers = is.printers;
          closed = is.closed;
        };
      }

  -- what the jobs of the book may add is what the held jobs may add
  held_is : sum_by (λ (j : HeldJob). reserve_of k.config j.facts.queue) k.book.jobs ≡ held_reserve v
  held_is =
      let f : ShownJob (What d) → ℕ = λ s. reserve_of k.config s.facts.queue in
      sym (sum_map f (see_job (look d)) k.book.jobs) ∙ (ap (sum_by f) l.kept.book.jobs ∙ sum_map f (shown_job k.config) v.jobs)

  pub stopped_is : stopped_among k.printers ≡ stopped_in v
  stopped_is = ap stopped_among l.kept.printers ∙ sum_map (λ (p : Printer). cond p.stopped 1 0) (kept_printer d) v.printers

  pub still_is : (held stopped : ℕ) → held ≡ sum_by (λ (j : HeldJob). reserve_of k.config j.facts.queue) k.book.jobs → stopped ≡ stopped_among k.printers → held + stopped ≡ still_reserved v
  still_is held stopped e f = omega (arith, e, f, held_is, stopped_is)

  -- the base is that after the history
  pub base_is : (accepted reserved : ℕ) (closed : Bool) (stops : List Bool) → accepted ≡ k.accepted → reserved ≡ stopped_among k.printers → closed ≡ k.closed → stops ≡ map (λ (p : Printer). p.stopped) k.printers
      → ◌≡◌ {A = Base} (record { accepted = accepted; reserved = reserved; closed = closed; stopped = stops }) (rotated v)
  base_is accepted reserved closed stops a r c s =
      let is = l.kept in
      let stopped : N.Printer (What d) → Bool = λ p. p.stopped in
      let all : stops ≡ map stopped v.printers = s ∙ (ap (map (λ (p : Printer). p.stopped)) is.printers ∙ map-map (λ (p : Printer). p.stopped) (kept_printer d) v.printers) in
      same_base _ _ _ _ _ _ _ _ (a ∙ is.accepted) (r ∙ stopped_is) (c ∙ is.closed) all
    where
      same_base : (a a' r r' : ℕ) (c c' : Bool) (s s' : List Bool) → a ≡ a' → r ≡ r' → c ≡ c' → s ≡ s'
          → ◌≡◌ {A = Base} (record { accepted = a; reserved = r; closed = c; stopped = s }) (record { accepted = a'; reserved = r'; closed = c'; stopped = s' })
      same_base a a' r r' c c' s s' x y z w = cc (x, y, z, w)
