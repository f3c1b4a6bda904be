-- A snapshot shows where a history leaves the core.
use Rattle.std.proofs.Common.{◌≡◌, ℕ, List, map, ap, subst, ◌∙◌}
use Rattle.std.proofs.lemmas.Simd.{map-map}
use Rattle.held_jobs.specs.Turns.{facts_in}
use Rattle.spool_history.specs.Base.{Base}
use Rattle.spool_history.specs.Events.{Event}
use Rattle.spool_calls.specs.Looks.{Detail, What}
use Rattle.spool_calls.specs.Kept.{Kept, Leaves, facts_of, left_by}
use Rattle.spool_calls.specs.Calls.{IsRight}
use Rattle.spool_calls.specs.Readers.{ArePlaced, placed}
use Rattle.step_lemmas.proofs.Cores.Turning.{facts_kept}
use Rattle.spool_snapshot.specs.declared.snapshot.Snapshot.{Snapshot}
use Rattle.spool_snapshot.specs.Jobs.{seen_job}
use Rattle.spool_snapshot.specs.Shows.{Shows}

-- what a core keeps, as a snapshot has it
pub record Copies (k : Kept) (s : Snapshot) : Type 0 where
  pub jobs : s.jobs.items ≡ map seen_job (facts_in k.book.jobs)
  pub claims : s.claims ≡ k.table
  pub printers : s.printers.items ≡ k.printers
  pub accepted : s.accepted ≡ k.accepted
  pub reserved : s.reserved ≡ k.reserved
  pub closed : s.closed ≡ k.closed

shows : (d : Detail) (b : Base) (h : List (Event (What d))) (k : Kept) (s : Snapshot) → Leaves d b h k → Copies k s → ArePlaced d b h k (placed s.pages.free s.pages.chained s.pages.lent s.pages.out) → Shows d b h k s
shows d b h k s l c placed = record {
  jobs = c.jobs ∙ (ap (map seen_job) (facts_kept d b h k l) ∙ map-map seen_job (facts_of k.config) (left_by d b h k).jobs);
  claims = rw c.claims l.kept.table;
  pages = placed;
  printers = c.printers ∙ l.kept.printers;
  accepted = c.accepted ∙ l.kept.accepted;
  reserved = c.reserved ∙ l.kept.reserved;
  closed = c.closed ∙ l.kept.closed;
}

-- a snapshot of what a core keeps shows where each history that leaves it there leaves the spool
pub seen : (k now : Kept) (s : Snapshot) → k ≡ now → Copies k s → IsRight now (λ d b h. ArePlaced d b h now (placed s.pages.free s.pages.chained s.pages.lent s.pages.out)) → IsRight now (λ d b h. Shows d b h now s)
seen k now s e c placed = λ d b h l. shows d b h now s l (subst (λ (z : Kept). Copies z s) e c) (placed d b h l)
