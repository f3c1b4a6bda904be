-- A call is its two halves.
use Rattle.std.proofs.Common.{◌≡◌, ℕ, List, subst, sym}
use Rattle.std.specs.Prelude.{Ok}
use Rattle.spool_history.specs.Base.{Base}
use Rattle.spool_history.specs.Events.{Event}
use Rattle.spool_history.specs.Now.{State}
use Rattle.spool_history.specs.Refusals.{TakesJobs}
use Rattle.spool_history.specs.Texts.{removal_text}
use Rattle.spool_calls.specs.Looks.{Detail, What}
use Rattle.spool_calls.specs.Kept.{Kept}
use Rattle.spool_calls.specs.Calls.{Removes, Starts, before, removed_by}
use Rattle.spool_core.specs.declared.telling.Removal.{Removal}
use Rattle.spool_core.specs.Halves.{FindsQueue, FindsRemoval, RemovesJobs, StartsQueue}

module _ (d : Detail) (b : Base) (h : List (Event (What d))) (old new : Kept) where
  abbrev v : State (What d)
  v = before d b h old

  pub starts : (name : List ℕ) (q : ℕ) → FindsQueue d b h old name (Ok q) → StartsQueue d b h old q new → Starts d b h old name new (Ok tt)
  starts name q f did = subst (λ (n : ℕ). TakesJobs v n × StartsQueue d b h old n new) (sym f.0) (f.1, did)

  pub removes : (name agent : List ℕ) (list : List (List ℕ)) (r : Removal) → FindsRemoval d b h old name agent list (Ok r) → RemovesJobs d b h old r.queue r.numbers.items new
      → Removes d b h old name agent list new (Ok r.text)
  removes name agent list r f did =
      subst (λ (n : ℕ). TakesJobs v n × (r.text ≡ removal_text v n agent list) × RemovesJobs d b h old n (removed_by d b h old n agent list) new) (sym f.0)
      (f.1, f.3, subst (λ (ms : List ℕ). RemovesJobs d b h old r.queue ms new) f.2 did)
