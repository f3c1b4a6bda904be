-- Each held job's queue is one that there is.
use Rattle.std.proofs.Common.{inl, inr, ℕ, List, [], ◌∷◌, sym, ap, subst}
use Rattle.spool_history.specs.Base.{Base}
use Rattle.spool_history.specs.Events.{Event}
use Rattle.spool_history.specs.Events.Event.{Opened, OfJob, AtPrinter, Removed, Started, Closed}
use Rattle.config_values.specs.Config.{Config, IsQueue}
use Rattle.spool_history.specs.Said.{Opening, openings}
use Rattle.spool_history.specs.Now.{Job, now}
use Rattle.spool_history.specs.Legal.{IsLegal}
use Rattle.spool_laws.proofs.Known.{Has, has_last, known}

-- the queue of each accepted job is one of the config's queues
pub queued : {C : Type 0} (size : C → ℕ) (c : Config) (base : Base) (h : List (Event C)) → IsLegal size c base h → (o : Opening) → Has o (openings h) → IsQueue c o.queue
queued size c base [] l o has = absurd has
queued size c base (Opened k s q ∷ h) l o has = elim (has_last o (openings h) (record { job = k; sender = s; queue = q }) has) [
  | inl t ↦ queued size c base h l.1 o t
  | inr e ↦ subst (λ (n : ℕ). IsQueue c n) (ap (λ (x : Opening). x.queue) e) l.0.1
]
queued size c base (OfJob k act ∷ h) l o has = queued size c base h l.1 o has
queued size c base (AtPrinter p sheet turn ∷ h) l o has = queued size c base h l.1 o has
queued size c base (Removed q jobs ∷ h) l o has = queued size c base h l.1 o has
queued size c base (Started q ∷ h) l o has = queued size c base h l.1 o has
queued size c base (Closed ∷ h) l o has = queued size c base h l.1 o has

-- the queue of each held job is one of the config's queues
pub job_queued : {C : Type 0} (size : C → ℕ) (c : Config) (base : Base) (h : List (Event C)) (x : Job C) → IsLegal size c base h → Has x (now c base h).jobs → IsQueue c x.queue
job_queued {C} size c base h x l has = (let k = known c base h x has in subst (λ (v : Job C). IsQueue c v.queue) (sym k.is) (queued size c base h l k.opening k.there))
