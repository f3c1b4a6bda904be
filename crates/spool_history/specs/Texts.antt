-- The texts that answer a question for a queue's state and a removal, where a history leaves a spool.
use Rattle.std.specs.Prelude.{ℕ, ◌==◌, Bool, List, filter, length}
use Rattle.lpd_values.specs.Texts as T
use Rattle.config_values.specs.Config.{queue_at}
use Rattle.spool_history.specs.Now.{Printer, State}
use Rattle.spool_history.specs.Told.{told_of}

-- the printers that serve a queue
abbrev pub printers_in : {C : Type 0} → ℕ → List (Printer C) → List (Printer C)
printers_in q printers = filter (λ p. p.queue == q) printers

-- those of them that are stopped
abbrev pub stopped_in : {C : Type 0} → ℕ → List (Printer C) → List (Printer C)
stopped_in q printers = filter (λ p. p.stopped) (printers_in q printers)

abbrev pub state_text : {C : Type 0} → State C → ℕ → List (List ℕ) → Bool → List ℕ
state_text v q list long =
    T.state_text told_of q (queue_at v.config q).name (length (printers_in q v.printers)) (length (stopped_in q v.printers)) list long v.jobs

abbrev pub removal_text : {C : Type 0} → State C → ℕ → List ℕ → List (List ℕ) → List ℕ
removal_text v q agent list = T.removal_text told_of q agent list v.jobs
