-- Of what a request doesn't say, a history leaves no choice: the file and the page that are put, the file that ends, and
-- whether printers are started and a job is aborted.
use Rattle.std.specs.Prelude.{◌≡◌, ◌↔◌, ℕ, Bool, true, List}
use Rattle.config_values.specs.Config.{Config, IsPrinter}
use Rattle.spool_history.specs.Base.{Base}
use Rattle.spool_history.specs.Events.{Event}
use Rattle.spool_history.specs.Events.Act.{Put, FileEnded, Aborted}
use Rattle.spool_history.specs.Now.{State, now}
use Rattle.spool_history.specs.Next.{printer_at}
use Rattle.spool_history.specs.Legal.{MayAct, IsStoppedFor}
use Rattle.spool_requests.specs.Shows.{file_now, page_now, has_stopped, may_abort}

-- after a history a page has one place where it may be put
abbrev pub PutIsDecided : Type 0 → Type 0
PutIsDecided C =
    (size : C → ℕ) (c : Config) (b : Base) (h : List (Event C)) (j file number : ℕ) (page : C) →
    MayAct size (now c b h) j (Put file number page) → (file ≡ file_now (now c b h) j) × (number ≡ page_now (now c b h) j)

-- and one file may end
abbrev pub EndIsDecided : Type 0 → Type 0
EndIsDecided C =
    (size : C → ℕ) (c : Config) (b : Base) (h : List (Event C)) (j file : ℕ) (whole : Bool) →
    MayAct size (now c b h) j (FileEnded file whole) → file ≡ file_now (now c b h) j

-- what a session in its end aborts is what may be aborted
abbrev pub AbortIsDecided : Type 0 → Type 0
AbortIsDecided C = (size : C → ℕ) (v : State C) (j : ℕ) → (may_abort v j ≡ true) ↔ MayAct size v j Aborted

-- a printer is stopped where a start may come for it
abbrev pub StartIsDecided : Type 0 → Type 0
StartIsDecided C =
    (c : Config) (b : Base) (h : List (Event C)) (q : ℕ) →
    (has_stopped (now c b h) q ≡ true) ↔ (p : ℕ) × IsPrinter c p × IsStoppedFor q (printer_at (now c b h) p)
