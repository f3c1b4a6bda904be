-- What each call of a core owes.
use Rattle.std.proofs.Common.{◌≡◌, ℕ, ◌+◌, ◌-◌, ◌<◌, List, length, sym, ◌∙◌, ap, subst, arith}
use Rattle.std.specs.Vec.{vec_len}
use Rattle.account.specs.declared.entry.Outline.{Outline}
use Rattle.claims.specs.Claims.{Claims}
use Rattle.page_pool.specs.Page.{Pages}
use Rattle.held_jobs.specs.Books.{Books, job_at}
use Rattle.config_values.specs.Config.{IsPrinter}
use Rattle.spool_history.specs.Base.{Base}
use Rattle.spool_history.specs.Events.{Event}
use Rattle.spool_calls.specs.Looks.{Detail, What}
use Rattle.spool_calls.specs.Looks.Detail.{Outlines}
use Rattle.spool_calls.specs.Kept.{Kept, Leaves}
use Rattle.spool_calls.specs.Calls.{IsRight}
use Rattle.spool_core.specs.declared.core_state.Core.TheInside.{Inside}
use Rattle.spool_core.specs.Inside.{core_view, IsCore}
use Rattle.step_lemmas.proofs.Cores.Leaving.{Found}
use Rattle.step_lemmas.proofs.Cores.Printers.{printer_there}

-- an answer of a core that stays as it is
pub stays : (k now : Kept) (P : Kept → (d : Detail) → Base → List (Event (What d)) → Type 0) → k ≡ now → IsRight k (P k) → IsRight now (P now)
stays k now P e r = subst (λ (z : Kept). IsRight z (P z)) e r

pub found : (a : Inside) (job i : ℕ) → (i < length a.book.jobs) × ((job_at a.book i).facts.number ≡ job) → Found (core_view a) job i
found a job i f = record { there = f.0; number' = f.1 }

-- a core that some history leaves, with the same configuration and room
pub still : (a n : Inside) → IsCore a → n.config ≡ a.config → n.scratch.rows ≡ a.scratch.rows → n.scratch.kinds ≡ a.scratch.kinds → (b : Base) × (h : List (Event Outline)) × Leaves Outlines b h (core_view n) → IsCore n
still a n core ec er ek reached = record {
  ranges = subst Rattle.config_values.specs.Ranges.IsConfig (sym ec) core.ranges;
  reached = reached;
  rows = er ∙ (core.rows ∙ ap (λ (c : Rattle.config_values.specs.Config.Config). c.max_jobs) (sym ec));
  kinds = ek ∙ (core.kinds ∙ ap (λ (c : Rattle.config_values.specs.Config.Config). length c.queues + 1) (sym ec));
}

-- a printer of the configuration is one of those that are kept
pub printer_of : (k l : Kept) (p : ℕ) → k ≡ l → IsPrinter l.config p → IsPrinter k.config p
printer_of k l p e is = subst (λ (x : Kept). IsPrinter x.config p) (sym e) is

pub printer_within : (a : Inside) (p : ℕ) → IsCore a → IsPrinter a.config p → p - 1 < vec_len a.printers
printer_within a p core is =
    let r = core.reached in
    let n = printer_there Outlines r.0 r.1 (core_view a) r.2 p is in
    let o = a.printers.ok in
    omega (arith, n, o)

-- a core with equal parts
pub parts : (k : Kept) (p q : Pages) (b c : Books) (t u : Claims) → q ≡ p → c ≡ b → u ≡ t → record k { pool = p; book = b; table = t } ≡ record k { pool = q; book = c; table = u }
parts k p q b c t u ep eb et =
    ap (λ (z : Pages). record k { pool = z; book = b; table = t }) (sym ep)
    ∙ (ap (λ (z : Books). record k { pool = q; book = z; table = t }) (sym eb) ∙ ap (λ (z : Claims). record k { pool = q; book = c; table = z }) (sym et))
