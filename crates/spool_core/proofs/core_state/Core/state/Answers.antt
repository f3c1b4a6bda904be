use Rattle.std.proofs.Common.{◌≡◌, ℕ, Bool, List, length, ap, ◌∙◌}
use Rattle.std.specs.Prelude.{Result, Ok}
use Rattle.config_values.specs.Config.{Config, queue_at}
use Rattle.lpd_values.specs.Texts.{state_text}
use Rattle.held_jobs.specs.Books.{Books}
use Rattle.held_jobs.specs.Told.{told_in}
use Rattle.held_jobs.specs.Turns.{facts_in}
use Rattle.lpd_values.specs.declared.refusal.Refusal.{Refusal}
use Rattle.spool_history.specs.Base.{Base}
use Rattle.spool_history.specs.Events.{Event}
use Rattle.spool_calls.specs.declared.printer.Printer.{Printer}
use Rattle.spool_calls.specs.Looks.{Detail, What}
use Rattle.spool_calls.specs.Kept.{Kept}
use Rattle.spool_calls.specs.Calls.{Tells}
use Rattle.spool_calls.specs.Telling.{serving, stopped_in}
use Rattle.step_lemmas.proofs.Cores.Telling.{tell_text}
use Rattle.spool_core.specs.Inside.{core_view}
use Rattle.spool_core.proofs.Cores.{stays}
use Rattle.spool_core.proofs.core_state.Core.state.Goals as goal

abbrev Answer : List ℕ → List (List ℕ) → Bool → Result (List ℕ) Refusal → Kept → (d : Detail) → Base → List (Event (What d)) → Type 0
Answer name list long r k d b h = Tells d b h k name list long r

abbrev told_with : Config → Books → ℕ → List (List ℕ) → Bool → List Printer → List ℕ
told_with c book q list long printers =
    state_text told_in q (queue_at c q).name (length (serving q printers)) (length (stopped_in q printers)) list long (facts_in book.jobs)

-- the text, with the printers that were read
told : (c : Config) (book : Books) (q : ℕ) (list : List (List ℕ)) (long : Bool) (read printers : List Printer) (text : List ℕ)
    → text ≡ told_with c book q list long read → read ≡ printers → text ≡ told_with c book q list long printers
told c book q list long read printers text e r = e ∙ ap (told_with c book q list long) r

pub returns : goal.returns
returns c =
    let a = c.self.inside in
    let q = c.in-Some.q in
    let name = c.args.queue.now in
    let list = c.args.list.now in
    stays (core_view a) c.args.self.now (Answer name list c.args.long (Ok c.in_ok-text.text)) c.self.view_is
    (λ d b h l. tell_text d b h (core_view a) l name list c.args.long q c.in_ok-text.text c.in-Some.ensures.named c.in-Some.ensures.found.0
    (told a.config a.book q list c.args.long c.as_slice-printers.result.now a.printers.items c.in_ok-text.text c.in_ok-text.ensures c.as_slice-printers.ensures.value))
