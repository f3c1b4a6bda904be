-- What the calls of a core come to, as requests.
use Rattle.std.proofs.Common.{◌≡◌, ℕ, Bool, List, Option, None, Result, Ok, Err, ap}
use Rattle.std.specs.Prelude.{IfErr}
use Rattle.page_pool.specs.Page.{Page}
use Rattle.lpd_values.specs.Contents.{Contents}
use Rattle.lpd_values.specs.declared.refusal.Refusal.{Refusal}
use Rattle.receiver.specs.Script as script
use Rattle.receiver.specs.Script.{Request}
use Rattle.account.specs.declared.entry.Outline.{Outline}
use Rattle.spool_history.specs.Base.{Base}
use Rattle.spool_history.specs.Events.{Event}
use Rattle.spool_calls.specs.declared.answers.Asked.{Asked}
use Rattle.spool_calls.specs.declared.answers.Receipt.{Receipt}
use Rattle.spool_calls.specs.declared.answers.ReturnedControl.{ReturnedControl}
use Rattle.spool_calls.specs.declared.answers.ReturnedPage.{ReturnedPage}
use Rattle.spool_calls.specs.declared.answers.ReturnedTicket.{ReturnedTicket}
use Rattle.spool_calls.specs.Looks.{Detail, What}
use Rattle.spool_calls.specs.Looks.Detail.{Outlines}
use Rattle.spool_calls.specs.Kept.{Kept}
use Rattle.spool_calls.specs.Calls.{IsRight, Admits, Opens, Begins, Asks, Puts, Ends, Controls, Aborts, Starts, Tells, Removes}
use Rattle.spool_requests.specs.declared.answer.Answer.{Answer}
use Rattle.spool_requests.specs.Follows.{Follows, Stood, from_session, aborted_by, asked_by, controlled_by, done_by, kept_by, opened_by, put_by, told_by}
use Rattle.spool_requests.proofs.Bridge.{abort_follows, control_follows, end_follows, file_follows, open_follows, page_follows, put_follows, queue_follows, removal_follows, start_follows, state_follows}
use Rattle.request_calls.specs.Carried.{Carries}

module _ {old new : Kept} {sender job : ℕ} where
  -- a call whose outcome is one that the request may have
  follows : {r : Request} {answer : Answer} → new.config ≡ old.config → ((d : Detail) (b : Base) (h : List (Event (What d))) → Stood d b h old new → Follows d b h old new (from_session sender job r) answer)
      → Carries old sender job r answer new
  follows e due = record { config = e; follows = λ ranges d b h l. due d b h (record { ranges = ranges; config = e; left = l }) }

  pub queue_carried : (name : List ℕ) (result : Result (Unit {0}) Refusal) → new ≡ old → IsRight old (λ d b h. Admits d b h old name result)
      → Carries old sender job (script.Queue name) (done_by result) new
  queue_carried name result e right = follows (ap (λ (k : Kept). k.config) e) (λ d b h s. queue_follows name d b h old new sender job result s (e, right d b h s.left))

  pub open_carried : (name : List ℕ) (result : Result ℕ Refusal) → new.config ≡ old.config → IsRight old (λ d b h. Opens d b h old sender name new result)
      → Carries old sender job (script.Open name) (opened_by result) new
  open_carried name result e right = follows e (λ d b h s. open_follows name d b h old new sender job result s (right d b h s.left))

  pub page_carried : (result : Result Asked Refusal) → new.config ≡ old.config → IsRight old (λ d b h. Asks d b h old job new result)
      → Carries old sender job script.AskPage (asked_by result) new
  page_carried result e right = follows e (λ d b h s. page_follows d b h old new sender job result s (right d b h s.left))

  pub put_carried : (page : Page) (result : Result (Unit {0}) ReturnedPage) → new.config ≡ old.config → IsRight old (λ d b h. Puts d b h old job page new result)
      → Carries old sender job (script.Filled page) (put_by result) new
  put_carried page result e right = follows e (λ d b h s. put_follows page d b h old new sender job result s (right d b h s.left))

  pub end_carried : (result : Result Receipt Refusal) → new.config ≡ old.config → IsRight old (λ d b h. Ends d b h old job new result)
      → Carries old sender job script.EndFile (kept_by result) new
  end_carried result e right = follows e (λ d b h s. end_follows d b h old new sender job result s (right d b h s.left))

  pub control_carried : (control : Contents) (result : Result Receipt ReturnedControl) → new.config ≡ old.config → IsRight old (λ d b h. Controls d b h old job control new result)
      → Carries old sender job (script.Control control) (controlled_by result) new
  control_carried control result e right = follows e (λ d b h s. control_follows control d b h old new sender job result s (right d b h s.left))

  pub abort_carried : (result : Result (Unit {0}) ReturnedTicket) → new.config ≡ old.config → IsRight old (λ d b h. Aborts d b h old job None new result)
      → Carries old sender job script.AbortJob (aborted_by result) new
  abort_carried result e right = follows e (λ d b h s. abort_follows d b h old new sender job result s (right d b h s.left))

  pub start_carried : (name : List ℕ) (result : Result (Unit {0}) Refusal) → new.config ≡ old.config → IsRight old (λ d b h. Starts d b h old name new result)
      → Carries old sender job (script.StartPrinters name) (done_by result) new
  start_carried name result e right = follows e (λ d b h s. start_follows name d b h old new sender job result s (right d b h s.left))

  pub state_carried : (name : List ℕ) (list : List (List ℕ)) (long : Bool) (result : Result (List ℕ) Refusal) → new ≡ old → IsRight old (λ d b h. Tells d b h old name list long result)
      → Carries old sender job (script.QueueState name list long) (told_by result) new
  state_carried name list long result e right = follows (ap (λ (k : Kept). k.config) e) (λ d b h s. state_follows name list long d b h old new sender job result s (e, right d b h s.left))

  pub removal_carried : (name agent : List ℕ) (list : List (List ℕ)) (result : Result (List ℕ) Refusal) → new.config ≡ old.config → IsRight old (λ d b h. Removes d b h old name agent list new result)
      → Carries old sender job (script.RemoveJobs name agent list) (told_by result) new
  removal_carried name agent list result e right = follows e (λ d b h s. removal_follows name agent list d b h old new sender job result s (right d b h s.left))

  pub file_carried : (name : List ℕ) (count : ℕ) (result : Result (Unit {0}) Refusal) → new.config ≡ old.config → IsRight old (λ d b h. Begins d b h old job name count new result)
      → Carries old sender job (script.BeginFile name count) (done_by result) new
  file_carried name count result e right = follows e (λ d b h s. file_follows name count d b h old new sender job result s (right d b h s.left))
