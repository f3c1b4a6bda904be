-- From the core's clauses to the answers of a session.
use Rattle.std.proofs.Common.{◌≡◌, ◌⊎◌, ℕ, Bool, true, false, List, [], ◌∷◌, Option, Some, None, Result, Ok, Err, refl, sym, ap, subst, ◌∙◌, inl, inr, arith}
use Rattle.std.specs.Prelude.{◌&&◌, MatchBool, if◌then◌else◌}
use Rattle.lpd_values.specs.Contents.{Contents}
use Rattle.lpd_values.specs.declared.refusal.Refusal.{Refusal}
use Rattle.lpd_values.specs.declared.refusal.Refusal.TheVariants.{NotOpen}
use Rattle.config_values.specs.Config.{Config, IsQueue, queue_named}
use Rattle.page_pool.specs.Page.{Page}
use Rattle.receiver.specs.Script.{Request, Queue, Open, BeginFile, AskPage, Filled, EndFile, Control, AbortJob, StartPrinters, QueueState, RemoveJobs}
use Rattle.spool_history.specs.Base.{Base}
use Rattle.spool_history.specs.Events.{Event}
use Rattle.spool_history.specs.Events.Act.{Put, FileEnded, Aborted}
use Rattle.spool_history.specs.Events.Event.{Opened, OfJob, Removed, Started}
use Rattle.spool_history.specs.Now.{State, now}
use Rattle.spool_history.specs.Legal.{HasJob, May}
use Rattle.spool_laws.proofs.Known.{clash}
use Rattle.spool_calls.specs.declared.answers.Asked.{Asked}
use Rattle.spool_calls.specs.declared.answers.Asked.TheVariants as asked
use Rattle.spool_calls.specs.declared.answers.Receipt.{Receipt}
use Rattle.spool_calls.specs.declared.answers.Receipt.TheVariants as receipt
use Rattle.spool_calls.specs.declared.answers.ReturnedControl.{ReturnedControl}
use Rattle.spool_calls.specs.declared.answers.ReturnedPage.{ReturnedPage}
use Rattle.spool_calls.specs.declared.answers.ReturnedTicket.{ReturnedTicket}
use Rattle.spool_calls.specs.Looks.{Detail, What, see, size}
use Rattle.spool_calls.specs.Kept.{Kept, Leaves}
use Rattle.spool_calls.specs.Calls.{before, Admits, Opens, Begins, Asks, Puts, Ends, Controls, Aborts, Starts, Tells, Removes, removed_by}
use Rattle.spool_requests.specs.declared.answer.Answer.{Answer}
use Rattle.spool_requests.specs.declared.answer.Answer.TheVariants.{Yes, Accepted, Lent, Later, Stored, Received, Told, Refused}
use Rattle.spool_requests.specs.Shows.{event_of, end_of, file_now, page_now, has_stopped, may_abort, start_of, removal_of, with_event}
use Rattle.spool_requests.specs.Due.{IsDueAnswer, MayCome}
use Rattle.spool_requests.specs.Follows.{Stood, Follows, from_session, done_by, opened_by, asked_by, put_by, kept_by, controlled_by, aborted_by, told_by, AbortsInHand, HasItsPage, QueueFollows, OpenFollows, FileFollows, PageFollows, PutFollows, EndFollows, ControlFollows, AbortFollows, StartFollows, StateFollows, RemovalFollows, SessionEndFollows}
use Rattle.spool_requests.proofs.Starts.{start_decided}
use Rattle.spool_requests.proofs.Puts.{put_decided, end_decided}
use Rattle.spool_requests.proofs.Aborts.{abort_decided}

module _ (d : Detail) (b : Base) (h : List (Event (What d))) (old new : Kept) (s : Stood d b h old new) where
  abbrev v : State (What d)
  v = before d b h old

  -- the event that the history grew by could come
  could : (e : Event (What d)) → Leaves d b (e ∷ h) new → May (size d) v e
  could e l = subst (λ (c : Config). May (size d) (now c b h) e) s.config l.legal.0

  abbrev Grew : Option (Event (What d)) → Type 0
  Grew o = MayCome d v o × Leaves d b (with_event o h) new

  grew : (e : Event (What d)) (o : Option (Event (What d))) → o ≡ Some e → Leaves d b (e ∷ h) new → Grew o
  grew e o is l = subst Grew (sym is) (could e l, l)

  same : (o : Option (Event (What d))) → o ≡ None → new ≡ old → Grew o
  same o is e = subst Grew (sym is) (tt, subst (λ (k : Kept). Leaves d b h k) (sym e) s.left)

  follows : (sender job : ℕ) (r : Request) (answer : Answer) → IsDueAnswer d v job r answer → Grew (event_of d v sender job r answer) → Follows d b h old new (from_session sender job r) answer
  follows sender job r answer due g = record { is = record { due = due; may = g.0 }; left = g.1 }

  queue : (sender job : ℕ) (name : List ℕ) (result : Result (Unit {0}) Refusal) → new ≡ old → Admits d b h old name result → Follows d b h old new (from_session sender job (Queue name)) (done_by result)
  queue sender job name (Ok done) e a = follows sender job (Queue name) Yes a (same None refl e)
  queue sender job name (Err n) e a = follows sender job (Queue name) (Refused n) a (same None refl e)

  opens : (sender job : ℕ) (name : List ℕ) (result : Result ℕ Refusal) → Opens d b h old sender name new result → Follows d b h old new (from_session sender job (Open name)) (opened_by result)
  opens sender job name (Ok number) a = follows sender job (Open name) (Accepted number) tt (grew _ _ refl a.1)
  opens sender job name (Err n) a = follows sender job (Open name) (Refused n) a.0 (same None refl a.1)

  begins : (sender job : ℕ) (name : List ℕ) (count : ℕ) (result : Result (Unit {0}) Refusal) → Begins d b h old job name count new result → Follows d b h old new (from_session sender job (BeginFile name count)) (done_by result)
  begins sender job name count (Ok done) a = follows sender job (BeginFile name count) Yes tt (grew _ _ refl a.1)
  begins sender job name count (Err n) a = follows sender job (BeginFile name count) (Refused n) a.0 (same None refl a.1)

  asks : (sender job : ℕ) (result : Result Asked Refusal) → Asks d b h old job new result → Follows d b h old new (from_session sender job AskPage) (asked_by result)
  asks sender job (Ok (asked.Page ticket)) a = follows sender job AskPage (Lent ticket.page_size) a.4 (grew _ _ refl a.2)
  asks sender job (Ok asked.Later) a = follows sender job AskPage Later (a.0, a.1) (same None refl a.2)
  asks sender job (Err n) a = follows sender job AskPage (Refused n) a.0 (same None refl a.1)

  puts : (sender job : ℕ) (page : Page) (result : Result (Unit {0}) ReturnedPage) → Puts d b h old job page new result → Follows d b h old new (from_session sender job (Filled page)) (put_by result)
  puts sender job page (Ok done) a =
      let m = could _ a.2.1 in
      let e = put_decided (size d) old.config b h job a.0 a.1 (see d page.octets) m in
      follows sender job (Filled page) Yes a.2.0.1
      (grew (OfJob job (Put a.0 a.1 (see d page.octets))) (Some (OfJob job (Put (file_now v job) (page_now v job) (see d page.octets))))
      (ap {A = ℕ} {B = Option (Event (What d))} (λ f. Some (OfJob job (Put f (page_now v job) (see d page.octets)))) (sym e.0)
      ∙ ap {A = ℕ} {B = Option (Event (What d))} (λ n. Some (OfJob job (Put a.0 n (see d page.octets)))) (sym e.1)) a.2.1)
  puts sender job page (Err back) a = follows sender job (Filled page) (Refused NotOpen) a.0 (same None refl a.1)

  -- the file that ended is the open one
  ended_file : (job file : ℕ) (whole : Bool) → Leaves d b (OfJob job (FileEnded file whole) ∷ h) new → Grew (Some (OfJob job (FileEnded (file_now v job) whole)))
  ended_file job file whole l =
      let e = end_decided (size d) old.config b h job file whole (could _ l) in
      grew (OfJob job (FileEnded file whole)) _ (ap {A = ℕ} {B = Option (Event (What d))} (λ f. Some (OfJob job (FileEnded f whole))) (sym e)) l

  ends : (sender job : ℕ) (result : Result Receipt Refusal) → Ends d b h old job new result → Follows d b h old new (from_session sender job EndFile) (kept_by result)
  ends sender job (Ok receipt.Stored) a = follows sender job EndFile Stored tt (ended_file job a.0 false a.1.1)
  ends sender job (Ok receipt.Received) a = follows sender job EndFile Received tt (ended_file job a.0 true a.1.1)
  ends sender job (Err n) a = follows sender job EndFile (Refused n) a.0 (same None refl a.1)

  controls : (sender job : ℕ) (control : Contents) (result : Result Receipt ReturnedControl) → Controls d b h old job control new result → Follows d b h old new (from_session sender job (Control control)) (controlled_by result)
  controls sender job control (Ok receipt.Stored) a = follows sender job (Control control) Stored tt (grew _ _ refl a.1)
  controls sender job control (Ok receipt.Received) a = follows sender job (Control control) Received tt (grew _ _ refl a.1)
  controls sender job control (Err back) a = follows sender job (Control control) (Refused back.refusal) a.0 (same None refl a.1)

  aborts : (sender job : ℕ) (result : Result (Unit {0}) ReturnedTicket) → Aborts d b h old job None new result → Follows d b h old new (from_session sender job AbortJob) (aborted_by result)
  aborts sender job (Ok done) a = follows sender job AbortJob Yes a.0 (grew _ _ refl a.1)
  aborts sender job (Err back) a = follows sender job AbortJob (Refused NotOpen) a.0 (same None refl a.1)

  abbrev named_queue : List ℕ → ℕ
  named_queue name = queue_named old.config name

  started : (q : ℕ) (stopped : Bool) → has_stopped v q ≡ stopped → v.closed ≡ false → IsQueue old.config q → (May (size d) v (Started q) × Leaves d b (Started q ∷ h) new) ⊎ ((May (size d) v (Started q) → ⊥) × (new ≡ old)) → Grew (start_of stopped q)
  started q true e c is r = elim r [
    | inl l ↦ grew _ _ refl l.1
    | inr n ↦ let p = (start_decided old.config b h q).0 e in absurd (n.0 (c, is, p.0, p.1, p.2))
  ]
  started q false e c is r = elim r [
    | inl l ↦ absurd (clash (has_stopped v q) ((start_decided old.config b h q).1 (l.0.2, l.0.3, l.0.4)) e)
    | inr n ↦ same None refl n.1
  ]

  starts : (sender job : ℕ) (name : List ℕ) (result : Result (Unit {0}) Refusal) → Starts d b h old name new result → Follows d b h old new (from_session sender job (StartPrinters name)) (done_by result)
  starts sender job name (Ok done) a =
      follows sender job (StartPrinters name) Yes a.0 (started (named_queue name) (has_stopped v (named_queue name)) refl a.0.0 a.0.1 a.1)
  starts sender job name (Err n) a = follows sender job (StartPrinters name) (Refused n) a.0 (same None refl a.1)

  tells : (sender job : ℕ) (name : List ℕ) (list : List (List ℕ)) (long : Bool) (result : Result (List ℕ) Refusal) → new ≡ old → Tells d b h old name list long result → Follows d b h old new (from_session sender job (QueueState name list long)) (told_by result)
  tells sender job name list long (Ok text) e a = follows sender job (QueueState name list long) (Told text) a (same None refl e)
  tells sender job name list long (Err n) e a = follows sender job (QueueState name list long) (Refused n) a (same None refl e)

  removed : (q : ℕ) (numbers : List ℕ) → ((numbers ≡ []) × (new ≡ old)) ⊎ ((numbers ≡ [] → ⊥) × Leaves d b (Removed q numbers ∷ h) new) → Grew (removal_of q numbers)
  removed q [] r = elim r [ inl n ↦ same None refl n.1 | inr l ↦ absurd (l.0 refl) ]
  removed q (n ∷ ns) r = elim r [ inl e ↦ absurd (some n ns e.0) | inr l ↦ grew _ _ refl l.1 ]
    where
      some : (m : ℕ) (ms : List ℕ) → m ∷ ms ≡ [] → ⊥
      some m ms e = cc

  removes : (sender job : ℕ) (name agent : List ℕ) (list : List (List ℕ)) (result : Result (List ℕ) Refusal) → Removes d b h old name agent list new result → Follows d b h old new (from_session sender job (RemoveJobs name agent list)) (told_by result)
  removes sender job name agent list (Ok text) a =
      follows sender job (RemoveJobs name agent list) (Told text) (a.0, a.1) (removed (named_queue name) (removed_by d b h old (named_queue name) agent list) a.2)
  removes sender job name agent list (Err n) a = follows sender job (RemoveJobs name agent list) (Refused n) a.0 (same None refl a.1)

  -- the end of a session
  abbrev end_by : Bool → Bool → ℕ → Option (Event (What d))
  end_by hand may j = if hand && may then Some (OfJob j Aborted) else None

  end_with : (job : ℕ) (ticket : Option Page) (may : Bool) → may_abort v job ≡ may → HasItsPage d b h old new job ticket → (result : Result (Unit {0}) ReturnedTicket) → Aborts d b h old job ticket new result → Grew (end_by true may job)
  end_with job ticket true e has (Ok done) a = grew _ _ refl a.1
  end_with job ticket false e has (Ok done) a = absurd (clash (may_abort v job) ((abort_decided (size d) v job).1 (could _ a.1)) e)
  end_with job ticket true e has (Err back) a =
      let m = ((abort_decided (size d) v job).0 e).0 in
      absurd (a.0 (record { job = m.job; there = m.there; number = m.number; is = (m.is, has m.job m.there m.number) }))
  end_with job ticket false e has (Err back) a = same None refl a.1

  ended : (job : ℕ) (in_hand : Bool) (ticket : Option Page) → MatchBool in_hand (AbortsInHand d b h old new job ticket) (new ≡ old) → Grew (end_of v in_hand job)
  ended job false ticket e = same None refl e
  ended job true ticket e = end_with job ticket (may_abort v job) refl e.0 e.1 e.2

pub queue_follows : QueueFollows
queue_follows name d b h old new sender job result s a = queue d b h old new s sender job name result a.0 a.1

pub open_follows : OpenFollows
open_follows name d b h old new sender job result s a = opens d b h old new s sender job name result a

pub file_follows : FileFollows
file_follows name count d b h old new sender job result s a = begins d b h old new s sender job name count result a

pub page_follows : PageFollows
page_follows d b h old new sender job result s a = asks d b h old new s sender job result a

pub put_follows : PutFollows
put_follows page d b h old new sender job result s a = puts d b h old new s sender job page result a

pub end_follows : EndFollows
end_follows d b h old new sender job result s a = ends d b h old new s sender job result a

pub control_follows : ControlFollows
control_follows control d b h old new sender job result s a = controls d b h old new s sender job control result a

pub abort_follows : AbortFollows
abort_follows d b h old new sender job result s a = aborts d b h old new s sender job result a

pub start_follows : StartFollows
start_follows name d b h old new sender job result s a = starts d b h old new s sender job name result a

pub state_follows : StateFollows
state_follows name list long d b h old new sender job result s a = tells d b h old new s sender job name list long result a.0 a.1

pub removal_follows : RemovalFollows
removal_follows name agent list d b h old new sender job result s a = removes d b h old new s sender job name agent list result a

pub session_end_follows : SessionEndFollows
session_end_follows d b h old new job in_hand ticket s e = ended d b h old new s job in_hand ticket e
