-- What a turn of a session leaves of what is kept.
use Rattle.std.proofs.Common.{◌≡◌, ℕ, ◌<◌, ◌⊎◌, Bool, true, false, List, [], ◌∷◌, ◌++◌, length, Option, Some, None, refl, sym, ap, subst, ◌∙◌, arith, inl, inr}
use Rattle.std.specs.Prelude.{◌&&◌, if◌then◌else◌}
use Rattle.lpd_values.specs.Refusals.{octet_of}
use Rattle.config_values.specs.Config.{Config}
use Rattle.receiver.specs.Script.{Request, Queue, Open, BeginFile, AskPage, Filled, EndFile, Control, AbortJob, StartPrinters, QueueState, RemoveJobs, Written, Ack, Fault, Output, Wrote, Item}
use Rattle.receiver.specs.Script as script
use Rattle.receiver.specs.Reading.{Progress, Due, Waits, Ends, Writes, Requests}
use Rattle.spool_history.specs.Base.{first_base}
use Rattle.spool_history.specs.Events.{Event}
use Rattle.spool_history.specs.Events.Act.{Began, Put, Aborted}
use Rattle.spool_history.specs.Events.Event.{OfJob}
use Rattle.spool_history.specs.Acts.{File, files_by}
use Rattle.spool_history.specs.Said.{Opening, openings, acts_of}
use Rattle.spool_history.specs.Now.{State, now}
use Rattle.spool_laws.proofs.Known.{Has, clash}
use Rattle.spool_laws.proofs.Adding.{has_left}
use Rattle.spool_laws.proofs.Facts.{Unknown}
use Rattle.spool_calls.specs.Looks.Detail.{Octets}
use Rattle.spool_requests.specs.declared.answer.Answer.{Answer}
use Rattle.spool_requests.specs.declared.answer.Answer.TheVariants.{Yes, Accepted, Lent, Later, Stored, Received, Told, Refused}
use Rattle.spool_requests.specs.declared.answer.RequestKind.{RequestKind}
use Rattle.spool_requests.specs.Kinds.{request_kind}
use Rattle.config_values.specs.Config.{queue_named}
use Rattle.spool_requests.specs.Shows.{event_of, start_of, removal_of, has_stopped, may_abort, numbers_chosen, file_now, page_now, with_event}
use Rattle.spool_requests.specs.Due.{IsDueAnswer, MayCome}
use Rattle.spool_trace.specs.declared.step.Step.TheVariants as step
use Rattle.spool_trace.specs.declared.reply.Deed.{Deed}
use Rattle.spool_trace.specs.declared.reply.Deed.TheVariants as deed
use Rattle.spool_trace.specs.declared.reply.Reply.TheVariants as reply
use Rattle.spool_trace.specs.Trace.{Entry, Trace, text_of, written_by}
use Rattle.spool_trace.specs.Sessions.{Session, session_at, asks, due_in, goes_on, ends, turned, sessions}
use Rattle.spool_trace.specs.Shown.{end_in, of_turn}
use Rattle.spool_trace.specs.Replies.{IsSession, IsDueTurn}
use Rattle.spool_trace.specs.Hands.{page_in}
use Rattle.spool_trace.proofs.Stages.{Stage, items_at, NeedsJob, InFile, IsEnd, Fine}
use Rattle.spool_trace.proofs.Stages.Stage.{Ended}
use Rattle.spool_trace.proofs.Kept.{History, Good, AllCame, HaveGrown, Owned, has_more, later}
use Rattle.spool_trace.proofs.Asked.{asked, calm, settle, file_begins, page_is_put, file_waits, v}
use Rattle.spool_trace.proofs.AllFiles.{Changed, files_act, last_in}

-- the end of a session
abbrev pub aborts : Bool → ℕ → Option (Event (List ℕ))
aborts b j = if b then Some (OfJob j Aborted) else None

end_files : (h : History) (b : Bool) (j k : ℕ) → files_by (acts_of (with_event (aborts b j) h) k) ≡ files_by (acts_of h k)
end_files h true j k = files_act h j Aborted k (λ a. refl)
end_files h false j k = refl

end_owned : (s : Session) (hand may : Bool) → s.progress.job ≡ hand → Owned s (aborts (hand && may) s.job)
end_owned s true true e = (refl, e)
end_owned s true false e = tt
end_owned s false may e = tt

pub ends_owned : (v : State (List ℕ)) (s : Session) → Owned s (end_in v s)
ends_owned v s = end_owned s s.progress.job (may_abort v s.job) refl

pub start_owned : (s : Session) (b : Bool) (q : ℕ) → Owned s (start_of b q)
start_owned s true q = tt
start_owned s false q = tt

pub removal_owned : (s : Session) (q : ℕ) (numbers : List ℕ) → Owned s (removal_of q numbers)
removal_owned s q [] = tt
removal_owned s q (n ∷ ns) = tt

-- a turn leaves a session's sender and what arrived
pub turned_sender : (d : Due) (done : Deed) (s : Session) → (turned d done s).sender ≡ s.sender
turned_sender (Requests r items text) (deed.Asked kind answer) s = refl
turned_sender (Requests r items text) (deed.Refused n) s = refl
turned_sender (Writes w items text) deed.Acked s = refl
turned_sender (Writes w items text) (deed.Refused n) s = refl
turned_sender Waits deed.Ended s = refl
turned_sender Ends deed.Ended s = refl
turned_sender (Writes w items text) deed.Ended s = refl
turned_sender (Requests r items text) deed.Ended s = refl
turned_sender d done s = refl

pub turned_arrived : (d : Due) (done : Deed) (s : Session) → (turned d done s).arrived ≡ s.arrived
turned_arrived (Requests r items text) (deed.Asked kind answer) s = refl
turned_arrived (Requests r items text) (deed.Refused n) s = refl
turned_arrived (Writes w items text) deed.Acked s = refl
turned_arrived (Writes w items text) (deed.Refused n) s = refl
turned_arrived Waits deed.Ended s = refl
turned_arrived Ends deed.Ended s = refl
turned_arrived (Writes w items text) deed.Ended s = refl
turned_arrived (Requests r items text) deed.Ended s = refl
turned_arrived d done s = refl

-- the job in hand is the one that was, or a new one
abbrev pub Holds : History → Session → Session → Type 0
Holds h s r = r.progress.job ≡ true → ((s.progress.job ≡ true) × (r.job ≡ s.job)) ⊎ (length (openings h) < r.job)

module _ (c : Config) (h : History) (t : Trace) (n : ℕ) (s : Session) (e : Entry) (g : Good h t n s) (left : IsEnd s.arrived s.unread) (unknown : (j : ℕ) → length (openings h) < j → Unknown h j) where
  -- a session that is over
  over : (p : Progress) (m : Stage) (u : List ℕ) (os : List Output) (w : List ℕ) → p.items ≡ items_at m → p.job ≡ s.progress.job → NeedsJob m p.job → (InFile m → InFile g.stage × (u ≡ s.unread))
      → Good (with_event (end_in (now c first_base h) s) h) (e ∷ t) n (record s { progress = p; unread = u; over = true; outputs = os; written = w })
  over p m u os w is same need inside =
      let o : Option (Event (List ℕ)) = end_in (now c first_base h) s in
      record {
        stage = m;
        items = is;
        needs = need;
        accepted = λ j. (let a = g.accepted (sym same ∙ j) in (a.0, has_more h o _ a.1));
        inside = λ i.
            let l = inside i in
            let f = g.inside l.0 in
            record {
              before = f.before;
              file = f.file;
              files = end_files h (s.progress.job && may_abort (now c first_base h) s.job) s.job s.job ∙ f.files;
              came = later t e n s.job f.file.name f.file.count f.came;
              is = f.is ∙ ap (λ (x : List ℕ). f.came.read ++ (Rattle.std.specs.List.concat f.file.pages ++ x)) (sym l.1);
            };
        page = λ open'. absurd (clash true refl open');
      }

  pub ended_good : (w : List ℕ) → Good (with_event (end_in (now c first_base h) s) h) (e ∷ t) n (record (ends s) { written = w })
  ended_good w = over s.progress g.stage s.unread s.outputs w g.items refl g.needs (λ i. (i, refl))

  -- the connection broke
  pub ended_plain : Good (with_event (end_in (now c first_base h) s) h) (e ∷ t) n (ends s)
  ended_plain = over s.progress g.stage s.unread s.outputs s.written g.items refl g.needs (λ i. (i, refl))

  pub ended_holds : (w : List ℕ) → Holds h s (record (ends s) { written = w })
  ended_holds w j = inl (j, refl)

module _ (c : Config) (h : History) (t : Trace) (n : ℕ) (s : Session) (e : Entry) (g : Good h t n s) (here : session_at (sessions t) n ≡ s) (going : s.over ≡ false) (left : IsEnd s.arrived s.unread) (unknown : (j : ℕ) → length (openings h) < j → Unknown h j)
    (once : (o p : Opening) → Has o (openings h) → Has p (openings h) → o.job ≡ p.job → o ≡ p)
    (ss rs : List Session) (grown : HaveGrown ss rs) (all : AllCame h t ss) (s' : Session) (there : session_at rs n ≡ s') (is_there : IsSession rs n) where
  abbrev w0 : State (List ℕ)
  w0 = now c first_base h

  -- what one turn leaves, where it shows this
  pub record Outcome (o : Option (Event (List ℕ))) (r : Session) : Type 0 where
    pub good : Good (with_event o h) (e ∷ t) n r
    pub holds : Holds h s r
    pub owned : Owned s o
    pub changed : Changed h t e ss rs grown all o

  abbrev Goal : Due → Deed → Type 0
  Goal d done = s' ≡ record (turned d done s) { written = s.written ++ written_by done } → Outcome (of_turn w0 s d done) s'

  ended_changed : (b : Bool) → Changed h t e ss rs grown all (aborts b s.job)
  ended_changed true = tt
  ended_changed false = tt

  start_changed : (b : Bool) (q : ℕ) → Changed h t e ss rs grown all (start_of b q)
  start_changed true q = tt
  start_changed false q = tt

  removal_changed : (q : ℕ) (numbers : List ℕ) → Changed h t e ss rs grown all (removal_of q numbers)
  removal_changed q [] = tt
  removal_changed q (m ∷ ms) = tt

  -- from what is said of the session as it is written out
  outcome : (o : Option (Event (List ℕ))) (r : Session) → s' ≡ r → Good (with_event o h) (e ∷ t) n r → Holds h s r → Owned s o → Changed h t e ss rs grown all o → Outcome o s'
  outcome o r is good holds owned changed = subst (λ (x : Session). Outcome o x) (sym is) (record { good = good; holds = holds; owned = owned; changed = changed })

  asked_holds : (r : Request) (answer : Answer) (items : List Item) (text w : List ℕ) → IsDueAnswer Octets w0 s.job r answer → MayCome Octets w0 (event_of Octets w0 s.sender s.job r answer)
      → Holds h s (record (asks r answer (goes_on items text s)) { written = w })
  asked_holds (Queue name) Yes items text w a may j = inl (j, refl)
  asked_holds (Open name) (Accepted number) items text w a may j = inr (let e = may.4 in omega (arith, e))
  asked_holds (BeginFile name count) Yes items text w a may j = inl (j, refl)
  asked_holds AskPage (Lent page_size) items text w a may j = inl (j, refl)
  asked_holds AskPage Later items text w a may j = inl (j, refl)
  asked_holds (Filled page) Yes items text w a may j = inl (j, refl)
  asked_holds EndFile Stored items text w a may j = inl (j, refl)
  asked_holds EndFile Received items text w a may j = absurd (clash false j refl)
  asked_holds (Control control) Stored items text w a may j = inl (j, refl)
  asked_holds (Control control) Received items text w a may j = absurd (clash false j refl)
  asked_holds AbortJob Yes items text w a may j = absurd (clash false j refl)
  asked_holds (StartPrinters name) Yes items text w a may j = inl (j, refl)
  asked_holds (QueueState name list long) (Told x) items text w a may j = inl (j, refl)
  asked_holds (RemoveJobs name agent list) (Told x) items text w a may j = inl (j, refl)
  asked_holds r (Refused k) items text w a may j = inl (j, refl)
  asked_holds r answer items text w a may j = absurd a

  asked_owned : (r : Request) (answer : Answer) (items : List Item) (text : List ℕ) → Fine s.progress.job g.stage s.unread (Requests r items text) → Owned s (event_of Octets w0 s.sender s.job r answer)
  asked_owned (BeginFile name count) Yes items text f = (refl, f.1)
  asked_owned AskPage (Lent page_size) items text f = (refl, f.2)
  asked_owned (Filled page) Yes items text f = (refl, f.2)
  asked_owned EndFile Stored items text f = (refl, f.1)
  asked_owned EndFile Received items text f = (refl, f.1)
  asked_owned (Control control) Stored items text f = (refl, f.1)
  asked_owned (Control control) Received items text f = (refl, f.1)
  asked_owned AbortJob Yes items text f = (refl, f.1)
  asked_owned (StartPrinters name) Yes items text f = start_owned s (has_stopped w0 (queue_named c name)) (queue_named c name)
  asked_owned (RemoveJobs name agent list) (Told x) items text f = removal_owned s (queue_named c name) (numbers_chosen w0 (queue_named c name) agent list)
  asked_owned (Open name) (Accepted number) items text f = tt
  asked_owned r answer items text f = tt

  -- a file that began, and one into which a page was put
  asked_changed : (r : Request) (answer : Answer) (items : List Item) (text w : List ℕ) → s' ≡ record (asks r answer (goes_on items text s)) { written = w } → e ≡ record { step = step.Turn n; reply = reply.Turned (deed.Asked (request_kind r) answer) }
      → due_in s ≡ Requests r items text → Fine s.progress.job g.stage s.unread (Requests r items text) → Changed h t e ss rs grown all (event_of Octets w0 s.sender s.job r answer)
  asked_changed (Open name) (Accepted number) items text w is e_is due f = tt
  asked_changed (BeginFile name count) Yes items text w is e_is due f =
      let r : Session = record (asks (BeginFile name count) Yes (goes_on items text s)) { written = w } in
      last_in h t e ss rs grown all (OfJob s.job (Began name count) ∷ h) n s r (file_begins c h t n s e g here going left unknown name count items _ text _ _ _ e_is due f.2) refl refl (there ∙ is) is_there (g.accepted f.1) once (λ x has. has)
  asked_changed AskPage (Lent page_size) items text w is e_is due f = tt
  asked_changed (Filled page) Yes items text w is e_is due f =
      let r : Session = record (asks (Filled page) Yes (goes_on items text s)) { written = w } in
      let a = g.inside f.3 in
      last_in h t e ss rs grown all (OfJob s.job (Put (file_now w0 s.job) (page_now w0 s.job) page.octets) ∷ h) n s r
      (page_is_put c h t n s e g here going left unknown (file_now w0 s.job) (page_now w0 s.job) page.octets _ text _ _ _ f.4 f.3) refl refl (there ∙ is) is_there (g.accepted f.2) once
      (λ x has. subst (λ (l : List (File (List ℕ))). Has x l) (sym a.files) (has_left x a.before (a.file ∷ []) has))
  asked_changed EndFile Stored items text w is e_is due f = tt
  asked_changed EndFile Received items text w is e_is due f = tt
  asked_changed (Control control) Stored items text w is e_is due f = tt
  asked_changed (Control control) Received items text w is e_is due f = tt
  asked_changed AbortJob Yes items text w is e_is due f = tt
  asked_changed (StartPrinters name) Yes items text w is e_is due f = start_changed (has_stopped w0 (queue_named c name)) (queue_named c name)
  asked_changed (RemoveJobs name agent list) (Told x) items text w is e_is due f = removal_changed (queue_named c name) (numbers_chosen w0 (queue_named c name) agent list)
  asked_changed r answer items text w is e_is due f = tt

  pub turn_outcome : (d : Due) (done : Deed) → due_in s ≡ d → Fine s.progress.job g.stage s.unread d → IsDueTurn w0 s.job d done → MayCome Octets w0 (of_turn w0 s d done) → e ≡ record { step = step.Turn n; reply = reply.Turned done } → Goal d done
  turn_outcome Waits deed.Waited due f a may e_is is =
      outcome None (record s { written = s.written ++ [] }) is
      (settle c h t n s e g here going left unknown s.progress s.unread s.answers s.outputs (s.written ++ []) None g.stage g.items refl g.needs (λ i. file_waits c h t n s e g here going left unknown s.progress s.unread s.answers s.outputs (s.written ++ []) refl i) (g.page going))
      (λ j. inl (j, refl)) tt tt
  turn_outcome Ends deed.Ended due f a may e_is is =
      outcome (end_in w0 s) (record (ends s) { written = s.written ++ [] }) is (ended_good c h t n s e g left unknown (s.written ++ [])) (ended_holds c h t n s e g left unknown (s.written ++ [])) (ends_owned w0 s) (ended_changed (s.progress.job && may_abort w0 s.job))
  turn_outcome (Writes Ack items text) deed.Acked due f a may e_is is =
      let p : Progress = record s.progress { items = items; tail = [] } in
      let os : List Output = s.outputs ++ Wrote Ack ∷ [] in
      let w : List ℕ = s.written ++ 0 ∷ [] in
      outcome None (record s { progress = p; unread = text; outputs = os; written = w }) is
      (settle c h t n s e g here going left unknown p text s.answers os w None f.0 f.1 refl f.2
      (λ i. (let x = f.3 i in file_waits c h t n s e g here going left unknown p text s.answers os w x.1 x.0))
      (ap (λ (i : List Item). page_in i os) f.1 ∙ f.4 os ∙ calm c h t n s e g here going left unknown None refl f.5))
      (λ j. inl (j, refl)) tt tt
  turn_outcome (Writes (Fault m) items text) (deed.Refused k) due f a may e_is is =
      let p : Progress = record s.progress { items = items; tail = [] } in
      let os : List Output = s.outputs ++ Wrote (Fault k) ∷ [] in
      let w : List ℕ = s.written ++ octet_of k ∷ [] in
      outcome (end_in w0 s) (record s { progress = p; unread = text; over = true; outputs = os; written = w }) is
      (over c h t n s e g left unknown p Ended text os w f refl tt (λ i. absurd i))
      (λ j. inl (j, refl)) (ends_owned w0 s) (ended_changed (s.progress.job && may_abort w0 s.job))
  turn_outcome (Requests r items text) (deed.Refused k) due f a may e_is is =
      let p : Progress = record s.progress { items = script.Over ∷ []; tail = [] } in
      let os : List Output = s.outputs ++ Wrote (Fault k) ∷ [] in
      let w : List ℕ = s.written ++ octet_of k ∷ [] in
      outcome (end_in w0 s) (record s { progress = p; unread = text; over = true; outputs = os; written = w }) is
      (over c h t n s e g left unknown p Ended text os w refl refl tt (λ i. absurd i))
      (λ j. inl (j, refl)) (ends_owned w0 s) (ended_changed (s.progress.job && may_abort w0 s.job))
  turn_outcome (Requests r items text) (deed.Asked kind answer) due f a may e_is is =
      let w : List ℕ = s.written ++ text_of answer in
      let e_is' = e_is ∙ ap (λ (k : RequestKind). record { step = step.Turn n; reply = reply.Turned (deed.Asked k answer) }) a.0 in
      outcome (event_of Octets w0 s.sender s.job r answer) (record (asks r answer (goes_on items text s)) { written = w }) is
      (asked c h t n s e g here going left unknown r answer items text w e_is' due f a.1 may)
      (asked_holds r answer items text w a.1 may) (asked_owned r answer items text f) (asked_changed r answer items text w is e_is' due f)
  turn_outcome (Writes Ack items text) (deed.Refused k) due f a may e_is is = absurd a
  turn_outcome (Writes (Fault m) items text) deed.Acked due f a may e_is is = absurd a
  turn_outcome d done due f a may e_is is = absurd a
