-- What a request and its answer leave of what is kept of a session.
use Rattle.std.proofs.Common.{◌≡◌, ℕ, ◌+◌, ◌-◌, ◌<◌, Bool, true, false, List, [], ◌∷◌, ◌++◌, length, min, Option, Some, None, refl, sym, ap, ◌∙◌, arith, append_assoc, append-nil}
use Rattle.std.specs.Prelude.{◌&&◌}
use Rattle.std.specs.List.{concat}
use Rattle.std.proofs.lemmas.List.Folds.{concat-append}
use Rattle.lpd_values.specs.declared.refusal.Refusal.{Refusal}
use Rattle.config_values.specs.Config.{Config}
use Rattle.receiver.specs.Script as script
use Rattle.receiver.specs.Script.{Request, Queue, Open, BeginFile, AskPage, Filled, EndFile, Control, AbortJob, StartPrinters, QueueState, RemoveJobs, Output, Asked, Item}
use Rattle.receiver.specs.Reading.{Progress, Requests, with_ticket}
use Rattle.spool_history.specs.Base.{first_base}
use Rattle.spool_history.specs.Events.{Act, Event}
use Rattle.spool_history.specs.Events.Act.{Granted, Began, Put, FileEnded, Controlled, Aborted}
use Rattle.spool_history.specs.Events.Event.{OfJob}
use Rattle.spool_history.specs.Acts.{at_last, files_by, is_lent_by, new_file}
use Rattle.spool_history.specs.Said.{openings, acts_of}
use Rattle.spool_history.specs.Now.{State, now}
use Rattle.spool_laws.proofs.Known.{and_false, clash}
use Rattle.spool_laws.proofs.Adding.{has_end}
use Rattle.spool_laws.proofs.Counts.{last_push, with_page}
use Rattle.spool_laws.proofs.Facts.{Unknown}
use Rattle.spool_calls.specs.Looks.Detail.{Octets}
use Rattle.spool_requests.specs.declared.answer.Answer.{Answer}
use Rattle.spool_requests.specs.declared.answer.Answer.TheVariants.{Yes, Accepted, Lent, Later, Stored, Received, Told, Refused}
use Rattle.spool_requests.specs.Kinds.{request_kind}
use Rattle.spool_requests.specs.Shows.{event_of, start_of, removal_of, has_stopped, numbers_chosen, file_now, page_now, with_event}
use Rattle.config_values.specs.Config.{queue_named}
use Rattle.spool_requests.specs.Due.{IsDueAnswer, MayCome}
use Rattle.spool_trace.specs.declared.step.Step.TheVariants as step
use Rattle.spool_trace.specs.declared.reply.Deed.TheVariants as deed
use Rattle.spool_trace.specs.declared.reply.Reply.TheVariants as reply
use Rattle.spool_trace.specs.Trace.{Entry, Trace}
use Rattle.spool_trace.specs.Sessions.{Session, session_at, due_in, goes_on, asks, sessions}
use Rattle.spool_trace.specs.Headline.{began_file}
use Rattle.spool_trace.specs.Hands.{ends_filled, page_in}
use Rattle.spool_trace.proofs.Stages.{Stage, items_at, NeedsJob, InFile, IsEnd, Fine, Quiet, Filling}
use Rattle.spool_trace.proofs.Stages.Stage.{Begun, Inside, Fills, AcksLast, Refusing, Ended}
use Rattle.spool_trace.proofs.Kept.{History, later, InLast, Good, has_more, acts_here, Still, ends_push}

-- pages, and then one more of what is unread
pub joined : (ps : List (List ℕ)) (p text u : List ℕ) → u ≡ p ++ text → concat ps ++ u ≡ concat (ps ++ p ∷ []) ++ text
joined ps p text u e =
    ap (λ (l : List ℕ). concat ps ++ l) e ∙ sym (append_assoc (concat ps) p text)
    ∙ ap (λ (l : List ℕ). l ++ text) (sym (concat-append ps (p ∷ []) ∙ ap (λ (l : List ℕ). concat ps ++ l) (append-nil p)))

acts_started : (h : History) (b : Bool) (q j : ℕ) → Still h (start_of b q) j
acts_started h true q j = refl
acts_started h false q j = refl

acts_removed : (h : History) (q : ℕ) (numbers : List ℕ) (j : ℕ) → Still h (removal_of q numbers) j
acts_removed h q [] j = refl
acts_removed h q (n ∷ ns) j = refl

module _ (c : Config) (h : History) (t : Trace) (n : ℕ) (s : Session) (e : Entry) (g : Good h t n s) (here : session_at (sessions t) n ≡ s) (going : s.over ≡ false) (left : IsEnd s.arrived s.unread) (unknown : (j : ℕ) → length (openings h) < j → Unknown h j) where
  abbrev pub v : State (List ℕ)
  v = now c first_base h

  abbrev pub with_progress : Progress → List ℕ → List script.Reply → List Output → List ℕ → Session
  with_progress p u a os w = record s { progress = p; unread = u; answers = a; outputs = os; written = w }

  quiet_page : Quiet g.stage → (s.progress.job && is_lent_by (acts_of h s.job)) ≡ false
  quiet_page q = sym (g.page going) ∙ ap (λ (i : List Item). page_in i s.outputs) g.items ∙ q s.outputs

  full_page : Filling g.stage → (s.progress.job && is_lent_by (acts_of h s.job)) ≡ true
  full_page q = sym (g.page going) ∙ ap (λ (i : List Item). page_in i s.outputs) g.items ∙ q s.outputs

  -- the job in hand stays so, and the page in hand is as the history says
  pub settle : (p : Progress) (u : List ℕ) (a : List script.Reply) (os : List Output) (w : List ℕ) (o : Option (Event (List ℕ))) (m : Stage) → p.items ≡ items_at m → p.job ≡ s.progress.job → NeedsJob m p.job
      → (InFile m → InLast (with_event o h) (e ∷ t) n (with_progress p u a os w)) → page_in p.items os ≡ (s.progress.job && is_lent_by (acts_of (with_event o h) s.job))
      → Good (with_event o h) (e ∷ t) n (with_progress p u a os w)
  settle p u a os w o m is same need inside page = record {
    stage = m;
    items = is;
    needs = need;
    accepted = λ j. (let x = g.accepted (sym same ∙ j) in (x.0, has_more h o _ x.1));
    inside = inside;
    page = λ open'. page ∙ ap (λ (b : Bool). b && is_lent_by (acts_of (with_event o h) s.job)) (sym same);
  }

  -- no job is in hand any more
  release : (p : Progress) (u : List ℕ) (a : List script.Reply) (os : List Output) (w : List ℕ) (o : Option (Event (List ℕ))) → p.items ≡ items_at AcksLast → p.job ≡ false
      → Good (with_event o h) (e ∷ t) n (with_progress p u a os w)
  release p u a os w o is none = record {
    stage = AcksLast;
    items = is;
    needs = tt;
    accepted = λ j. absurd (clash p.job j none);
    inside = λ i. absurd i;
    page = λ open'. ap (λ (i : List Item). page_in i os) is ∙ sym (ap (λ (b : Bool). b && is_lent_by (acts_of (with_event o h) s.job)) none);
  }

  abbrev pub after_ask : Request → Answer → List Item → List ℕ → List ℕ → Session
  after_ask r answer items text w = record (asks r answer (goes_on items text s)) { written = w }

  -- a refusal: nothing happened, and a page that was filled is in hand
  refused : (r : Request) (k : Refusal) (items : List Item) (text w : List ℕ) → ends_filled (Asked r ∷ []) ≡ (s.progress.job && is_lent_by (acts_of h s.job)) → Good h (e ∷ t) n (after_ask r (Refused k) items text w)
  refused r k items text w page = settle _ _ _ _ _ None (Refusing k) refl refl tt (λ i. absurd i) (ends_push s.outputs (Asked r) ∙ page)

  -- a quiet stage after a quiet one
  pub calm : (o : Option (Event (List ℕ))) → Still h o s.job → Quiet g.stage → false ≡ (s.progress.job && is_lent_by (acts_of (with_event o h) s.job))
  calm o still q = sym (quiet_page q) ∙ ap (λ (a : List (Act (List ℕ))). s.progress.job && is_lent_by a) (sym still)

  calm_act : (act : Act (List ℕ)) → is_lent_by (act ∷ acts_of h s.job) ≡ is_lent_by (acts_of h s.job) → Quiet g.stage → false ≡ (s.progress.job && is_lent_by (acts_of (OfJob s.job act ∷ h) s.job))
  calm_act act same q = sym (quiet_page q) ∙ ap (λ (b : Bool). s.progress.job && b) (sym same) ∙ ap (λ (a : List (Act (List ℕ))). s.progress.job && is_lent_by a) (sym (acts_here h s.job act))

  -- the open file after an act that leaves files as they are
  file_stays : (act : Act (List ℕ)) (p : Progress) (u : List ℕ) (a : List script.Reply) (os : List Output) (w : List ℕ) → u ≡ s.unread → files_by (act ∷ acts_of h s.job) ≡ files_by (acts_of h s.job) → InFile g.stage → InLast (OfJob s.job act ∷ h) (e ∷ t) n (with_progress p u a os w)
  file_stays act p u a os w unread files i =
      let f = g.inside i in
      record {
        before = f.before;
        file = f.file;
        files = ap files_by (acts_here h s.job act) ∙ files ∙ f.files;
        came = later t e n s.job f.file.name f.file.count f.came;
        is = f.is ∙ ap (λ (l : List ℕ). f.came.read ++ (concat f.file.pages ++ l)) (sym unread);
      }

  -- and where nothing happened
  pub file_waits : (p : Progress) (u : List ℕ) (a : List script.Reply) (os : List Output) (w : List ℕ) → u ≡ s.unread → InFile g.stage → InLast h (e ∷ t) n (with_progress p u a os w)
  file_waits p u a os w unread i =
      let f = g.inside i in
      record {
        before = f.before;
        file = f.file;
        files = f.files;
        came = later t e n s.job f.file.name f.file.count f.came;
        is = f.is ∙ ap (λ (l : List ℕ). f.came.read ++ (concat f.file.pages ++ l)) (sym unread);
      }

  -- the file that begins
  abbrev pub file_begins : (name : List ℕ) (count : ℕ) (items : List Item) (p : Progress) (u : List ℕ) (a : List script.Reply) (os : List Output) (w : List ℕ) → e ≡ began_file n → due_in s ≡ Requests (BeginFile name count) items u → IsEnd s.unread u
      → InLast (OfJob s.job (Began name count) ∷ h) (e ∷ t) n (with_progress p u a os w)
  file_begins name count items p u a os w is due end =
      let all : s.arrived ≡ (left.0 ++ end.0) ++ u = left.1 ∙ ap (λ (l : List ℕ). left.0 ++ l) end.1 ∙ sym (append_assoc left.0 end.0 u) in
      record {
        before = files_by (acts_of h s.job);
        file = new_file name count;
        files = ap files_by (acts_here h s.job (Began name count));
        came = record {
          newer = [];
          older = t;
          moment = ap (λ (x : Entry). x ∷ t) is;
          in_hand = ap (λ (x : Session). x.job) here;
          items = items;
          text = u;
          begins = ap due_in here ∙ due;
          read = left.0 ++ end.0;
          by_then = ap (λ (x : Session). x.arrived) here ∙ all;
        };
        is = all;
      }

  -- the page that is put
  abbrev pub page_is_put : (file number : ℕ) (octets : List ℕ) (p : Progress) (u : List ℕ) (a : List script.Reply) (os : List Output) (w : List ℕ) → s.unread ≡ octets ++ u → InFile g.stage
      → InLast (OfJob s.job (Put file number octets) ∷ h) (e ∷ t) n (with_progress p u a os w)
  page_is_put file number octets p u a os w unread i =
      let f = g.inside i in
      record {
        before = f.before;
        file = with_page octets f.file;
        files = ap files_by (acts_here h s.job (Put file number octets)) ∙ ap (at_last (with_page octets)) f.files ∙ last_push (with_page octets) f.before f.file;
        came = later t e n s.job f.file.name f.file.count f.came;
        is = f.is ∙ ap (λ (l : List ℕ). f.came.read ++ l) (joined f.file.pages octets u s.unread unread);
      }

  abbrev Settled : Request → Answer → List Item → List ℕ → List ℕ → Type 0
  Settled r answer items text w = Good (with_event (event_of Octets v s.sender s.job r answer) h) (e ∷ t) n (after_ask r answer items text w)

  -- the job that is opened
  opened : (name : List ℕ) (number : ℕ) (items : List Item) (text w : List ℕ) (m : Stage) → items ≡ items_at m → NeedsJob m true → (InFile m → ⊥) → Quiet m → number ≡ v.accepted + 1 → Settled (Open name) (Accepted number) items text w
  opened name number items text w m is need none quiet new = record {
    stage = m;
    items = is;
    needs = need;
    accepted = λ j. (queue_named c name, has_end (record { job = number; sender = s.sender; queue = queue_named c name }) (openings h));
    inside = λ i. absurd (none i);
    page = λ open'.
        let u = unknown number (omega (arith, new)) in
        ap (λ (i : List Item). page_in i (s.outputs ++ Asked (Open name) ∷ [])) is ∙ quiet (s.outputs ++ Asked (Open name) ∷ []) ∙ ap is_lent_by (sym u.acts);
  }

  pub asked : (r : Request) (answer : Answer) (items : List Item) (text w : List ℕ) → e ≡ record { step = step.Turn n; reply = reply.Turned (deed.Asked (request_kind r) answer) } → due_in s ≡ Requests r items text → Fine s.progress.job g.stage s.unread (Requests r items text)
      → IsDueAnswer Octets v s.job r answer → MayCome Octets v (event_of Octets v s.sender s.job r answer) → Settled r answer items text w
  asked (Queue name) Yes items text w e_is due f a may =
      settle _ _ _ _ _ None AcksLast f.0 refl tt (λ i. absurd i) (ap (λ (i : List Item). page_in i (s.outputs ++ Asked (Queue name) ∷ [])) f.0 ∙ calm None refl f.1)
  asked (Queue name) (Refused k) items text w e_is due f a may = refused (Queue name) k items text w (sym (quiet_page f.1))
  asked (Queue name) _ items text w e_is due f a may = absurd a
  asked (Open name) (Accepted number) items text w e_is due f a may = opened name number items text w f.0 f.1 f.2 f.3 f.4 may.4
  asked (Open name) (Refused k) items text w e_is due f a may = refused (Open name) k items text w (sym (quiet_page f.5))
  asked (Open name) _ items text w e_is due f a may = absurd a
  asked (BeginFile name count) Yes items text w e_is due f a may =
      settle _ text _ _ _ (Some (OfJob s.job (Began name count))) (Begun count) f.0 refl f.1 (λ i. file_begins name count items _ text _ _ _ e_is due f.2)
      (ap (λ (i : List Item). page_in i (s.outputs ++ Asked (BeginFile name count) ∷ [])) f.0 ∙ calm_act (Began name count) refl f.3)
  asked (BeginFile name count) (Refused k) items text w e_is due f a may = refused (BeginFile name count) k items text w (sym (quiet_page f.3))
  asked (BeginFile name count) _ items text w e_is due f a may = absurd a
  asked AskPage (Lent page_size) items text w e_is due f a may =
      let page : ℕ = min page_size f.0 in
      let is : with_ticket page_size items ≡ items_at (Fills page page_size (f.0 - page)) = ap (with_ticket page_size) f.1 in
      settle _ text _ _ _ (Some (OfJob s.job Granted)) (Fills page page_size (f.0 - page)) is refl f.2 (λ i. file_stays Granted _ text _ _ _ f.4 refl f.3)
      (ap (λ (i : List Item). page_in i (s.outputs ++ Asked AskPage ∷ [])) is
      ∙ sym (ap (λ (x : List (Act (List ℕ))). s.progress.job && is_lent_by x) (acts_here h s.job Granted) ∙ ap (λ (b : Bool). b && true) f.2))
  asked AskPage Later items text w e_is due f a may =
      settle _ text _ _ _ None (Inside f.0) f.1 refl f.2 (λ i. file_waits _ text _ _ _ f.4 f.3)
      (ap (λ (i : List Item). page_in i (s.outputs ++ Asked AskPage ∷ [])) f.1 ∙ calm None refl f.5)
  asked AskPage (Refused k) items text w e_is due f a may = refused AskPage k items text w (sym (quiet_page f.5))
  asked AskPage _ items text w e_is due f a may = absurd a
  asked (Filled page) Yes items text w e_is due f a may =
      let act : Act (List ℕ) = Put (file_now v s.job) (page_now v s.job) page.octets in
      settle _ text _ _ _ (Some (OfJob s.job act)) (Inside f.0) f.1 refl f.2 (λ i. page_is_put (file_now v s.job) (page_now v s.job) page.octets _ text _ _ _ f.4 f.3)
      (ap (λ (i : List Item). page_in i (s.outputs ++ Asked (Filled page) ∷ [])) f.1 ∙ sym (ap (λ (x : List (Act (List ℕ))). s.progress.job && is_lent_by x) (acts_here h s.job act) ∙ and_false s.progress.job))
  asked (Filled page) (Refused k) items text w e_is due f a may = refused (Filled page) k items text w (sym (full_page f.5))
  asked (Filled page) _ items text w e_is due f a may = absurd a
  asked EndFile Stored items text w e_is due f a may =
      settle _ _ _ _ _ (Some (OfJob s.job (FileEnded (file_now v s.job) false))) AcksLast f.0 refl tt (λ i. absurd i)
      (ap (λ (i : List Item). page_in i (s.outputs ++ Asked EndFile ∷ [])) f.0 ∙ calm_act (FileEnded (file_now v s.job) false) refl f.2)
  asked EndFile Received items text w e_is due f a may = release _ _ _ _ _ (Some (OfJob s.job (FileEnded (file_now v s.job) true))) f.0 refl
  asked EndFile (Refused k) items text w e_is due f a may = refused EndFile k items text w (sym (quiet_page f.2))
  asked EndFile _ items text w e_is due f a may = absurd a
  asked (Control control) Stored items text w e_is due f a may =
      settle _ _ _ _ _ (Some (OfJob s.job (Controlled control false))) AcksLast f.0 refl tt (λ i. absurd i)
      (ap (λ (i : List Item). page_in i (s.outputs ++ Asked (Control control) ∷ [])) f.0 ∙ calm_act (Controlled control false) refl f.2)
  asked (Control control) Received items text w e_is due f a may = release _ _ _ _ _ (Some (OfJob s.job (Controlled control true))) f.0 refl
  asked (Control control) (Refused k) items text w e_is due f a may = refused (Control control) k items text w (sym (quiet_page f.2))
  asked (Control control) _ items text w e_is due f a may = absurd a
  asked AbortJob Yes items text w e_is due f a may = release _ _ _ _ _ (Some (OfJob s.job Aborted)) f.0 refl
  asked AbortJob (Refused k) items text w e_is due f a may = refused AbortJob k items text w (sym (quiet_page f.2))
  asked AbortJob _ items text w e_is due f a may = absurd a
  asked (StartPrinters name) Yes items text w e_is due f a may =
      let q : ℕ = queue_named c name in
      let o : Option (Event (List ℕ)) = start_of (has_stopped v q) q in
      settle _ _ _ _ _ o Ended f.0 refl tt (λ i. absurd i)
      (ap (λ (i : List Item). page_in i (s.outputs ++ Asked (StartPrinters name) ∷ [])) f.0 ∙ calm o (acts_started h (has_stopped v q) q s.job) f.1)
  asked (StartPrinters name) (Refused k) items text w e_is due f a may = refused (StartPrinters name) k items text w (sym (quiet_page f.1))
  asked (StartPrinters name) _ items text w e_is due f a may = absurd a
  asked (QueueState name list long) (Told x) items text w e_is due f a may =
      settle _ _ _ _ _ None Ended f.0 refl tt (λ i. absurd i)
      (ap (λ (i : List Item). page_in i (s.outputs ++ Asked (QueueState name list long) ∷ [])) f.0 ∙ calm None refl f.1)
  asked (QueueState name list long) (Refused k) items text w e_is due f a may = refused (QueueState name list long) k items text w (sym (quiet_page f.1))
  asked (QueueState name list long) _ items text w e_is due f a may = absurd a
  asked (RemoveJobs name agent list) (Told x) items text w e_is due f a may =
      let q : ℕ = queue_named c name in
      let o : Option (Event (List ℕ)) = removal_of q (numbers_chosen v q agent list) in
      settle _ _ _ _ _ o Ended f.0 refl tt (λ i. absurd i)
      (ap (λ (i : List Item). page_in i (s.outputs ++ Asked (RemoveJobs name agent list) ∷ [])) f.0 ∙ calm o (acts_removed h q (numbers_chosen v q agent list) s.job) f.1)
  asked (RemoveJobs name agent list) (Refused k) items text w e_is due f a may = refused (RemoveJobs name agent list) k items text w (sym (quiet_page f.1))
  asked (RemoveJobs name agent list) _ items text w e_is due f a may = absurd a
