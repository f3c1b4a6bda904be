-- What is kept of each session along a trace: its stage, the job in hand, the octets of the open file, and the page in hand.
use Rattle.std.proofs.Common.{◌≡◌, ◌≢◌, ℕ, ◌≤◌, Bool, true, false, List, [], ◌∷◌, ◌++◌, Option, Some, None, refl, sym, ap, subst, ◌∙◌, inl, inr, append_assoc}
use Rattle.std.specs.Prelude.{◌&&◌}
use Rattle.std.specs.List.{concat}
use Rattle.receiver.specs.Script.{BeginFile, Output, Item}
use Rattle.receiver.specs.Reading.{Requests}
use Rattle.spool_history.specs.Events.{Act, Event}
use Rattle.spool_history.specs.Events.Event.{Opened, OfJob, AtPrinter, Removed, Started, Closed}
use Rattle.spool_history.specs.Acts.{File, files_by, is_lent_by}
use Rattle.spool_history.specs.Said.{Opening, openings, acts_of}
use Rattle.spool_laws.proofs.Known.{Has, test}
use Rattle.spool_laws.proofs.Adding.{has_left}
use Rattle.spool_laws.proofs.Facts.{acts_other}
use Rattle.spool_requests.specs.Shows.{with_event}
use Rattle.spool_trace.specs.Trace.{Entry, Trace}
use Rattle.spool_trace.specs.Sessions.{Session, session_at, due_in, sessions}
use Rattle.spool_trace.specs.Replies.{IsSession}
use Rattle.spool_trace.specs.Headline.{began_file}
use Rattle.spool_trace.specs.Hands.{ends_filled, has_page}
use Rattle.spool_trace.proofs.Stages.{Stage, items_at, NeedsJob, InFile}
use Rattle.spool_trace.proofs.Stages.Stage.{Begun, Inside, Fills}

abbrev pub History : Type 0
History = List (Event (List ℕ))

-- a file was begun on session n, with this job in hand
pub record Came (t : Trace) (n job : ℕ) (name : List ℕ) (count : ℕ) : Type 0 where
  pub newer : Trace
  pub older : Trace
  pub moment : t ≡ newer ++ began_file n ∷ older
  pub in_hand : (session_at (sessions older) n).job ≡ job
  pub items : List Item
  pub text : List ℕ
  pub begins : due_in (session_at (sessions older) n) ≡ Requests (BeginFile name count) items text
  pub read : List ℕ
  pub by_then : (session_at (sessions older) n).arrived ≡ read ++ text

abbrev pub later : (t : Trace) (e : Entry) (n job : ℕ) (name : List ℕ) (count : ℕ) → Came t n job name count → Came (e ∷ t) n job name count
later t e n job name count g = record {
  newer = e ∷ g.newer;
  older = g.older;
  moment = ap (λ (l : Trace). e ∷ l) g.moment;
  in_hand = g.in_hand;
  items = g.items;
  text = g.text;
  begins = g.begins;
  read = g.read;
  by_then = g.by_then;
}

-- the last file of the job in hand is the one that the session is in: what was read of it are its pages
pub record InLast (h : History) (t : Trace) (n : ℕ) (s : Session) : Type 0 where
  pub before : List (File (List ℕ))
  pub file : File (List ℕ)
  pub files : files_by (acts_of h s.job) ≡ before ++ file ∷ []
  pub came : Came t n s.job file.name file.count
  pub is : s.arrived ≡ came.read ++ (concat file.pages ++ s.unread)

abbrev pub IsAccepted : History → Session → Type 0
IsAccepted h s = (q : ℕ) × Has (record { job = s.job; sender = s.sender; queue = q }) (openings h)

pub record Good (h : History) (t : Trace) (n : ℕ) (s : Session) : Type 0 where
  pub stage : Stage
  pub items : s.progress.items ≡ items_at stage
  pub needs : NeedsJob stage s.progress.job
  pub accepted : s.progress.job ≡ true → IsAccepted h s
  pub inside : InFile stage → InLast h t n s
  pub page : s.over ≡ false → has_page s ≡ s.progress.job && is_lent_by (acts_of h s.job)

-- a file of a job came on some session of its sender
pub record CameAt (t : Trace) (ss : List Session) (sender job : ℕ) (f : File (List ℕ)) : Type 0 where
  pub session : ℕ
  pub there : IsSession ss session
  pub from : (session_at ss session).sender ≡ sender
  pub came : Came t session job f.name f.count
  pub after : List ℕ
  pub is : (session_at ss session).arrived ≡ came.read ++ (concat f.pages ++ after)

abbrev pub AllCame : History → Trace → List Session → Type 0
AllCame h t ss = (o : Opening) (f : File (List ℕ)) → Has o (openings h) → Has f (files_by (acts_of h o.job)) → CameAt t ss o.sender o.job f

abbrev pub AreApart : List Session → Type 0
AreApart ss = (n m : ℕ) → 1 ≤ n → 1 ≤ m → n ≢ m → (session_at ss n).progress.job ≡ true → (session_at ss m).progress.job ≡ true → (session_at ss n).job ≢ (session_at ss m).job

pub record Kept (h : History) (t : Trace) (ss : List Session) : Type 0 where
  pub each : (n : ℕ) → 1 ≤ n → Good h t n (session_at ss n)
  pub apart : AreApart ss
  pub all : AllCame h t ss

-- in a file a job is in hand
pub in_file_job : (g : Stage) (job : Bool) → InFile g → NeedsJob g job → job ≡ true
in_file_job (Begun count) job i e = e
in_file_job (Inside left) job i e = e
in_file_job (Fills piece size left) job i e = e
in_file_job _ job i e = absurd i

-- accepted jobs stay so
pub has_more : (h : History) (o : Option (Event (List ℕ))) (x : Opening) → Has x (openings h) → Has x (openings (with_event o h))
has_more h None x has = has
has_more h (Some (Opened j s q)) x has = has_left x (openings h) _ has
has_more h (Some (OfJob j act)) x has = has
has_more h (Some (AtPrinter p sheet turn)) x has = has
has_more h (Some (Removed q jobs)) x has = has
has_more h (Some (Started q)) x has = has
has_more h (Some Closed) x has = has

pub acts_here : (h : History) (j : ℕ) (act : Act (List ℕ)) → acts_of (OfJob j act ∷ h) j ≡ act ∷ acts_of h j
acts_here h j act = elim (test j j) [ inl s ↦ rw s.1 refl | inr s ↦ absurd (s.0 refl) ]

pub same_and : (b x y : Bool) → (b ≡ true → x ≡ y) → (b && x) ≡ (b && y)
same_and true x y f = f refl
same_and false x y f = refl

-- the acts of a job are as they were
abbrev pub Still : History → Option (Event (List ℕ)) → ℕ → Type 0
Still h o j = acts_of (with_event o h) j ≡ acts_of h j

-- a session that did nothing is good, where the acts of its job are as they were
pub good_still : (h : History) (t : Trace) (n : ℕ) (s : Session) (e : Entry) (o : Option (Event (List ℕ))) → (s.progress.job ≡ true → Still h o s.job) → Good h t n s → Good (with_event o h) (e ∷ t) n s
good_still h t n s e o still g = record {
  stage = g.stage;
  items = g.items;
  needs = g.needs;
  accepted = λ j. (let a = g.accepted j in (a.0, has_more h o _ a.1));
  inside = λ i.
      let a = g.inside i in
      record {
        before = a.before;
        file = a.file;
        files = ap files_by (still (in_file_job g.stage s.progress.job i g.needs)) ∙ a.files;
        came = later t e n s.job a.file.name a.file.count a.came;
        is = a.is;
      };
  page = λ open'. g.page open' ∙ same_and s.progress.job (is_lent_by (acts_of h s.job)) (is_lent_by (acts_of (with_event o h) s.job)) (λ j. ap is_lent_by (sym (still j)));
}

-- what a session may do to a history: of acts only those of the job that it has in hand
abbrev pub Owned : Session → Option (Event (List ℕ)) → Type 0
Owned s (Some (OfJob j act)) = (j ≡ s.job) × (s.progress.job ≡ true)
Owned s _ = Unit {0}

pub still_other : (h : History) (s : Session) (o : Option (Event (List ℕ))) (j : ℕ) → Owned s o → (s.progress.job ≡ true → s.job ≢ j) → Still h o j
still_other h s None j w ne = refl
still_other h s (Some (Opened k s' q)) j w ne = refl
still_other h s (Some (OfJob k act)) j w ne = acts_other h k act j (λ e. ne w.1 (sym w.0 ∙ e))
still_other h s (Some (AtPrinter p sheet turn)) j w ne = refl
still_other h s (Some (Removed q jobs)) j w ne = refl
still_other h s (Some (Started q)) j w ne = refl
still_other h s (Some Closed) j w ne = refl

-- sessions only grow: what was there is there, of the same sender, and more may have arrived
pub record HasGrown (ss rs : List Session) (n : ℕ) : Type 0 where
  pub there : IsSession rs n
  pub from : (session_at rs n).sender ≡ (session_at ss n).sender
  pub more : List ℕ
  pub arrived : (session_at rs n).arrived ≡ (session_at ss n).arrived ++ more

abbrev pub HaveGrown : List Session → List Session → Type 0
HaveGrown ss rs = (n : ℕ) → IsSession ss n → HasGrown ss rs n

pub came_later : (t : Trace) (e : Entry) (ss rs : List Session) (sender job : ℕ) (f : File (List ℕ)) → HaveGrown ss rs → CameAt t ss sender job f → CameAt (e ∷ t) rs sender job f
came_later t e ss rs sender job f grown a =
    let g = grown a.session a.there in
    let read : List ℕ = a.came.read in
    let pages : List ℕ = concat f.pages in
    record {
      session = a.session;
      there = g.there;
      from = g.from ∙ a.from;
      came = later t e a.session job f.name f.count a.came;
      after = a.after ++ g.more;
      is = g.arrived ∙ ap (λ (l : List ℕ). l ++ g.more) a.is ∙ append_assoc read (pages ++ a.after) g.more ∙ ap (λ (l : List ℕ). read ++ l) (append_assoc pages a.after g.more);
    }

-- the files of all jobs are as they were
abbrev pub SameFiles : History → History → Type 0
SameFiles h k = (j : ℕ) → files_by (acts_of k j) ≡ files_by (acts_of h j)

pub all_still : (h k : History) (t : Trace) (e : Entry) (ss rs : List Session) → openings k ≡ openings h → SameFiles h k → HaveGrown ss rs → AllCame h t ss → AllCame k (e ∷ t) rs
all_still h k t e ss rs opened files grown all o f has of_job =
    came_later t e ss rs o.sender o.job f grown
    (all o f (subst (λ (l : List Opening). Has o l) opened has) (subst (λ (l : List (File (List ℕ))). Has f l) (files o.job) of_job))

pub ends_push : (os : List Output) (o : Output) → ends_filled (os ++ o ∷ []) ≡ ends_filled (o ∷ [])
ends_push [] o = refl
ends_push (p ∷ []) o = refl
ends_push (p ∷ q ∷ os) o = ends_push (q ∷ os) o
