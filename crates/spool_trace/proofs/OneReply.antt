-- One reply is due to a step.
use Rattle.std.proofs.Common.{◌≡◌, ℕ, ◌⊎◌, true, false, List, length, Option, Some, None, refl, sym, ap, subst, ◌∙◌, inl, inr}
use Rattle.lpd_values.specs.declared.refusal.Refusal.{Refusal}
use Rattle.lpd_values.specs.declared.refusal.Refusal.TheVariants.{Memory}
use Rattle.account.specs.Seen.{progress_seen}
use Rattle.account.specs.declared.entry.Progress.{Progress}
use Rattle.account.specs.declared.entry.Progress.TheVariants as said
use Rattle.config_values.specs.Config.{Config, IsPrinter}
use Rattle.receiver.specs.Script.{Ack, Fault}
use Rattle.receiver.specs.Reading.{Due, Waits, Ends, Writes, Requests}
use Rattle.spool_history.specs.Base.{first_base}
use Rattle.spool_history.specs.Events as E
use Rattle.spool_history.specs.Events.{Event, Sheet}
use Rattle.spool_history.specs.Events.Turn.{Printed}
use Rattle.spool_history.specs.Now.{Job, State, now}
use Rattle.spool_history.specs.Next as N
use Rattle.spool_history.specs.Next.{next_page, printer_at}
use Rattle.spool_history.specs.Legal.{IsLegal, progress_of}
use Rattle.spool_laws.proofs.Known.{clash}
use Rattle.spool_calls.specs.Looks.Detail.{Octets}
use Rattle.spool_requests.specs.declared.answer.Answer.{Answer}
use Rattle.spool_requests.specs.declared.answer.RequestKind.{RequestKind}
use Rattle.spool_requests.specs.Due.{MayCome}
use Rattle.spool_requests.proofs.OneAnswer.{answers_agree, meets}
use Rattle.spool_trace.specs.declared.step.Step.{Step}
use Rattle.spool_trace.specs.declared.step.Step.TheVariants as step
use Rattle.spool_trace.specs.declared.reply.Given.{Given}
use Rattle.spool_trace.specs.declared.reply.Given.TheVariants as given
use Rattle.spool_trace.specs.declared.reply.Deed.{Deed}
use Rattle.spool_trace.specs.declared.reply.Deed.TheVariants as deed
use Rattle.spool_trace.specs.declared.reply.Reply.{Reply}
use Rattle.spool_trace.specs.declared.reply.Reply.TheVariants as reply
use Rattle.spool_trace.specs.Trace.{next_of}
use Rattle.spool_trace.specs.Sessions.{Session, session_at, due_in, sessions}
use Rattle.spool_trace.specs.Shown.{comes_back, events, of_turn}
use Rattle.spool_trace.specs.Replies.{IsDueTurn, IsGoing, IsSession, OfSession, OfPrinter, OnArrival, OnBreak, OnConnect, OnFailed, OnNext, OnPrinted, OnTurn, HoldsPage, IsReplyIn}
use Rattle.spool_trace.specs.Agree.{RepliesAgree, is_short, is_short_deed}
use Rattle.spool_trace.proofs.Legal.{legal}

pub short_memory : (n : Refusal) → n ≡ Memory → is_short_deed (deed.Refused n) ≡ false → ⊥
short_memory n e s = clash true refl (subst (λ (m : Refusal). is_short_deed (deed.Refused m) ≡ false) e s)

-- what a step of a session may be answered
data Class (ss : List Session) (n : ℕ) (P : Session → Reply → Type 0) (a : Reply) : Type 0 where
  IsNone : a ≡ reply.NoSuch → (IsSession ss n → ⊥) → Class ss n P a
  IsOver : a ≡ reply.Gone → IsSession ss n → (session_at ss n).over ≡ true → Class ss n P a
  Goes : IsGoing ss n (λ s. P s a) → Class ss n P a

class : (ss : List Session) (n : ℕ) (P : Session → Reply → Type 0) (a : Reply) → OfSession ss n P a → Class ss n P a
class ss n P reply.NoSuch r = IsNone refl r
class ss n P reply.Gone r = IsOver refl r.0 r.1
class ss n P a r = Goes r

both : (ss : List Session) (n : ℕ) (P : Session → Reply → Type 0) (a b : Reply) → Class ss n P a → Class ss n P b → (IsGoing ss n (λ s. P s a) → IsGoing ss n (λ s. P s b) → a ≡ b) → a ≡ b
both ss n P a b (IsNone e no_one) (IsNone f _) in' = e ∙ sym f
both ss n P a b (IsNone e no_one) (IsOver f is _) in' = absurd (no_one is)
both ss n P a b (IsNone e no_one) (Goes g) in' = absurd (no_one g.0)
both ss n P a b (IsOver e is o) (IsNone f no_one) in' = absurd (no_one is)
both ss n P a b (IsOver e is o) (IsOver f _ _) in' = e ∙ sym f
both ss n P a b (IsOver e is o) (Goes g) in' = absurd (clash (session_at ss n).over o g.1)
both ss n P a b (Goes g) (IsNone f no_one) in' = absurd (no_one g.0)
both ss n P a b (Goes g) (IsOver f is o) in' = absurd (clash (session_at ss n).over o g.1)
both ss n P a b (Goes g) (Goes k) in' = in' g k

-- and one of a printer
printers : (c : Config) (p : ℕ) (P : Reply → Type 0) (a : Reply) → OfPrinter c p P a → ((a ≡ reply.NoSuch) × (IsPrinter c p → ⊥)) ⊎ (IsPrinter c p × P a)
printers c p P reply.NoSuch r = inl (refl, r)
printers c p P a r = inr r

both_printers : (c : Config) (p : ℕ) (P : Reply → Type 0) (a b : Reply) → OfPrinter c p P a → OfPrinter c p P b → (P a → P b → a ≡ b) → a ≡ b
both_printers c p P a b x y in' = elim (printers c p P a x) [
  | inl e ↦ elim (printers c p P b y) [ inl f ↦ e.0 ∙ sym f.0 | inr g ↦ absurd (e.1 g.0) ]
  | inr h ↦ elim (printers c p P b y) [ inl f ↦ absurd (f.1 h.0) | inr g ↦ in' h.1 g.1 ]
]

connected : (ss : List Session) (a : Reply) → OnConnect ss a → is_short a ≡ false → a ≡ reply.Connected (Rattle.std.specs.Prelude.◌+◌ (length ss) 1)
connected ss (reply.Connected n) d s = ap reply.Connected d
connected ss reply.Memory d s = absurd (clash true refl s)
connected ss a d s = absurd d

taken : (x : Session) (a : Reply) → OnArrival x a → is_short a ≡ false → a ≡ reply.Taken
taken x reply.Taken d s = refl
taken x reply.Memory d s = absurd (clash true refl s)
taken x a d s = absurd d

-- what a printer is given is told by what is next
given_of : N.Next (List ℕ) → Given
given_of (N.Next.Hands x) = given.Page (record { job = x.job; place = x.place; file = x.file; number = x.number; octets = x.page })
given_of N.Next.Nothing = given.Nothing
given_of N.Next.Stops = given.Stopped
given_of N.Next.Busy = given.Busy
given_of N.Next.Over = given.Closed

given_back : (g : Given) → given_of (next_of g) ≡ g
unfolding given_of
given_back (given.Page page) = refl
given_back given.Nothing = refl
given_back given.Stopped = refl
given_back given.Busy = refl
given_back given.Closed = refl

gave : (v : State (List ℕ)) (p : ℕ) (a : Reply) → OnNext v p a → is_short a ≡ false → a ≡ reply.Gave (given_of (next_page v p))
gave v p (reply.Gave g) d s = ap reply.Gave (sym (given_back g) ∙ ap given_of d)
gave v p reply.Memory d s = absurd (clash true refl s)
gave v p a d s = absurd d

said_of : E.Progress → Progress
said_of E.Progress.Going = said.Going
said_of E.Progress.Done = said.Done
said_of E.Progress.Ended = said.Ended

said_back : (x : Progress) → said_of (progress_seen x) ≡ x
unfolding said_of
said_back said.Going = refl
said_back said.Done = refl
said_back said.Ended = refl

no_page : (v : State (List ℕ)) (p : ℕ) → (printer_at v p).out ≡ None → HoldsPage v p → ⊥
no_page v p e h = (let bad : ◌≡◌ {A = Option (Sheet (List ℕ))} None (Some h.0) = sym e ∙ h.1 in absurd cc)

module _ (c : Config) (h : List (Event (List ℕ))) (l : IsLegal length c first_base h) (ss : List Session) where
  abbrev v : State (List ℕ)
  v = now c first_base h

  deeds : (s : Session) (d : Due) (x y : Deed) → IsDueTurn v s.job d x → IsDueTurn v s.job d y → MayCome Octets v (of_turn v s d x) → MayCome Octets v (of_turn v s d y) → is_short_deed x ≡ false → is_short_deed y ≡ false → x ≡ y
  deeds s Waits deed.Waited deed.Waited a b m n i j = refl
  deeds s Waits deed.Waited y a b m n i j = absurd b
  deeds s Waits x y a b m n i j = absurd a
  deeds s Ends deed.Ended deed.Ended a b m n i j = refl
  deeds s Ends deed.Ended y a b m n i j = absurd b
  deeds s Ends x y a b m n i j = absurd a
  deeds s (Writes Ack items text) deed.Acked deed.Acked a b m n i j = refl
  deeds s (Writes Ack items text) deed.Acked y a b m n i j = absurd b
  deeds s (Writes Ack items text) x y a b m n i j = absurd a
  deeds s (Writes (Fault k) items text) (deed.Refused p) (deed.Refused q) a b m n i j = ap deed.Refused (a ∙ sym b)
  deeds s (Writes (Fault k) items text) (deed.Refused p) y a b m n i j = absurd b
  deeds s (Writes (Fault k) items text) x y a b m n i j = absurd a
  deeds s (Requests r items text) (deed.Asked k x) (deed.Asked q y) a b m n i j =
      ap (λ (z : RequestKind). deed.Asked z x) (a.0 ∙ sym b.0)
      ∙ ap (λ (z : Answer). deed.Asked q z) (answers_agree Octets c first_base h l s.sender s.job r x y (record { due = a.1; may = m }) (record { due = b.1; may = n }) i j)
  deeds s (Requests r items text) (deed.Asked k x) (deed.Refused q) a b m n i j = absurd (short_memory q b.0 j)
  deeds s (Requests r items text) (deed.Asked k x) y a b m n i j = absurd b
  deeds s (Requests r items text) (deed.Refused q) y a b m n i j = absurd (short_memory q a.0 i)
  deeds s (Requests r items text) x y a b m n i j = absurd a

  abbrev mine : ℕ → Session
  mine n = session_at ss n

  turned : (n : ℕ) (a b : Reply) → OnTurn v (mine n) a → OnTurn v (mine n) b → MayCome Octets v (Rattle.spool_trace.specs.Shown.shown v ss (step.Turn n) a) → MayCome Octets v (Rattle.spool_trace.specs.Shown.shown v ss (step.Turn n) b) → is_short a ≡ false → is_short b ≡ false → a ≡ b
  turned n (reply.Turned x) (reply.Turned y) a b m k i j = ap reply.Turned (deeds (mine n) (due_in (mine n)) x y a b m k i j)
  turned n (reply.Turned x) y a b m k i j = absurd b
  turned n x y a b m k i j = absurd a

  printed : (p : ℕ) (a b : Reply) → OnPrinted v p a → OnPrinted v p b → MayCome Octets v (Rattle.spool_trace.specs.Shown.shown v ss (step.Printed p) a) → MayCome Octets v (Rattle.spool_trace.specs.Shown.shown v ss (step.Printed p) b) → a ≡ b
  printed p (reply.Printed x) (reply.Printed y) a b m k =
      let m' = subst (λ (o : Option (Sheet (List ℕ))). MayCome Octets v (comes_back p (Printed (progress_seen x)) o)) a.1 m in
      let k' = subst (λ (o : Option (Sheet (List ℕ))). MayCome Octets v (comes_back p (Printed (progress_seen y)) o)) a.1 k in
      let w = meets Octets c first_base h l a.0.job (λ (w : Job (List ℕ)). progress_seen x ≡ progress_of w) (λ (w : Job (List ℕ)). progress_seen y ≡ progress_of w) m'.1.1 k'.1.1 in
      ap reply.Printed (sym (said_back x) ∙ ap said_of (w.1 ∙ sym w.2) ∙ said_back y)
  printed p (reply.Printed x) reply.NoPage a b m k = absurd (no_page v p b a)
  printed p (reply.Printed x) y a b m k = absurd b
  printed p reply.NoPage reply.NoPage a b m k = refl
  printed p reply.NoPage (reply.Printed y) a b m k = absurd (no_page v p a b)
  printed p reply.NoPage y a b m k = absurd b
  printed p x y a b m k = absurd a

  failed : (p : ℕ) (a b : Reply) → OnFailed v p a → OnFailed v p b → a ≡ b
  failed p reply.Failed reply.Failed a b = refl
  failed p reply.Failed reply.NoPage a b = absurd (no_page v p b a)
  failed p reply.Failed y a b = absurd b
  failed p reply.NoPage reply.NoPage a b = refl
  failed p reply.NoPage reply.Failed a b = absurd (no_page v p a b)
  failed p reply.NoPage y a b = absurd b
  failed p x y a b = absurd a

  agree : (st : Step) (a b : Reply) → IsReplyIn v ss st a → IsReplyIn v ss st b → is_short a ≡ false → is_short b ≡ false → a ≡ b
  agree (step.Connect sender) a b r q i j = connected ss a r.due i ∙ sym (connected ss b q.due j)
  agree (step.Arrive n octets) a b r q i j = both ss n OnArrival a b (class ss n OnArrival a r.due) (class ss n OnArrival b q.due) (λ g k. taken (mine n) a g.2 i ∙ sym (taken (mine n) b k.2 j))
  agree (step.Turn n) a b r q i j = both ss n (OnTurn v) a b (class ss n (OnTurn v) a r.due) (class ss n (OnTurn v) b q.due) (λ g k. turned n a b g.2 k.2 r.may q.may i j)
  agree (step.Break n) a b r q i j = both ss n OnBreak a b (class ss n OnBreak a r.due) (class ss n OnBreak b q.due) (λ g k. g.2 ∙ sym k.2)
  agree (step.Next p) a b r q i j = both_printers c p (OnNext v p) a b r.due q.due (λ x y. gave v p a x i ∙ sym (gave v p b y j))
  agree (step.Printed p) a b r q i j = both_printers c p (OnPrinted v p) a b r.due q.due (λ x y. printed p a b x y r.may q.may)
  agree (step.Failed p) a b r q i j = both_printers c p (OnFailed v p) a b r.due q.due (failed p a b)
  agree step.Shutdown a b r q i j = r.due ∙ sym q.due

pub replies_agree : RepliesAgree
replies_agree c t r st a b x y i j = agree c (events c t) (legal c t r) (sessions t) st a b x y i j
