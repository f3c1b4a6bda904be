-- What the sessions of a trace did is a reading of what arrived.
use Rattle.std.proofs.Common.{◌≡◌, ℕ, zero, suc, true, ◌-◌, List, [], ◌∷◌, ◌++◌, None, refl, ap, subst, ◌∙◌, inl, inr, append_assoc, append-nil, slice_index_or, slice_set}
use Rattle.lpd_values.specs.declared.refusal.Refusal.{Refusal}
use Rattle.lpd_values.specs.declared.refusal.Refusal.TheVariants as refusal
use Rattle.receiver.specs.Script as script
use Rattle.receiver.specs.Script.{Request, Written, Output, Item, Over, Wrote, Asked, Ack, Fault}
use Rattle.receiver.specs.Script.{Yes, Ticket, Later, Stored, Received, Refused}
use Rattle.receiver.specs.Reading.{Progress, Due, Waits, Ends, Writes, Requests, due, start, answered, kind_of}
use Rattle.receiver.specs.Reads.{Rests, Reads, ReadsFrom, ReadsOwed, TakesMemory}
use Rattle.receiver.proofs.Laws.{HasCome, answered_keeps, extended, due_stable}
use Rattle.receiver.proofs.LeadsLaws.{on_arrival}
use Rattle.config_values.specs.Config.{Config}
use Rattle.spool_history.specs.Now.{State}
use Rattle.spool_trace.specs.declared.step.Step.{Step}
use Rattle.spool_trace.specs.declared.step.Step.TheVariants as step
use Rattle.spool_trace.specs.declared.reply.Deed.{Deed}
use Rattle.spool_trace.specs.declared.reply.Deed.TheVariants as deed
use Rattle.spool_trace.specs.declared.reply.Reply.{Reply}
use Rattle.spool_trace.specs.declared.reply.Reply.TheVariants as reply
use Rattle.spool_requests.specs.declared.answer.Answer.{Answer}
use Rattle.spool_trace.specs.Trace.{Trace, written_by}
use Rattle.spool_trace.specs.Sessions.{Session, new_session, session_at, due_in, takes, reply_of, goes_on, asks, acks, refuses, ends, turned, turns, moved, sessions}
use Rattle.spool_trace.specs.Shown.{spool_after}
use Rattle.spool_trace.specs.Replies.{IsDueTurn, IsDueReply, IsTrace}
use Rattle.spool_trace.specs.Reading.{IsRead, OutputsAreReading}

-- what is due stays due when more comes
still : (p : Progress) (unread t : List ℕ) (d : Due) → due p unread ≡ d → HasCome d → due p (unread ++ t) ≡ extended t d
still p unread t d e h = due_stable p unread t (rw e h) ∙ ap (extended t) e

from_none : (os : List Output) (p : Progress) (t : List ℕ) (a : List script.Reply) → p.owed ≡ None → p.tail ≡ [] → ReadsFrom true os p t a → Reads true os p t a
from_none os p t a e f h =
    let k = subst (λ o. ReadsOwed true os p (p.tail ++ t) a o) e h in
    subst (λ x. Reads true os p (x ++ t) a) f k

-- a request and its answer come before what follows them
asked_read : (p : Progress) (r : Request) (items : List Item) (text unread : List ℕ) (x : script.Reply) → p.owed ≡ None → p.tail ≡ [] → due p unread ≡ Requests r items text →
    (t : List ℕ) (a : List script.Reply) (os : List Output) →
    ReadsFrom true os (answered (kind_of r) x (record p { items = items; tail = [] })) (text ++ t) a → ReadsFrom true (Asked r ∷ os) p (unread ++ t) (x ∷ a)
asked_read p r items text unread x e f d t a os h =
    let k = answered_keeps (kind_of r) x (record p { items = items; tail = [] }) in
    let m = rw (k.0, k.1) at h in
    rw (e, f, still p unread t (Requests r items text) d tt) (inl (refl, m))

-- and so does what is written
wrote_read : (p : Progress) (w : Written) (items : List Item) (text unread : List ℕ) → p.owed ≡ None → p.tail ≡ [] → due p unread ≡ Writes w items text →
    (t : List ℕ) (a : List script.Reply) (os : List Output) →
    ReadsFrom true os (record p { items = items; tail = [] }) (text ++ t) a → ReadsFrom true (Wrote w ∷ os) p (unread ++ t) a
wrote_read p w items text unread e f d t a os h =
    let m = rw e at h in
    rw (e, f, still p unread t (Writes w items text) d tt) (inl (refl, m))

-- nothing comes after the end
nothing_over : (os : List Output) (p : Progress) (t : List ℕ) (a : List script.Reply) → p.items ≡ Over ∷ [] → Reads true os p t a → os ≡ []
nothing_over [] p t a e h = refl
nothing_over (o ∷ os) p t a e h = elim (rw e at h) [ inl g ↦ absurd g | inr r ↦ absurd r.3 ]

-- where memory was refused for a request
short_read : (p : Progress) (r : Request) (items : List Item) (text unread : List ℕ) → p.owed ≡ None → p.tail ≡ [] → due p unread ≡ Requests r items text → TakesMemory (Requests r items text) →
    (t : List ℕ) (a : List script.Reply) (os : List Output) →
    ReadsFrom true os (record p { items = Over ∷ []; tail = [] }) (text ++ t) a → ReadsFrom true (Wrote (Fault refusal.Memory) ∷ os) p (unread ++ t) a
short_read p r items text unread e f d k t a os h =
    let m = from_none os (record p { items = Over ∷ []; tail = [] }) (text ++ t) a e refl h in
    let z = nothing_over os (record p { items = Over ∷ []; tail = [] }) (text ++ t) a refl m in
    rw (z, e, f, still p unread t (Requests r items text) d tt) (inr (refl, refl, refl, k))

pub taken : (s : Session) (octets : List ℕ) → IsRead s → IsRead (takes octets s)
taken s octets h = record { owed = h.owed; tail = h.tail; leads = on_arrival s.outputs s.arrived s.answers s.progress s.unread octets h.leads }

pub asked : (s : Session) (r : Request) (items : List Item) (text : List ℕ) (answer : Answer) → due_in s ≡ Requests r items text → IsRead s → IsRead (asks r answer (goes_on items text s))
asked s r items text answer d h =
    let k = answered_keeps (kind_of r) (reply_of answer) (record s.progress { items = items; tail = [] }) in
    record {
      owed = k.0;
      tail = k.1;
      leads = λ t a os m. rw (append_assoc s.outputs (Asked r ∷ []) os, append_assoc s.answers (reply_of answer ∷ []) a) (h.leads t (reply_of answer ∷ a) (Asked r ∷ os) (asked_read s.progress r items text s.unread (reply_of answer) h.owed h.tail d t a os m));
    }

pub acked : (s : Session) (items : List Item) (text : List ℕ) → due_in s ≡ Writes Ack items text → IsRead s → IsRead (acks (goes_on items text s))
acked s items text d h =
    record {
      owed = h.owed;
      tail = refl;
      leads = λ t a os m. rw append_assoc (h.leads t a (Wrote Ack ∷ os) (wrote_read s.progress Ack items text s.unread h.owed h.tail d t a os m));
    }

pub refused : (s : Session) (items : List Item) (text : List ℕ) (n : Refusal) → due_in s ≡ Writes (Fault n) items text → IsRead s → IsRead (refuses n (goes_on items text s))
refused s items text n d h =
    record {
      owed = h.owed;
      tail = refl;
      leads = λ t a os m. rw append_assoc (h.leads t a (Wrote (Fault n) ∷ os) (wrote_read s.progress (Fault n) items text s.unread h.owed h.tail d t a os m));
    }

pub short : (s : Session) (r : Request) (items : List Item) (text : List ℕ) → due_in s ≡ Requests r items text → TakesMemory (Requests r items text) → IsRead s → IsRead (refuses refusal.Memory (goes_on (Over ∷ []) text s))
short s r items text d k h =
    record {
      owed = h.owed;
      tail = refl;
      leads = λ t a os m. rw append_assoc (h.leads t a (Wrote (Fault refusal.Memory) ∷ os) (short_read s.progress r items text s.unread h.owed h.tail d k t a os m));
    }

pub ended : (s : Session) → IsRead s → IsRead (ends s)
ended s h = record { owed = h.owed; tail = h.tail; leads = h.leads }

turned_read : (v : State (List ℕ)) (s : Session) (d : Due) (done : Deed) → due_in s ≡ d → IsDueTurn v s.job d done → IsRead s → IsRead (turned d done s)
turned_read v s (Requests r items text) (deed.Asked kind answer) e i h = asked s r items text answer e h
turned_read v s (Requests r items text) (deed.Refused n) e i h = rw i.0 (short s r items text e i.1 h)
turned_read v s (Requests r items text) deed.Waited e i h = h
turned_read v s (Requests r items text) deed.Acked e i h = h
turned_read v s (Requests r items text) deed.Ended e i h = ended s h
turned_read v s (Writes Ack items text) deed.Acked e i h = acked s items text e h
turned_read v s (Writes Ack items text) (deed.Refused n) e i h = absurd i
turned_read v s (Writes Ack items text) (deed.Asked kind answer) e i h = h
turned_read v s (Writes Ack items text) deed.Waited e i h = h
turned_read v s (Writes Ack items text) deed.Ended e i h = ended s h
turned_read v s (Writes (Fault m) items text) deed.Acked e i h = absurd i
turned_read v s (Writes (Fault m) items text) (deed.Refused n) e i h = rw i (refused s items text m e h)
turned_read v s (Writes (Fault m) items text) (deed.Asked kind answer) e i h = h
turned_read v s (Writes (Fault m) items text) deed.Waited e i h = h
turned_read v s (Writes (Fault m) items text) deed.Ended e i h = ended s h
turned_read v s Waits deed.Ended e i h = ended s h
turned_read v s Waits deed.Waited e i h = h
turned_read v s Waits deed.Acked e i h = h
turned_read v s Waits (deed.Asked kind answer) e i h = h
turned_read v s Waits (deed.Refused n) e i h = h
turned_read v s Ends deed.Ended e i h = ended s h
turned_read v s Ends deed.Waited e i h = h
turned_read v s Ends deed.Acked e i h = h
turned_read v s Ends (deed.Asked kind answer) e i h = h
turned_read v s Ends (deed.Refused n) e i h = h

pub wrote : (s : Session) (octets : List ℕ) → IsRead s → IsRead (record s { written = octets })
wrote s octets h = record { owed = h.owed; tail = h.tail; leads = h.leads }

-- what holds of all sessions, and of one that is changed or new, holds of all after it
pub set_at : (P : Session → Type 0) (x d : Session) (ss : List Session) (i j : ℕ) → P x → ((k : ℕ) → P (slice_index_or ss k d)) → P (slice_index_or (slice_set ss i x) j d)
set_at P x d [] i j p h = h j
set_at P x d (y ∷ ys) zero zero p h = p
set_at P x d (y ∷ ys) zero (suc j) p h = h (suc j)
set_at P x d (y ∷ ys) (suc i) zero p h = h zero
set_at P x d (y ∷ ys) (suc i) (suc j) p h = set_at P x d ys i j p (λ k. h (suc k))

pub one_more : (P : Session → Type 0) (x d : Session) (ss : List Session) (j : ℕ) → P x → P d → ((k : ℕ) → P (slice_index_or ss k d)) → P (slice_index_or (ss ++ x ∷ []) j d)
one_more P x d [] zero p q h = p
one_more P x d [] (suc j) p q h = q
one_more P x d (y ∷ ys) zero p q h = h zero
one_more P x d (y ∷ ys) (suc j) p q h = one_more P x d ys j p q (λ k. h (suc k))

pub new_read : (sender : ℕ) → IsRead (new_session sender)
new_read sender = record { owed = refl; tail = refl; leads = λ t a os h. h }

moved_read : (v : State (List ℕ)) (ss : List Session) (st : Step) (re : Reply) → IsDueReply v ss st re → ((k : ℕ) → IsRead (slice_index_or ss k (new_session 0)))
    → (n : ℕ) → IsRead (slice_index_or (moved st re ss) n (new_session 0))
moved_read v ss (step.Connect sender) (reply.Connected k) d h n = one_more IsRead (new_session sender) (new_session 0) ss n (new_read sender) (new_read 0) h
moved_read v ss (step.Arrive k octets) reply.Taken d h n =
    set_at IsRead (takes octets (session_at ss k)) (new_session 0) ss (k - 1) n (taken (session_at ss k) octets (h (k - 1))) h
moved_read v ss (step.Turn k) (reply.Turned done) d h n =
    let s = session_at ss k in
    set_at IsRead (turns done s) (new_session 0) ss (k - 1) n (wrote (turned (due_in s) done s) (s.written ++ written_by done) (turned_read v s (due_in s) done refl d.2 (h (k - 1)))) h
moved_read v ss (step.Break k) reply.Broken d h n =
    set_at IsRead (ends (session_at ss k)) (new_session 0) ss (k - 1) n (ended (session_at ss k) (h (k - 1))) h
moved_read v ss _ _ d h n = h n

read_at : (c : Config) (t : Trace) → IsTrace c t → (n : ℕ) → IsRead (slice_index_or (sessions t) n (new_session 0))
read_at c [] r n = new_read 0
read_at c (e ∷ t) r n = moved_read (spool_after c t) (sessions t) e.step e.reply r.0.due (read_at c t r.1) n

pub all_read : (c : Config) (t : Trace) → IsTrace c t → (n : ℕ) → IsRead (session_at (sessions t) n)
all_read c t r n = read_at c t r (n - 1)

pub rested : (s : Session) → IsRead s → Rests (due_in s) → ReadsFrom true s.outputs start s.arrived s.answers
rested s h r =
    let all : s.unread ++ [] ≡ s.unread = append-nil s.unread in
    let m : ReadsFrom true [] s.progress (s.unread ++ []) [] = rw (all, h.owed, h.tail) r in
    let k = h.leads [] [] [] m in
    subst (λ (os : List Output). ReadsFrom true os start s.arrived s.answers) (append-nil s.outputs)
    (subst (λ (t : List ℕ). ReadsFrom true (s.outputs ++ []) start t s.answers) (append-nil s.arrived)
    (subst (λ (a : List script.Reply). ReadsFrom true (s.outputs ++ []) start (s.arrived ++ []) a) (append-nil s.answers) k))

pub outputs_read : OutputsAreReading
outputs_read c t r n = rested (session_at (sessions t) n) (all_read c t r n)
