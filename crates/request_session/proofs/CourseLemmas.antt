-- What a session did is a reading of what it has read.
use Rattle.std.proofs.Common.{◌≡◌, inl, inr, ℕ, true, false, List, [], ◌∷◌, ◌++◌, Option, refl, sym, subst, append-nil}
use Rattle.receiver.specs.Script as script
use Rattle.receiver.specs.Script.{Ack, Fault, Over, Output}
use Rattle.receiver.specs.Reading.{Progress, Kind, Due, Waits, Ends, Writes, Requests, answered, due, kind_of, start}
use Rattle.receiver.specs.Reads.{GoesOn, Reads, ReadsFrom, ReadsOwed, Rests}
use Rattle.receiver.proofs.Exists.{some_reading}
use Rattle.spool_trace.specs.declared.reply.Deed.{Deed}
use Rattle.spool_trace.specs.declared.reply.Deed.TheVariants as deed
use Rattle.spool_trace.specs.Trace.{written_by}
use Rattle.spool_trace.specs.Sessions.{Session, due_in, turned}
use Rattle.spool_trace.specs.Reading.{IsRead}
use Rattle.spool_trace.proofs.Read.{acked, asked, ended, new_read, refused, rested, short, taken, wrote}
use Rattle.request_session.specs.Course.{Course, Came, Did, IsDue, IsRight, session_after}

-- what a session does leaves it read, where it is what was due
did_read : (s : Session) (d : Due) (done : Deed) → due_in s ≡ d → IsDue d done → IsRead s → IsRead (turned d done s)
did_read s Ends deed.Ended e i h = ended s h
did_read s Ends deed.Waited e i h = absurd i
did_read s Ends deed.Acked e i h = absurd i
did_read s Ends (deed.Asked kind answer) e i h = absurd i
did_read s Ends (deed.Refused n) e i h = absurd i
did_read s Waits deed.Ended e i h = absurd i
did_read s Waits deed.Waited e i h = absurd i
did_read s Waits deed.Acked e i h = absurd i
did_read s Waits (deed.Asked kind answer) e i h = absurd i
did_read s Waits (deed.Refused n) e i h = absurd i
did_read s (Writes Ack items text) deed.Acked e i h = acked s items text e h
did_read s (Writes Ack items text) deed.Ended e i h = absurd i
did_read s (Writes Ack items text) deed.Waited e i h = absurd i
did_read s (Writes Ack items text) (deed.Asked kind answer) e i h = absurd i
did_read s (Writes Ack items text) (deed.Refused n) e i h = absurd i
did_read s (Writes (Fault m) items text) (deed.Refused n) e i h = rw i (refused s items text m e h)
did_read s (Writes (Fault m) items text) deed.Ended e i h = absurd i
did_read s (Writes (Fault m) items text) deed.Waited e i h = absurd i
did_read s (Writes (Fault m) items text) deed.Acked e i h = absurd i
did_read s (Writes (Fault m) items text) (deed.Asked kind answer) e i h = absurd i
did_read s (Requests r items text) (deed.Asked kind answer) e i h = asked s r items text answer e h
did_read s (Requests r items text) (deed.Refused n) e i h = rw i.0 (short s r items text e i.1 h)
did_read s (Requests r items text) deed.Ended e i h = absurd i
did_read s (Requests r items text) deed.Waited e i h = absurd i
did_read s (Requests r items text) deed.Acked e i h = absurd i

-- a course of things that were due leaves the session read
pub course_read : (sender : ℕ) (c : Course) → IsRight sender c → IsRead (session_after sender c)
course_read sender [] h = new_read sender
course_read sender (Came octets ∷ c) h = taken (session_after sender c) octets (course_read sender c h)
course_read sender (Did done ∷ c) h =
    let s = session_after sender c in
    wrote (turned (due_in s) done s) (s.written ++ written_by done) (did_read s (due_in s) done refl h.0 (course_read sender c h.1))

-- where nothing is due, what was done is the reading of all that was read and answered
pub course_rests : (sender : ℕ) (c : Course) → IsRight sender c → Rests (due_in (session_after sender c)) → ReadsFrom true (session_after sender c).outputs start (session_after sender c).arrived (session_after sender c).answers
course_rests sender c h r = rested (session_after sender c) (course_read sender c h) r

-- a reading where memory is ample is one where it may be short
ample_step : (os : List Output) (o : Output) (s : Progress) (a : List script.Reply) → ((u : Progress) (r : List ℕ) (b : List script.Reply) → Reads false os u r b → Reads true os u r b)
    → (d : Due) → GoesOn (Reads false os) (os ≡ []) s o a d → GoesOn (Reads true os) (os ≡ []) s o a d
ample_step os o s a f Waits g = absurd g
ample_step os o s a f Ends g = absurd g
ample_step os o s a f (Writes w items r) g = (g.0, f (record s { items = items; tail = [] }) r a g.1)
ample_step os o s [] f (Requests q items r) g = g
ample_step os o s (x ∷ a) f (Requests q items r) g = (g.0, f (answered (kind_of q) x (record s { items = items; tail = [] })) r a g.1)

false_true : false ≡ true → ⊥
false_true e = cc

ample : (os : List Output) (s : Progress) (t : List ℕ) (a : List script.Reply) → Reads false os s t a → Reads true os s t a
ample [] s t a h = h
ample (o ∷ os) s t a h =
    elim h [
      | inl g ↦ inl (ample_step os o (record s { tail = [] }) a (λ u r b k. ample os u r b k) (due s t) g)
      | inr m ↦ absurd (false_true m.0)
    ]

begun : (s : Session) → IsRead s → (more : List Output) × ReadsFrom true (s.outputs ++ more) start s.arrived s.answers
begun s h =
    let some = some_reading s.progress (s.unread ++ []) [] in
    let m : ReadsFrom true some.0 s.progress (s.unread ++ []) [] =
    subst (λ (o : Option Kind). ReadsOwed true some.0 s.progress (s.progress.tail ++ (s.unread ++ [])) [] o) (sym h.owed)
    (subst (λ (x : List ℕ). Reads true some.0 s.progress (x ++ (s.unread ++ [])) []) (sym h.tail) (ample some.0 s.progress (s.unread ++ []) [] some.1)) in
    let k = h.leads [] [] some.0 m in (
      some.0,
      subst (λ (t : List ℕ). ReadsFrom true (s.outputs ++ some.0) start t s.answers) (append-nil s.arrived)
          (subst (λ (a : List script.Reply). ReadsFrom true (s.outputs ++ some.0) start (s.arrived ++ []) a) (append-nil s.answers) k),
    )

-- what was done is a beginning of it
pub course_begun : (sender : ℕ) (c : Course) → IsRight sender c → (more : List Output) × ReadsFrom true ((session_after sender c).outputs ++ more) start (session_after sender c).arrived (session_after sender c).answers
course_begun sender c h = begun (session_after sender c) (course_read sender c h)

-- nothing is due where a session is over
pub over_rests : (s : Session) → s.progress.items ≡ Over ∷ [] → Rests (due_in s)
over_rests s e = rw e tt
