-- One turn of a session: what its receiver needs next is what is due, and where it was done the session stands there.
use Rattle.std.proofs.Common.{◌≡◌, inl, inr, ℕ, IsSome, List, [], ◌∷◌, ◌++◌, Option, Result, Ok, Err, OnOk, OnErr, drop, refl, sym, ap, subst, ◌∙◌}
use Rattle.lpd_values.specs.declared.refusal.Refusal.{Refusal}
use Rattle.lpd_values.specs.declared.refusal.Refusal.TheVariants.{Memory}
use Rattle.lpd_commands.specs.declared.ends.OctetFault.{OctetFault}
use Rattle.lpd_commands.proofs.Writing.{Writes-append, Writes-none}
use Rattle.receiver.specs.Script.{Fault, Over}
use Rattle.receiver.specs.Reading.{Kind, Progress, Due, Ends, Requests, Writes, answered, answered_owed, due, kind_of}
use Rattle.receiver.specs.Reads.{Rests}
use Rattle.receiver.specs.View.{Gives, RunsOut, Steps, asked}
use Rattle.receiver.specs.declared.need.Need.{Need}
use Rattle.receiver.specs.declared.need.Need.TheVariants as need
use Rattle.request_calls.proofs.Requested.{asked_request, none_asked}
use Rattle.spool_requests.specs.Kinds.{request_kind}
use Rattle.spool_requests.specs.declared.answer.Answer.{Answer}
use Rattle.spool_trace.specs.declared.reply.Deed.{Deed}
use Rattle.spool_trace.specs.declared.reply.Deed.TheVariants as deed
use Rattle.spool_trace.specs.Trace.{text_of, written_by}
use Rattle.spool_trace.specs.Sessions.{Session, due_in, goes_on, job_after, reply_of, turned, turns}
use Rattle.spool_trace.specs.Reading.{Follows, Stands}
use Rattle.spool_trace.specs.Needs.{Advanced}
use Rattle.spool_trace.proofs.Reader.{advances}
use Rattle.spool_trace.proofs.Turned.{turned_arrived}
use Rattle.spool_trace.proofs.Wanted.{ack_is_due, ask_is_due, end_is_due, refusal_is_due, short_is_due}
use Rattle.request_session.specs.declared.ending.SessionEnd.{SessionEnd}
use Rattle.request_session.specs.declared.ending.SessionEnd.TheVariants as ends
use Rattle.request_session.specs.declared.talk.Talk.{Talk}
use Rattle.request_session.specs.declared.talk.Turn.{Turn}
use Rattle.request_session.specs.declared.talk.Turn.TheVariants as turn
use Rattle.request_session.specs.Course.{Course, Did, IsDue}
use Rattle.request_session.specs.Carried.{CarriesAll, CarriesDue, Carrying}
use Rattle.request_session.specs.Served.{DidAll, EndsAs, FailsIn, Side, WritesAll, Wrote}
use Rattle.request_session.specs.Turned.{Answered, GoesOn, HasDone, IsOver, IsRefused, Moment, Turns, TurnsFrom, Writing, here, moment, session_from, spent, turn_if_written}
use Rattle.request_session.proofs.CourseLemmas.{course_begun, course_rests}

-- what a write came to
pub written_or : (result : Result (Unit {0}) OctetFault) (octets : List ℕ) (before after : Side) → OnOk result (WritesAll octets before after) → OnErr result (FailsIn octets before after)
    → Writing result octets before after
written_or (Ok done) octets before after ok err = ok
written_or (Err fault) octets before after ok err = err

-- nothing was to be written
written_none : (w : Side) → WritesAll [] w w
written_none w = (Writes-none w.octets, refl)

-- the receiver has the job in hand that the session has
stood_job : {p : Progress} {left : List ℕ} {s : Session} → Stands p left s → p.job ≡ s.progress.job
stood_job h = ap (λ (x : Progress). x.job) h.progress

fault_memory : (n : Refusal) → need.Fault n ≡ need.Fault Memory → n ≡ Memory
fault_memory n e = cc

-- what isn't a refusal
request_not : (want : Need) → IsSome (asked want) → want ≡ need.Fault Memory → ⊥
request_not want some e = none_asked (subst (λ (i : Need). IsSome (asked i)) e some)

ack_not : (want : Need) → want ≡ need.Ack → want ≡ need.Fault Memory → ⊥
ack_not want is e = cc

ended_not : (want : Need) → want ≡ need.Ended → want ≡ need.Fault Memory → ⊥
ended_not want is e = cc

-- it was the last that the session did
pub is_over : {S : Type 0} {carries : Carrying S} {c : Course} {first now : Moment S} (end : SessionEnd) → HasDone carries c first now → Wrote end first.talk.sender c first.writer now.writer
    → DidAll end (session_from first c) → EndsAs end first.talk.sender c → now.talk.receiver.job ≡ (session_from first c).progress.job → IsOver carries end c first (spent now)
is_over end h w did ended in_hand = record { ends = record { right = h.right; did = did; wrote = w; ended = ended }; carried = h.carried; job = h.job; in_hand = in_hand }

-- a session goes on, and then did this, which was due
module _ {S : Type 0} {carries : Carrying S} {c : Course} {first now : Moment S} (g : GoesOn carries c first now) (done : Deed) (after : Moment S)
    (due' : IsDue (due_in (session_from first c)) done) (carried : CarriesAll carries first.talk.sender (Did done ∷ c) first.spool after.spool)
    (sender : after.talk.sender ≡ now.talk.sender) (job : after.talk.job ≡ (session_from first (Did done ∷ c)).job) where
  -- it wrote what that writes
  does : WritesAll (written_by done) now.writer after.writer → HasDone carries (Did done ∷ c) first after
  does w =
      record {
        right = (due', g.done.right);
        wrote = (Writes-append first.writer.octets now.writer.octets after.writer.octets (session_from first c).written (written_by done) g.done.wrote.0 w.0, w.1 ∙ g.done.wrote.1);
        carried = carried;
        sender = sender ∙ g.done.sender;
        job = job;
      }

  -- the writer failed
  breaks : FailsIn (written_by done) now.writer after.writer → after.talk.receiver.job ≡ (session_from first (Did done ∷ c)).progress.job → IsOver carries ends.WriteFault (Did done ∷ c) first (spent after)
  breaks w in_hand =
      record {
        ends = record {
          right = (due', g.done.right);
          did = course_begun first.talk.sender (Did done ∷ c) (due', g.done.right);
          wrote = (now.writer, g.done.wrote, w);
          ended = tt;
        };
        carried = carried;
        job = job;
        in_hand = in_hand;
      }

  on_or_breaks : (result : Result (Unit {0}) OctetFault) → Stands after.talk.receiver after.waiting (turns done (session_from first c)) → Writing result (written_by done) now.writer after.writer
      → Turns carries (turn_if_written result turn.On) (Did done ∷ c) first after
  on_or_breaks (Ok unit) st w = record { done = does w; stands = st }
  on_or_breaks (Err fault) st w = (breaks w (stood_job st), λ arrived reads old new same. same)

  -- no more was read, and it goes on, but where the writer failed
  turned_from : (result : Result (Unit {0}) OctetFault) (t : Turn) → t ≡ turn_if_written result turn.On → Stands after.talk.receiver after.waiting (turns done (session_from first c))
      → Writing result (written_by done) now.writer after.writer
      → (c' : Course) × ((session_from first c').arrived ≡ (session_from first c).arrived) × Turns carries t c' first after
  turned_from result t turn st w =
      let s = session_from first c in
      (Did done ∷ c, turned_arrived (due_in s) done s, subst (λ (x : Turn). Turns carries x (Did done ∷ c) first after) (sym turn) (on_or_breaks result st w))

-- a call of the receiver consumed so many octets for this need, wherever the session was
module _ {S : Type 0} (carries : Carrying S) (now : Moment S) (new : Progress) (count : ℕ) (want : Need) (st : Steps now.talk.receiver now.waiting count want new) where
  -- the moment after it, with what this writer tells then
  abbrev advanced : Side → Moment S
  advanced writer = moment (record now.talk { receiver = new }) (drop count now.waiting) now.spool writer

  module _ (c : Course) (first : Moment S) (g : GoesOn carries c first now) where
    abbrev s : Session
    s = session_from first c

    -- what was needed, where it isn't that memory was refused
    gives : (want ≡ need.Fault Memory → ⊥) → Advanced now.talk.receiver new now.waiting count want s
    gives other = record { stood = g.stands; gives = elim st [ inl k ↦ k | inr r ↦ absurd (other r.memory) ] }

    followed : (a : Advanced now.talk.receiver new now.waiting count want s) (d : Due) → due_in s ≡ d → Follows d new (drop count now.waiting) want s
    followed a d k = subst (λ (x : Due). Follows x new (drop count now.waiting) want s) k (advances now.talk.receiver new now.waiting count want s g.stands a.gives)

  -- an octet 00 was due
  pub acks : (writer : Side) (result : Result (Unit {0}) OctetFault) (t : Turn) → want ≡ need.Ack → t ≡ turn_if_written result turn.On → Writing result (0 ∷ []) now.writer writer → TurnsFrom carries t now (advanced writer)
  acks writer result t is turn w c first g =
      let k = ack_is_due now.talk.receiver new now.waiting count want (session_from first c) (gives c first g (ack_not want is)) is in
      turned_from g deed.Acked (advanced writer) (subst (λ (d : Due). IsDue d deed.Acked) (sym k.2) tt) g.done.carried refl
      (subst (λ (d : Due). now.talk.job ≡ (turned d deed.Acked (session_from first c)).job) (sym k.2) g.done.job) result t turn k.3 w

  -- a request was due
  pub asks : (talk : Talk) (spool : S) (writer : Side) (answer : Answer) (result : Result (Unit {0}) OctetFault) (t : Turn) → new.owed ≡ asked want
      → Answered carries want answer (here (advanced now.writer).talk now.spool) (here talk spool) → t ≡ turn_if_written result turn.On → Writing result (text_of answer) now.writer writer
      → TurnsFrom carries t now (moment talk (drop count now.waiting) spool writer)
  asks talk spool writer answer result t owed x turn w c first g =
      let s = session_from first c in
      let r = asked_request want x.asks in
      let k = ask_is_due now.talk.receiver new now.waiting count want s (gives c first g (request_not want x.asks)) r.0 r.1 in
      let leads : talk.receiver ≡ answered (kind_of r.0) (reply_of answer) new = x.leads ∙ ap (λ (o : Option Kind). answered_owed o (reply_of answer) new) (owed ∙ r.2) in
      let done = deed.Asked (request_kind r.0) answer in
      let one : CarriesDue carries first.talk.sender (due_in s) s.job answer now.spool spool =
      subst (λ (d : Due). CarriesDue carries first.talk.sender d s.job answer now.spool spool) (sym k.2)
      (subst (λ (n : ℕ). carries now.spool n s.job r.0 answer spool) g.done.sender (subst (λ (n : ℕ). carries now.spool now.talk.sender n r.0 answer spool) g.done.job (x.carried r.0 r.1))) in
      let job : talk.job ≡ (session_from first (Did done ∷ c)).job =
      subst (λ (d : Due). talk.job ≡ (turned d done s).job) (sym k.2) (x.job ∙ ap (λ (n : ℕ). job_after n answer) g.done.job) in
      turned_from g done (moment talk (drop count now.waiting) spool writer) (subst (λ (d : Due). IsDue d done) (sym k.2) refl) (now.spool, g.done.carried, one) x.sender job result t turn
      (subst (λ (q : Progress). Stands q (drop count now.waiting) (turns done s)) (sym leads) (k.3 answer)) w

  -- the session had done all
  pub finishes : want ≡ need.Ended → TurnsFrom carries (turn.Over ends.Finished) now (advanced now.writer)
  finishes is c first g =
      let s = session_from first c in
      let a = gives c first g (ended_not want is) in
      let k = end_is_due now.talk.receiver new now.waiting count want s a is in
      let rests : Rests (due_in (session_from first (Did deed.Ended ∷ c))) =
      subst (λ (d : Due). Rests (due (turned d deed.Ended s).progress (turned d deed.Ended s).unread)) (sym k) (subst Rests (sym k) tt) in
      let h = does g deed.Ended (advanced now.writer) (subst (λ (d : Due). IsDue d deed.Ended) (sym k) tt) g.done.carried refl
      (subst (λ (d : Due). now.talk.job ≡ (turned d deed.Ended s).job) (sym k) g.done.job) (written_none now.writer) in (
        Did deed.Ended ∷ c,
        turned_arrived (due_in s) deed.Ended s,
        (
          is_over ends.Finished h h.wrote (course_rests first.talk.sender (Did deed.Ended ∷ c) h.right rests) refl
              (subst (λ (d : Due). new.job ≡ (turned d deed.Ended s).progress.job) (sym k) (stood_job (followed c first g a Ends k).1)),
          λ arrived reads old new same. same,
        ),
      )

  module _ (n : Refusal) (is : want ≡ need.Fault n) (items : new.items ≡ Over ∷ []) (c : Course) (first : Moment S) (g : GoesOn carries c first now) where
    -- a session that did all this is over by a refusal, where this is due
    refused : (d : Due) → due_in (session_from first c) ≡ d → IsDue d (deed.Refused n) → (turned d (deed.Refused n) (session_from first c)).progress.items ≡ Over ∷ []
        → new.job ≡ (turned d (deed.Refused n) (session_from first c)).progress.job → IsRefused carries n c first (spent (advanced now.writer))
    refused d k i over in_hand =
        let s = session_from first c in
        record {
          done = record { right = g.done.right; wrote = g.done.wrote; carried = g.done.carried; sender = g.done.sender; job = g.done.job };
          due = subst (λ (x : Due). IsDue x (deed.Refused n)) (sym k) i;
          over = subst (λ (x : Due). (turned x (deed.Refused n) s).progress.items ≡ Over ∷ []) (sym k) over;
          in_hand = subst (λ (x : Due). new.job ≡ (turned x (deed.Refused n) s).progress.job) (sym k) in_hand;
        }

    -- a refusal was due
    refuses_due : Gives now.talk.receiver now.waiting count want new (due now.talk.receiver (now.talk.receiver.tail ++ now.waiting)) → IsRefused carries n c first (spent (advanced now.writer))
    refuses_due given =
        let s = session_from first c in
        let a : Advanced now.talk.receiver new now.waiting count want s = record { stood = g.stands; gives = given } in
        let k = refusal_is_due now.talk.receiver new now.waiting count want s a n is in
        let f : Stands new (drop count now.waiting) (goes_on k.0 k.1 s) = (followed c first g a (Writes (Fault n) k.0 k.1) k.2).1 in
        refused (Writes (Fault n) k.0 k.1) k.2 refl (sym (ap (λ (x : Progress). x.items) f.progress) ∙ items) (stood_job f)

    -- memory was refused to the receiver
    refuses_short : RunsOut now.talk.receiver now.waiting count want new (due now.talk.receiver (now.talk.receiver.tail ++ now.waiting)) → IsRefused carries n c first (spent (advanced now.writer))
    refuses_short r =
        let k = short_is_due now.talk.receiver new now.waiting count want (session_from first c) g.stands r in
        refused (Requests k.0 k.1 k.2) k.3 (fault_memory n (sym is ∙ r.memory), k.4) refl (ap (λ (x : Progress). x.job) r.over ∙ stood_job g.stands)

  -- it is over by a refusal
  pub refuses : (n : Refusal) → want ≡ need.Fault n → new.items ≡ Over ∷ [] → TurnsFrom carries (turn.Over (ends.Refused n)) now (advanced now.writer)
  refuses n is items c first g =
      (c, refl, (elim st [ inl k ↦ refuses_due n is items c first g k | inr r ↦ refuses_short n is items c first g r ], λ arrived reads old new same. same))

-- turns after which the session goes on, and one that ends it
pub ends_after : {S : Type 0} (carries : Carrying S) (first then_ last : Moment S) (t : Turn) (end : SessionEnd) → t ≡ turn.Over end → TurnsFrom carries turn.On first then_ → TurnsFrom carries t then_ last
    → TurnsFrom carries (turn.Over end) first (spent last)
ends_after carries first then_ last t end is before after c begin g =
    let b = before c begin g in
    let e = subst (λ (x : Turn). TurnsFrom carries x then_ last) is after b.0 begin b.2 in
    (e.0, e.1 ∙ b.1, e.2)
