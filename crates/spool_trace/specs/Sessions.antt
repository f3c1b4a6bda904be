-- What a trace says of each session: what arrived, how far it is read, what the session did, and whether it is over.
use Rattle.std.specs.Prelude.{ℕ, ◌-◌, Bool, true, false, List, [], ◌∷◌, ◌++◌, slice_index_or, slice_set}
use Rattle.lpd_values.specs.declared.refusal.Refusal.{Refusal}
use Rattle.receiver.specs.Script as script
use Rattle.receiver.specs.Script.{Request, Item, Output, Asked, Wrote, Ack, Fault, Over}
use Rattle.receiver.specs.Reading.{Progress, Due, Writes, Requests, due, start, kind_of, answered}
use Rattle.spool_requests.specs.declared.answer.Answer.{Answer}
use Rattle.spool_requests.specs.declared.answer.Answer.TheVariants.{Yes, Accepted, Lent, Later, Stored, Received, Told, Refused}
use Rattle.spool_trace.specs.declared.step.Step.{Step}
use Rattle.spool_trace.specs.declared.step.Step.TheVariants as step
use Rattle.spool_trace.specs.declared.reply.Deed.{Deed}
use Rattle.spool_trace.specs.declared.reply.Deed.TheVariants as deed
use Rattle.spool_trace.specs.declared.reply.Reply.{Reply}
use Rattle.spool_trace.specs.declared.reply.Reply.TheVariants as reply
use Rattle.spool_trace.specs.Trace.{Trace, written_by}

pub record Session : Type 0 where
  pub sender : ℕ
  -- how far it is read, and the octets that are not read yet
  pub progress : Progress
  pub unread : List ℕ
  -- the number of the job that it opened last
  pub job : ℕ
  pub over : Bool
  -- all octets that arrived, all answers, all that it did, and all octets that it wrote
  pub arrived : List ℕ
  pub answers : List script.Reply
  pub outputs : List Output
  pub written : List ℕ

abbrev pub new_session : ℕ → Session
new_session sender =
    record { sender = sender; progress = start; unread = []; job = 0; over = false; arrived = []; answers = []; outputs = []; written = [] }

abbrev pub session_at : List Session → ℕ → Session
session_at ss n = slice_index_or ss (n - 1) (new_session 0)

-- what is due: it is read from all that arrived and was not read yet
abbrev pub due_in : Session → Due
due_in s = due s.progress s.unread

-- octets arrive
abbrev pub takes : List ℕ → Session → Session
takes octets s = record s { unread = s.unread ++ octets; arrived = s.arrived ++ octets }

-- an answer, as the reading of a session knows it
abbrev pub reply_of : Answer → script.Reply
reply_of Yes = script.Yes
reply_of (Accepted job) = script.Yes
reply_of (Lent page_size) = script.Ticket page_size
reply_of Later = script.Later
reply_of Stored = script.Stored
reply_of Received = script.Received
reply_of (Told text) = script.Yes
reply_of (Refused n) = script.Refused n

abbrev pub job_after : ℕ → Answer → ℕ
job_after old (Accepted job) = job
job_after old _ = old

-- where this was due, it did this; these items and this text are left
abbrev pub goes_on : List Item → List ℕ → Session → Session
goes_on items text s = record s { progress = record s.progress { items = items; tail = [] }; unread = text }

-- it requested this and was answered so
abbrev pub asks : Request → Answer → Session → Session
asks r answer s =
    record s {
      progress = answered (kind_of r) (reply_of answer) s.progress;
      job = job_after s.job answer;
      answers = s.answers ++ reply_of answer ∷ [];
      outputs = s.outputs ++ Asked r ∷ [];
    }

-- it wrote the octet 00
abbrev pub acks : Session → Session
acks s = record s { outputs = s.outputs ++ Wrote Ack ∷ [] }

-- it wrote the octet of a refusal, and is over
abbrev pub refuses : Refusal → Session → Session
refuses n s = record s { over = true; outputs = s.outputs ++ Wrote (Fault n) ∷ [] }

abbrev pub ends : Session → Session
ends s = record s { over = true }

-- what a turn makes of a session, by what was due; where a request was due memory may be refused instead
abbrev pub turned : Due → Deed → Session → Session
turned (Requests r items text) (deed.Asked kind answer) s = asks r answer (goes_on items text s)
turned (Requests r items text) (deed.Refused n) s = refuses n (goes_on (Over ∷ []) text s)
turned (Writes w items text) deed.Acked s = acks (goes_on items text s)
turned (Writes w items text) (deed.Refused n) s = refuses n (goes_on items text s)
turned _ deed.Ended s = ends s
turned _ _ s = s

-- and it wrote these octets
abbrev pub turns : Deed → Session → Session
turns done s = record (turned (due_in s) done s) { written = s.written ++ written_by done }

abbrev pub change_at : ℕ → (Session → Session) → List Session → List Session
change_at n f ss = slice_set ss (n - 1) (f (session_at ss n))

-- what a step and its reply make of the sessions
abbrev pub moved : Step → Reply → List Session → List Session
moved (step.Connect sender) (reply.Connected n) ss = ss ++ new_session sender ∷ []
moved (step.Arrive n octets) reply.Taken ss = change_at n (takes octets) ss
moved (step.Turn n) (reply.Turned done) ss = change_at n (turns done) ss
moved (step.Break n) reply.Broken ss = change_at n ends ss
moved _ _ ss = ss

-- the sessions that a trace leaves, in order of connection
abbrev pub sessions : Trace → List Session
sessions [] = []
sessions (e ∷ t) = moved e.step e.reply (sessions t)
