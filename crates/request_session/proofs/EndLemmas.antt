-- The end of a session.
use Rattle.std.proofs.Common.{◌≡◌, inl, inr, ℕ, Bool, [], ◌∷◌, refl, sym, subst, ◌∙◌, arith}
use Rattle.lpd_values.specs.declared.refusal.Refusal.{Refusal}
use Rattle.lpd_values.specs.Refusals.{octet_of}
use Rattle.lpd_commands.specs.Ends.{Took}
use Rattle.lpd_commands.proofs.Writing.{Took-none, Writes-append, Writes-none}
use Rattle.receiver.specs.Reading.{Due, Requests, Waits, Writes}
use Rattle.receiver.specs.Reading as reads
use Rattle.spool_trace.specs.declared.reply.Deed.TheVariants as deed
use Rattle.spool_trace.specs.Sessions.{Session, due_in, turned}
use Rattle.spool_trace.proofs.Turned.{turned_arrived}
use Rattle.request_session.specs.declared.ending.SessionEnd.{SessionEnd}
use Rattle.request_session.specs.declared.ending.SessionEnd.TheVariants as ends
use Rattle.request_session.specs.Course.{Course, Did}
use Rattle.request_session.specs.Carried.{AtEnd, CarriesAll, Carrying, Ending}
use Rattle.request_session.specs.Served.{Around, Ends, FailsIn, HasRead, ServedBy, Side, Source, StopsAs, WritesAll, around}
use Rattle.request_session.specs.Turned.{IsEnding, IsOver, IsRefused, Moment, SaysLast, session_from}
use Rattle.request_session.proofs.CourseLemmas.{course_begun, course_rests, over_rests}

-- a refusal opens no job
refused_job : (d : Due) (n : Refusal) (s : Session) → (turned d (deed.Refused n) s).job ≡ s.job
refused_job reads.Ends n s = refl
refused_job Waits n s = refl
refused_job (Writes w items text) n s = refl
refused_job (Requests r items text) n s = refl

module _ {S : Type 0} (carries : Carrying S) (leaves : Ending S) (c : Course) (first now : Moment S) (reader reader' : Source) (writer : Side) (spool : S)
    (aborts : AtEnd leaves now.talk.receiver.job now.talk.job now.spool spool) where
  -- the session was served so
  abbrev Serves : SessionEnd → Type 0
  Serves end = ServedBy carries leaves end first.talk.sender (around reader first.writer first.spool) (around reader' writer spool)

  -- a course that ends it, once its job is aborted
  completes : (d : Course) (end : SessionEnd) → Ends end first.talk.sender d first.writer writer → HasRead end (session_from first d).arrived reader reader'
      → CarriesAll carries first.talk.sender d first.spool now.spool → now.talk.job ≡ (session_from first d).job → now.talk.receiver.job ≡ (session_from first d).progress.job → Serves end
  completes d end e read carried job in_hand =
      record {
        course = d;
        ends = e;
        read = read;
        asked = now.spool;
        carried = carried;
        aborts = subst (λ (h : Bool). AtEnd leaves h (session_from first d).job now.spool spool) in_hand (subst (λ (n : ℕ). AtEnd leaves now.talk.receiver.job n now.spool spool) job aborts);
      }

  -- an end that needs no word
  over_served : (end said : SessionEnd) → IsOver carries end c first now → HasRead end (session_from first c).arrived reader reader' → said ≡ end → writer ≡ now.writer → Serves said
  over_served end said x read is still =
      subst Serves (sym is) (completes c end (subst (λ (w : Side). Ends end first.talk.sender c first.writer w) (sym still) x.ends) read x.carried x.job x.in_hand)

  module _ (n : Refusal) (x : IsRefused carries n c first now) (read : HasRead (ends.Refused n) (session_from first c).arrived reader reader') where
    abbrev refused : Course
    refused = Did (deed.Refused n) ∷ c

    -- what was read, which its last word leaves as it is
    reading : (end : SessionEnd) → StopsAs end (session_from first (Did (deed.Refused n) ∷ c)).arrived read.reads reader reader'
        → HasRead end (session_from first (Did (deed.Refused n) ∷ c)).arrived reader reader'
    reading end stopped =
        record {
          took = subst (Took reader.octets reader'.octets) (sym (turned_arrived (due_in (session_from first c)) (deed.Refused n) (session_from first c))) read.took;
          reads = read.reads;
          made = read.made;
          most = read.most;
          stopped = stopped;
        }

    job : now.talk.job ≡ (session_from first (Did (deed.Refused n) ∷ c)).job
    job = x.done.job ∙ sym (refused_job (due_in (session_from first c)) n (session_from first c))

    -- a refusal whose octet was written
    refused_served : WritesAll (octet_of n ∷ []) now.writer writer → Serves (ends.Refused n)
    refused_served w =
        completes refused (ends.Refused n) (record {
          right = (x.due, x.done.right);
          did = course_rests first.talk.sender refused (x.due, x.done.right) (over_rests (session_from first refused) x.over);
          wrote = (Writes-append first.writer.octets now.writer.octets writer.octets (session_from first c).written (octet_of n ∷ []) x.done.wrote.0 w.0, w.1 ∙ x.done.wrote.1);
          ended = refl;
        }) (reading (ends.Refused n) read.stopped) x.done.carried job x.in_hand

    -- one at which the writer failed
    broken_served : FailsIn (octet_of n ∷ []) now.writer writer → Serves ends.WriteFault
    broken_served w =
        completes refused ends.WriteFault (record {
          right = (x.due, x.done.right);
          did = course_begun first.talk.sender refused (x.due, x.done.right);
          wrote = (now.writer, x.done.wrote, w);
          ended = tt;
        }) (reading ends.WriteFault read.stopped) x.done.carried job x.in_hand

  -- a session that is over was served, once its job is aborted and its last word is said
  pub served : (end said : SessionEnd) → IsEnding carries end c first now → HasRead end (session_from first c).arrived reader reader' → SaysLast end said now.writer writer → Serves said
  served (ends.Refused n) said x read says = elim says [
    | inl w ↦ subst Serves (sym w.0) (refused_served n x read w.1)
    | inr w ↦ subst Serves (sym w.0) (broken_served n x read w.1)
  ]
  served ends.Finished said x read says = over_served ends.Finished said x read says.0 says.1
  served ends.Closed said x read says = over_served ends.Closed said x read says.0 says.1
  served ends.Broken said x read says = over_served ends.Broken said x read says.0 says.1
  served ends.ReadFault said x read says = over_served ends.ReadFault said x read says.0 says.1
  served ends.WriteFault said x read says = over_served ends.WriteFault said x read says.0 says.1
  served ends.Memory said x read says = over_served ends.Memory said x read says.0 says.1

-- a session that wasn't begun, for want of memory
pub not_begun : {S : Type 0} (carries : Carrying S) (leaves : Ending S) (sender : ℕ) (before : Around S) → ServedBy carries leaves ends.Memory sender before before
not_begun carries leaves sender before =
    record {
      course = [];
      ends = record { right = tt; did = course_rests sender [] tt tt; wrote = (Writes-none before.writer.octets, refl); ended = refl };
      read = record { took = Took-none before.reader.octets; reads = 0; made = refl; most = omega arith; stopped = refl };
      asked = before.spool;
      carried = refl;
      aborts = refl;
    }
