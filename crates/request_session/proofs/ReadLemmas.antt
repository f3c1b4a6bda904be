-- One read of a session after another, and its end where it awaits more.
use Rattle.std.proofs.Common.{◌≡◌, ◌≤◌, ◌<◌, ◌+◌, ℕ, List, [], ◌∷◌, ◌++◌, Option, Some, None, length, drop, refl, sym, ap, subst, ◌∙◌, append-nil, arith, length-append}
use Rattle.lpd_commands.specs.Ends.{IsReadOut, Reads, Took, many_more, most_reads}
use Rattle.lpd_commands.proofs.Writing.{Took-append, Writes-none}
use Rattle.receiver.specs.Idle.{IsIdle}
use Rattle.receiver.specs.Reading.{Progress, start}
use Rattle.receiver.specs.Reads.{Rests}
use Rattle.spool_trace.specs.Sessions.{new_session}
use Rattle.spool_trace.specs.Reading.{Stands}
use Rattle.spool_trace.proofs.Reader.{arrives}
use Rattle.request_session.specs.declared.ending.SessionEnd.{SessionEnd}
use Rattle.request_session.specs.declared.ending.SessionEnd.TheVariants as ends
use Rattle.request_session.specs.declared.talk.Talk.{Talk}
use Rattle.request_session.specs.Carried.{Carrying}
use Rattle.request_session.specs.Course.{Course, Came}
use Rattle.request_session.specs.Served.{Awaits, DidAll, EndsAs, EndsIdle, HasRead, Side, Source, Wrote}
use Rattle.request_session.specs.Turned.{EndsThere, GoesOn, IsEnding, IsOver, Moment, moment, session_from, spent}
use Rattle.request_session.proofs.CourseLemmas.{course_rests}
use Rattle.request_session.proofs.Turning.{is_over}

-- at the beginning
pub begins : {S : Type 0} (carries : Carrying S) (talk : Talk) (spool : S) (writer : Side) → talk.job ≡ 0 → talk.receiver ≡ start
    → GoesOn carries [] (moment talk [] spool writer) (moment talk [] spool writer)
begins carries talk spool writer none e =
    record {
      done = record { right = tt; wrote = (Writes-none writer.octets, refl); carried = refl; sender = refl; job = none };
      stands = subst (λ (p : Progress). Stands p [] (new_session talk.sender)) (sym e) (record { owed = refl; progress = refl; unread = refl });
    }

-- what was read
Took-read : (old rest : Option (List ℕ)) (got : List ℕ) (room : ℕ) → Reads old rest got room → Took old rest got
Took-read None rest got room h = h
Took-read (Some old) rest got room h = (drop (length got) old, h.0, h.1)

-- one more read
pub Took-more : (left old rest : Option (List ℕ)) (before got : List ℕ) (room : ℕ) → Took left old before → Reads old rest got room → Took left rest (before ++ got)
Took-more left old rest before got room t h = Took-append left old rest before got t (Took-read old rest got room h)

-- a read that gave nothing
read_out : (old rest : Option (List ℕ)) (room : ℕ) → 0 < room → Reads old rest [] room → IsReadOut rest
read_out None rest room some h = rw h tt
read_out (Some old) rest room some h = rw h.1 (h.2 refl some)

pub reads_out : (reader reader' reader'' : Source) (arrived : List ℕ) (room reads : ℕ) → 0 < room → Took reader.octets reader'.octets arrived → Reads reader'.octets reader''.octets [] room → reader''.faults ≡ reader.faults
    → reader''.reads ≡ many_more reads reader.reads → reads ≤ most_reads → HasRead ends.Closed arrived reader reader''
reads_out reader reader' reader'' arrived room reads some t h same made most =
    record {
      reads = reads;
      made = made;
      most = most;
      took = subst (Took reader.octets reader''.octets) (append-nil arrived) (Took-more reader.octets reader'.octets reader''.octets arrived [] room t h);
      stopped = (read_out reader'.octets reader''.octets room some h, same);
    }

-- a read that gave octets makes what was read longer
pub longer : (i : ℕ) (all before got : List ℕ) → all ≡ before ++ got → i ≤ length before → 0 < length got → i + 1 ≤ length all
longer i all before got e h some = omega (arith, ap length e, length-append before got)

module _ {S : Type 0} {carries : Carrying S} {c : Course} {first now : Moment S} (g : GoesOn carries c first now) where
  -- octets were read
  pub comes : (got : List ℕ) → GoesOn carries (Came got ∷ c) first (record now { waiting = now.waiting ++ got })
  comes got =
      record {
        done = record { right = g.done.right; wrote = g.done.wrote; carried = g.done.carried; sender = g.done.sender; job = g.done.job };
        stands = arrives now.talk.receiver now.waiting got (session_from first c) g.stands;
      }

  module _ (awaits : Awaits (session_from first c)) where
    -- it is over where it awaits more
    over_waiting : (end : SessionEnd) → Wrote end first.talk.sender c first.writer now.writer → DidAll end (session_from first c) → EndsAs end first.talk.sender c
        → IsOver carries end c first (spent now)
    over_waiting end w did ended = is_over end g.done w did ended (ap (λ (x : Progress). x.job) g.stands.progress)

    did : DidAll ends.ReadFault (session_from first c)
    did = course_rests first.talk.sender c g.done.right (subst Rests (sym awaits) tt)

    -- reading stopped
    pub stops : IsEnding carries ends.ReadFault c first (spent now)
    stops = over_waiting ends.ReadFault g.done.wrote did awaits

    module _ (none : now.waiting ≡ []) where
      -- its receiver is idle where it is
      same : (now.talk.receiver.job ≡ (session_from first c).progress.job) × (now.talk.receiver.items ≡ (session_from first c).progress.items) × (now.talk.receiver.tail ≡ (session_from first c).unread)
      same = (ap (λ (x : Progress). x.job) g.stands.progress, ap (λ (x : Progress). x.items) g.stands.progress, sym (append-nil now.talk.receiver.tail) ∙ (ap (λ (x : List ℕ). now.talk.receiver.tail ++ x) (sym none) ∙ g.stands.unread))

      idle_in : IsIdle now.talk.receiver → EndsIdle (session_from first c)
      idle_in i = (sym same.0 ∙ i.0, sym same.1 ∙ i.1, sym same.2 ∙ i.2)

      idle_out : EndsIdle (session_from first c) → IsIdle now.talk.receiver
      idle_out i = (same.0 ∙ i.0, same.1 ∙ i.1, same.2 ∙ i.2)

      -- the peer ended the connection
      pub ends_there : {arrived : List ℕ} {reader reader' : Source} (end : SessionEnd) → EndsThere end now.talk.receiver → HasRead ends.Closed arrived reader reader'
          → IsEnding carries end c first (spent now) × HasRead end arrived reader reader'
      ends_there ends.Closed e h = (over_waiting ends.Closed g.done.wrote did (awaits, idle_in e), h)
      ends_there ends.Broken e h = (over_waiting ends.Broken g.done.wrote did (awaits, λ i. e (idle_out i)), record { took = h.took; reads = h.reads; made = h.made; most = h.most; stopped = h.stopped })
      ends_there ends.Finished e h = absurd e
      ends_there (ends.Refused n) e h = absurd e
      ends_there ends.ReadFault e h = absurd e
      ends_there ends.WriteFault e h = absurd e
      ends_there ends.Memory e h = absurd e
