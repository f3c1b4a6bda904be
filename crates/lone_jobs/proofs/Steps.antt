-- Each step leaves the session at a place of its job.
use Rattle.std.proofs.Common.{◌≡◌, ◌≢◌, ◌-◌, ℕ, true, List, [], ◌∷◌, ◌++◌, length, refl, sym, ap, subst, ◌∙◌, arith, append_assoc, append-nil}
use Rattle.std.proofs.lemmas.List.{length-append, length-set, get_or_append_left}
use Rattle.config_values.specs.Config.{Config}
use Rattle.spool_history.specs.Base.{first_base}
use Rattle.spool_history.specs.Now.{State, now, IsSafeNow}
use Rattle.spool_history.specs.Legal.{IsLegal}
use Rattle.spool_requests.specs.Shows.{with_event}
use Rattle.spool_trace.specs.declared.step.Step.{Step}
use Rattle.spool_trace.specs.declared.step.Step.TheVariants as step
use Rattle.spool_trace.specs.declared.reply.Deed.{Deed}
use Rattle.spool_trace.specs.declared.reply.Reply.{Reply}
use Rattle.spool_trace.specs.declared.reply.Reply.TheVariants as reply
use Rattle.spool_trace.specs.Sessions.{Session, session_at, new_session, due_in, takes, turns, ends, change_at, moved}
use Rattle.spool_trace.specs.Shown.{shown}
use Rattle.spool_trace.specs.Replies.{IsReplyIn, IsDueReply, IsSession}
use Rattle.spool_trace.proofs.Standing.{same_at, other_at}
use Rattle.spool_trace.proofs.Turned.{turned_arrived}
use Rattle.lone_jobs.specs.Lone.{Sent, IsAmple, LeavesAlone, IsGranted, IsOf, IsOfOthers, octets_of}
use Rattle.lone_jobs.proofs.Calm.{calm}
use Rattle.receiver.specs.Reading.{Progress}
use Rattle.lone_jobs.proofs.Owned.{IsNotOf}
use Rattle.lone_jobs.proofs.Held.{History}
use Rattle.lone_jobs.proofs.Places.{Place, IsKnown, Here}
use Rattle.lone_jobs.proofs.Turning.{Leads}
use Rattle.lone_jobs.proofs.OneTurn.{turn}

still_session : (ss : List Session) (n m : ℕ) (f : Session → Session) → IsSession ss m → IsSession (change_at n f ss) m
still_session ss n m f is = (is.0, (let le = is.1 in let l = length-set ss (n - 1) (f (session_at ss n)) in omega (arith, le, l)))

-- a step of others leaves the session as it was
abbrev Stays : List Session → List Session → ℕ → Type 0
Stays ss rs n = IsSession rs n × (session_at rs n ≡ session_at ss n)

changed_other : (ss : List Session) (m n : ℕ) (f : Session → Session) → IsSession ss m → IsSession ss n → m ≢ n → Stays ss (change_at m f ss) n
changed_other ss m n f there is ne = (still_session ss m n f is, other_at ss m n f there.0 is.0 (λ e. ne (sym e)))

one_more : (ss : List Session) (x : Session) (n : ℕ) → IsSession ss n → Stays ss (ss ++ x ∷ []) n
one_more ss x n is =
    let low = is.0 in
    let high = is.1 in
    let l = length-append ss (x ∷ []) in (
      (low, omega (arith, high, l)),
      get_or_append_left ss (x ∷ []) (new_session 0) (n - 1) (omega (arith, low, high)),
    )

pub others_stay : (v : State (List ℕ)) (ss : List Session) (n : ℕ) (st : Step) (re : Reply) → IsDueReply v ss st re → IsSession ss n → IsOfOthers n st → Stays ss (moved st re ss) n
others_stay v ss n (step.Connect sender) (reply.Connected m) d is o = one_more ss (new_session sender) n is
others_stay v ss n (step.Arrive m octets) reply.Taken d is o = changed_other ss m n (takes octets) d.0 is o
others_stay v ss n (step.Turn m) (reply.Turned done) d is o = changed_other ss m n (turns done) d.0 is o
others_stay v ss n (step.Break m) reply.Broken d is o = changed_other ss m n ends d.0 is o
others_stay v ss n st re d is o = (is, refl)

module _ (c : Config) (job : Sent) (k : IsKnown c job) (n : ℕ) where
  -- whatever is still to come of the job's octets, the session is at a place of it
  abbrev pub IsAtPlace : Session → History → Type 0
  IsAtPlace s h = (coming : List ℕ) → s.arrived ++ coming ≡ octets_of job → (p : Place) × Here c job coming s h p

  abbrev pub Stands : List Session → History → Type 0
  Stands ss h = IsSession ss n × IsAtPlace (session_at ss n) h

  module _ (ss : List Session) (h : History) (l : IsLegal length c first_base h) (safe : IsSafeNow (now c first_base h)) (stood : Stands ss h) where
    abbrev v : State (List ℕ)
    v = now c first_base h

    abbrev s : Session
    s = session_at ss n

    -- what a step leaves, and more of what arrived
    pub record Leaves (st : Step) (re : Reply) : Type 0 where
      pub stands : Stands (moved st re ss) (with_event (shown v ss st re) h)
      pub more : List ℕ
      pub arrived : (session_at (moved st re ss) n).arrived ≡ s.arrived ++ more
      pub granted : (coming : List ℕ) → (session_at (moved st re ss) n).arrived ++ coming ≡ octets_of job → IsGranted re

    came : (octets coming : List ℕ) → (s.arrived ++ octets) ++ coming ≡ octets_of job → s.arrived ++ (octets ++ coming) ≡ octets_of job
    came octets coming e = sym (append_assoc s.arrived octets coming) ∙ e

    takes_more : (octets : List ℕ) → IsAtPlace (takes octets s) h
    takes_more octets coming e =
        let at = stood.1 (octets ++ coming) (came octets coming e) in
        let here = at.1 in (
          at.0,
          record {
            progress = here.progress;
            unread = append_assoc s.unread octets coming ∙ here.unread;
            going = here.going;
            opened = here.opened;
            facts = here.facts;
            written = here.written;
          },
        )

    unmoved : s.arrived ≡ s.arrived ++ []
    unmoved = sym (append-nil s.arrived)

    arrive : (octets : List ℕ) (re : Reply) → IsReplyIn v ss (step.Arrive n octets) re → Leaves (step.Arrive n octets) re
    arrive octets reply.Taken r =
        let now' : session_at (change_at n (takes octets) ss) n ≡ takes octets s = same_at ss n (takes octets) stood.0 in
        record {
          stands = (still_session ss n n (takes octets) stood.0, subst (λ (x : Session). IsAtPlace x h) (sym now') (takes_more octets));
          more = octets;
          arrived = ap (λ (x : Session). x.arrived) now';
          granted = λ coming e. tt;
        }
    arrive octets reply.Memory r = record { stands = stood; more = []; arrived = unmoved; granted = λ coming e. tt }
    arrive octets reply.NoSuch r = record { stands = stood; more = []; arrived = unmoved; granted = λ coming e. tt }
    arrive octets reply.Gone r = record { stands = stood; more = []; arrived = unmoved; granted = λ coming e. tt }
    arrive octets re r = absurd r.due.2

    turned_so : (done : Deed) → IsAmple (reply.Turned done) → IsReplyIn v ss (step.Turn n) (reply.Turned done) → (coming : List ℕ) → (turns done s).arrived ++ coming ≡ octets_of job
        → Leads c job h coming s (due_in s) done
    turned_so done ample r coming e =
        let same : s.arrived ≡ (turns done s).arrived = sym (turned_arrived (due_in s) done s) in
        let at = stood.1 coming (ap (λ (t : List ℕ). t ++ coming) same ∙ e) in
        turn c job k h l safe coming s at.0 at.1 done r.due.2 r.may ample

    turns_on : (re : Reply) → IsAmple re → IsReplyIn v ss (step.Turn n) re → Leaves (step.Turn n) re
    turns_on (reply.Turned done) ample r =
        let now' : session_at (change_at n (turns done) ss) n ≡ turns done s = same_at ss n (turns done) stood.0 in
        let h' : History = with_event (shown v ss (step.Turn n) (reply.Turned done)) h in
        record {
          stands = (
            still_session ss n n (turns done) stood.0,
            subst (λ (x : Session). IsAtPlace x h') (sym now') (λ coming e. (let to = turned_so done ample r coming e in (to.0, to.1))),
          );
          more = [];
          arrived = ap (λ (x : Session). x.arrived) now' ∙ (turned_arrived (due_in s) done s ∙ unmoved);
          granted = λ coming e. (turned_so done ample r coming (ap (λ (x : Session). x.arrived ++ coming) (sym now') ∙ e)).2;
        }
    turns_on reply.NoSuch ample r = record { stands = stood; more = []; arrived = unmoved; granted = λ coming e. tt }
    turns_on reply.Gone ample r = record { stands = stood; more = []; arrived = unmoved; granted = λ coming e. tt }
    turns_on re ample r = absurd r.due.2

    -- a step of the session
    pub own_step : (st : Step) (re : Reply) → IsReplyIn v ss st re → IsOf n st → IsAmple re → Leaves st re
    own_step (step.Arrive m octets) re r is ample = subst (λ (i : ℕ). IsReplyIn v ss (step.Arrive i octets) re → Leaves (step.Arrive i octets) re) (sym is) (arrive octets re) r
    own_step (step.Turn m) re r is ample = subst (λ (i : ℕ). IsReplyIn v ss (step.Turn i) re → Leaves (step.Turn i) re) (sym is) (turns_on re ample) r
    own_step st re r is ample = absurd is

    -- and one of others
    calmly : (st : Step) (re : Reply) → IsReplyIn v ss st re → LeavesAlone (shown v ss st re) → (s.progress.job ≡ true → IsNotOf s.job (shown v ss st re)) → IsAtPlace s (with_event (shown v ss st re) h)
    calmly st re r other apart coming e =
        let at = stood.1 coming e in
        let here = at.1 in
        let still = calm c job h l (shown v ss st re) r.may other at.0 s.job here.opened (λ hand. apart (ap (λ (g : Progress). g.job) here.progress ∙ hand)) here.facts in (
          at.0,
          record {
            progress = here.progress;
            unread = here.unread;
            going = here.going;
            opened = still.0;
            facts = still.1;
            written = here.written;
          },
        )

    pub other_step : (st : Step) (re : Reply) → IsReplyIn v ss st re → IsOfOthers n st → LeavesAlone (shown v ss st re)
        → (s.progress.job ≡ true → IsNotOf s.job (shown v ss st re)) → Stands (moved st re ss) (with_event (shown v ss st re) h) × (session_at (moved st re ss) n ≡ s)
    other_step st re r others other apart =
        let stay = others_stay v ss n st re r.due stood.0 others in
        let h' : History = with_event (shown v ss st re) h in (
          (stay.0, subst (λ (x : Session). IsAtPlace x h') (sym stay.1) (calmly st re r other apart)),
          stay.1,
        )

pub never_both : (n : ℕ) (st : Step) → IsOf n st → IsOfOthers n st → ⊥
never_both n (step.Arrive m octets) is other = other is
never_both n (step.Turn m) is other = other is
never_both n st is other = is
