-- A job that comes alone.
use Rattle.std.proofs.Common.{◌≡◌, ◌+◌, ◌-◌, ℕ, true, false, List, [], ◌∷◌, ◌++◌, length, refl, sym, ap, subst, ◌∙◌, inl, inr, arith, append_assoc, append-nil, slice_index_or}
use Rattle.std.specs.Prelude.{All, replicate}
use Rattle.std.specs.List.{concat}
use Rattle.std.proofs.lemmas.List.{length-append, get_or-append-add}
use Rattle.std.proofs.lemmas.List.Elements.{All-nil, All-cons, All-replicate, All-same}
use Rattle.lpd_commands.specs.Written.{command_line}
use Rattle.lpd_commands.specs.declared.command.Command.TheVariants.{Receive}
use Rattle.config_values.specs.Config.{Config}
use Rattle.lpr_client.specs.Parts.{data_parts, control_parts}
use Rattle.receiver.specs.Reading.{Progress, Waits, due}
use Rattle.spool_trace.specs.Trace.{Entry, Trace}
use Rattle.spool_trace.specs.Sessions.{Session, session_at, sessions, new_session, due_in}
use Rattle.spool_trace.specs.Shown.{events}
use Rattle.spool_trace.specs.Replies.{IsTrace}
use Rattle.spool_trace.proofs.Legal.{legal}
use Rattle.spool_laws.proofs.Joined.{contained}
use Rattle.spool_trace.proofs.Whole.{holds}
use Rattle.control_file.specs.View.{contents}
use Rattle.spool_history.specs.Events.Act.{Controlled}
use Rattle.spool_history.specs.Events.Event.{OfJob}
use Rattle.lone_jobs.specs.Lone.{Sent, AreGranted, HasRoomFor, IsAlone, IsGranted, IsOf, IsTaken, LoneJobsAreServed, LoneJobsAreTaken, connected, octets_of}
use Rattle.lone_jobs.proofs.Owned.{others_apart}
use Rattle.lone_jobs.proofs.Places.{Place, First, Last, IsKnown, Here, Facts, progress_at, text_at, count_at, text}
use Rattle.lone_jobs.proofs.OneTurn.{ends_last}
use Rattle.lone_jobs.proofs.Room.{known}
use Rattle.lone_jobs.proofs.Steps.{IsAtPlace, Stands, own_step, other_step, never_both}

-- the octets of a job are its first line and the rest
octets_are : (line : List ℕ) (parts : List (List ℕ)) → concat ((line ++ 10 ∷ []) ∷ parts) ≡ line ++ 10 ∷ concat parts
octets_are line parts = simp append_assoc

-- the session that is new
new_at : (ss : List Session) (n sender : ℕ) → n ≡ length ss + 1 → session_at (ss ++ new_session sender ∷ []) n ≡ new_session sender
new_at ss n sender e =
    let place : n - 1 ≡ length ss + 0 = omega (arith, e) in
    ap (λ (i : ℕ). slice_index_or (ss ++ new_session sender ∷ []) i (new_session 0)) place ∙ get_or-append-add ss (new_session sender ∷ []) 0 (new_session 0)

module _ (c : Config) (t : Trace) (job : Sent) (sender n : ℕ) (room : HasRoomFor c t job) where
  abbrev k : IsKnown c job
  k = known c t job room

  abbrev begun : Trace
  begun = connected sender n ∷ t

  at_first : IsAtPlace c job k n (new_session sender) (events c t)
  at_first coming e = (
    First,
    record {
      progress = refl;
      unread = e ∙ octets_are (command_line (Receive job.queue)) (data_parts job.files ++ control_parts job.name (text c job));
      going = refl;
      opened = room.going;
      facts = (room.no_job, room.entries);
      written = refl;
    },
  )

  begins : IsTrace c begun → Stands c job k n (sessions begun) (events c begun)
  begins r =
      let place : n ≡ length (sessions t) + 1 = r.0.due in
      let l = length-append (sessions t) (new_session sender ∷ []) in (
        (omega (arith, place), omega (arith, place, l)),
        subst (λ (x : Session). IsAtPlace c job k n x (events c t)) (sym (new_at (sessions t) n sender place)) at_first,
      )

  -- what holds after each step
  pub record Holds (more : Trace) : Type 0 where
    pub stands : Stands c job k n (sessions (more ++ begun)) (events c (more ++ begun))
    pub granted : (coming : List ℕ) → (session_at (sessions (more ++ begun)) n).arrived ++ coming ≡ octets_of job → AreGranted n more

  pub all_hold : (more : Trace) → IsTrace c (more ++ begun) → IsAlone c n begun more → Holds more
  all_hold [] r a = record { stands = begins r; granted = λ coming e. All-nil (λ (e : Entry). IsOf n e.step → IsGranted e.reply) }
  all_hold (e ∷ more) r a =
      let u : Trace = more ++ begun in
      let before = all_hold more r.1 a.1 in
      let h = events c u in
      let l = legal c u r.1 in
      let safe = (holds c u room.config r.1).finishing_order in
      elim a.0 [
        | inl own ↦
            let led = own_step c job k n (sessions u) h l safe before.stands e.step e.reply r.0 own.0 own.1 in
            record {
              stands = led.stands;
              granted = λ coming is.
                  All-cons (λ (x : Entry). IsOf n x.step → IsGranted x.reply) e more (λ mine. led.granted coming is)
                  (before.granted (led.more ++ coming) (sym (append_assoc (session_at (sessions u) n).arrived led.more coming) ∙ (ap (λ (x : List ℕ). x ++ coming) (sym led.arrived) ∙ is)));
            }
        | inr other ↦
            let led = other_step c job k n (sessions u) h l safe before.stands e.step e.reply r.0 other.0 other.1 (λ hand. others_apart c u r.1 n before.stands.0 hand e.step e.reply r.0 other.0) in
            record {
              stands = led.0;
              granted = λ coming is.
                  All-cons (λ (x : Entry). IsOf n x.step → IsGranted x.reply) e more (λ mine. absurd (never_both n e.step mine other.0))
                  (before.granted coming (ap (λ (x : Session). x.arrived ++ coming) (sym led.1) ∙ is));
            }
      ]

-- each octet of these is 00
all_zero : (written : List ℕ) (count : ℕ) → written ≡ replicate count 0 → All (λ octet. octet ≡ 0) written
all_zero written count e = All-same (λ octet. octet ≡ 0) written (replicate count 0) e (All-replicate (λ octet. octet ≡ 0) count 0 refl)

pub served : LoneJobsAreServed
served c t job sender n more a =
    let all = all_hold c t job sender n a.room more a.right a.alone in
    let here = (all.stands.1 a.coming a.beginning).1 in
    let place = (all.stands.1 a.coming a.beginning).0 in
    record {
      granted = all.granted a.coming a.beginning;
      going = here.going;
      acknowledged = all_zero (session_at (sessions (more ++ connected sender n ∷ t)) n).written (count_at c job place) here.written;
    }

-- at the end of its octets a session that waits has all of the job
module _ (c : Config) (t : Trace) (job : Sent) (sender n : ℕ) (more : Trace) (room : HasRoomFor c t job) where
  abbrev after_all : Trace
  after_all = more ++ connected sender n ∷ t

  abbrev s : Session
  s = session_at (sessions after_all) n

  at_end : (p : Place) → p ≡ Last false → Here c job [] s (events c after_all) p → IsTaken c job n after_all
  at_end p is here = record {
    whole = contained (OfJob s.job (Controlled (contents job.control) true)) (events c after_all) (subst (λ (x : Place). Facts c job x (events c after_all) s.job) is here.facts);
    released = here.progress ∙ ap (progress_at c job) is;
    acknowledged = here.written ∙ ap (λ (x : Place). replicate (count_at c job x) 0) is;
  }

  pub taken_whole : (p : Place) → Here c job [] s (events c after_all) p → due_in s ≡ Waits → IsTaken c job n after_all
  taken_whole p here waits =
      let all : s.unread ≡ text_at c job p = sym (append-nil s.unread) ∙ here.unread in
      let is_due : due (progress_at c job p) (text_at c job p) ≡ Waits =
      ap (due (progress_at c job p)) (sym all) ∙ (ap (λ (x : Progress). due x s.unread) (sym here.progress) ∙ waits) in
      at_end p (ends_last c job (known c t job room) p (events c after_all) s.job here.facts is_due) here

pub taken : LoneJobsAreTaken
taken c t job sender n more a none waits =
    let all = all_hold c t job sender n a.room more a.right a.alone in
    let at = all.stands.1 [] (ap (λ (x : List ℕ). (session_at (sessions (more ++ connected sender n ∷ t)) n).arrived ++ x) (sym none) ∙ a.beginning) in
    taken_whole c t job sender n more a.room at.0 at.1 waits
