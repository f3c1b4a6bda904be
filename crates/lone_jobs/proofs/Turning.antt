-- What a turn makes of a session at a place.
use Rattle.std.proofs.Common.{◌≡◌, ◌+◌, ℕ, true, false, List, [], ◌∷◌, ◌++◌, refl, sym, ap, subst, ◌∙◌, inl, inr}
use Rattle.std.specs.Prelude.{replicate}
use Rattle.std.proofs.lemmas.List.{append-nil, replicate_more}
use Rattle.lpd_values.specs.declared.refusal.Refusal.{Refusal}
use Rattle.lpd_values.specs.declared.refusal.Refusal.TheVariants.{Memory}
use Rattle.config_values.specs.Config.{Config}
use Rattle.receiver.specs.Script.{Request, Item, Ack}
use Rattle.receiver.specs.Reading.{Progress, Due, Waits, Writes, Requests, due, answered, kind_of}
use Rattle.spool_history.specs.Base.{first_base}
use Rattle.spool_history.specs.Now.{State, now}
use Rattle.spool_laws.proofs.Known.{clash}
use Rattle.spool_calls.specs.Looks.Detail.{Octets}
use Rattle.spool_requests.specs.declared.answer.Answer.{Answer}
use Rattle.spool_requests.specs.Agree.{is_short}
use Rattle.spool_requests.specs.Kinds.{request_kind}
use Rattle.spool_requests.specs.Shows.{event_of, with_event}
use Rattle.spool_requests.specs.Due.{IsDueAnswer, MayCome}
use Rattle.spool_trace.specs.Agree.{is_short_deed}
use Rattle.spool_trace.specs.declared.reply.Deed.{Deed}
use Rattle.spool_trace.specs.declared.reply.Deed.TheVariants as deed
use Rattle.spool_trace.specs.declared.reply.Reply.TheVariants as reply
use Rattle.spool_trace.specs.Trace.{written_by, text_of}
use Rattle.spool_trace.specs.Sessions.{Session, asks, due_in, goes_on, job_after, reply_of, turned}
use Rattle.spool_trace.specs.Shown.{of_turn}
use Rattle.spool_trace.specs.Replies.{IsDueTurn}
use Rattle.lone_jobs.specs.Lone.{Sent, IsGranted}
use Rattle.lone_jobs.proofs.Seen.{HasNoEnd, request_seen, write_seen, wait_seen}
use Rattle.lone_jobs.proofs.Held.{History}
use Rattle.lone_jobs.proofs.Places.{Place, progress_at, text_at, count_at, Facts, Here}
use Rattle.spool_trace.proofs.OneReply.{short_memory}

module _ (c : Config) (job : Sent) (h : History) (coming : List ℕ) (s : Session) where
  abbrev pub v : State (List ℕ)
  v = now c first_base h

  -- what a turn leads to where this was due and this was done
  abbrev pub Leads : Due → Deed → Type 0
  Leads d done =
      (p : Place) × Here c job coming (record (turned d done s) { written = s.written ++ written_by done }) (with_event (of_turn v s d done) h) p
      × IsGranted (reply.Turned done)

  abbrev pub Goal : Due → Type 0
  Goal d = (done : Deed) → IsDueTurn v s.job d done → MayCome Octets v (of_turn v s d done) → is_short_deed done ≡ false → Leads d done

  -- what an answer leads to
  abbrev pub Answered : Request → List Item → List ℕ → Type 0
  Answered r items text =
      (x : List ℕ) → x ++ coming ≡ text → (answer : Answer) → IsDueAnswer Octets v s.job r answer → MayCome Octets v (event_of Octets v s.sender s.job r answer)
      → is_short answer ≡ false → Leads (Requests r items x) (deed.Asked (request_kind r) answer)

  waits : (p : Place) → Here c job coming s h p → Goal Waits
  waits p here deed.Waited a m ample =
      (p, record { progress = here.progress; unread = here.unread; going = here.going; opened = here.opened; facts = here.facts; written = append-nil s.written ∙ here.written }, tt)
  waits p here done a m ample = absurd a

  asked : (r : Request) (items : List Item) (text x : List ℕ) → x ++ coming ≡ text → Answered r items text → Goal (Requests r items x)
  asked r items text x e f (deed.Asked kind answer) a m ample =
      subst (λ k. Leads (Requests r items x) (deed.Asked k answer)) (sym a.0) (f x e answer a.1 m ample)
  asked r items text x e f (deed.Refused n) a m ample = absurd (short_memory n a.0 ample)
  asked r items text x e f done a m ample = absurd a

  due_here : (p : Place) → Here c job coming s h p → due_in s ≡ due (progress_at c job p) s.unread
  due_here p here = ap (λ (g : Progress). due g s.unread) here.progress

  -- where a request is due
  pub on_request : (p : Place) → Here c job coming s h p → (r : Request) (items : List Item) (text : List ℕ) → HasNoEnd (progress_at c job p).items
      → due (progress_at c job p) (text_at c job p) ≡ Requests r items text → Answered r items text → Goal (due_in s)
  on_request p here r items text n e f =
      elim (request_seen (progress_at c job p) s.unread coming r items text n (ap (due (progress_at c job p)) here.unread ∙ e)) [
        | inl w ↦ subst Goal (sym (due_here p here ∙ w)) (waits p here)
        | inr x ↦ subst Goal (sym (due_here p here ∙ x.1)) (asked r items text x.0 x.2 f)
      ]

  -- an answer that leads to a place
  pub answered_here : (p p' : Place) → Here c job coming s h p → (r : Request) (items : List Item) (x : List ℕ) (answer : Answer)
      → answered (kind_of r) (reply_of answer) (record (progress_at c job p) { items = items; tail = [] }) ≡ progress_at c job p'
      → x ++ coming ≡ text_at c job p' → count_at c job p ≡ count_at c job p' → text_of answer ≡ []
      → (now c first_base (with_event (event_of Octets v s.sender s.job r answer) h)).closed ≡ false
      → Facts c job p' (with_event (event_of Octets v s.sender s.job r answer) h) (job_after s.job answer)
      → Here c job coming (record (asks r answer (goes_on items x s)) { written = s.written ++ text_of answer }) (with_event (event_of Octets v s.sender s.job r answer) h) p'
  answered_here p p' here r items x answer led left same silent closed facts = record {
    progress = ap (λ (g : Progress). answered (kind_of r) (reply_of answer) (record g { items = items; tail = [] })) here.progress ∙ led;
    unread = left;
    going = here.going;
    opened = closed;
    facts = facts;
    written = ap (λ (t : List ℕ). s.written ++ t) silent ∙ (append-nil s.written ∙ (here.written ∙ ap (λ (n : ℕ). replicate n 0) same));
  }

  wrote : (p p' : Place) → Here c job coming s h p → (items : List Item) (x : List ℕ) → record (progress_at c job p) { items = items; tail = [] } ≡ progress_at c job p' → x ++ coming ≡ text_at c job p'
      → count_at c job p + 1 ≡ count_at c job p' → Facts c job p' h s.job → Goal (Writes Ack items x)
  wrote p p' here items x led left more facts deed.Acked a m ample = (
    p',
    record {
      progress = ap (λ (g : Progress). record g { items = items; tail = [] }) here.progress ∙ led;
      unread = left;
      going = here.going;
      opened = here.opened;
      facts = facts;
      written = ap (λ (t : List ℕ). t ++ 0 ∷ []) here.written ∙ (replicate_more (count_at c job p) 0 ∙ ap (λ (n : ℕ). replicate n 0) more);
    },
    tt,
  )
  wrote p p' here items x led left more facts done a m ample = absurd a

  -- where the octet 00 is due
  pub on_ack : (p p' : Place) → Here c job coming s h p → (items : List Item) → HasNoEnd (progress_at c job p).items → due (progress_at c job p) (text_at c job p) ≡ Writes Ack items (text_at c job p')
      → record (progress_at c job p) { items = items; tail = [] } ≡ progress_at c job p' → count_at c job p + 1 ≡ count_at c job p' → Facts c job p' h s.job → Goal (due_in s)
  on_ack p p' here items n e led more facts =
      elim (write_seen (progress_at c job p) s.unread coming Ack items (text_at c job p') n (ap (due (progress_at c job p)) here.unread ∙ e)) [
        | inl w ↦ subst Goal (sym (due_here p here ∙ w)) (waits p here)
        | inr x ↦ subst Goal (sym (due_here p here ∙ x.1)) (wrote p p' here items x.0 led x.2 more facts)
      ]

  -- where all was done
  pub on_wait : (p : Place) → Here c job coming s h p → HasNoEnd (progress_at c job p).items → due (progress_at c job p) (text_at c job p) ≡ Waits → Goal (due_in s)
  on_wait p here n e =
      subst Goal (sym (due_here p here ∙ wait_seen (progress_at c job p) s.unread coming n (ap (due (progress_at c job p)) here.unread ∙ e))) (waits p here)
