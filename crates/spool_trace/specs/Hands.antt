-- What the sessions of a trace have in hand: a job, and a page that is lent to it.
use Rattle.std.specs.Prelude.{◌≡◌, ◌≢◌, ◌==◌, ◌&&◌, ℕ, Bool, true, false, List, [], ◌∷◌, Option, Some, None, Contains, if◌then◌else◌}
use Rattle.config_values.specs.Config.{Config, IsPrinter}
use Rattle.receiver.specs.Script.{Filled, Output, Asked, Item, PageOctets, Refuses}
use Rattle.spool_history.specs.Events.{Act, Event, Sheet}
use Rattle.spool_history.specs.Events.Event.{OfJob}
use Rattle.spool_history.specs.Acts.{is_lent_by}
use Rattle.spool_history.specs.Said.{openings, acts_of}
use Rattle.spool_history.specs.Now.{Job}
use Rattle.spool_history.specs.Next.{printer_at}
use Rattle.spool_trace.specs.declared.step.Step.{Step}
use Rattle.spool_trace.specs.declared.step.Step.TheVariants as step
use Rattle.spool_trace.specs.declared.reply.Given.TheVariants as given
use Rattle.spool_trace.specs.declared.reply.Reply.{Reply}
use Rattle.spool_trace.specs.declared.reply.Reply.TheVariants as reply
use Rattle.spool_trace.specs.Trace.{Trace, sheet_of}
use Rattle.spool_trace.specs.Sessions.{Session, session_at, sessions}
use Rattle.spool_trace.specs.Shown.{events, spool_after}
use Rattle.spool_trace.specs.Replies.{IsReply, IsSession, IsTrace}

-- the last thing that was done was to hand out a page
abbrev pub ends_filled : List Output → Bool
ends_filled [] = false
ends_filled (Asked (Filled page) ∷ []) = true
ends_filled (o ∷ []) = false
ends_filled (o ∷ p ∷ os) = ends_filled (p ∷ os)

-- a page is in hand while it is filled, and where it was filled and refused
abbrev pub page_in : List Item → List Output → Bool
page_in (PageOctets n page_size ∷ items) os = true
page_in (Refuses n ∷ items) os = ends_filled os
page_in _ os = false

abbrev pub has_page : Session → Bool
has_page s = page_in s.progress.items s.outputs

-- a session has a page in hand exactly where it has a job in hand, to which a page is lent
abbrev pub PagesAreLent : Type 0
PagesAreLent =
    (c : Config) (t : Trace) → IsTrace c t → (n : ℕ) → IsSession (sessions t) n → (session_at (sessions t) n).over ≡ false
    → has_page (session_at (sessions t) n)
    ≡ (session_at (sessions t) n).progress.job && is_lent_by (acts_of (events c t) (session_at (sessions t) n).job)

-- and of the held jobs a page is lent to the one in hand exactly where it has a page in hand
abbrev pub HeldPagesAreInHand : Type 0
HeldPagesAreInHand =
    (c : Config) (t : Trace) → IsTrace c t → (n : ℕ) → IsSession (sessions t) n → (session_at (sessions t) n).over ≡ false
    → (session_at (sessions t) n).progress.job ≡ true → (w : Job (List ℕ)) → Contains (spool_after c t).jobs w
    → w.number ≡ (session_at (sessions t) n).job → w.lent ≡ has_page (session_at (sessions t) n)

-- two sessions never have one job in hand
abbrev pub JobsDiffer : Type 0
JobsDiffer =
    (c : Config) (t : Trace) → IsTrace c t → (n m : ℕ) → IsSession (sessions t) n → IsSession (sessions t) m → n ≢ m
    → (session_at (sessions t) n).progress.job ≡ true → (session_at (sessions t) m).progress.job ≡ true
    → (session_at (sessions t) n).job ≢ (session_at (sessions t) m).job

-- the job in hand was accepted from the session's sender
abbrev pub JobsAreAccepted : Type 0
JobsAreAccepted =
    (c : Config) (t : Trace) → IsTrace c t → (n : ℕ) → IsSession (sessions t) n → (session_at (sessions t) n).progress.job ≡ true
    → (queue : ℕ)
    × Contains (openings (events c t)) (record { job = (session_at (sessions t) n).job; sender = (session_at (sessions t) n).sender; queue = queue })

-- the page that is out at a printer after a step and its reply, where this one was out before
abbrev pub out_after : Step → Reply → ℕ → Option (Sheet (List ℕ)) → Option (Sheet (List ℕ))
out_after (step.Next p) (reply.Gave (given.Page page)) q old = if p == q then Some (sheet_of page) else old
out_after (step.Printed p) (reply.Printed progress) q old = if p == q then None else old
out_after (step.Failed p) reply.Failed q old = if p == q then None else old
out_after _ _ q old = old

-- a page is out at a printer from the reply that gave it to the one with which it came back
abbrev pub PagesAtPrinters : Type 0
PagesAtPrinters =
    (c : Config) (t : Trace) (st : Step) (re : Reply) → IsReply c t st re → (q : ℕ) → IsPrinter c q
    → (printer_at (spool_after c (record { step = st; reply = re } ∷ t)) q).out ≡ out_after st re q (printer_at (spool_after c t) q).out

-- what is not an act of a job leaves its acts as they were
abbrev pub OtherActsStay : Type 0 → Type 0
OtherActsStay C =
    (h : List (Event C)) (e : Event C) (j : ℕ) → ((k : ℕ) (act : Act C) → e ≡ OfJob k act → k ≢ j) → acts_of (e ∷ h) j ≡ acts_of h j
