-- From a core's clauses to the replies to steps.
use Rattle.std.proofs.Common.{◌≡◌, ℕ, length, Bool, true, false, List, ◌∷◌, Option, Some, None, Result, Ok, Err, refl, sym, ap, subst, ◌∙◌, inl, inr}
use Rattle.std.specs.Prelude.{if◌then◌else◌}
use Rattle.lpd_values.specs.declared.refusal.Refusal.TheVariants.{Memory}
use Rattle.account.specs.Seen.{progress_seen}
use Rattle.account.specs.declared.entry.Progress.{Progress}
use Rattle.config_values.specs.Config.{Config, IsPrinter}
use Rattle.receiver.specs.Script.{Ack, Fault}
use Rattle.receiver.specs.Reading.{Due, Waits, Ends, Writes, Requests}
use Rattle.spool_history.specs.Base.{Base}
use Rattle.spool_history.specs.Events.{Event, Sheet, Turn}
use Rattle.spool_history.specs.Events.Event.{AtPrinter, Closed}
use Rattle.spool_history.specs.Events.Turn.{Printed, Failed}
use Rattle.spool_history.specs.Now.{State, now}
use Rattle.spool_history.specs.Next.{printer_at}
use Rattle.spool_history.specs.Legal.{May}
use Rattle.spool_laws.proofs.Known.{clash}
use Rattle.spool_calls.specs.declared.answers.Next.{Next}
use Rattle.spool_calls.specs.declared.answers.Next.TheVariants as next
use Rattle.spool_calls.specs.declared.answers.Foreign.{Foreign}
use Rattle.spool_calls.specs.declared.handed.HandedPage.{HandedPage}
use Rattle.spool_calls.specs.Looks.Detail.{Octets}
use Rattle.spool_calls.specs.Kept.{Kept, Leaves}
use Rattle.spool_calls.specs.Calls as calls
use Rattle.spool_calls.specs.Calls.{before, Hands, Prints, Fails, Closes, IsOut}
use Rattle.spool_requests.specs.Kinds.{request_kind}
use Rattle.spool_requests.specs.Shows.{with_event}
use Rattle.spool_requests.specs.Due.{MayCome}
use Rattle.spool_requests.specs.Follows.{Stood}
use Rattle.spool_trace.specs.declared.step.Step.{Step}
use Rattle.spool_trace.specs.declared.step.Step.TheVariants as step
use Rattle.spool_trace.specs.declared.reply.Deed.{Deed}
use Rattle.spool_trace.specs.declared.reply.Deed.TheVariants as deed
use Rattle.spool_trace.specs.declared.reply.Reply.{Reply}
use Rattle.spool_trace.specs.declared.reply.Reply.TheVariants as reply
use Rattle.spool_trace.specs.Sessions.{Session, session_at}
use Rattle.spool_trace.specs.Shown.{comes_back, of_turn}
use Rattle.spool_trace.specs.Replies.{IsDueTurn}
use Rattle.spool_trace.specs.Follows.{StepFollows, IsAt, IsItsPage, given_by, AskFollows, ShortFollows, RefusalFollows, EndFollows, BreakFollows, WaitFollows, AckFollows, NextFollows, PrintFollows, FailFollows, CloseFollows}

module _ (b : Base) (h : List (Event (List ℕ))) (old new : Kept) (ss : List Session) (s : Stood Octets b h old new) where
  abbrev v : State (List ℕ)
  v = before Octets b h old

  could : (e : Event (List ℕ)) → Leaves Octets b (e ∷ h) new → May length v e
  could e l = subst (λ (c : Config). May length (now c b h) e) s.config l.legal.0

  same : new ≡ old → Leaves Octets b h new
  same e = subst (λ (k : Kept). Leaves Octets b h k) (sym e) s.left

  -- a turn, by what was due
  turn : (n : ℕ) (d : Due) (done : Deed) → IsAt ss n d → IsDueTurn v (session_at ss n).job d done → MayCome Octets v (of_turn v (session_at ss n) d done) → Leaves Octets b (with_event (of_turn v (session_at ss n) d done) h) new
      → StepFollows b h old new ss (step.Turn n) (reply.Turned done)
  turn n d done at due may left =
      let x : Session = session_at ss n in
      record {
        is = record {
          due = (at.there, at.going, subst (λ (y : Due). IsDueTurn v x.job y done) (sym at.due) due);
          may = subst (λ (y : Due). MayCome Octets v (of_turn v x y done)) (sym at.due) may;
        };
        left = subst (λ (y : Due). Leaves Octets b (with_event (of_turn v x y done) h) new) (sym at.due) left;
      }

  hands : (p : ℕ) (result : Next) → IsPrinter old.config p → Hands Octets b h old p new result → StepFollows b h old new ss (step.Next p) (reply.Gave (given_by result))
  hands p (next.Handed page) is a = record { is = record { due = (is, sym a.0); may = (is, a.0) }; left = a.1 }
  hands p next.Nothing is a = record { is = record { due = (is, sym a.0); may = tt }; left = same a.1 }
  hands p next.Stopped is a = record { is = record { due = (is, sym a.0); may = tt }; left = same a.1 }
  hands p next.Busy is a = record { is = record { due = (is, sym a.0); may = tt }; left = same a.1 }
  hands p next.Closed is a = record { is = record { due = (is, sym a.0); may = tt }; left = same a.1 }

  abbrev sheet : HandedPage → Sheet (List ℕ)
  sheet page = calls.sheet_of Octets b h old page

  is_out : (p : ℕ) (page : HandedPage) → IsItsPage b h old p page → IsOut Octets b h old p page (sheet page)
  is_out p page i = (i.out, refl, refl, refl, i.size)

  -- what is out is that page
  the_sheet : (p : ℕ) (page : HandedPage) (x : Sheet (List ℕ)) → IsItsPage b h old p page → (printer_at v p).out ≡ Some x → x ≡ sheet page
  the_sheet p page x i e = (let both : ◌≡◌ {A = Option (Sheet (List ℕ))} (Some x) (Some (sheet page)) = sym e ∙ i.out in cc)

  back : (p : ℕ) (page : HandedPage) (turn' : Turn) (re : Reply) (st : Step) → IsItsPage b h old p page → Leaves Octets b (AtPrinter p (sheet page) turn' ∷ h) new
      → MayCome Octets v (comes_back p turn' (printer_at v p).out) × Leaves Octets b (with_event (comes_back p turn' (printer_at v p).out) h) new
  back p page turn' re st i l =
      subst (λ (o : Option (Sheet (List ℕ))). MayCome Octets v (comes_back p turn' o) × Leaves Octets b (with_event (comes_back p turn' o) h) new) (sym i.out) (could (AtPrinter p (sheet page) turn') l, l)

  prints : (p : ℕ) (page : HandedPage) (result : Result Progress Foreign) → IsItsPage b h old p page → Prints Octets b h old p page new result
      → (said : Progress) × (result ≡ Ok said) × StepFollows b h old new ss (step.Printed p) (reply.Printed said)
  prints p page (Ok said) i a =
      let e = the_sheet p page a.0 i a.1.0 in
      let l : Leaves Octets b (AtPrinter p (sheet page) (Printed (progress_seen said)) ∷ h) new = subst (λ (x : Sheet (List ℕ)). Leaves Octets b (AtPrinter p x (Printed (progress_seen said)) ∷ h) new) e (a.3 (ap (λ (x : Sheet (List ℕ)). x.page) (sym e))) in
      let r = back p page (Printed (progress_seen said)) (reply.Printed said) (step.Printed p) i l in
      (said, refl, record { is = record { due = (i.printer, (sheet page, i.out)); may = r.0 }; left = r.1 })
  prints p page (Err foreign) i a = absurd (a.0 (sheet page) (is_out p page i))

  fails : (p : ℕ) (page : HandedPage) (result : Result (Unit {0}) Foreign) → IsItsPage b h old p page → Fails Octets b h old p page new result → (result ≡ Ok tt) × StepFollows b h old new ss (step.Failed p) reply.Failed
  fails p page (Ok done) i a =
      let e = the_sheet p page a.0 i a.1.0 in
      let l : Leaves Octets b (AtPrinter p (sheet page) Failed ∷ h) new = subst (λ (x : Sheet (List ℕ)). Leaves Octets b (AtPrinter p x Failed ∷ h) new) e a.2 in
      let r = back p page Failed reply.Failed (step.Failed p) i l in
      (refl, record { is = record { due = (i.printer, (sheet page, i.out)); may = r.0 }; left = r.1 })
  fails p page (Err foreign) i a = absurd (a.0 (sheet page) (is_out p page i))

  closed_by : (closed : Bool) → v.closed ≡ closed → Closes Octets b h old new → MayCome Octets v (if closed then None else Some Closed) × Leaves Octets b (with_event (if closed then None else Some Closed) h) new
  closed_by true e a = elim a [ inl x ↦ absurd (clash v.closed e x.0) | inr x ↦ (tt, same x.1) ]
  closed_by false e a = elim a [ inl x ↦ (x.0, x.1) | inr x ↦ absurd (clash v.closed x.0 e) ]

  closes : Closes Octets b h old new → StepFollows b h old new ss step.Shutdown reply.Closed
  closes a = (let r = closed_by v.closed refl a in record { is = record { due = refl; may = r.0 }; left = r.1 })

pub ask_follows : AskFollows
ask_follows b h old new ss s n r items text answer at f = turn b h old new ss s n (Requests r items text) (deed.Asked (request_kind r) answer) at (refl, f.is.due) f.is.may f.left

pub short_follows : ShortFollows
short_follows b h old new ss s n r items text at k e = turn b h old new ss s n (Requests r items text) (deed.Refused Memory) at (refl, k) e.0 e.1

pub refusal_follows : RefusalFollows
refusal_follows b h old new ss s n refusal items text at e = turn b h old new ss s n (Writes (Fault refusal) items text) (deed.Refused refusal) at refl e.0 e.1

pub end_follows : EndFollows
end_follows b h old new ss s n at e = turn b h old new ss s n Ends deed.Ended at tt e.0 e.1

pub break_follows : BreakFollows
break_follows b h old new ss s n is going e = record { is = record { due = (is, going, refl); may = e.0 }; left = e.1 }

pub wait_follows : WaitFollows
wait_follows b h old new ss s n at e = turn b h old new ss s n Waits deed.Waited at tt tt (same b h old new ss s e)

pub ack_follows : AckFollows
ack_follows b h old new ss s n items text at e = turn b h old new ss s n (Writes Ack items text) deed.Acked at tt tt (same b h old new ss s e)

pub next_follows : NextFollows
next_follows b h old new ss s p result is a = hands b h old new ss s p result is a

pub print_follows : PrintFollows
print_follows b h old new ss s p page result i a = prints b h old new ss s p page result i a

pub fail_follows : FailFollows
fail_follows b h old new ss s p page result i a = fails b h old new ss s p page result i a

pub close_follows : CloseFollows
close_follows b h old new ss s a = closes b h old new ss s a
