use Rattle.std.proofs.Common.{ℕ, zero, suc, ◌+◌, List, [], ◌∷◌, ◌++◌, refl, drop, lit≤, lit<}
use Rattle.std.specs.Prelude.{slice_index_or}
use Rattle.spool_history.specs.Base.{first_base}
use Rattle.spool_history.specs.Events.{Event}
use Rattle.spool_history.specs.Events.Progress.{Going, Done}
use Rattle.spool_history.specs.Events.Event.{Closed}
use Rattle.spool_history.specs.Now.{State, now}
use Rattle.worked_histories.specs.Rows.{small, sheet, hello, rld}
use Rattle.worked_histories.proofs.Legal.{Legal, controlled, prints}
use Rattle.spool_trace.specs.declared.step.Step.TheVariants as step
use Rattle.spool_trace.specs.declared.reply.Reply.TheVariants as reply
use Rattle.spool_trace.specs.Trace.{Entry}
use Rattle.spool_trace.specs.Replies.{IsReplyIn}
use Rattle.spool_trace.specs.Sessions.{sessions}
use Rattle.worked_traces.specs.Rows.{control_1, did, name_1, one_job, printed, received}
use Rattle.worked_traces.proofs.rows.one_job_is_right.Goals as goal

abbrev entry : ℕ → Entry
entry n = slice_index_or one_job n (did step.Shutdown reply.Closed)

-- where the spool is before the newest n events
abbrev before : ℕ → State (List ℕ)
before n = now small first_base (drop n (Closed ∷ printed 1 ++ received 1))

-- the reply of the entry after which n came is the one that is due, where k events came with it and after it
abbrev Right : ℕ → ℕ → Type 0
Right n k = IsReplyIn (before k) (sessions (drop (n + 1) one_job)) (entry n).step (entry n).reply

-- each event is legal
legal : Legal first_base (Closed ∷ printed 1 ++ received 1)
legal =
    let told = controlled name_1 control_1 (record { number = lit≤ tt; host = refl; user = refl; prints = refl }) refl in
    let first = prints first_base (received 1) (sheet 1 0 hello) Going refl refl (lit< tt) refl refl told in
    (refl, prints first_base (drop 2 (printed 1) ++ received 1) (sheet 1 1 rld) Done refl refl (lit< tt) refl refl first)

-- and so is the event after which n came
older : (n : ℕ) (h : List (Event (List ℕ))) → Legal first_base h → Legal first_base (drop n h)
older zero h l = l
older (suc n) [] l = tt
older (suc n) (e ∷ h) l = older n h l.1

abbrev at : (n : ℕ) → Legal first_base (drop n (Closed ∷ printed 1 ++ received 1))
at n = older n (Closed ∷ printed 1 ++ received 1) legal

shutdown : Right 0 1
shutdown = record { due = refl; may = (at 0).0 }

printed_last : Right 1 2
printed_last = record { due = ((lit≤ tt, lit≤ tt), (sheet 1 1 rld, refl)); may = (at 1).0 }

handed_last : Right 2 3
handed_last = record { due = ((lit≤ tt, lit≤ tt), refl); may = (at 2).0 }

printed_first : Right 3 4
printed_first = record { due = ((lit≤ tt, lit≤ tt), (sheet 1 0 hello, refl)); may = (at 3).0 }

handed_first : Right 4 5
handed_first = record { due = ((lit≤ tt, lit≤ tt), refl); may = (at 4).0 }

waits : Right 5 5
waits = record { due = ((lit≤ tt, lit≤ tt), refl, tt); may = tt }

acks_5 : Right 6 5
acks_5 = record { due = ((lit≤ tt, lit≤ tt), refl, tt); may = tt }

control : Right 7 6
control = record { due = ((lit≤ tt, lit≤ tt), refl, (refl, tt)); may = (at 5).0 }

acks_4 : Right 8 6
acks_4 = record { due = ((lit≤ tt, lit≤ tt), refl, tt); may = tt }

acks_3 : Right 9 6
acks_3 = record { due = ((lit≤ tt, lit≤ tt), refl, tt); may = tt }

stored : Right 10 7
stored = record { due = ((lit≤ tt, lit≤ tt), refl, (refl, tt)); may = (at 6).0 }

put_last : Right 11 8
put_last = record { due = ((lit≤ tt, lit≤ tt), refl, (refl, refl)); may = (at 7).0 }

lent_last : Right 12 9
lent_last = record { due = ((lit≤ tt, lit≤ tt), refl, (refl, refl)); may = (at 8).0 }

put_first : Right 13 10
put_first = record { due = ((lit≤ tt, lit≤ tt), refl, (refl, refl)); may = (at 9).0 }

lent_first : Right 14 11
lent_first = record { due = ((lit≤ tt, lit≤ tt), refl, (refl, refl)); may = (at 10).0 }

acks_2 : Right 15 11
acks_2 = record { due = ((lit≤ tt, lit≤ tt), refl, tt); may = tt }

began : Right 16 12
began = record { due = ((lit≤ tt, lit≤ tt), refl, (refl, tt)); may = (at 11).0 }

accepted : Right 17 13
accepted = record { due = ((lit≤ tt, lit≤ tt), refl, (refl, tt)); may = (at 12).0 }

acks_1 : Right 18 13
acks_1 = record { due = ((lit≤ tt, lit≤ tt), refl, tt); may = tt }

admitted : Right 19 13
admitted = record { due = ((lit≤ tt, lit≤ tt), refl, (refl, (refl, (lit≤ tt, lit≤ tt)))); may = tt }

arrived : Right 20 13
arrived = record { due = ((lit≤ tt, lit≤ tt), refl, tt); may = tt }

connected : Right 21 13
connected = record { due = refl; may = tt }

pub returns : goal.returns
returns c = (shutdown, (printed_last, (handed_last, (printed_first, (handed_first, (waits, (acks_5, (control, (acks_4, (acks_3, (stored, (put_last, (lent_last, (put_first, (lent_first, (acks_2, (began, (accepted, (acks_1, (admitted, (arrived, (connected, tt))))))))))))))))))))))
