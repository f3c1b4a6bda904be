-- How the history of a core grows by a session that it serves alone.
use Rattle.std.proofs.Common.{◌≡◌, inl, inr, ℕ, Bool, true, false, List, [], ◌∷◌, Result, Ok, Err, Option, ap, refl, sym, subst, ◌∙◌}
use Rattle.page_pool.specs.Page.{Page}
use Rattle.config_values.specs.Config.{Config}
use Rattle.config_values.specs.Ranges.{IsConfig}
use Rattle.receiver.specs.Reading.{Due, Ends, Requests, Waits, Writes}
use Rattle.spool_history.specs.Base.{Base}
use Rattle.spool_history.specs.Events.{Event}
use Rattle.spool_history.specs.Now.{now}
use Rattle.spool_calls.specs.declared.answers.ReturnedTicket.{ReturnedTicket}
use Rattle.spool_calls.specs.Looks.{Detail, What}
use Rattle.spool_calls.specs.Kept.{Kept, Leaves}
use Rattle.spool_calls.specs.Calls as calls
use Rattle.spool_requests.specs.declared.answer.Answer.{Answer}
use Rattle.spool_trace.specs.declared.reply.Deed.TheVariants as deed
use Rattle.spool_requests.specs.Shows.{with_event}
use Rattle.spool_trace.specs.Sessions.{due_in}
use Rattle.request_calls.specs.Carried.{Carries}
use Rattle.request_calls.specs.Carried as core
use Rattle.request_session.specs.declared.ending.SessionEnd.{SessionEnd}
use Rattle.request_session.specs.Alone.{AllAnswered, IsAnswered, LeavesEnded, ServedAlone, event_due, grown}
use Rattle.request_session.specs.Carried.{AtEnd, CarriesAll, CarriesDue}
use Rattle.request_session.specs.Course.{Course, Came, Did, session_after}
use Rattle.request_session.specs.Served.{Around, ServedBy}

-- the core has grown by one answer
pub record OneMore (due : Due) (sender job : ℕ) (answer : Answer) (old new : Kept) : Type 0 where
  pub config : new.config ≡ old.config
  pub follows : IsConfig old.config → calls.IsRight old (λ d b h. IsAnswered d (now old.config b h) sender job due answer × Leaves d b (with_event (event_due d (now old.config b h) sender job due answer) h) new)

one_more : (due : Due) (sender job : ℕ) (answer : Answer) (old new : Kept) → CarriesDue Carries sender due job answer old new → OneMore due sender job answer old new
one_more Ends sender job answer old new x = absurd x
one_more Waits sender job answer old new x = absurd x
one_more (Writes w items text) sender job answer old new x = absurd x
one_more (Requests r items text) sender job answer old new x =
    record {
      config = x.config;
      follows = λ ranges d b h l. let f = x.follows ranges d b h l in (f.is, f.left);
    }

-- the core has grown by all answers of a course
pub record AllMore (c : Course) (sender : ℕ) (old new : Kept) : Type 0 where
  pub config : new.config ≡ old.config
  pub follows : IsConfig old.config → calls.IsRight old (λ d b h. AllAnswered d old.config b sender c h × Leaves d b (grown d old.config b sender c h) new)

all_more : (c : Course) (sender : ℕ) (old new : Kept) → CarriesAll Carries sender c old new → AllMore c sender old new
all_more [] sender old new e =
    record { config = ap (λ (k : Kept). k.config) e; follows = λ ranges d b h l. (tt, subst (λ (k : Kept). Leaves d b h k) (sym e) l) }
all_more (Came octets ∷ c) sender old new x = let m = all_more c sender old new x in record { config = m.config; follows = m.follows }
all_more (Did deed.Ended ∷ c) sender old new x = let m = all_more c sender old new x in record { config = m.config; follows = m.follows }
all_more (Did deed.Waited ∷ c) sender old new x = let m = all_more c sender old new x in record { config = m.config; follows = m.follows }
all_more (Did deed.Acked ∷ c) sender old new x = let m = all_more c sender old new x in record { config = m.config; follows = m.follows }
all_more (Did (deed.Refused n) ∷ c) sender old new x = let m = all_more c sender old new x in record { config = m.config; follows = m.follows }
all_more (Did (deed.Asked kind answer) ∷ c) sender old new (before, all, one) =
    let s = session_after sender c in
    let m = all_more c sender old before all in
    let o = one_more (due_in s) sender s.job answer before new one in
    record {
      config = o.config ∙ m.config;
      follows = λ ranges d b h l.
          let k = m.follows ranges d b h l in
          let f = subst (λ (g : Config). IsConfig g → IsAnswered d (now g b (grown d old.config b sender c h)) sender s.job (due_in s) answer × Leaves d b (with_event (event_due d (now g b (grown d old.config b sender c h)) sender s.job (due_in s) answer) (grown d old.config b sender c h)) new) m.config
          (λ r. o.follows r d b (grown d old.config b sender c h) k.1) ranges in
          ((k.0, f.0), f.1);
    }

-- the end of a session leaves the core so
pub record EndMore (in_hand : Bool) (job : ℕ) (old new : Kept) : Type 0 where
  pub config : new.config ≡ old.config
  pub leaves : calls.IsRight old (λ d b h. LeavesEnded d b in_hand job h new)

aborted : (d : Detail) (b : Base) (h : List (Event (What d))) (job : ℕ) (page : Option Page) (old new : Kept) (result : Result (Unit {0}) ReturnedTicket) → Leaves d b h old
    → calls.Aborts d b h old job page new result → LeavesEnded d b true job h new
aborted d b h job page old new (Ok done) l a = inr (refl, a.1)
aborted d b h job page old new (Err back) l a = inl (subst (λ (k : Kept). Leaves d b h k) (sym a.1) l)

end_more : (in_hand : Bool) (job : ℕ) (old new : Kept) → AtEnd core.Ends in_hand job old new → EndMore in_hand job old new
end_more false job old new e =
    record { config = ap (λ (k : Kept). k.config) e; leaves = λ d b h l. inl (subst (λ (k : Kept). Leaves d b h k) (sym e) l) }
end_more true job old new (page, x) =
    record { config = x.config; leaves = λ d b h l. let a = x.aborts d b h l in aborted d b h job page old new a.0 l a.1 }

-- a session that a core served, with no one else at it
pub alone : (end : SessionEnd) (sender : ℕ) (before after : Around Kept) → ServedBy Carries core.Ends end sender before after → ServedAlone end sender before after
alone end sender before after x =
    let s = session_after sender x.course in
    let m = all_more x.course sender before.spool x.asked x.carried in
    let e = end_more s.progress.job s.job x.asked after.spool x.aborts in
    record {
      course = x.course;
      ends = x.ends;
      read = x.read;
      config = e.config ∙ m.config;
      grows = λ ranges d b h l.
          let k = m.follows ranges d b h l in
          record { answers = k.0; leaves = e.leaves d b (grown d before.spool.config b sender x.course h) k.1 };
    }
