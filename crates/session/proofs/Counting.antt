-- What the requests of a session add, from what its seat says of each.
use Rattle.std.proofs.Common.{ℕ, Bool, true, false, [], ◌∷◌, sym, subst}
use Rattle.receiver.specs.Reading.{Due, Ends, Requests, Waits, Writes}
use Rattle.spool_requests.specs.declared.answer.Answer.{Answer}
use Rattle.spool_requests.specs.declared.answer.RequestKind.{RequestKind}
use Rattle.spool_trace.specs.declared.reply.Deed.TheVariants as deed
use Rattle.spool_trace.specs.Sessions.{due_in}
use Rattle.spool_ledgers.specs.Sums.{Sums}
use Rattle.session.specs.Seated.{Adds, Carries, IsGiven}
use Rattle.session.specs.Seated as seats
use Rattle.request_session.specs.declared.ending.SessionEnd.{SessionEnd}
use Rattle.request_session.specs.Carried.{AtEnd, CarriesAll, CarriesDue}
use Rattle.request_session.specs.Course.{Course, Came, Did, IsDue, IsRight, session_after}
use Rattle.request_session.specs.Served.{Around, ServedBy}
use Rattle.session.specs.Added.{AddsAll, AddsAtEnd, AllGiven}
use Rattle.session.specs.Served.{Served}

one_added : (sender job : ℕ) (d : Due) (kind : RequestKind) (answer : Answer) (before new : Sums) → IsDue d (deed.Asked kind answer) → CarriesDue Carries sender d job answer before new
    → IsGiven kind answer × Adds kind answer before new
one_added sender job Ends kind answer before new due x = absurd x
one_added sender job Waits kind answer before new due x = absurd x
one_added sender job (Writes w items text) kind answer before new due x = absurd x
one_added sender job (Requests r items text) kind answer before new due x =
    subst (λ (k : RequestKind). IsGiven k answer × Adds k answer before new) (sym due) (x.given, x.adds)

all_added : (sender : ℕ) (c : Course) (old new : Sums) → IsRight sender c → CarriesAll Carries sender c old new → AllGiven c × AddsAll c old new
all_added sender [] old new right e = (tt, e)
all_added sender (Came octets ∷ c) old new right x = all_added sender c old new right x
all_added sender (Did deed.Ended ∷ c) old new right x = all_added sender c old new right.1 x
all_added sender (Did deed.Waited ∷ c) old new right x = all_added sender c old new right.1 x
all_added sender (Did deed.Acked ∷ c) old new right x = all_added sender c old new right.1 x
all_added sender (Did (deed.Refused n) ∷ c) old new right x = all_added sender c old new right.1 x
all_added sender (Did (deed.Asked kind answer) ∷ c) old new right (before, all, one) =
    let a = all_added sender c old before right.1 all in
    let o = one_added sender (session_after sender c).job (due_in (session_after sender c)) kind answer before new right.0 one in
    ((o.0, a.0), (before, a.1, o.1))

at_end : (in_hand : Bool) (job : ℕ) (old new : Sums) → AtEnd seats.Ends in_hand job old new → AddsAtEnd in_hand old new
at_end true job old new x = x.1
at_end false job old new x = x

pub counted : (end : SessionEnd) (sender : ℕ) (before after : Around Sums) → ServedBy Carries seats.Ends end sender before after
    → Served end sender before after
counted end sender before after x =
    let a = all_added sender x.course before.spool x.asked x.ends.right x.carried in
    record {
      course = x.course;
      ends = x.ends;
      read = x.read;
      given = a.0;
      asked = x.asked;
      adds = a.1;
      aborts = at_end (session_after sender x.course).progress.job (session_after sender x.course).job x.asked after.spool x.aborts;
    }
