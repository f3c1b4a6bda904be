-- The headline of every right trace.
use Rattle.std.proofs.Common.{◌≡◌, ℕ, Bool, zero, suc, ◌≤◌, List, length, refl, sym, ap, ◌∙◌, arith}
use Rattle.std.specs.Prelude.{◌&&◌}
use Rattle.config_values.specs.Config.{Config, IsQueue, limit_of, no_queue, queue_at}
use Rattle.config_values.specs.Ranges.{IsConfig}
use Rattle.spool_history.specs.Base.{first_base}
use Rattle.spool_history.specs.Events.Event.{Opened, OfJob, AtPrinter, Removed, Started, Closed}
use Rattle.spool_history.specs.Acts.{files_by, is_lent_by}
use Rattle.spool_history.specs.Said.{openings, acts_of}
use Rattle.spool_history.specs.Now.{Job}
use Rattle.spool_laws.specs.Safety.{EachCouldFinish}
use Rattle.spool_laws.proofs.Known.{has_contained, known, known_at}
use Rattle.spool_laws.proofs.Facts.{acts_other}
use Rattle.spool_laws.proofs.Leaves.{each_open, each_going}
use Rattle.spool_laws.proofs.Behind.{each_in_order}
use Rattle.spool_laws.proofs.Joined.{joined}
use Rattle.spool_laws.proofs.Places.{placed}
use Rattle.spool_laws.proofs.Whole.{all_placed}
use Rattle.spool_laws.proofs.Staying.{stays}
use Rattle.spool_trace.specs.Sessions.{Session, session_at, sessions}
use Rattle.spool_trace.specs.Shown.{events, spool_after}
use Rattle.spool_trace.specs.Headline.{HeadlineHolds, PagesAreAsArrived}
use Rattle.spool_trace.specs.Hands.{PagesAreLent, HeldPagesAreInHand, JobsDiffer, JobsAreAccepted, OtherActsStay}
use Rattle.spool_trace.proofs.Legal.{legal}
use Rattle.spool_trace.proofs.Cuts.{IsSized, each_has, sized, cut_file, whole_file}
use Rattle.spool_trace.proofs.Standing.{kept}
use Rattle.spool_trace.proofs.Places.{handed}
use Rattle.spool_laws.proofs.Joined.{contained}

pub arrived : PagesAreAsArrived
arrived c t ranges r o f has of_job =
    let h = events c t in
    let mine = has_contained f (files_by (acts_of h o.job)) of_job in
    let a = (kept c t r).all o f (has_contained o (openings h) has) mine in
    let one = ranges.page_size_low in
    let s = each_has (IsSized c.page_size) f (files_by (acts_of h o.job)) (sized c first_base h one (legal c t r) o.job) mine in
    record {
      session = a.session;
      there = a.there;
      from = a.from;
      arrived = record {
        newer = a.came.newer;
        older = a.came.older;
        moment = a.came.moment;
        in_hand = a.came.in_hand;
        items = a.came.items;
        text = a.came.text;
        begins = a.came.begins;
        read = a.came.read;
        by_then = a.came.by_then;
        after = a.after;
        here = a.is;
      };
      cut = cut_file c.page_size f one s;
      all = whole_file c.page_size f s;
    }

-- a configuration in its ranges lets each job finish alone
pub limit_pages : (c : Config) (q : ℕ) → IsConfig c → IsQueue c q → limit_of c q ≤ c.pages
limit_pages c zero ranges is = absurd (let low = is.0 in omega (arith, low))
limit_pages c (suc n) ranges is = (let high = is.1 in (ranges.queues n no_queue (omega (arith, high))).limit_high)

some_printer : (c : Config) (q : ℕ) → IsConfig c → IsQueue c q → 1 ≤ (queue_at c q).printers
some_printer c zero ranges is = absurd (let low = is.0 in omega (arith, low))
some_printer c (suc n) ranges is = (let high = is.1 in (ranges.queues n no_queue (omega (arith, high))).printers_low)

could : (c : Config) → IsConfig c → EachCouldFinish c
could c ranges = record { pages = λ q is. limit_pages c q ranges is; printers = λ q is. some_printer c q ranges is }

pub holds : HeadlineHolds
holds c t ranges r =
    let h = events c t in
    let l = legal c t r in
    record {
      once_in_order = placed length c first_base h l;
      all_of_done = all_placed length c first_base h l;
      as_arrived = arrived c t ranges r;
      handed_arrived = handed c t r (arrived c t ranges r);
      by_acceptance = each_in_order length c first_base h l;
      joined = joined length c first_base h l;
      not_after_end = each_going length c first_base h l;
      not_after_close = each_open length c first_base h l;
      finishing_order = stays length c first_base h (could c ranges) l;
    }

-- what the sessions have in hand

pub lent : PagesAreLent
lent c t r n is going = ((kept c t r).each n is.0).page going

pub in_hand : HeldPagesAreInHand
in_hand c t r n is going j w there number =
    let h = events c t in
    let s : Session = session_at (sessions t) n in
    let k = known_at h w s.job (λ (x : Job (List ℕ)). x.lent ≡ w.lent) (known c first_base h w (has_contained w (spool_after c t).jobs there)) number refl in
    sym k.is ∙ sym (lent c t r n is going ∙ ap (λ (b : Bool). b && is_lent_by (acts_of h s.job)) j)

pub differ : JobsDiffer
differ c t r n m is js ne jn jm = (kept c t r).apart n m is.0 js.0 ne jn jm

pub accepted : JobsAreAccepted
accepted c t r n is j =
    let a = ((kept c t r).each n is.0).accepted j in
    (a.0, contained _ (openings (events c t)) a.1)

pub other_acts : {C : Type 0} → OtherActsStay C
other_acts h (Opened k s q) j ne = refl
other_acts h (OfJob k act) j ne = acts_other h k act j (ne k act refl)
other_acts h (AtPrinter p sheet turn) j ne = refl
other_acts h (Removed q jobs) j ne = refl
other_acts h (Started q) j ne = refl
other_acts h Closed j ne = refl
