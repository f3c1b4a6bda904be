-- A session of a right trace, its connection, and its end.
use Rattle.std.proofs.Common.{◌≡◌, ℕ, Bool, true, false, List, [], ◌∷◌, Option, Some, None, refl, sym, subst, ap, ◌∙◌}
use Rattle.std.specs.Prelude.{MatchBool}
use Rattle.page_pool.specs.Page.{Page}
use Rattle.receiver.specs.Script.{Item, Output, PageOctets}
use Rattle.receiver.specs.Reading.{Progress}
use Rattle.receiver.specs.View.{held}
use Rattle.spool_history.specs.Base.{first_base}
use Rattle.spool_history.specs.Events.{Event}
use Rattle.spool_calls.specs.Looks.Detail.{Octets}
use Rattle.spool_calls.specs.Kept.{Kept, Leaves}
use Rattle.spool_calls.specs.Calls.{before, IsLent}
use Rattle.spool_calls.specs.Tickets.{HasLent}
use Rattle.spool_requests.specs.Shows.{end_of, with_event}
use Rattle.spool_requests.specs.Due.{MayCome}
use Rattle.spool_requests.specs.Follows.{AbortsInHand, Stood, HasItsPage}
use Rattle.spool_requests.proofs.Bridge.{session_end_follows}
use Rattle.spool_trace.specs.Trace.{Trace}
use Rattle.spool_trace.specs.Sessions.{Session, due_in, session_at, sessions}
use Rattle.spool_trace.specs.Shown.{events}
use Rattle.spool_trace.specs.Hands.{has_page, page_in}
use Rattle.spool_trace.specs.Follows.{EndShows}
use Rattle.spool_trace.proofs.Kept.{Good}
use Rattle.spool_trace.proofs.Stages.{Fine, due_fine}
use Rattle.spool_trace.proofs.Standing.{kept}
use Rattle.spool_trace.proofs.Whole.{in_hand}
use Rattle.request_calls.specs.Pages.{first_page}
use Rattle.spool_world.specs.declared.connection.Connection.{Connection}
use Rattle.spool_world.specs.Stands.{GoesOn, IsAt, page_of}
use Rattle.spool_world.specs.Turns.{AbortsIt, IsOf}

pub true_false : true ≡ false → ⊥
true_false e = cc

-- what is had where a page is lent
is_lent_page : (lent other : Bool) (size : ℕ) (page : Option Page) → HasLent lent size page → other ≡ lent → IsLent other size page
is_lent_page lent other size None has e = e ∙ has
is_lent_page lent other size (Some page) has e = (e ∙ has.0, has.1)

-- no page is had where none is lent
pub no_page : (lent : Bool) (size : ℕ) (page : Option Page) → HasLent lent size page → lent ≡ false → page ≡ None
no_page lent size None has e = refl
no_page lent size (Some page) has e = absurd (true_false (sym has.0 ∙ e))

pub none_kept : (kept page : Option Page) → first_page kept page ≡ None → kept ≡ None
none_kept None page e = refl
none_kept (Some x) page e = e

-- where no page is in hand by the items, the reader holds none
pub quiet_held : (items : List Item) (tail : List ℕ) → ((os : List Output) → page_in items os ≡ false) → held items tail ≡ None
quiet_held [] tail q = refl
quiet_held (PageOctets n size ∷ items) tail q = absurd (true_false (q []))
quiet_held (item ∷ items) tail q = refl

module _ (old : Kept) (t : Trace) (n : ℕ) (k : Connection) (o : IsOf old t n k) (p : Progress) (e : k.reader ≡ Some p) where
  abbrev s : Session
  s = session_at (sessions t) n

  pub at : GoesOn old.config.page_size k s p
  at = subst (IsAt old.config.page_size k s) e o.stands.at

  pub good : Good (events old.config t) t n s
  good = (kept old.config t o.right).each n o.there.0

  pub fine : Fine s.progress.job good.stage s.unread (due_in s)
  fine = due_fine s.progress good.stage s.unread good.items good.needs

  pub stood : (new : Kept) → new.config ≡ old.config → Stood Octets first_base (events old.config t) old new
  stood new same = record { ranges = o.ranges; config = same; left = o.left }

  -- the page of the connection is the one that is lent to its job
  its_page : (new : Kept) → s.progress.job ≡ true → HasItsPage Octets first_base (events old.config t) old new k.job (page_of p k)
  its_page new job w there number =
      is_lent_page (has_page s) w.lent old.config.page_size (page_of p k) at.page
      (in_hand old.config t o.right n o.there at.open' job w there (number ∙ o.stands.job))

  ends_it : (new : Kept) (in_hand' : Bool) → in_hand' ≡ s.progress.job → AbortsIt old new in_hand' k.job (page_of p k) → MatchBool in_hand' (AbortsInHand Octets first_base (events old.config t) old new k.job (page_of p k)) (new ≡ old)
  ends_it new false same ends = ends
  ends_it new true same ends =
      let r = ends Octets first_base (events old.config t) o.left in
      (its_page new (sym same), r.0, r.1)

  -- its job in hand was aborted with its page
  pub ended : (new : Kept) → new.config ≡ old.config → (p' : Progress) (k' : Connection) → p'.job ≡ p.job → k'.job ≡ k.job → page_of p' k' ≡ page_of p k
      → AbortsIt old new p'.job k'.job (page_of p' k') → EndShows first_base (events old.config t) old new s
  ended new same p' k' job number page ends =
      let hand : p'.job ≡ s.progress.job = job ∙ ap (λ (x : Progress). x.job) at.reads.progress in
      let one = subst (λ (x : Option Page). AbortsIt old new p'.job k'.job x) page ends in
      let two = subst (λ (x : ℕ). AbortsIt old new p'.job x (page_of p k)) number one in
      let three = subst (λ (x : Bool). AbortsIt old new x k.job (page_of p k)) hand two in
      subst (λ (x : ℕ). MayCome Octets (before Octets first_base (events old.config t) old) (end_of (before Octets first_base (events old.config t) old) s.progress.job x)
      × Leaves Octets first_base (with_event (end_of (before Octets first_base (events old.config t) old) s.progress.job x) (events old.config t)) new) o.stands.job
      (session_end_follows Octets first_base (events old.config t) old new k.job s.progress.job (page_of p k) (stood new same) (ends_it new s.progress.job refl three))
