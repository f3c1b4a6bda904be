-- A job is aborted, or gives back the page that was lent to it.
use Rattle.std.proofs.Common.{inl, inr, ◌≡◌, ◌≢◌, ◌==◌, ℕ, ◌+◌, ◌-◌, ◌≤◌, Bool, true, false, List, refl, sym, ◌∙◌, ap, subst, arith}
use Rattle.std.specs.Prelude.{All, Ok, Err, Option, Some, None, cond, remove}
use Rattle.std.proofs.lemmas.Bool.Decides.{nat_tests}
use Rattle.claims.specs.Changes.{closed}
use Rattle.page_pool.specs.Page.{Page}
use Rattle.held_jobs.specs.Jobs.{HeldJob, Facts}
use Rattle.spool_history.specs.Base.{Base}
use Rattle.spool_history.specs.Events.{Event}
use Rattle.spool_history.specs.Events.Act.{Aborted}
use Rattle.spool_history.specs.Events.Event.{OfJob}
use Rattle.spool_history.specs.Now.{Job, is_held, is_received, pages_held}
use Rattle.spool_history.specs.Steps.{acted}
use Rattle.spool_history.specs.Legal.{JobMay}
use Rattle.spool_laws.specs.Sums.{chained_of}
use Rattle.step_lemmas.proofs.HeldJobs.Standing.{has_here, has_job}
use Rattle.step_lemmas.proofs.HeldJobs.Moving.{act_gone}
use Rattle.step_lemmas.proofs.HeldJobs.Holding.{held_counts, lent_unreceived, unreceived_unhanded}
use Rattle.spool_calls.specs.declared.answers.ReturnedTicket.{ReturnedTicket}
use Rattle.spool_calls.specs.Looks.{Detail, What, size}
use Rattle.spool_calls.specs.Kept.{Kept, Leaves, left_by}
use Rattle.spool_calls.specs.Calls.{Aborts, CanAbort, IsLent}
use Rattle.spool_calls.specs.Tickets.{HasLent, MayAbort, count_of}
use Rattle.step_lemmas.proofs.Cores.Leaving.{Found, closed_free, held_room, leaves_out, none_has, one_stored, sees, look_at}
use Rattle.step_lemmas.proofs.Cores.Phases.{ended, phase_ended, phase_receiving, receiving}

gone_by : {C : Type 0} (x : Job C) (b : Bool) → x.handed ≡ x.back → (x.handed == x.back) ≡ b → is_held (acted Aborted x) ≡ false
gone_by x true e t = rw t refl
gone_by x false e t = absurd (grind (arith, nat_tests))

lent_count : (lent : Bool) (page_size : ℕ) (ticket : Option Page) → HasLent lent page_size ticket → cond lent 1 0 ≡ count_of ticket
lent_count lent page_size None e = rw e refl
lent_count lent page_size (Some page) e = rw e.0 refl

-- the call and its answer say the same of the page that is given
lent_same : (lent : Bool) (page_size : ℕ) (ticket : Option Page) → HasLent lent page_size ticket ≡ IsLent lent page_size ticket
lent_same lent page_size None = refl
lent_same lent page_size (Some page) = refl

pub abort_none : (d : Detail) (b : Base) (h : List (Event (What d))) (k : Kept) (job : ℕ) (ticket : Option Page) (back : ReturnedTicket) → Leaves d b h k → All (λ (j : HeldJob). j.facts.number ≢ job) k.book.jobs → back.ticket ≡ ticket → Aborts d b h k job ticket k (Err back)
abort_none d b h k job ticket back l none e = ((λ m. none_has d b h k job (CanAbort d (left_by d b h k) ticket) l none m), refl, e)

-- what is kept once the job at a place is aborted, where so many pages were in its chain
abbrev pub aborted_core : Kept → ℕ → ℕ → Option Page → Kept
aborted_core k i n ticket = record k {
  pool = record k.pool { free = k.pool.free + n + count_of ticket };
  book = record k.book { jobs = remove k.book.jobs i; stored = k.book.stored - n };
  table = closed k.table i;
}

module _ (d : Detail) (b : Base) (h : List (Event (What d))) (k : Kept) (l : Leaves d b h k) (job i : ℕ) (f : Found k job i) (ticket : Option Page) where
  open look_at d b h k i use {v, x, j}

  abbrev z : ℕ
  z = k.config.page_size

  open sees d b h k job i l f use {stands as s, has, facts as ft}

  to : MayAbort j.facts z ticket → CanAbort d (left_by d b h k) ticket x
  to m =
      let n = subst (λ (g : Facts). MayAbort g z ticket) ft m in
      (elim n.0 [ inl p ↦ inl (receiving x p) | inr q ↦ inr (ended x q.0, q.1) ], subst (λ (T : Type 0). T) (lent_same x.lent z ticket) n.1)

  from : CanAbort d (left_by d b h k) ticket x → MayAbort j.facts z ticket
  from m = subst (λ (g : Facts). MayAbort g z ticket) (sym ft) (
    elim m.0 [ inl r ↦ inl (phase_receiving x r) | inr q ↦ inr (phase_ended x q.0, q.1) ],
    subst (λ (T : Type 0). T) (sym (lent_same x.lent z ticket)) m.1,
  )

  pub abort_refused : (back : ReturnedTicket) → (MayAbort j.facts z ticket → ⊥) → back.ticket ≡ ticket → Aborts d b h k job ticket k (Err back)
  abort_refused back never e = ((λ m. never (from (has_here (size d) k.config b h i job (CanAbort d (left_by d b h k) ticket) l.legal s m))), refl, e)

  unreceived : CanAbort d (left_by d b h k) ticket x → is_received x ≡ false
  unreceived m = elim m.0 [ inl r ↦ r.1 | inr q ↦ lent_unreceived (size d) k.config b h x l.legal has q.1 ]

  -- so many pages of it are held: those of its chain, and the one that is lent
  pub aborted_pages : MayAbort j.facts z ticket → pages_held x ≡ chained_of x + count_of ticket
  aborted_pages m =
      let u = unreceived_unhanded (size d) k.config b h x l.legal has (unreceived (to m)) in
      let one : Bool → ℕ = (λ o. cond o 1 0) in
      let same : one x.lent ≡ one j.facts.lent = ap one (sym (ap (λ (g : Facts). g.lent) ft)) in
      omega (arith, u.0, u.1, held_counts (size d) k.config b h x l.legal has, lent_count j.facts.lent z ticket m.1, same)

  pub abort_done : (n : ℕ) → MayAbort j.facts z ticket → n ≡ chained_of x → Aborts d b h k job ticket (aborted_core k i n ticket) (Ok tt)
  abort_done n m en =
      let can = to m in
      let u = unreceived_unhanded (size d) k.config b h x l.legal has (unreceived can) in
      let within = one_stored d b h k i l s.there in
      let free : k.pool.free + pages_held x ≡ k.pool.free + n + count_of ticket = omega (arith, aborted_pages m, en) in (
        has_job v i job (CanAbort d (left_by d b h k) ticket) s can,
        leaves_out d b h k (OfJob job Aborted) i (k.book.stored - n) (k.pool.free + n + count_of ticket) (closed k.table i) k.printers l
            (has_job v i job (JobMay (size d) k.config Aborted) s can.0, tt)
            (act_gone (size d) k.config b h i job Aborted l.legal s (gone_by x (x.handed == x.back) (u.0 ∙ sym u.1) refl)) s.there refl refl
            (omega (arith, within, en)) (subst (λ (q : ℕ). Rattle.step_lemmas.proofs.Rows.Tables.WithoutRow k.table (closed k.table i) i q) free (closed_free d b h k i l s.there)) l.kept.printers,
      )

  -- what comes back has room in the pool
  pub aborted_room : MayAbort j.facts z ticket → k.pool.free + chained_of x + count_of ticket ≤ k.pool.pages
  aborted_room m = (let r = held_room d b h k i l s.there in let p = aborted_pages m in omega (arith, r, p))
