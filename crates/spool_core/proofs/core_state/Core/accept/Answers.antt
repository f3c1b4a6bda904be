use Rattle.std.proofs.Common.{◌≡◌, ℕ, ◌+◌, List, refl, ap, subst, sym, ◌∙◌}
use Rattle.std.specs.Prelude.{Result, Ok}
use Rattle.counts.specs.Amounts.{amount}
use Rattle.claims.specs.Claims.{Claims}
use Rattle.held_jobs.specs.Books.{Books}
use Rattle.spool_history.specs.Base.{Base}
use Rattle.spool_history.specs.Events.{Event}
use Rattle.lpd_values.specs.declared.refusal.Refusal.{Refusal}
use Rattle.spool_calls.specs.Looks.{Detail, What}
use Rattle.spool_calls.specs.Looks.Detail.{Outlines}
use Rattle.spool_calls.specs.Kept.{Kept}
use Rattle.spool_calls.specs.Calls.{IsRight}
use Rattle.spool_core.specs.declared.core_state.Core.TheInside.{Inside}
use Rattle.spool_core.specs.Inside.{core_view, IsCore}
use Rattle.spool_core.specs.Places.{Accepts}
use Rattle.spool_core.proofs.Cores.{still}
use Rattle.counts.specs.Amounts.{Fits}
use Rattle.claims.specs.Changes.{opened, HasPlace}
use Rattle.config_values.specs.Config.{limit_of, reserve_of}
use Rattle.spool_history.specs.Now.{amounts}
use Rattle.spool_calls.specs.Calls.{OpensFor}
use Rattle.step_lemmas.proofs.Cores.Opening.{claim_fits, greater, kinds, open_done, opened_core, row_room, unused}
use Rattle.spool_core.proofs.core_state.Core.accept.Goals.{After-reserve_of}
use Rattle.spool_core.proofs.core_state.Core.accept.Goals as goal

abbrev Answer : (sender q : ℕ) → Result ℕ Refusal → Kept → Kept → (d : Detail) → Base → List (Event (What d)) → Type 0
Answer sender q r new k d b h = OpensFor d b h k sender q new r

pub add_job-requires-clause-other : goal.add_job-requires-clause-other
add_job-requires-clause-other c = (let r = c.self.invariant.reached in unused Outlines r.0 r.1 (core_view c.self.inside) r.2)

pub add_job-requires-clause-greater : goal.add_job-requires-clause-greater
add_job-requires-clause-greater c = (let r = c.self.invariant.reached in greater Outlines r.0 r.1 (core_view c.self.inside) r.2)

pub add_job-requires-clause-kinds : goal.add_job-requires-clause-kinds
add_job-requires-clause-kinds c =
    let a = c.self.inside in
    let q = c.args.queue in
    let r = c.self.invariant.reached in
    kinds Outlines r.0 r.1 (core_view a) r.2 q (amounts a.config (limit_of a.config q) q 1) refl

fits : (a : Inside) (q : ℕ) → IsCore a → Fits (amounts a.config (limit_of a.config q) q 1) (amount a.table.capacity)
fits a q core =
    let r = core.reached in
    subst (λ (m : List ℕ). Fits (amounts a.config (limit_of a.config q) q 1) (amount m)) (sym r.2.kept.table.capacity) (claim_fits a.config q core.ranges)

pub add_job-requires-clause-fits : goal.add_job-requires-clause-fits
add_job-requires-clause-fits c = fits c.self.inside c.args.queue c.self.invariant

-- the job is accepted
module _ (c : After-reserve_of) where
  abbrev k : Kept
  k = core_view c.self.inside

  abbrev new : Kept
  new = record k { book = c.add_job.new.book; table = c.add_job.new.table; accepted = k.accepted + 1; reserved = k.reserved + c.reserve_of.result }

  opens : IsRight k (Answer c.args.sender c.args.queue (Ok (k.accepted + 1)) new k)
  opens d b h l =
      let q = c.args.queue in
      let may = subst (λ (z : Kept). Accepts z q) (sym c.self.view_is) c.requires in
      let need = amounts k.config (limit_of k.config q) q 1 in
      let r = c.self.invariant.reached in
      let place : HasPlace k.table need = (fits c.self.inside q c.self.invariant, row_room Outlines r.0 r.1 k r.2 may.few) in
      let is : opened_core k (k.accepted + 1) c.args.sender q need ≡ new =
      ap (λ (z : Books). record k { book = z; table = opened k.table (k.accepted + 1) c.args.sender q need; accepted = k.accepted + 1; reserved = k.reserved + reserve_of k.config q }) (sym c.in_ok-add_job.ensures.book)
      ∙ (ap (λ (z : Claims). record k { book = c.add_job.new.book; table = z; accepted = k.accepted + 1; reserved = k.reserved + reserve_of k.config q }) (sym c.in_ok-add_job.ensures.table)
      ∙ ap (λ (z : ℕ). record k { book = c.add_job.new.book; table = c.add_job.new.table; accepted = k.accepted + 1; reserved = k.reserved + z }) (sym c.reserve_of.ensures.value)) in
      subst (λ (z : Kept). OpensFor d b h k c.args.sender q z (Ok (k.accepted + 1))) is
      (open_done d b h k l q may.open' may.is c.args.sender need may.few (may.room, may.number) place refl)

pub invariant_of-self-2 : goal.invariant_of-self-2
invariant_of-self-2 c =
    let r = c.self.invariant.reached in
    still c.self.inside _ c.self.invariant refl refl refl (r.0, _, (opens (goal.at.invariant_of-self-2 c).After-reserve_of Outlines r.0 r.1 r.2).1)

pub returns-clause-answer : goal.returns-clause-answer
returns-clause-answer c =
    let x = (goal.at.returns-clause-answer c).After-reserve_of in
    subst (λ (z : Kept). IsRight z (Answer c.args.sender c.args.queue (Ok (c.self.inside.accepted + 1)) (new x) z)) c.self.view_is (opens x)
