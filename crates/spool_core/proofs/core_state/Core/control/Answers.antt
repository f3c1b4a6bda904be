use Rattle.std.proofs.Common.{◌≡◌, ℕ, ◌+◌, ◌≤◌, List, refl, ap, subst, sym, ◌∙◌}
use Rattle.std.specs.Prelude.{Result, Ok, Bool, true, false}
use Rattle.counts.specs.Amounts.{amount}
use Rattle.claims.specs.Claims.{row_at}
use Rattle.held_jobs.specs.Jobs.{Facts, HeldJob}
use Rattle.held_jobs.specs.Books.{Books, job_at, with_job}
use Rattle.spool_history.specs.Base.{Base}
use Rattle.spool_history.specs.Events.{Event}
use Rattle.spool_calls.specs.Looks.{Detail, What}
use Rattle.spool_calls.specs.Looks.Detail.{Outlines}
use Rattle.spool_calls.specs.Kept.{Kept}
use Rattle.spool_calls.specs.Calls.{IsRight}
use Rattle.step_lemmas.proofs.Cores.Leaving.{Found}
use Rattle.spool_core.specs.declared.core_state.Core.TheInside.{Inside}
use Rattle.spool_core.specs.Inside.{core_view}
use Rattle.spool_core.specs.Places.{LacksControl}
use Rattle.spool_core.proofs.Cores.{still}
use Rattle.control_file.specs.View.{contents}
use Rattle.lpd_values.specs.Contents.{Contents}
use Rattle.spool_history.specs.Legal.{IsControl}
use Rattle.held_jobs.specs.Jobs.{has_prints}
use Rattle.held_jobs.specs.Moves.{controlled_facts, told}
use Rattle.held_jobs.specs.Books.{IsIdle}
use Rattle.spool_calls.specs.declared.answers.Receipt.{Receipt}
use Rattle.spool_calls.specs.declared.answers.ReturnedControl.{ReturnedControl}
use Rattle.spool_calls.specs.declared.answers.Receipt.TheVariants.{Stored, Received}
use Rattle.spool_calls.specs.Calls.{Controls}
use Rattle.step_lemmas.proofs.Cores.Receiving.{control_counted, control_idle, control_open, control_received, control_stored, pool_room}
use Rattle.spool_core.proofs.Packs.{put_there, received_pack, unprinted}
use Rattle.spool_core.proofs.core_state.Core.control.Goals.{After-is_open, After-receive}
use Rattle.spool_core.proofs.core_state.Core.control.Goals as goal

abbrev Answer : ℕ → Contents → Result Receipt ReturnedControl → Kept → Kept → (d : Detail) → Base → List (Event (What d)) → Type 0
Answer job control r new k d b h = Controls d b h k job control new r

-- the job at its place, with its control file
module _ (c : After-is_open) where
  abbrev a : Inside
  a = c.self.inside

  abbrev i : ℕ
  i = c.in-Ok.i

  abbrev control : Contents
  control = contents c.args.control

  abbrev job : HeldJob
  job = told (controlled_facts control) (job_at a.book i)

  lacked : LacksControl (core_view a) c.args.job i
  lacked = subst (λ (k : Kept). LacksControl k c.args.job i) (sym c.self.view_is) c.in-Ok.ensures.lacks

  place : Found (core_view a) c.args.job i
  place = record { there = lacked.there; number' = lacked.number }

  stands : job_at c.set_control.new.self i ≡ job
  stands = put_there a.book c.set_control.new.self i job lacked.there c.set_control.ensures

  -- a control file keeps what a history asks of one
  fits : IsControl control
  fits = record { number = c.args.control.number_fits; host = c.args.control.host_fits; user = c.args.control.user_fits; prints = c.args.control.prints_fit }

  opened : (job_at a.book i).chain.is_open ≡ c.is_open.result
  opened = sym (c.is_open.ensures ∙ ap (λ (q : HeldJob). q.chain.is_open) stands)

  -- whether it prints something, as it was read of the job that stands there
  prints : (g : Facts) (p : Bool) → g ≡ (job_at c.set_control.new.self i).facts → p ≡ has_prints g → has_prints (controlled_facts control (job_at a.book i).facts) ≡ p
  prints g p eg ep = sym (ep ∙ (ap has_prints eg ∙ ap (λ (q : HeldJob). has_prints q.facts) stands))

  -- the control file alone was put
  stored : IsRight (core_view a) (Answer c.args.job control (Ok Stored) (record (core_view a) { book = with_job a.book i job }) (core_view a))
      → IsRight (core_view a) (Answer c.args.job control (Ok Stored) (record (core_view a) { book = c.set_control.new.self }) (core_view a))
  stored right d b h l = subst (λ (z : Books). Controls d b h (core_view a) c.args.job control (record (core_view a) { book = z }) (Ok Stored)) (sym c.set_control.ensures) (right d b h l)

  while_open : c.is_open.result ≡ true → IsRight (core_view a) (Answer c.args.job control (Ok Stored) (record (core_view a) { book = c.set_control.new.self }) (core_view a))
  while_open o = stored (λ d b h l. control_open d b h (core_view a) l c.args.job i place control fits lacked.receiving lacked.none (opened ∙ o))

  unprinting : c.is_open.result ≡ false → has_prints (controlled_facts control (job_at a.book i).facts) ≡ false
      → IsRight (core_view a) (Answer c.args.job control (Ok Stored) (record (core_view a) { book = c.set_control.new.self }) (core_view a))
  unprinting o p = stored (λ d b h l. control_stored d b h (core_view a) l c.args.job i place control fits lacked.receiving lacked.none (opened ∙ o) p)

  counts : c.is_open.result ≡ false → let q = job_at c.set_control.new.self i in (a.pool.free + unprinted q ≤ a.pool.pages) × (unprinted q ≤ 65536) × (unprinted q ≤ amount (row_at a.table.rows i).held 0)
  counts o =
      let r = c.self.invariant.reached in
      let n = control_counted Outlines r.0 r.1 (core_view a) r.2 c.args.job i place c.self.invariant.ranges control (unprinted job) lacked.receiving (opened ∙ o) refl in
      subst (λ (z : HeldJob). (a.pool.free + unprinted z ≤ a.pool.pages) × (unprinted z ≤ 65536) × (unprinted z ≤ amount (row_at a.table.rows i).held 0)) (sym stands)
      (pool_room Outlines r.0 r.1 (core_view a) r.2 (unprinted job) n.stored, n.few, n.held)

pub invariant_of-self : goal.invariant_of-self
invariant_of-self c =
    let r = c.self.invariant.reached in
    still c.self.inside _ c.self.invariant refl refl refl (r.0, _, (while_open (goal.at.invariant_of-self c).After-is_open c.if-is_open.true Outlines r.0 r.1 r.2).1)

pub returns-then-is_open-clause-answer : goal.returns-then-is_open-clause-answer
returns-then-is_open-clause-answer c =
    subst (λ (k : Kept). IsRight k (Answer c.args.job (contents c.args.control) (Ok Stored) (record (core_view c.self.inside) { book = c.set_control.new.self }) k)) c.self.view_is
    (while_open (goal.at.returns-then-is_open-clause-answer c).After-is_open c.if-is_open.true)

pub invariant_of-self-then-not-has_prints : goal.invariant_of-self-then-not-has_prints
invariant_of-self-then-not-has_prints c =
    let s = (goal.at.invariant_of-self-then-not-has_prints c).After-is_open in
    let p = prints s c.job.result.now c.has_prints.result c.job.ensures c.has_prints.ensures ∙ c.if-not-has_prints.true in
    let r = c.self.invariant.reached in
    still c.self.inside _ c.self.invariant refl refl refl (r.0, _, (unprinting s c.if-is_open.false p Outlines r.0 r.1 r.2).1)

pub returns-then-not-has_prints-clause-answer : goal.returns-then-not-has_prints-clause-answer
returns-then-not-has_prints-clause-answer c =
    let s = (goal.at.returns-then-not-has_prints-clause-answer c).After-is_open in
    let p = prints s c.job.result.now c.has_prints.result c.job.ensures c.has_prints.ensures ∙ c.if-not-has_prints.true in
    subst (λ (k : Kept). IsRight k (Answer c.args.job (contents c.args.control) (Ok Stored) (record (core_view c.self.inside) { book = c.set_control.new.self }) k)) c.self.view_is
    (unprinting s c.if-is_open.false p)

pub receive-requires-clause-idle : goal.receive-requires-clause-idle
receive-requires-clause-idle c =
    let s = (goal.at.receive-requires-clause-idle c).After-is_open in
    let r = c.self.invariant.reached in
    subst (λ (z : HeldJob). IsIdle z.chain) (sym (stands s)) (control_idle Outlines r.0 r.1 (core_view c.self.inside) r.2 c.args.job c.in-Ok.i (place s) (lacked s).receiving (opened s ∙ c.if-is_open.false))

pub receive-requires-clause-room : goal.receive-requires-clause-room
receive-requires-clause-room c = (counts (goal.at.receive-requires-clause-room c).After-is_open c.if-is_open.false).0

pub receive-requires-clause-few : goal.receive-requires-clause-few
receive-requires-clause-few c = (counts (goal.at.receive-requires-clause-few c).After-is_open c.if-is_open.false).1

pub receive-requires-clause-held : goal.receive-requires-clause-held
receive-requires-clause-held c = (counts (goal.at.receive-requires-clause-held c).After-is_open c.if-is_open.false).2

-- the job is received by it
received : (c : After-receive) → LacksControl (core_view c.self.inside) c.args.job c.in-Ok.i → IsControl (contents c.args.control) → (job_at c.self.inside.book c.in-Ok.i).chain.is_open ≡ false
    → has_prints (controlled_facts (contents c.args.control) (job_at c.self.inside.book c.in-Ok.i).facts) ≡ true
    → let new : Kept = record (core_view c.self.inside) { pool = c.receive.new.pool; book = c.receive.new.book; table = c.receive.new.table } in
    IsRight (core_view c.self.inside) (Answer c.args.job (contents c.args.control) (Ok Received) new (core_view c.self.inside))
received c q fit o p d b h l =
    let k = core_view c.self.inside in
    let job : HeldJob = told (controlled_facts (contents c.args.control)) (job_at c.self.inside.book c.in-Ok.i) in
    let e = c.receive.ensures in
    subst (λ (z : Kept). Controls d b h k c.args.job (contents c.args.control) z (Ok Received))
    (received_pack c.self.inside c.set_control.new.self c.receive.new.book c.receive.new.pool c.receive.new.table c.in-Ok.i job q.there c.set_control.ensures e.book e.pool e.table)
    (control_received d b h k l c.args.job c.in-Ok.i (record { there = q.there; number' = q.number }) (contents c.args.control) (unprinted job) fit q.receiving q.none o p refl)

pub invariant_of-self-2 : goal.invariant_of-self-2
invariant_of-self-2 c =
    let x = goal.at.invariant_of-self-2 c in
    let s = x.After-is_open in
    let p = prints s c.job.result.now c.has_prints.result c.job.ensures c.has_prints.ensures ∙ c.if-not-has_prints.false in
    let r = c.self.invariant.reached in
    still c.self.inside _ c.self.invariant refl refl refl (r.0, _, (received x.After-receive (lacked s) (fits s) (opened s ∙ c.if-is_open.false) p Outlines r.0 r.1 r.2).1)

pub returns-clause-answer : goal.returns-clause-answer
returns-clause-answer c =
    let x = goal.at.returns-clause-answer c in
    let s = x.After-is_open in
    let p = prints s c.job.result.now c.has_prints.result c.job.ensures c.has_prints.ensures ∙ c.if-not-has_prints.false in
    let new : Kept = record (core_view c.self.inside) { pool = c.receive.new.pool; book = c.receive.new.book; table = c.receive.new.table } in
    subst (λ (k : Kept). IsRight k (Answer c.args.job (contents c.args.control) (Ok Received) new k)) c.self.view_is (received x.After-receive (lacked s) (fits s) (opened s ∙ c.if-is_open.false) p)
