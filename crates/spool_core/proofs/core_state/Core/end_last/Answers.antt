use Rattle.std.proofs.Common.{◌≡◌, ℕ, ◌+◌, ◌-◌, ◌<◌, ◌≤◌, List, length, refl, ap, subst, sym, ◌∙◌}
use Rattle.std.specs.Prelude.{Result, Err, true, false}
use Rattle.counts.specs.Amounts.{amount}
use Rattle.claims.specs.Claims.{row_at}
use Rattle.held_jobs.specs.Jobs.{HeldJob}
use Rattle.held_jobs.specs.Books.{Books, job_at}
use Rattle.spool_history.specs.Base.{Base}
use Rattle.spool_history.specs.Events.{Event}
use Rattle.lpd_values.specs.declared.refusal.Refusal.{Refusal}
use Rattle.spool_calls.specs.Looks.{Detail, What}
use Rattle.spool_calls.specs.Looks.Detail.{Outlines}
use Rattle.spool_calls.specs.Kept.{Kept}
use Rattle.spool_calls.specs.Calls.{IsRight}
use Rattle.step_lemmas.proofs.Cores.Leaving.{Found}
use Rattle.spool_core.specs.declared.core_state.Core.TheInside.{Inside}
use Rattle.spool_core.specs.Inside.{core_view}
use Rattle.spool_core.proofs.Cores.{found, stays, still}
use Rattle.held_jobs.specs.Jobs.{Facts, has_prints}
use Rattle.held_jobs.specs.Moves.{CanEnd, closed_file}
use Rattle.held_jobs.specs.Books.{IsIdle}
use Rattle.lpd_values.specs.declared.refusal.Refusal.TheVariants.{NotOpen}
use Rattle.spool_calls.specs.declared.answers.Receipt.{Receipt}
use Rattle.spool_calls.specs.declared.answers.Receipt.TheVariants.{Stored, Received}
use Rattle.spool_calls.specs.Calls.{Ends, EndsFile}
use Rattle.step_lemmas.proofs.Cores.Reading.{last_file}
use Rattle.step_lemmas.proofs.Cores.Receiving.{end_counted, end_idle, end_none, end_received, end_refused, end_stored, pool_room}
use Rattle.spool_core.proofs.Packs.{put_there, received_pack, unprinted}
use Rattle.spool_core.proofs.core_state.Core.end_last.Goals.{After-end_file, After-has_prints, After-next_page-file, After-receive}
use Rattle.spool_core.proofs.core_state.Core.end_last.Goals as goal

-- the file of this number ended
abbrev Ended : ℕ → Receipt → (file : ℕ) → Kept → Kept → (d : Detail) → Base → List (Event (What d)) → Type 0
Ended job got file new k d b h = EndsFile d b h k job new got file

abbrev Same : ℕ → Result Receipt Refusal → Kept → (d : Detail) → Base → List (Event (What d)) → Type 0
Same job r k d b h = Ends d b h k job k r

pub returns-in_default-clause-refused : goal.returns-in_default-clause-refused
returns-in_default-clause-refused c =
    stays (core_view c.self.inside) c.args.self.now (Same c.args.job (Err NotOpen)) c.self.view_is
    (λ d b h l. end_none d b h (core_view c.self.inside) c.args.job l c.in_default.ensures.absent)

pub returns-then-not-can_end-clause-refused : goal.returns-then-not-can_end-clause-refused
returns-then-not-can_end-clause-refused c =
    let a = c.self.inside in
    let f = found a c.args.job c.in-Some.i c.in-Some.ensures.found in
    stays (core_view a) c.args.self.now (Same c.args.job (Err NotOpen)) c.self.view_is
    (λ d b h l. end_refused d b h (core_view a) l c.args.job c.in-Some.i f c.self.invariant.ranges (λ q. absurd (cc (c.if-not-can_end.ensures.1 q))))

-- the number of its last file
last_of : (c : After-next_page-file) → c.next_page-file.result.file ≡ length (job_at c.self.inside.book c.in-Some.i).facts.files - 1
last_of c = c.next_page-file.ensures.0 ∙ ap (λ (y : Facts). length y.files - 1) c.job.ensures

pub next_page-file-requires : goal.next_page-file-requires
next_page-file-requires c =
    let r = c.self.invariant.reached in
    let w = c.if-not-can_end.ensures.0 refl in
    let g = last_file Outlines r.0 r.1 (core_view c.self.inside) r.2 c.args.job c.in-Some.i (found c.self.inside c.args.job c.in-Some.i c.in-Some.ensures.found) w.0 w.2 in
    subst (λ (y : Facts). 0 < length y.files) (sym c.job.ensures) g.some

-- the job whose file ended
module _ (c : After-end_file) (w : CanEnd (job_at c.self.inside.book c.in-Some.i)) where
  abbrev a : Inside
  a = c.self.inside

  abbrev job : HeldJob
  job = closed_file (job_at a.book c.in-Some.i)

  place : Found (core_view a) c.args.job c.in-Some.i
  place = found a c.args.job c.in-Some.i c.in-Some.ensures.found

  stands : job_at c.end_file.new.self c.in-Some.i ≡ job
  stands = put_there a.book c.end_file.new.self c.in-Some.i job place.there c.end_file.ensures

  idle : IsIdle (job_at c.end_file.new.self c.in-Some.i).chain
  idle = let r = c.self.invariant.reached in subst (λ (q : HeldJob). IsIdle q.chain) (sym stands) (end_idle Outlines r.0 r.1 (core_view a) r.2 c.args.job c.in-Some.i place w)

  counts : let q = job_at c.end_file.new.self c.in-Some.i in (a.pool.free + unprinted q ≤ a.pool.pages) × (unprinted q ≤ 65536) × (unprinted q ≤ amount (row_at a.table.rows c.in-Some.i).held 0)
  counts =
      let r = c.self.invariant.reached in
      let n = end_counted Outlines r.0 r.1 (core_view a) r.2 c.args.job c.in-Some.i place c.self.invariant.ranges (unprinted job) w refl in
      subst (λ (z : HeldJob). (a.pool.free + unprinted z ≤ a.pool.pages) × (unprinted z ≤ 65536) × (unprinted z ≤ amount (row_at a.table.rows c.in-Some.i).held 0)) (sym stands)
      (pool_room Outlines r.0 r.1 (core_view a) r.2 (unprinted job) n.stored, n.few, n.held)

  stored : (file : ℕ) → file ≡ length (job_at a.book c.in-Some.i).facts.files - 1 → has_prints (job_at a.book c.in-Some.i).facts ≡ false
      → IsRight (core_view a) (Ended c.args.job Stored file (record (core_view a) { book = c.end_file.new.self }) (core_view a))
  stored file is p d b h l =
      subst (EndsFile d b h (core_view a) c.args.job (record (core_view a) { book = c.end_file.new.self }) Stored) (sym is)
      (subst (λ (z : Books). EndsFile d b h (core_view a) c.args.job (record (core_view a) { book = z }) Stored (length (job_at a.book c.in-Some.i).facts.files - 1)) (sym c.end_file.ensures)
      (end_stored d b h (core_view a) l c.args.job c.in-Some.i place c.self.invariant.ranges w p))

-- whether it prints something is as it was
prints : (c : After-has_prints) → has_prints (job_at c.self.inside.book c.in-Some.i).facts ≡ c.has_prints.result
prints c = sym (c.has_prints.ensures ∙ (ap has_prints c.job-2.ensures
    ∙ ap (λ (q : HeldJob). has_prints q.facts) (put_there c.self.inside.book c.end_file.new.self c.in-Some.i (closed_file (job_at c.self.inside.book c.in-Some.i)) c.in-Some.ensures.found.0 c.end_file.ensures)))

pub invariant_of-self : goal.invariant_of-self
invariant_of-self c =
    let x = goal.at.invariant_of-self c in
    let r = c.self.invariant.reached in
    still c.self.inside _ c.self.invariant refl refl refl (r.0, _, (stored x.After-end_file (c.if-not-can_end.ensures.0 refl) _ refl (prints x.After-has_prints ∙ c.if-not-has_prints.true) Outlines r.0 r.1 r.2).1)

pub returns-then-not-has_prints-clause-ended : goal.returns-then-not-has_prints-clause-ended
returns-then-not-has_prints-clause-ended c =
    let x = goal.at.returns-then-not-has_prints-clause-ended c in
    subst (λ (k : Kept). IsRight k (Ended c.args.job Stored c.next_page-file.result.file (record (core_view c.self.inside) { book = c.end_file.new.self }) k)) c.self.view_is
    (stored x.After-end_file (c.if-not-can_end.ensures.0 refl) c.next_page-file.result.file (last_of x.After-next_page-file) (prints x.After-has_prints ∙ c.if-not-has_prints.true))

pub receive-requires-clause-idle : goal.receive-requires-clause-idle
receive-requires-clause-idle c = idle (goal.at.receive-requires-clause-idle c).After-end_file (c.if-not-can_end.ensures.0 refl)

pub receive-requires-clause-room : goal.receive-requires-clause-room
receive-requires-clause-room c = (counts (goal.at.receive-requires-clause-room c).After-end_file (c.if-not-can_end.ensures.0 refl)).0

pub receive-requires-clause-few : goal.receive-requires-clause-few
receive-requires-clause-few c = (counts (goal.at.receive-requires-clause-few c).After-end_file (c.if-not-can_end.ensures.0 refl)).1

pub receive-requires-clause-held : goal.receive-requires-clause-held
receive-requires-clause-held c = (counts (goal.at.receive-requires-clause-held c).After-end_file (c.if-not-can_end.ensures.0 refl)).2

-- the job is received by it
received : (c : After-receive) → CanEnd (job_at c.self.inside.book c.in-Some.i) → has_prints (job_at c.self.inside.book c.in-Some.i).facts ≡ true
    → let new : Kept = record (core_view c.self.inside) { pool = c.receive.new.pool; book = c.receive.new.book; table = c.receive.new.table } in
    IsRight (core_view c.self.inside) (Ended c.args.job Received (length (job_at c.self.inside.book c.in-Some.i).facts.files - 1) new (core_view c.self.inside))
received c w p d b h l =
    let a = c.self.inside in
    let job : HeldJob = closed_file (job_at a.book c.in-Some.i) in
    let f = found a c.args.job c.in-Some.i c.in-Some.ensures.found in
    let e = c.receive.ensures in
    subst (λ (z : Kept). EndsFile d b h (core_view a) c.args.job z Received (length (job_at a.book c.in-Some.i).facts.files - 1))
    (received_pack a c.end_file.new.self c.receive.new.book c.receive.new.pool c.receive.new.table c.in-Some.i job f.there c.end_file.ensures e.book e.pool e.table)
    (end_received d b h (core_view a) l c.args.job c.in-Some.i f c.self.invariant.ranges (unprinted job) w p refl)

pub invariant_of-self-2 : goal.invariant_of-self-2
invariant_of-self-2 c =
    let x = goal.at.invariant_of-self-2 c in
    let r = c.self.invariant.reached in
    still c.self.inside _ c.self.invariant refl refl refl (r.0, _, (received x.After-receive (c.if-not-can_end.ensures.0 refl) (prints x.After-has_prints ∙ c.if-not-has_prints.false) Outlines r.0 r.1 r.2).1)

pub returns-clause-ended : goal.returns-clause-ended
returns-clause-ended c =
    let x = goal.at.returns-clause-ended c in
    let new : Kept = record (core_view c.self.inside) { pool = c.receive.new.pool; book = c.receive.new.book; table = c.receive.new.table } in
    let got = received x.After-receive (c.if-not-can_end.ensures.0 refl) (prints x.After-has_prints ∙ c.if-not-has_prints.false) in
    subst (λ (k : Kept). IsRight k (Ended c.args.job Received c.next_page-file.result.file new k)) c.self.view_is
    (subst (λ (n : ℕ). IsRight (core_view c.self.inside) (Ended c.args.job Received n new (core_view c.self.inside))) (sym (last_of x.After-next_page-file)) got)
