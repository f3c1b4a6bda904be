use Rattle.std.proofs.Common.{◌≡◌, ◌<◌, ◌∙◌, List, ap, filter, map, subst, sym}
use Rattle.spool_history.specs.Events.{Event}
use Rattle.spool_history.specs.Events.Act.{Granted}
use Rattle.spool_history.specs.Events.Event.{OfJob}
use Rattle.spool_history.specs.Legal as L
use Rattle.spool_history.specs.Now as N
use Rattle.spool_history.specs.Steps.{after, change}
use Rattle.account.specs.declared.entry.Outline.{Outline}
use Rattle.account.specs.Seen.{event_seen, octets}
use Rattle.history_reader.specs.declared.state.Job.{Job}
use Rattle.history_reader.specs.Seen.{job_seen, state_seen}
use Rattle.account_audit.proofs.StepLaws.{lent_state}
use Rattle.account_audit.proofs.steps.grant.Goals as goal

pub returns-clause-exact : goal.returns-clause-exact
returns-clause-exact c =
    let config = c.args.config.now in
    let v = state_seen config c.args.state.now in
    let n = c.args.number in
    let may = L.JobMay octets config Granted in
    let e : event_seen c.args.entry.now ≡ OfJob n Granted = c.requires.is in
    let has : L.HasJob v.jobs n may = subst (λ (l : List Job). L.HasJob (map job_seen l) n may) c.as_slice.ensures.value (c.may_ask.ensures.0 c.if-not-may_ask.false) in
    let free : 0 < N.free_pages v = c.in_ok-has_free_page.ensures.0 c.if-not-branch.false in
    let jobs = map job_seen c.move_jobs.new.jobs.items in
    let moved : record v { jobs = jobs } ≡ after (OfJob n Granted) v =
    lent_state v n jobs (c.in_ok-move_jobs.ensures.value ∙ ap (λ (x : Event Outline). filter N.is_held (map (change x) v.jobs)) e) in (
      λ t. subst (λ (x : Event Outline). L.May octets v x) (sym e) (has, (free, subst (λ (w : N.State Outline). N.IsSafeNow w) moved (c.in_ok-safe.ensures.0 t))),
      λ m. c.in_ok-safe.ensures.1 (subst (λ (w : N.State Outline). N.IsSafeNow w) (sym moved) (subst (λ (x : Event Outline). L.May octets v x) e m).1.1),
    )
