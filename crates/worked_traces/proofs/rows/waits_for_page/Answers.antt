use Rattle.std.proofs.Common.{ℕ, ◌≤◌, ◌<◌, List, refl, arith, lit≤, lit<}
use Rattle.std.specs.Prelude.{slice_index_or}
use Rattle.claims.proofs.TwoRows.{not_safe}
use Rattle.spool_history.specs.Base.{first_base}
use Rattle.spool_history.specs.Events.Act.{Granted}
use Rattle.spool_history.specs.Events.Event.{OfJob}
use Rattle.spool_history.specs.Now.{Job, State, free_amount, now}
use Rattle.spool_history.specs.Steps.{after, new_job}
use Rattle.spool_history.specs.Legal.{MayGrant}
use Rattle.worked_histories.specs.Rows.{small}
use Rattle.worked_histories.proofs.Legal.{row}
use Rattle.worked_traces.specs.Waiting.{both_began}
use Rattle.worked_traces.proofs.rows.waits_for_page.Goals as goal

abbrev v : State (List ℕ)
v = now small first_base both_began

abbrev second : Job (List ℕ)
second = slice_index_or v.jobs 1 (new_job 0 0 0)

not_granted : MayGrant v 2 → ⊥
not_granted m =
    not_safe (free_amount (after (OfJob 2 Granted) v)) (row 1 1 1 2) (row 2 1 2 1) (λ h. let e : 2 ≤ 1 = h 0 in omega arith) (λ h. let e : 2 < 1 = h refl in omega arith) m.1

pub returns : goal.returns
returns c = record {
  shows = refl;
  later = record {
    due = ((lit≤ tt, lit≤ tt), refl, (refl, (record { job = second; there = (1, lit< tt, refl); number = refl; is = (((refl, refl), refl, refl), lit< tt) }, not_granted)));
    may = tt;
  };
  not_lent = λ r. not_granted r.may.1;
}
