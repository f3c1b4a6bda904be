use Rattle.std.proofs.Common.{◌≡◌, ℕ, zero, suc, subst, sym, ◌≤◌, ◌<◌, List, [], ◌∷◌, length, refl, ap, arith, lit≤, lit<}
use Rattle.std.specs.Prelude.{slice_index_or}
use Rattle.std.specs.Fmt.{digits}
use Rattle.spool_history.specs.Base.{first_base}
use Rattle.spool_history.specs.Events.Event.{Opened}
use Rattle.spool_history.specs.Now.{Job, State, now}
use Rattle.spool_history.specs.Steps.{new_job}
use Rattle.spool_history.specs.Legal.{HasJob}
use Rattle.worked_histories.specs.Rows.{small}
use Rattle.worked_traces.specs.Asking.{state_line, stopped_line}
use Rattle.worked_traces.proofs.rows.right_replies.Goals as goal

abbrev v : State (List ℕ)
v = now small first_base (Opened 1 1 1 ∷ [])

abbrev only : Job (List ℕ)
only = slice_index_or v.jobs 0 (new_job 0 0 0)

single : (x y : Job (List ℕ)) (k : ℕ) → k < 1 → slice_index_or (x ∷ []) k y ≡ y → x ≡ y
single x y zero lt e = e
single x y (suc k) lt e = absurd (omega (arith, lt))

-- what holds of the job of number 1 holds of the only one
the_job : (P : Job (List ℕ) → Type 0) → HasJob v.jobs 1 P → P only
the_job P m = subst P (sym (single only m.job m.there.0 m.there.1 m.there.2)) m.is

some_room : (P : Type 0) → (P → ⊥) → P → ⊥
some_room P f p = f p

too_many : 4 ≤ 3 → ⊥
too_many h = omega arith

pub returns : goal.returns
unfolding digits
returns c = record {
  refusal_shows = refl;
  over_claim = record { due = ((lit≤ tt, lit≤ tt), refl, (refl, record { job = only; there = (0, lit< tt, refl); number = refl; is = ((refl, refl), refl, refl, lit< tt, too_many) })); may = tt };
  not_full = λ r. some_room _ (the_job _ r.due.2.1).3 (lit< tt);
  not_begun = λ r. too_many (the_job _ r.may.0).4;
  state_shows = refl;
  state = record { due = ((lit≤ tt, lit≤ tt), refl, (refl, ((lit≤ tt, lit≤ tt), refl))); may = tt };
  no_other_state = λ r. let e : stopped_line ≡ state_line = r.due.2.1.1 in omega (arith, ap length e);
}
