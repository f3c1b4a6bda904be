use Rattle.std.proofs.Common.{◌≡◌, ℕ, ◌<◌, List, [], ◌∷◌, refl, ap, arith, length}
use Rattle.spool_history.specs.Events.{Sheet}
use Rattle.worked_histories.proofs.rows.joined.Goals as goal

-- the job and the place of the first of these pages, and how long it is; the job of the second
abbrev job_first : List (Sheet (List ℕ)) → ℕ
job_first [] = 9
job_first (s ∷ ss) = s.job

abbrev job_second : List (Sheet (List ℕ)) → ℕ
job_second [] = 9
job_second (s ∷ ss) = job_first ss

abbrev place_first : List (Sheet (List ℕ)) → ℕ
place_first [] = 9
place_first (s ∷ ss) = s.place

abbrev place_second : List (Sheet (List ℕ)) → ℕ
place_second [] = 9
place_second (s ∷ ss) = place_first ss

abbrev octets_first : List (Sheet (List ℕ)) → ℕ
octets_first [] = 9
octets_first (s ∷ ss) = length s.page

pub returns-clause-joins : goal.returns-clause-joins
returns-clause-joins c = record {
  numbers = refl;
  none = (refl, refl);
  first = (refl, refl);
  both = (refl, refl);
  copies = (refl, refl);
  of_removed = (refl, refl);
  other_sender = (refl, refl);
  other_queue = (refl, refl);
}

pub returns-clause-others : goal.returns-clause-others
returns-clause-others c = record {
  half_received = λ j. let e : ◌≡◌ {A = ℕ} 1 0 = j.none_unreceived (record { job = 1; sender = 1; queue = 1 }) (0, omega arith, refl) refl in omega arith;
  later_first = λ j. let e : ◌≡◌ {A = ℕ} 1 0 = j.none_behind_held (record { job = 1; sender = 1; queue = 1 }) (record { job = 2; sender = 1; queue = 1 }) (0, omega arith, refl) (1, omega arith, refl) (omega arith) refl in omega arith;
  while_one_is_dying = λ j. let e : ◌≡◌ {A = ℕ} 1 0 = j.none_behind_held (record { job = 1; sender = 1; queue = 1 }) (record { job = 2; sender = 1; queue = 1 }) (0, omega arith, refl) (1, omega arith, refl) (omega arith) refl in omega arith;
  later_was_first = λ j. let e : ◌≡◌ {A = ℕ} 2 1 = ap job_first j.join in omega arith;
  later_was_between = λ j. let e : ◌≡◌ {A = ℕ} 2 1 = ap job_second j.join in omega arith;
  place_left_out = λ j. let e : ◌≡◌ {A = ℕ} 1 0 = ap place_first j.join in omega arith;
  place_twice = λ j. let e : ◌≡◌ {A = ℕ} 0 1 = ap place_second j.join in omega arith;
  other_bytes = λ j. let e : ◌≡◌ {A = ℕ} 5 8 = ap octets_first j.join in omega arith;
  done_early = λ j. let e : ◌≡◌ {A = ℕ} 1 2 = j.all_of_done (record { job = 1; sender = 1; queue = 1 }) (0, omega arith, refl) refl in omega arith;
  numbers_fall = λ j. let e : 2 < 1 = j.rising 0 (omega arith) in omega arith;
}
