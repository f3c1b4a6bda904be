use Rattle.std.proofs.Common.{ℕ, true, false, List, [], drop, refl, lit≤, lit<}
use Rattle.spool_history.specs.Events.{Event}
use Rattle.spool_history.specs.Events.Act.{Began, Put, FileEnded, Controlled}
use Rattle.spool_history.specs.Events.Progress.{Done}
use Rattle.worked_histories.specs.Rows.{control, data_name, sheet}
use Rattle.worked_histories.specs.MoreRows.{again, short_job}
use Rattle.worked_histories.specs.Bases.{after_one}
use Rattle.worked_histories.proofs.Legal.{Legal, acts, lent, first_file, prints}
use Rattle.worked_histories.proofs.rows.after_rotation.Goals as goal

abbrev before : ℕ → List (Event (List ℕ))
before n = drop n (short_job 2 1)

received : Legal after_one (short_job 2 1)
received =
    acts after_one (before 1) 2 (Controlled (control 2) true) (lit< tt) refl ((refl, refl), refl, refl) (record { number = lit≤ tt; host = refl; user = refl; prints = refl })
    (acts after_one (before 2) 2 (FileEnded 0 false) (lit< tt) refl ((refl, refl), refl, ([], first_file after_one (before 2), refl, refl, refl, refl), refl) tt
    (acts after_one (before 3) 2 (Put 0 0 again) (lit< tt) refl ((refl, refl), refl, ([], first_file after_one (before 3), refl, refl, refl, (refl, lit< tt, refl))) tt
    (lent after_one (before 4) 2 1 1 2 (lit< tt) refl (((refl, refl), refl, refl), lit< tt) (lit< tt) refl (lit≤ tt) (lit≤ tt)
    (acts after_one (before 5) 2 (Began (data_name 2) 5) (lit< tt) refl ((refl, refl), refl, refl, lit< tt, lit≤ tt) (lit< tt)
    ((refl, (lit≤ tt, lit≤ tt), lit< tt, lit≤ tt, refl, lit< tt), tt)))))

pub returns : goal.returns
returns c = record {
  base = refl;
  free = refl;
  is_legal = prints after_one (short_job 2 1) (sheet 2 0 again) Done refl refl (lit< tt) refl refl received;
  next = refl;
  free_again = refl;
  reserved = refl;
}
