use Rattle.std.proofs.Common.{drop, refl, lit≤, lit<}
use Rattle.spool_history.specs.Base.{first_base}
use Rattle.spool_history.specs.Events.Progress.{Going, Done}
use Rattle.worked_histories.specs.Rows.{control, data_name, hello, rld, sheet, one_job}
use Rattle.worked_histories.proofs.Legal.{prints, controlled}
use Rattle.worked_histories.proofs.rows.one_job_is_legal.Goals as goal

pub returns : goal.returns
returns c =
    let received = controlled (data_name 1) (control 1) (record { number = lit≤ tt; host = refl; user = refl; prints = refl }) refl in
    let first = prints first_base (drop 5 one_job) (sheet 1 0 hello) Going refl refl (lit< tt) refl refl received in
    (refl, prints first_base (drop 3 one_job) (sheet 1 1 rld) Done refl refl (lit< tt) refl refl first)
