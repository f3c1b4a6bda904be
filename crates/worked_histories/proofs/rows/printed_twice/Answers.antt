use Rattle.std.proofs.Common.{refl, lit≤, lit<}
use Rattle.spool_history.specs.Base.{first_base}
use Rattle.spool_history.specs.Events.Progress.{Going, Done}
use Rattle.worked_histories.specs.Rows.{data_name, hello, rld}
use Rattle.worked_histories.specs.Copies.{twice, copied, copy, back_0, back_1, back_2}
use Rattle.worked_histories.proofs.Legal.{prints, controlled}
use Rattle.worked_histories.proofs.rows.printed_twice.Goals as goal

pub returns : goal.returns
returns c =
    let received = controlled (data_name 1) twice (record { number = lit≤ tt; host = refl; user = refl; prints = refl }) refl in
    let first = prints first_base copied (copy 0 0 hello) Going refl refl (lit< tt) refl refl received in
    let second = prints first_base back_0 (copy 1 1 rld) Going refl refl (lit< tt) refl refl first in
    let third = prints first_base back_1 (copy 2 0 hello) Going refl refl (lit< tt) refl refl second in
    record { is_legal = prints first_base back_2 (copy 3 1 rld) Done refl refl (lit< tt) refl refl third; places = refl; next = refl; said = refl; free = refl; free_out = refl }
