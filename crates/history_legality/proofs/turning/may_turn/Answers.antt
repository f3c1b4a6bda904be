use Rattle.std.proofs.Common.{◌≡◌, ◌↔◌, Bool, List, map, subst, sym}
use Rattle.std.specs.Prelude.{IfOk, IsTrue}
use Rattle.spool_history.specs.Now.{Job}
use Rattle.spool_history.specs.Legal as L
use Rattle.account.specs.declared.entry.Outline.{Outline}
use Rattle.account.specs.declared.entry.Turn as U
use Rattle.history_reader.specs.declared.state.Job as R
use Rattle.account.specs.Seen.{progress_seen, sheet_seen, turn_seen}
use Rattle.history_reader.specs.Seen.{job_seen, state_seen}
use Rattle.spool_history.specs.Legal.{HasJob}
use Rattle.history_legality.proofs.OrderLaws.{if_ok_iff}
use Rattle.history_legality.proofs.turning.may_turn.Goals as goal

pub returns-else-not-is_out : goal.returns-else-not-is_out
returns-else-not-is_out c =
    let v = state_seen c.args.config.now c.args.state.now in
    let sheet = sheet_seen c.args.sheet.now in
    let progress = progress_seen c.in-Printed.progress in
    let P : Job Outline → Type 0 = λ w. progress ≡ L.progress_of w in
    let r = c.some_job_makes.result in
    let told : IfOk r (λ (b : Bool). IsTrue b ↔ HasJob v.jobs sheet.job P) = subst (λ (jobs : List R.Job). IfOk r (λ (b : Bool). IsTrue b ↔ HasJob (map job_seen jobs) sheet.job P)) c.as_slice.ensures.value c.some_job_makes.ensures in
    let out = c.is_out.ensures.0 c.if-not-is_out.false in
    subst (λ (t : U.Turn). IfOk r (λ (b : Bool). IsTrue b ↔ L.MayTurn v c.args.printer sheet (turn_seen t))) (sym c.in-Printed.is)
    (if_ok_iff r (λ made. (out, made)) (λ h. h.1) told)
