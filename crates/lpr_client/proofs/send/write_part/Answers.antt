use Rattle.std.proofs.Common.{◌∙◌, ap, subst}
use Rattle.std.proofs.lemmas.Result.{err_from_is_err_and, on_err_weaker}
use Rattle.lpd_commands.specs.Ends.{WritesSome, one_more}
use Rattle.lpd_commands.proofs.Writing.{some_of_front, some_after}
use Rattle.lpr_client.proofs.send.write_part.Goals as goal

pub returns-in_err-write_all-clause-err : goal.returns-in_err-write_all-clause-err
returns-in_err-write_all-clause-err g c =
    let failed = c.in_err-write_all.ensures.err in
    let returned = err_from_is_err_and c.from_residual.result c.from_residual.ensures.1 in
    rw returned.1 (subst (WritesSome _ _) c.octets.ensures (some_of_front _ _ c.octets.result.0.now c.octets.result.1.now failed.0), failed.1)

pub returns-clause-err : goal.returns-clause-err
returns-clause-err g c =
    let before = c.in_ok-write_all.ensures.ok in
    on_err_weaker c.write_all-2.result
    (λ failed. (subst (WritesSome _ _) c.octets.ensures (some_after _ _ _ c.octets.result.0.now c.octets.result.1.now before.0 failed.0), failed.1 ∙ ap one_more before.1)) c.write_all-2.ensures.err
