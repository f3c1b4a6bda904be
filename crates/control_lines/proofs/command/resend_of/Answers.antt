use Rattle.std.proofs.Common.{ℕ, List, ◌++◌, codes, subst, sym}
use Rattle.control_lines.specs.Commands.{Refuses}
use Rattle.control_lines.proofs.LineLemmas.{refused, resends_all_none}
use Rattle.control_lines.proofs.command.resend_of.Goals as goal

pub returns-in_err-queue : goal.returns-in_err-queue
returns-in_err-queue c =
    refused _ c.in_err-queue.field-0.0 c.from_residual.result c.from_residual.ensures.1
    (subst (λ (o : List ℕ). Refuses (codes "resend " ++ o) c.in_err-queue.field-0.0) (sym c.in-Some.ensures)
    (resends_all_none c.in-Some.name.now _ c.in_err-queue.ensures))
