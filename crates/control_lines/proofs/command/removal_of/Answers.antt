use Rattle.std.proofs.Common.{◌∙◌, sym}
use Rattle.control_lines.proofs.LineLemmas.{refused, removes, removes_none}
use Rattle.control_lines.specs.declared.command.CommandFault.TheVariants.{Memory}
use Rattle.control_lines.proofs.command.removal_of.Goals as goal

pub returns-then-not-is_whom : goal.returns-then-not-is_whom
returns-then-not-is_whom c = λ command m.
    let whom = (removes c.args.operands.now c.in-Some.queue.now c.in-Some.whom.now c.in-Some.ensures command m).1 in
    let none = c.is_whom.ensures in let not_ = c.if-not-is_whom.true in absurd (cc)

pub returns-in_err-queue : goal.returns-in_err-queue
returns-in_err-queue c =
    refused _ c.in_err-queue.field-0.0 c.from_residual.result c.from_residual.ensures.1
    (removes_none c.args.operands.now c.in-Some.queue.now c.in-Some.whom.now _ c.in-Some.ensures (sym c.is_whom.ensures ∙ c.if-not-is_whom.false) c.in_err-queue.ensures)

pub returns-in_err-whom : goal.returns-in_err-whom
returns-in_err-whom c =
    refused _ Memory c.from_residual-in_err-whom.result c.from_residual-in_err-whom.ensures.1
    (removes_none c.args.operands.now c.in-Some.queue.now c.in-Some.whom.now Memory c.in-Some.ensures (sym c.is_whom.ensures ∙ c.if-not-is_whom.false) c.in_ok-queue.ensures.1)
