use Rattle.control_lines.proofs.LineLemmas.{holds_none, refused, releases_none, starts_none}
use Rattle.control_lines.proofs.verb.Verb.with.Goals as goal

pub returns-in_err-queue-in-Start : goal.returns-in_err-queue-in-Start
returns-in_err-queue-in-Start c =
    rw c.in-Start.is (
    refused _ c.in_err-queue-in-Start.field-0.0 c.from_residual.result c.from_residual.ensures.1
    (starts_none c.args.operand.now _ c.in_err-queue-in-Start.ensures)
    )

pub returns-in_err-queue-in-Hold : goal.returns-in_err-queue-in-Hold
returns-in_err-queue-in-Hold c =
    rw c.in-Hold.is (
    refused _ c.in_err-queue-in-Hold.field-0.0 c.from_residual-in_err-queue-in-Hold.result c.from_residual-in_err-queue-in-Hold.ensures.1
    (holds_none c.args.operand.now _ c.in_err-queue-in-Hold.ensures)
    )

pub returns-in_err-queue-in-Release : goal.returns-in_err-queue-in-Release
returns-in_err-queue-in-Release c =
    rw c.in-Release.is (
    refused _ c.in_err-queue-in-Release.field-0.0 c.from_residual-in_err-queue-in-Release.result c.from_residual-in_err-queue-in-Release.ensures.1
    (releases_none c.args.operand.now _ c.in_err-queue-in-Release.ensures)
    )
