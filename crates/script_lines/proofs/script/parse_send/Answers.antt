use Rattle.script_lines.proofs.LineLemmas.{refused, sends_no_number, sends_no_octets}
use Rattle.script_lines.proofs.script.parse_send.Goals as goal

pub returns-in_err-session : goal.returns-in_err-session
returns-in_err-session c =
    refused _ c.in_err-session.field-0.0 c.from_residual.result c.from_residual.ensures.1
    (sends_no_number c.args.operands.now _ _ _ c.in-Some.ensures c.in_err-session.ensures)

pub returns-in_err-octets_of : goal.returns-in_err-octets_of
returns-in_err-octets_of c =
    refused _ c.in_err-octets_of.field-0.0 c.from_residual-in_err-octets_of.result c.from_residual-in_err-octets_of.ensures.1
    (sends_no_octets c.args.operands.now _ _ _ _ c.in-Some.ensures c.in_ok-session.ensures c.in_err-octets_of.ensures)
