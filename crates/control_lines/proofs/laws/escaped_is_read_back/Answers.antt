use Rattle.std.proofs.Common.{arith}
use Rattle.std.proofs.lemmas.List.Elements.{All-from_get_or}
use Rattle.percent_encoding.proofs.PercentLemmas.{IsByte}
use Rattle.control_lines.proofs.EscapeLemmas.{read_back}
use Rattle.control_lines.proofs.laws.escaped_is_read_back.Goals as goal

pub returns : goal.returns
returns c =
    read_back c.args._octets.now (All-from_get_or IsByte c.args._octets.now 0 (λ i within. omega (arith, c.type_inv._octets i)))
