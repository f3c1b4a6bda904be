use Rattle.std.proofs.Common.{rules, tests, ◌≡◌, ◌∙◌, ap, ◌≤◌, length, arith}
use Rattle.std.specs.List.{list_all}
use Rattle.std.proofs.lemmas.Bool.Decides.{nat_tests}
use Rattle.std.proofs.lemmas.Iterator.{YieldsList-from_slice}
use Rattle.std.proofs.lemmas.Iterator.Search.{all_from_yields_List}
use Rattle.spool_config.specs.Faults.{is_printable, is_name}
use Rattle.spool_config.proofs.Rows.{is_name-fit}
use Rattle.spool_config.proofs.reading.is_name.Goals as goal

pub returns : goal.returns
returns c =
    let octets = c.as_bytes-octets.result.now in
    let plain : c.all.result ≡ list_all is_printable octets =
    all_from_yields_List is_printable _ _ c.all.result c.all.ensures.ran (YieldsList-from_slice octets cc) (λ x b q k. search (rules, tests)) in
    let low : 1 ≤ length octets = grind (arith, nat_tests, c.is_empty.ensures, c.if-is_empty.false) in
    let high : length octets ≤ 64 = omega (arith, c.if-octets-most.false, c.most.ensures) in
    plain ∙ is_name-fit octets low high ∙ ap is_name c.as_bytes-octets.ensures.value
