use Rattle.std.proofs.Common.{◌<◌, length, arith, sym, ◌∙◌}
use Rattle.std.proofs.lemmas.Bool.Decides.{nat_tests}
use Rattle.std.proofs.lemmas.List.Sums.{AllPass-from_list_all, list_all-from_AllPass}
use Rattle.hex.specs.Hex.{is_hex_digit}
use Rattle.hex.proofs.HexLemmas.{decode_of-ok, decode_of-digits}
use Rattle.script_lines.proofs.script.octets_of.Goals as goal
use Rattle.script_lines.proofs.script.octets_of.Goals.{then-is_empty-via-then-is_empty, then-is_empty-via-else-is_empty+then-digits-ne0, then-is_empty-via-else-is_empty+else-digits-ne0+then-not-are_hexadecimal}

pub returns-then-is_empty : goal.returns-then-is_empty
returns-then-is_empty c = λ octets h.
    let some = h.0 in let none = c.is_empty.ensures in
    let decoded = decode_of-ok c.args.digits.now octets h.1 in
    elim c.then-is_empty.branch [
      | then-is_empty-via-then-is_empty w ↦ let true = w.if-is_empty.true in grind (arith, nat_tests)
      | then-is_empty-via-else-is_empty+then-digits-ne0 w ↦ absurd (omega (arith, decoded.0, w.if-digits-ne0.true))
      | then-is_empty-via-else-is_empty+else-digits-ne0+then-not-are_hexadecimal w ↦
          let all = list_all-from_AllPass is_hex_digit c.args.digits.now decoded.1 in
          let none = w.are_hexadecimal.ensures in let not = w.if-not-are_hexadecimal.true in
          absurd (cc)
    ]

pub returns-in-Err : goal.returns-in-Err
returns-in-Err c =
    let digits =
    AllPass-from_list_all is_hex_digit c.args.digits.now
    (sym c.are_hexadecimal.ensures ∙ c.if-not-are_hexadecimal.false) in
    let octets = decode_of-digits c.args.digits.now (omega arith) digits in
    let none = c.is_empty.ensures in let false = c.if-is_empty.false in
    let some : 0 < length c.args.digits.now = grind (arith, nat_tests) in
    (octets.0, (some, octets.1))
