use Rattle.std.proofs.Common.{◌≡◌, ◌<◌, ◌^◌, ◌∙◌, true, length, sym, ap, arith, rules}
use Rattle.std.specs.Fmt.{decimal}
use Rattle.std.proofs.lemmas.Bool.{le-leb, leb-true}
use Rattle.printer_names.specs.Texts.{is_digits}
use Rattle.printer_names.proofs.NameLemmas.{named_number, number_named}
use Rattle.printer_names.proofs.named.is_name.Goals as goal

pub returns-then-number-ge1 : goal.returns-then-number-ge1
returns-then-number-ge1 c =
    let name = c.args.name.now in
    let n = c.in-Some.number in
    let is : name ≡ decimal n = sym c.as_bytes-2.ensures.value ∙ c.in-Some.ensures in
    let digits : is_digits name ≡ true = sym (c.is_digits.ensures ∙ ap is_digits c.as_bytes.ensures.value) ∙ c.if-not-is_digits.false in
    let some : 0 < length name = search rules in
    let small : n < 2 ^ 64 = omega (arith, c) in (
      λ within. let most = leb-true n c.from.result within in named_number name n digits is some (omega arith) (omega (arith, c.from.ensures, most)),
      λ named. let r = number_named name n small digits is named in le-leb n c.from.result (omega (arith, c.from.ensures, r.1)),
    )

pub returns-else-number-ge1 : goal.returns-else-number-ge1
returns-else-number-ge1 c =
    let name = c.args.name.now in
    let n = c.in-Some.number in
    let is : name ≡ decimal n = sym c.as_bytes-2.ensures.value ∙ c.in-Some.ensures in
    let digits : is_digits name ≡ true = sym (c.is_digits.ensures ∙ ap is_digits c.as_bytes.ensures.value) ∙ c.if-not-is_digits.false in
    let small : n < 2 ^ 64 = omega (arith, c) in (
      λ within. let low = leb-true 1 n within in absurd (omega (arith, c.if-number-ge1.false, low)),
      λ named. let r = number_named name n small digits is named in absurd (omega (arith, c.if-number-ge1.false, r.0)),
    )
