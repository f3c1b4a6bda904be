use Rattle.std.proofs.Common.{◌≡◌, ◌∙◌, ◌++◌, ◌∷◌, [], add-one, ap, drop, subst, suc, sym, take, Some}
use Rattle.printer_names.specs.Texts.{IsNamedText}
use Rattle.program_words.proofs.AllowLemmas.{texts}
use Rattle.program_words.proofs.PrinterLemmas.{one_has_name, one_more_differs, one_more_said, text_between}
use Rattle.program_words.proofs.printers.printers_of.Goals as goal

pub returns-in_default-read-clause-fault : goal.returns-in_default-read-clause-fault
returns-in_default-read-clause-fault c =
    let i = c.loop-text.text-index in
    let all = texts c.in-Ok.texts.now in (
      c.loop-text.printers.items,
      (
        take i all,
        drop (suc i) all,
        rw c.in_ok-from_str.ensures.ok (c.in-Ok.ensures.texts ∙ ap Some (text_between c.in-Ok.texts.now i _ c.loop-text-test.true)),
        c.loop-text.invariant.said,
        c.loop-text.invariant.once,
      ),
      λ said is. c.in_default-read.ensures.none said (subst (λ t. IsNamedText t said) c.in_ok-from_str.ensures.ok is),
    )

pub returns-then-has_name-clause-fault : goal.returns-then-has_name-clause-fault
returns-then-has_name-clause-fault c =
    let i = c.loop-text.text-index in
    let all = texts c.in-Ok.texts.now in (
      c.loop-text.printers.items,
      (
        take i all,
        drop (suc i) all,
        rw c.in_ok-from_str-2.ensures.ok (c.in-Ok.ensures.texts ∙ ap Some (text_between c.in-Ok.texts.now i _ c.loop-text-test.true)),
        c.loop-text.invariant.said,
        c.loop-text.invariant.once,
      ),
      (
        c.in-Some.said,
        rw c.in_ok-from_str-2.ensures.ok c.in-Some.ensures.said,
        one_has_name c.loop-text.printers.items c.in-Some.said.name.now (rw c.as_slice.ensures.value at (sym c.has_name.ensures ∙ c.if-has_name.true)),
      ),
    )

pub loop-text-preserved : goal.loop-text-preserved
loop-text-preserved c =
    let items : c.push.new.self.items ≡ c.loop-text.printers.items ++ c.in-Some.said ∷ [] =
    rw c.in_ok-push.was at c.push.ensures.items in
    let more =
    one_more_said c.in-Ok.texts.now c.loop-text.text-index _ c.loop-text.printers.items c.in-Some.said c.loop-text-test.true
    c.loop-text.invariant.said c.in-Some.ensures.said in
    let differ =
    one_more_differs c.loop-text.printers.items c.in-Some.said c.loop-text.invariant.once
    (rw c.as_slice.ensures.value at (sym c.has_name.ensures ∙ c.if-has_name.false)) in
    record {
      said = rw (items, add-one) more;
      once = rw items differ;
    }
