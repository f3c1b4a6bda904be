use Rattle.std.proofs.Common.{◌≡◌, true, List, ℕ, sym, ◌∙◌, ap, arith}
use Rattle.std.specs.Str.{bytes_eq}
use Rattle.std.proofs.lemmas.List.{get_or_default}
use Rattle.page_chain.specs.declared.run.Run.{Run}
use Rattle.page_chain.specs.Held.{no_run, run_at}
use Rattle.page_chain.proofs.Named.{number_is, number_none}
use Rattle.page_chain.proofs.run.find.Goals as goal

pub returns-then-eq : goal.returns-then-eq
returns-then-eq c =
    let files = c.args.files.now in
    let i = c.loop-i.i in
    let lt = c.loop-i-test.true in
    let run = get_or_default files i c.index-files-i.result no_run lt in
    let named : bytes_eq (run_at files i).name c.args.name.now ≡ true =
    ap (λ (r : Run). bytes_eq r.name c.args.name.now) (sym run)
    ∙ (ap (λ (n : List ℕ). bytes_eq n c.args.name.now) (sym c.octets.ensures.value)
    ∙ (ap (bytes_eq c.octets.result.now) (sym c.octets-in-loop-i.ensures.value)
    ∙ (sym c.eq.ensures ∙ c.if-eq.true))) in
    sym (number_is files c.args.name.now i lt named c.loop-i.invariant)

pub returns : goal.returns
returns c =
    let t = c.loop-i-test.false in
    sym (number_none c.args.files.now c.args.name.now (λ j lt. c.loop-i.invariant j (omega (arith, t, lt))))
