use Rattle.std.proofs.Common.{rules, ◌≡◌, length, sym, ◌∙◌, arith}
use Rattle.std.proofs.lemmas.List.{nil_from_length}
use Rattle.std.proofs.lemmas.Slice.Eq.{bytes_eq-Decides}
use Rattle.lpd_script.proofs.LineCuts.{parted_end, parted_first, parted_mark, parted_more}
use Rattle.lpd_script.proofs.run.parts.Goals as goal

pub loop-line-init : goal.loop-line-init
loop-line-init c = record {
  room = omega (arith);
  parted = parted_first c.args.text.now;
}

pub returns-then-eq : goal.returns-then-eq
returns-then-eq c =
    parted_mark c.args.text.now c.loop-line.rest.now c.cut_line.result.0.now c.cut_line.result.1.now (search rules)
    c.loop-line.invariant.parted c.cut_line.ensures.cut
    ((bytes_eq-Decides c.cut_line.result.0.now c.as_slice.result.now).0 (sym c.if-eq.ensures) ∙ c.as_slice.ensures)

pub loop-line-preserved : goal.loop-line-preserved
loop-line-preserved c = record {
  room = search rules;
  parted = parted_more c.args.text.now c.loop-line.rest.now c.cut_line.result.0.now c.cut_line.result.1.now (search rules)
      c.loop-line.invariant.parted c.cut_line.ensures.cut
      (λ same. let yes = (bytes_eq-Decides c.cut_line.result.0.now c.as_slice.result.now).1 (same ∙ sym c.as_slice.ensures) in absurd (cc));
}

pub returns : goal.returns
returns c =
    let empty : length c.loop-line.rest.now ≡ 0 = search rules in
    parted_end c.args.text.now c.loop-line.rest.now (nil_from_length c.loop-line.rest.now empty)
    c.loop-line.invariant.parted
